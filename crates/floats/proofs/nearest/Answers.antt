use mathlib.Core.Path.{sym, ap, ◌∙◌}
use Prim.Native.Nat.{ℕ}
use Rattle.floats.specs.Bits.{bits_of}
use Rattle.floats.specs.Nearest.{format_of}
use Rattle.floats.proofs.Answers.{bits_zero, left_room, product_fits, sum_fits, sum_is}
use borrow.Author.Rules.{rules}
use Rattle.floats.proofs.nearest.Goals as goal

-- `floats::nearest` meets its contract: 0 is 0, and any other number has a quotient of 64 digits, whose answer is the law of both widths.

pub returns-then-n-eq0 : goal.returns-then-n-eq0
returns-then-n-eq0 c = bits_zero c.args.w _ c.requires ∙ ap (λ (n : ℕ). bits_of (format_of c.args.w) n c.args.d) (sym c.if-n-eq0.true)

pub overflow_sub-result : goal.overflow_sub-result
overflow_sub-result c = left_room c.args.w _ _ c.scaled-s.ensures.1 c.last.ensures

pub overflow_mul-result : goal.overflow_mul-result
overflow_mul-result c = record { fits = product_fits c.args.w _ _ _ _ _ _ _ _ c.scaled-s.ensures.0 c.scaled-s.ensures.1 c.requires c.ranges.n.fits c.last.ensures c.lead.ensures c.rounded-m.ensures }

pub overflow_add-result : goal.overflow_add-result
overflow_add-result c = record { fits = sum_fits c.args.w _ _ _ _ _ _ _ _ c.scaled-s.ensures.0 c.scaled-s.ensures.1 c.requires c.ranges.n.fits c.last.ensures c.lead.ensures c.rounded-m.ensures }

pub returns : goal.returns
returns c = sum_is c.args.w _ _ _ _ _ _ _ _ c.scaled-s.ensures.0 c.scaled-s.ensures.1 c.requires c.ranges.n.fits c.last.ensures c.lead.ensures c.rounded-m.ensures
