use mathlib.Core.Path.{refl, ap}
use native.Mathlib.Omega.{arith}
use Prim.Native.Nat.{◌+◌}
use lib.Dec.{eqb}
use Rattle.numbers.proofs.Choices as choices
use Rattle.texts.specs.Signs.{open_brace, close_brace}
use Rattle.texts.specs.Halves.{with_code}
use borrow.Author.Rules.{rules}
use Rattle.texts.proofs.with_code.Goals as goal

pub returns-then-h-code : goal.returns-then-h-code
unfolding with_code
returns-then-h-code c = rw c.if-h-code.true refl

pub returns-then-h-code-2 : goal.returns-then-h-code-2
unfolding with_code
returns-then-h-code-2 c = rw (c.if-h-code.false, c.if-h-code-2.true) refl

pub overflow_add-result : goal.overflow_add-result
overflow_add-result c = omega (arith, c.width.ensures)

pub returns : goal.returns
unfolding with_code
returns c = rw (c.if-h-code.false, c.if-h-code-2.false) (ap (λ n. record { size = c.args.h.size + n; opened = eqb c.args.code open_brace; closed = eqb c.args.code close_brace }) c.width.ensures)
