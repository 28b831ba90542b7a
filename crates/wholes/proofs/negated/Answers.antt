use Rattle.wholes.proofs.Laws.{subtracted}
use Rattle.wholes.proofs.Signs.{from_zero}
use Rattle.wholes.specs.Wholes.{span, lowest}
use Rattle.std.proofs.Common.{ℤ, ap, ◌∙◌}
use Rattle.wholes.proofs.negated.Goals as goal

pub returns : goal.returns
returns c = c.reduced.ensures ∙ subtracted c.args.t 0 c.args.a _ c.wrapping_neg.ensures ∙ ap (λ (z : ℤ). lowest (span c.args.t) z) (from_zero c.args.t c.args.a)
