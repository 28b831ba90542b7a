use native.Mathlib.Omega.{arith}
use Rattle.tokens.proofs.Fits.{so}
use Rattle.tokens.proofs.Rules.{dotted_fits, dotted_fails, fraction_in}
use Rattle.tokens.proofs.dotted.Goals as goal

pub overflow_add-at : goal.overflow_add-at
overflow_add-at c = omega (arith, fraction_in c.args.s.now c.args.at (so c.fraction_at.ensures c.if-fraction_at.true))

pub returns-then-fraction_at : goal.returns-then-fraction_at
returns-then-fraction_at c = dotted_fits _ _ (so c.fraction_at.ensures c.if-fraction_at.true) c.past.ensures

pub returns : goal.returns
returns c = dotted_fails _ _ (so c.fraction_at.ensures c.if-fraction_at.false)
