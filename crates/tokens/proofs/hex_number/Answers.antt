use mathlib.Core.Path.{refl}
use mathlib.Core.Path.{refl}
use mathlib.Core.Path.{refl}
use mathlib.Core.Path.{refl}
use native.Mathlib.Omega.{arith}
use Rattle.tokens.proofs.Fits.{so, fits, fails}
use Rattle.tokens.proofs.Pairs.{pair_inside}
use Rattle.tokens.specs.Rules.{hex_at}
use Rattle.tokens.proofs.hex_number.Goals as goal

pub overflow_add-at : goal.overflow_add-at
overflow_add-at c = omega (arith, pair_inside c.args.s.now c.args.at 48 120 (so c.pair_at.ensures c.if-pair_at.true) (omega arith))

pub returns-then-pair_at : goal.returns-then-pair_at
unfolding hex_at
returns-then-pair_at c = fits (so c.pair_at.ensures c.if-pair_at.true) c.past.ensures refl

pub returns-else-pair_at : goal.returns-else-pair_at
unfolding hex_at
returns-else-pair_at c = fails _ _ (so c.pair_at.ensures c.if-pair_at.false)
