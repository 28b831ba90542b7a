use mathlib.Core.Path.{refl, ap, ◌∙◌}
use Rattle.chars.specs.Chars.{is_digit}
use mathlib.Core.Path.{refl, ap, ◌∙◌}
use Rattle.chars.specs.Chars.{is_digit}
use mathlib.Core.Path.{refl, ap, ◌∙◌}
use Rattle.chars.specs.Chars.{is_digit}
use Rattle.tokens.proofs.Fits.{so, both, not_first, fails_second, fits, fails}
use Rattle.tokens.specs.Rules.{as_at, pair_at}
use mathlib.Core.Path.{refl, ap, ◌∙◌}
use native.Mathlib.Omega.{arith}
use Rattle.chars.specs.Chars.{is_digit}
use Rattle.tokens.proofs.Fits.{so, both, not_first, fits, fails}
use Rattle.tokens.proofs.Pairs.{pair_inside}
use Rattle.tokens.specs.Rules.{as_at}
use Rattle.tokens.proofs.as_number.Goals as goal

pub overflow_add-at : goal.overflow_add-at
overflow_add-at c = omega (arith, pair_inside c.args.s.now c.args.at 65 83 (so c.pair_at.ensures c.if-pair_at.true) (omega arith))

pub overflow_add-at-then-is_digit : goal.overflow_add-at-then-is_digit
overflow_add-at-then-is_digit c = omega (arith, pair_inside c.args.s.now c.args.at 65 83 (so c.pair_at.ensures c.if-pair_at.true) (omega arith))

pub returns-then-is_digit : goal.returns-then-is_digit
unfolding as_at
returns-then-is_digit c = fits (both (so c.pair_at.ensures c.if-pair_at.true) (so (c.is_digit.ensures ∙ ap is_digit c.byte_at.ensures) c.if-is_digit.true)) c.past.ensures refl

pub returns-else-is_digit : goal.returns-else-is_digit
unfolding as_at
returns-else-is_digit c = fails_second (pair_at c.args.s.now c.args.at 65 83) _ _ (so (c.is_digit.ensures ∙ ap is_digit c.byte_at.ensures) c.if-is_digit.false)

pub returns-else-pair_at : goal.returns-else-pair_at
unfolding as_at
returns-else-pair_at c = fails _ _ (not_first _ (so c.pair_at.ensures c.if-pair_at.false))
