use mathlib.Core.Path.{ap, ◌∙◌}
use Rattle.chars.specs.Chars.{is_digit}
use Rattle.chars.proofs.Runs.{inside}
use mathlib.Core.Path.{ap, ◌∙◌}
use Rattle.chars.specs.Chars.{is_digit}
use Rattle.chars.proofs.Runs.{inside}
use mathlib.Core.Path.{ap, ◌∙◌}
use Rattle.chars.specs.Chars.{is_digit}
use Rattle.chars.proofs.Runs.{inside}
use mathlib.Core.Path.{ap, ◌∙◌}
use native.Mathlib.Omega.{arith}
use Rattle.chars.specs.Chars.{is_digit}
use Rattle.chars.proofs.Runs.{inside}
use Rattle.tokens.proofs.Fits.{so}
use Rattle.tokens.proofs.Rules.{period_fits, period_fails, period_none}
use Rattle.tokens.proofs.period.Goals as goal

pub overflow_add-result : goal.overflow_add-result
overflow_add-result c = omega (arith, inside c.args.s.now c.past-end.result c.byte_at-then-is_digit.ensures c.if-byte_at-eq-PERIOD.true (omega arith))

pub returns-then-byte_at-eq-PERIOD : goal.returns-then-byte_at-eq-PERIOD
returns-then-byte_at-eq-PERIOD c = period_fits _ _ c.past-end.ensures c.byte_at-then-is_digit.ensures (so (c.is_digit.ensures ∙ ap is_digit c.byte_at.ensures) c.if-is_digit.true) c.if-byte_at-eq-PERIOD.true

pub returns-else-byte_at-eq-PERIOD : goal.returns-else-byte_at-eq-PERIOD
returns-else-byte_at-eq-PERIOD c = period_fails _ _ c.past-end.ensures c.byte_at-then-is_digit.ensures c.if-byte_at-eq-PERIOD.false

pub returns-else-is_digit : goal.returns-else-is_digit
returns-else-is_digit c = period_none _ _ (so (c.is_digit.ensures ∙ ap is_digit c.byte_at.ensures) c.if-is_digit.false)
