use mathlib.Core.Path.{ap, ◌∙◌}
use Rattle.chars.specs.Chars.{is_digit}
use Rattle.chars.proofs.Runs.{inside}
use mathlib.Core.Path.{ap, ◌∙◌}
use Rattle.chars.specs.Chars.{is_digit}
use Rattle.chars.proofs.Runs.{inside}
use mathlib.Core.Path.{ap, ◌∙◌}
use Rattle.chars.specs.Chars.{is_digit}
use Rattle.chars.proofs.Runs.{inside}
use mathlib.Core.Path.{ap, ◌∙◌}
use native.Mathlib.Omega.{arith}
use Rattle.chars.specs.Chars.{is_digit}
use Rattle.chars.proofs.Runs.{inside}
use Rattle.tokens.proofs.Rules.{fraction_on, fraction_off}
use Rattle.tokens.proofs.fraction_at.Goals as goal

pub overflow_add-at : goal.overflow_add-at
overflow_add-at c = omega (arith, inside c.args.s.now c.args.at c.byte_at.ensures c.if-byte_at-eq-PERIOD.true (omega arith))

pub returns-then-byte_at-eq-PERIOD : goal.returns-then-byte_at-eq-PERIOD
returns-then-byte_at-eq-PERIOD c = fraction_on _ _ c.byte_at.ensures c.if-byte_at-eq-PERIOD.true (c.is_digit.ensures ∙ ap is_digit c.byte_at-then-byte_at-eq-PERIOD.ensures)

pub returns-else-byte_at-eq-PERIOD : goal.returns-else-byte_at-eq-PERIOD
returns-else-byte_at-eq-PERIOD c = fraction_off _ _ c.byte_at.ensures c.if-byte_at-eq-PERIOD.false
