use mathlib.Core.Path.{ap, ◌∙◌}
use Rattle.chars.specs.Chars.{is_digit}
use mathlib.Core.Path.{ap, ◌∙◌}
use Rattle.chars.specs.Chars.{is_digit}
use mathlib.Core.Path.{ap, ◌∙◌}
use Rattle.chars.specs.Chars.{is_digit}
use mathlib.Core.Path.{ap, ◌∙◌}
use native.Mathlib.Omega.{arith}
use Rattle.chars.specs.Chars.{is_digit}
use Rattle.tokens.proofs.Fits.{so}
use Rattle.tokens.proofs.Rules.{number_float, number_integer, number_none, fraction_in}
use Rattle.tokens.proofs.number.Goals as goal

pub overflow_add-whole : goal.overflow_add-whole
overflow_add-whole c = omega (arith, fraction_in c.args.s.now c.past-whole.result (so c.fraction_at.ensures c.if-fraction_at.true))

pub returns-then-fraction_at : goal.returns-then-fraction_at
returns-then-fraction_at c = number_float _ _ (so (c.is_digit.ensures ∙ ap is_digit c.byte_at.ensures) c.if-is_digit.true) c.past-whole.ensures (so c.fraction_at.ensures c.if-fraction_at.true) c.past-end.ensures c.past.ensures

pub returns-then-is_digit : goal.returns-then-is_digit
returns-then-is_digit c = number_integer _ _ (so (c.is_digit.ensures ∙ ap is_digit c.byte_at.ensures) c.if-is_digit.true) c.past-whole.ensures (so c.fraction_at.ensures c.if-fraction_at.false) c.past-then-is_digit.ensures

pub returns : goal.returns
returns c = number_none _ _ (so (c.is_digit.ensures ∙ ap is_digit c.byte_at.ensures) c.if-is_digit.false)
