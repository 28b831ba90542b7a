use Rattle.std.proofs.Common.{◌∙◌}
use Rattle.strings.proofs.Quotes.{unquoted, string_is}
use Rattle.strings.proofs.string.Goals as goal

pub returns-in_err-inside : goal.returns-in_err-inside
returns-in_err-inside c = c.from_residual.ensures ∙ unquoted c.args.t.now c.in_err-inside.ensures

pub returns : goal.returns
returns c = string_is c.args.t.now c.in_ok-inside.ensures.0 c.in_ok-inside.ensures.1 c.measure.ensures
