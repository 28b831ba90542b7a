use Rattle.std.proofs.Common.{◌∙◌}
use lib.Dec.{lit<}
use Rattle.numbers.specs.declared.Base.{Base}
use Rattle.numbers.specs.Digits.{number_of}
use Rattle.numbers.specs.Numbers.{as_of}
use Rattle.numbers.proofs.Numbers.{behind, not_begun}
use Rattle.numbers.proofs.as_number.Goals as goal

pub returns-in_err-strip_prefix : goal.returns-in_err-strip_prefix
unfolding as_of
returns-in_err-strip_prefix c = c.from_residual.ensures ∙ not_begun c.args.t.now 65 83 (lit< tt, lit< tt) _ c.in_err-strip_prefix.ensures.cases

pub returns : goal.returns
unfolding as_of
returns c = c.number_of.ensures ∙ behind c.args.t.now 65 83 (lit< tt, lit< tt) (number_of Base.Ten 4294967295) c.in_ok-strip_prefix.ensures.cases.0 c.in_ok-strip_prefix.ensures.cases.1
