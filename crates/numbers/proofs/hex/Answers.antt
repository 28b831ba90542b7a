use Rattle.std.proofs.Common.{◌∙◌}
use lib.Dec.{lit<}
use Rattle.numbers.specs.declared.Base.{Base}
use Rattle.numbers.specs.Digits.{number_of}
use Rattle.numbers.specs.Numbers.{hex_of, unsuffixed}
use Rattle.numbers.proofs.Numbers.{behind, not_begun}
use Rattle.numbers.proofs.hex.Goals as goal

pub returns-in_err-strip_prefix : goal.returns-in_err-strip_prefix
unfolding hex_of
returns-in_err-strip_prefix c = c.from_residual.ensures ∙ not_begun c.args.t.now 48 120 (lit< tt, lit< tt) _ c.in_err-strip_prefix.ensures.cases

pub returns : goal.returns
unfolding hex_of
returns c = c.number_of.ensures ∙ behind c.args.t.now 48 120 (lit< tt, lit< tt) (number_of Base.Sixteen unsuffixed) c.in_ok-strip_prefix.ensures.cases.0 c.in_ok-strip_prefix.ensures.cases.1
