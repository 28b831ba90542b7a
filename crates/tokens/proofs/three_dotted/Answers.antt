use mathlib.Core.Path.{◌∙◌}
use Rattle.tokens.proofs.Fits.{so, goes_on_lem, ends}
use Rattle.tokens.specs.Rules.{three_at}
use Rattle.tokens.proofs.three_dotted.Goals as goal

pub returns-in_err-a : goal.returns-in_err-a
unfolding three_at
returns-in_err-a c = c.from_residual.ensures ∙ ends _ (so c.dotted.ensures c.in_err-a.was)

pub returns-in_err-b : goal.returns-in_err-b
unfolding three_at
returns-in_err-b c = c.from_residual-in_err-b.ensures ∙ goes_on_lem _ (so c.dotted.ensures c.in_ok-a.was) (ends _ (so c.dotted-2.ensures c.in_err-b.was))

pub returns : goal.returns
unfolding three_at
returns c = goes_on_lem _ (so c.dotted.ensures c.in_ok-a.was) (goes_on_lem _ (so c.dotted-2.ensures c.in_ok-b.was) c.dotted-3.ensures)
