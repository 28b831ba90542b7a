use Rattle.std.specs.Prelude.{Some}
use mathlib.Core.Path.{ap, ◌∙◌}
use Rattle.tokens.proofs.Fits.{so, goes_on_lem, ends}
use Rattle.tokens.specs.Rules.{ipv4_at}
use Rattle.tokens.proofs.ipv4.Goals as goal

pub returns-in_err-a : goal.returns-in_err-a
unfolding ipv4_at
returns-in_err-a c = c.from_residual.ensures ∙ ends _ (so c.period.ensures c.in_err-a.was)

pub returns-in_err-b : goal.returns-in_err-b
unfolding ipv4_at
returns-in_err-b c = c.from_residual-in_err-b.ensures ∙ goes_on_lem _ (so c.period.ensures c.in_ok-a.was) (ends _ (so c.period-2.ensures c.in_err-b.was))

pub returns-in_err-c : goal.returns-in_err-c
unfolding ipv4_at
returns-in_err-c c = c.from_residual-in_err-c.ensures ∙ goes_on_lem _ (so c.period.ensures c.in_ok-a.was) (goes_on_lem _ (so c.period-2.ensures c.in_ok-b.was) (ends _ (so c.period-3.ensures c.in_err-c.was)))

pub returns : goal.returns
unfolding ipv4_at
returns c = goes_on_lem _ (so c.period.ensures c.in_ok-a.was) (goes_on_lem _ (so c.period-2.ensures c.in_ok-b.was) (goes_on_lem _ (so c.period-3.ensures c.in_ok-c.was) (ap (λ e. Some (e, 2)) c.past.ensures)))
