use mathlib.Core.Path.{sym, ◌∙◌}
use Rattle.tokens.proofs.Steps.{taken_good}
use Rattle.list.specs.States.{read_by}
use Rattle.list.proofs.read.Goals as goal

pub returns-in_default : goal.returns-in_default
unfolding read_by
returns-in_default c = rw (← c.step-step.ensures.0, c.zero.ensures, c.end.ensures, c.in_default.is)

pub returns : goal.returns
unfolding read_by
returns c =
    let step = c.step-step.ensures.0 in
    let token = c.in-Ok.is in
    rw (← step, token, c.code_of.ensures, c.later.ensures (taken_good _ _ (sym step ∙ token)).1, c.stand.ensures)
