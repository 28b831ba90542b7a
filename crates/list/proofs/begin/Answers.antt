use mathlib.Core.Path.{ap, ◌∙◌}
use Rattle.list.specs.States.{standing, begun_by, begun}
use Rattle.list.proofs.begin.Goals as goal

pub returns-in-Ok : goal.returns-in-Ok
unfolding begun begun_by
returns-in-Ok c = rw (← c.check_source.ensures.0, c.in-Ok.is) (c.stand.ensures ∙ ap (λ k. standing c.args.s.now c.args.room (record { at = k }) 0) c.new.ensures)

pub returns-in-Err : goal.returns-in-Err
unfolding begun begun_by
returns-in-Err c = rw (← c.check_source.ensures.0, c.in-Err.is) c.refuse.ensures
