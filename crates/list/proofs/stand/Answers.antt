use borrow.Author.Tests.{lt-ltb, le-ltb}
use Rattle.list.specs.States.{onward, standing}
use Rattle.list.proofs.stand.Goals as goal

pub returns-then-place-room : goal.returns-then-place-room
unfolding standing onward
returns-then-place-room c = rw (lt-ltb _ _ c.if-place-room.true)

pub returns : goal.returns
unfolding standing
returns c = rw (le-ltb _ _ c.if-place-room.false, ← c.step-step.ensures.0) c.end.ensures
