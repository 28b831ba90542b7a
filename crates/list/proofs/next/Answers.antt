use Rattle.list.specs.States.{zero_next, next_of}
use Rattle.list.proofs.next.Goals as goal

pub returns-in-Some : goal.returns-in-Some
unfolding next_of
returns-in-Some c = rw c.in-Some.is c.read.ensures

pub returns : goal.returns
unfolding next_of zero_next
returns c = rw (c.in_default.is, c.zero.ensures)
