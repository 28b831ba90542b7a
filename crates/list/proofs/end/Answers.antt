use borrow.Author.Tests.{eq-eqb, ne_eqb}
use Rattle.list.specs.States.{complete, ended}
use Rattle.list.proofs.end.Goals as goal

pub returns-in_default : goal.returns-in_default
unfolding ended
returns-in_default c = rw c.in_default.is c.refuse.ensures

pub returns-then-r-ne-ENDS_EARLY : goal.returns-then-r-ne-ENDS_EARLY
unfolding ended
returns-then-r-ne-ENDS_EARLY c = rw (c.in-Err.is, ne_eqb _ _ c.if-r-ne-ENDS_EARLY.true) c.refuse-then-r-ne-ENDS_EARLY.ensures

pub returns : goal.returns
unfolding ended complete
returns c = rw (c.in-Err.is, eq-eqb _ _ c.if-r-ne-ENDS_EARLY.false)
