use Rattle.setter.proofs.Turns.{Pushing}
use Rattle.setter.proofs.push_children.Given as goal

abbrev pub invariant-loop-i : goal.invariant-loop-i
invariant-loop-i l = Pushing l.rows l.initial.plan l.top l.row l.children l.plan l.i l.child
