use Rattle.places.specs.Meant.{meant}
use Rattle.setter.proofs.Turns.{Placing}
use Rattle.setter.proofs.place_children.Given as goal

abbrev pub invariant-loop-left : goal.invariant-loop-left
invariant-loop-left l = Placing l.rows l.initial.plan l.top l.row l.children (meant l.place) l.plan l.phase l.left
