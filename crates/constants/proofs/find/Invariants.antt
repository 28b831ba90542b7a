use Rattle.constants.proofs.Writing.{Finding}
use Rattle.constants.proofs.find.Given as goal

abbrev pub invariant-loop-i : goal.invariant-loop-i
invariant-loop-i l = Finding l.table l.count l.number l.left l.i
