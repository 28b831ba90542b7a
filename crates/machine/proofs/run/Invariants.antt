use Rattle.machine.proofs.Running.{Loop}
use Rattle.machine.proofs.run.Given as goal

abbrev pub invariant-loop-i : goal.invariant-loop-i
invariant-loop-i l = Loop l.list l.n l.i l.stack
