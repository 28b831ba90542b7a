use Rattle.constants.proofs.Writing.{Check}
use Rattle.constants.proofs.Expression.check.Given as goal

abbrev pub invariant-loop-i : goal.invariant-loop-i
invariant-loop-i l = Check l.self.source.now l.self.table.now l.self.first l.self.count l.self.ty l.fault l.left l.i
