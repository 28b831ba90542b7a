use Rattle.constants.proofs.Writing.{Back}
use Rattle.constants.proofs.Expression.translate.Given as goal

abbrev pub invariant-loop-i : goal.invariant-loop-i
invariant-loop-i l = Back l.self.source.now l.self.table.now l.self.first l.self.count l.self.ty l.initial.list l.list l.left l.i
