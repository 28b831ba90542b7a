use Rattle.std.proofs.Common.{arith, ◌-◌}
use Rattle.constants.proofs.Writing.{check_start, check_turn, check_end}
use Rattle.constants.proofs.Expression.check.Goals as goal

pub loop-i-init : goal.loop-i-init
loop-i-init c = check_start _ _ _ _ _

pub loop-i-preserved : goal.loop-i-preserved
loop-i-preserved c = check_turn _ _ _ _ _ _ _ _ c.read-row.result c.wanted.result _ _ (c.loop-i.i - 1) _ (omega arith) c.loop-i.invariant c.read-row.ensures c.wanted.ensures c.fault_of.ensures c.or-fault.ensures c.under-left.ensures

pub returns : goal.returns
returns c = check_end c.args.self.now.source.now c.args.self.now.table.now c.args.self.now.first c.args.self.now.count c.args.self.now.ty c.loop-i.fault c.loop-i.left c.loop-i.i (omega arith) c.loop-i.invariant
