use Rattle.std.proofs.Common.{arith, ◌-◌}
use Rattle.constants.proofs.Writing.{back_start, back_turn, back_end}
use Rattle.constants.proofs.Expression.translate.Goals as goal

pub loop-i-init : goal.loop-i-init
loop-i-init c = back_start _ _ _ _ _ _

pub loop-i-preserved : goal.loop-i-preserved
loop-i-preserved c = back_turn _ _ _ _ _ _ _ _ _ (c.loop-i.i - 1) (omega arith) c.requires c.loop-i.invariant c.read-row.result c.instruction_of.result c.wanted.result _ _ c.read-row.ensures c.wanted.ensures c.instruction_of.ensures c.under-left.ensures c.put.ensures

pub returns : goal.returns
returns c = back_end c.args.self.now.source.now c.args.self.now.table.now c.args.self.now.first c.args.self.now.count c.args.self.now.ty c.args.list.now c.loop-i.list c.loop-i.left c.loop-i.i (omega arith) c.loop-i.invariant
