use mathlib.Core.Path.{refl}
use mathlib.Core.Logic.{inl, inr}
use Prim.Native.Nat.{zero-le}
use Rattle.setter.proofs.Said.{next_row}
use Rattle.setter.specs.Steps.{tests_at}
use Rattle.setter.proofs.entries.tests.Goals as goal
use Rattle.setter.proofs.entries.tests.Goals.{then-table-i-eq-TEST, else-table-i-eq-TEST}

pub loop-i-init : goal.loop-i-init
unfolding tests_at
loop-i-init c = (refl, zero-le)

pub loop-i-preserved : goal.loop-i-preserved
loop-i-preserved c =
    next_row c.args.table.now c.loop-i.i c.loop-i.count c.if-table-i-eq-TEST.count _ (c.loop-i.invariant.0, c.loop-i.invariant.1) refl (elim c.if-table-i-eq-TEST.branch [
      | then-table-i-eq-TEST w ↦ inl (w.if-table-i-eq-TEST.true, w.count-is)
      | else-table-i-eq-TEST w ↦ inr (w.if-table-i-eq-TEST.false, w.count-is)
    ])
