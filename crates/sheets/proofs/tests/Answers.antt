use mathlib.Core.Path.{subst, sym}
use Prim.Native.Nat.{ℕ, ◌+◌, ◌≤◌}
use native.Mathlib.Omega.{arith}
use Rattle.sheets.proofs.Firsts.{Counts, none_counted, one_test, no_test, all_counted}
use Rattle.sheets.proofs.tests.Goals.{then-table-row-eq-TEST, else-table-row-eq-TEST}
use Rattle.sheets.proofs.tests.Goals as goal

pub loop-row-init : goal.loop-row-init
loop-row-init c = (omega arith, none_counted c.args.table.now c.args.rows)

pub loop-row-preserved : goal.loop-row-preserved
loop-row-preserved c = elim c.if-table-row-eq-TEST.branch [
  | then-table-row-eq-TEST w ↦ subst (λ (n : ℕ). (n ≤ c.loop-row.row + 1) × Counts c.args.table.now c.args.rows (c.loop-row.row + 1) n) (sym w.count-is) (omega arith, one_test c.args.table.now c.args.rows c.loop-row.row c.loop-row.count (omega arith) c.loop-row.invariant.1 w.if-table-row-eq-TEST.true)
  | else-table-row-eq-TEST w ↦ subst (λ (n : ℕ). (n ≤ c.loop-row.row + 1) × Counts c.args.table.now c.args.rows (c.loop-row.row + 1) n) (sym w.count-is) (omega arith, no_test c.args.table.now c.args.rows c.loop-row.row c.loop-row.count (omega arith) c.loop-row.invariant.1 w.if-table-row-eq-TEST.false)
]

pub returns : goal.returns
returns c = all_counted c.args.table.now c.args.rows c.loop-row.row c.loop-row.count (omega arith) (omega arith) c.loop-row.invariant.1
