use mathlib.Core.Path.{ap}
use mathlib.Core.Bool.{not}
use native.Mathlib.Omega.{arith}
use lib.ListN.{length-set}
use Rattle.rows.proofs.Compares.{noted_differs, noted_same, put_compares, put_writes, put_full}
use Rattle.rows.proofs.put.Goals as goal

pub returns-then-not-same : goal.returns-then-not-same
returns-then-not-same c = put_compares _ _ _ _ c.if-table-eq1.true (noted_differs _ _ _ _ c.same_at-same.ensures (ap not c.if-not-same.true) c.note.ensures)

pub returns-else-not-same : goal.returns-else-not-same
returns-else-not-same c = put_compares _ _ _ _ c.if-table-eq1.true (noted_same _ _ _ _ c.same_at-same.ensures (ap not c.if-not-same.false))

pub bounds-table-i-then-n-table : goal.bounds-table-i-then-n-table
bounds-table-i-then-n-table c = simp length-set (omega arith)

pub bounds-table-i-then-n-table-2 : goal.bounds-table-i-then-n-table-2
bounds-table-i-then-n-table-2 c = simp length-set (omega arith)

pub bounds-table-i-then-n-table-3 : goal.bounds-table-i-then-n-table-3
bounds-table-i-then-n-table-3 c = simp length-set (omega arith)

pub bounds-table-i-then-n-table-4 : goal.bounds-table-i-then-n-table-4
bounds-table-i-then-n-table-4 c = simp length-set (omega arith)

pub bounds-table-i-then-n-table-5 : goal.bounds-table-i-then-n-table-5
bounds-table-i-then-n-table-5 c = simp length-set (omega arith)

pub bounds-table-i-then-n-table-6 : goal.bounds-table-i-then-n-table-6
bounds-table-i-then-n-table-6 c = simp length-set (omega arith)

pub returns-then-n-table : goal.returns-then-n-table
returns-then-n-table c = put_writes _ _ _ _ c.if-table-eq1.false c.if-n-table.true

pub returns-else-n-table : goal.returns-else-n-table
returns-else-n-table c = put_full _ _ _ _ c.if-table-eq1.false c.if-n-table.false
