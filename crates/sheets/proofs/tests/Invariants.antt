use Prim.Native.Nat.{◌≤◌}
use Rattle.sheets.proofs.Firsts.{Counts}
use Rattle.sheets.proofs.tests.Given as goal

abbrev pub invariant-loop-row : goal.invariant-loop-row
invariant-loop-row l = (l.count ≤ l.row) × Counts l.table l.rows l.row l.count
