use mathlib.Core.List.{List}
use Prim.Native.Nat.{ℕ}
use Rattle.sheets.specs.Steps.{indexes_in}
use Rattle.sheets.specs.Walks.{Tabled}
use Rattle.sheets.proofs.Firsts.{Reached, Firsts}
use Rattle.sheets.proofs.misnamed.Given as goal

abbrev pub invariant-loop-i : goal.invariant-loop-i
invariant-loop-i l =
    (goal.iterator-loop-i).can_next l.i-iterator
    × (goal.iterator-loop-i).is_finite l.i-iterator
    × (d : Tabled l.table l.rows)
    × (rest : List ℕ)
    × Reached d l.i-iterator.table.now l.i-iterator.row l.i-iterator.left rest
    × Firsts (indexes_in l.indexes) rest l.i-iterator.left l.first
