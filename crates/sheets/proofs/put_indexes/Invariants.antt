use mathlib.Core.Path.{◌≡◌}
use mathlib.Core.List.{List}
use Prim.Native.Nat.{ℕ, ◌+◌, ◌*◌, ◌≤◌}
use lib.ListN.{length}
use lib.Seq.{sets}
use Rattle.sheets.specs.Files.{words}
use Rattle.sheets.specs.Walks.{Tabled}
use Rattle.sheets.proofs.Firsts.{Reached}
use Rattle.sheets.proofs.put_indexes.Given as goal

abbrev pub invariant-loop-i : goal.invariant-loop-i
invariant-loop-i l =
    (goal.iterator-loop-i).can_next l.i-iterator
    × (goal.iterator-loop-i).is_finite l.i-iterator
    × (d : Tabled l.table l.rows)
    × (rest : List ℕ)
    × Reached d l.i-iterator.table.now l.i-iterator.row l.i-iterator.left rest
    × (l.file ≡ sets l.initial.file (l.at + l.i-iterator.left * 4) (words 4 rest))
    × (l.at + length d.ids * 4 ≤ length l.initial.file)
    × (length l.file ≡ length l.initial.file)
