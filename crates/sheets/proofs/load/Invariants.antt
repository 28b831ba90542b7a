use mathlib.Core.Path.{◌≡◌}
use mathlib.Core.List.{◌++◌}
use lib.ListN.{length, drop}
use Rattle.sheets.specs.Places.{numbers_at}
use Rattle.sheets.proofs.load.Given as goal

abbrev pub invariant-loop-i : goal.invariant-loop-i
invariant-loop-i l = (l.table ≡ numbers_at 8 l.numbers 0 l.i ++ drop l.i l.initial.table) × (length l.table ≡ length l.initial.table)
