use mathlib.Core.Path.{◌≡◌}
use lib.ListN.{length, take}
use lib.Seq.{sets}
use Rattle.sheets.specs.Files.{words}
use Rattle.sheets.proofs.put_rows.Given as goal

abbrev pub invariant-loop-i : goal.invariant-loop-i
invariant-loop-i l = (l.file ≡ sets l.initial.file l.at (words 8 (take l.i l.numbers))) × (length l.file ≡ length l.initial.file)
