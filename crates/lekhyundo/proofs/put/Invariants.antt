use Rattle.std.proofs.Common.{◌≡◌, drop}
use Rattle.std.proofs.lemmas.List.Edits.{sets}
use Rattle.lekhyundo.proofs.put.Given as goal

-- what is still to be put makes of the run what all numbers make of it as it was lent
abbrev pub invariant-loop-i : goal.invariant-loop-i
invariant-loop-i l = sets l.out l.i (drop l.i l.numbers) ≡ sets l.initial.out 0 l.numbers
