use mathlib.Core.Path.{◌≡◌}
use Rattle.salvage.specs.Salvage.{next_line}
use Rattle.salvage.proofs.next_line.Given as goal

abbrev pub invariant-loop-i : goal.invariant-loop-i
invariant-loop-i l = next_line l.s l.i ≡ next_line l.s l.from
