use mathlib.Core.Path.{◌≡◌}
use Prim.Native.Nat.{◌≤◌}
use Rattle.setter.specs.Steps.{tests_at}
use Rattle.setter.proofs.entries.tests.Given as goal

abbrev pub invariant-loop-i : goal.invariant-loop-i
invariant-loop-i l = (l.count ≡ tests_at l.table l.i) × (l.count ≤ l.i)
