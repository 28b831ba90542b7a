use mathlib.Core.Path.{◌≡◌}
use Prim.Native.Nat.{◌-◌, ◌≤◌}
use lib.ListN.{length, drop}
use Rattle.strings.specs.Strings.{measure_of}
use Rattle.strings.proofs.Strings.{plus}
use Rattle.strings.proofs.measure.Given as goal

abbrev pub invariant-loop-i : goal.invariant-loop-i
invariant-loop-i l = (plus l.n (measure_of (drop l.i l.t)) ≡ measure_of l.t) × (l.n ≤ l.i) × (l.i ≤ length l.t)

abbrev pub decreases-loop-i : goal.decreases-loop-i
decreases-loop-i l = length l.t - l.i
