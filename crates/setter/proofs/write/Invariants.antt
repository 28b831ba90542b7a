use mathlib.Core.Path.{◌≡◌}
use Prim.Native.Nat.{◌*◌, ◌≤◌}
use lib.ListN.{length}
use Rattle.setter.specs.Waiting.{load}
use Rattle.setter.proofs.Turns.{Writing}
use Rattle.setter.proofs.write.Given as goal

abbrev pub invariant-loop-top : goal.invariant-loop-top
invariant-loop-top l = Writing l.s l.rows l.count l.initial.plan l.initial.text l.plan l.text l.sink l.top × (l.count * 4 ≤ length l.initial.plan) × (length l.text ≡ length l.initial.text)

abbrev pub decreases-loop-top : goal.decreases-loop-top
decreases-loop-top l = load l.rows l.plan l.top
