use mathlib.Core.Path.{refl}
use mathlib.Core.Logic.{⊎_elim}
use Prim.Native.Nat.{◌+◌, ◌-◌, ◌*◌}
use native.Mathlib.Omega.{arith}
use Rattle.floats.proofs.Divide.{Held, held_first, held_one, held_none, held_fits, held_last, held_same}
use Rattle.floats.proofs.extend.Given as goal

abbrev pub invariant-loop : goal.invariant-loop
invariant-loop l = Held (l.q * l.d + l.r) l.d l.steps l.quotient l.rest l.counter
