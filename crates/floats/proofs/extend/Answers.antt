use mathlib.Core.Path.{refl}
use Prim.Native.Nat.{◌+◌, ◌-◌, ◌*◌}
use native.Mathlib.Omega.{arith}
use Rattle.floats.proofs.Divide.{Held, held_first, held_one, held_none, held_fits, held_last, held_same}
use Rattle.floats.proofs.extend.Goals as goal
use Rattle.floats.proofs.extend.Goals.{then-gap-rest, else-gap-rest}

-- `floats::extend` meets its contract. What is divided so far is the quotient times d and the rest; the digits that are still to come have room.

pub loop-init : goal.loop-init
loop-init c = held_first _ _ _ _ _ refl c.requires.0 c.requires.1

pub overflow_sub-gap : goal.overflow_sub-gap
overflow_sub-gap c = omega arith

pub overflow_mul-quotient : goal.overflow_mul-quotient
overflow_mul-quotient c = omega (arith, held_fits _ _ _ _ _ _ c.loop.invariant c.loop-test.true)

pub overflow_add-quotient : goal.overflow_add-quotient
overflow_add-quotient c = omega (arith, held_fits _ _ _ _ _ _ c.loop.invariant c.loop-test.true)

pub overflow_mul-quotient-else-gap-rest : goal.overflow_mul-quotient-else-gap-rest
overflow_mul-quotient-else-gap-rest c = omega (arith, held_fits _ _ _ _ _ _ c.loop.invariant c.loop-test.true)

pub overflow_add-rest : goal.overflow_add-rest
overflow_add-rest c = omega arith

pub loop-preserved : goal.loop-preserved
loop-preserved c =
    elim c.if-gap-rest.branch [
      | then-gap-rest w ↦ held_same _ _ _ _ _ _ w.quotient-is w.rest-is (held_one _ _ _ _ _ _ c.loop.invariant c.loop-test.true w.if-gap-rest.true)
      | else-gap-rest w ↦ held_same _ _ _ _ _ _ w.quotient-is w.rest-is (held_none _ _ _ _ _ _ c.loop.invariant c.loop-test.true (omega (arith, w.if-gap-rest.false)))
    ]

pub returns : goal.returns
returns c = held_last _ _ _ _ _ _ c.loop.invariant (omega (arith, c.loop-test.false))
