use native.Mathlib.Nat.{mod-lt}
use native.Mathlib.Omega.{arith}
use lib.Dec.{lit≤}
use Rattle.floats.proofs.Divide.{scaled_whole, some_digit, scaled_part}
use borrow.Author.Rules.{rules}
use Rattle.floats.proofs.scaled.Goals as goal

-- `floats::scaled` meets its contract: the whole part with its leading digit at the top, or where it is 0 the 64 digits behind the point.

pub normal-requires : goal.normal-requires
normal-requires c = (mod-lt _ c.requires.1, c.if-whole-gt0.true)

pub returns-then-whole-gt0 : goal.returns-then-whole-gt0
returns-then-whole-gt0 c = (scaled_whole _ _ _ _ _ c.normal.ensures.0, omega (arith, c.normal.ensures.1))

pub extend-s-requires : goal.extend-s-requires
extend-s-requires c = (mod-lt _ c.requires.1, lit≤ tt)

pub normal-m-requires : goal.normal-m-requires
normal-m-requires c = (
  c.extend-s.ensures.small,
  some_digit _ _ _ _ (omega (arith, c.if-whole-gt0.false)) c.extend-s.ensures c.requires.0 c.ranges.d.fits,
)

pub returns : goal.returns
returns c = (
  scaled_part _ _ _ _ (omega (arith, c.if-whole-gt0.false)) c.extend-s.ensures _ _ _ c.normal-m.ensures.0,
  omega (arith, c.normal-m.ensures.1),
)
