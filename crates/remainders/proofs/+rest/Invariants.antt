use Prim.Native.Nat.{◌-◌, ◌^◌}
use lib.Ieee.{binary64}
use Rattle.remainders.proofs.Left.{units}
use Rattle.remainders.proofs.+rest.Given as goal

abbrev pub decreases-rest : goal.decreases-rest
decreases-rest l = 2 ^ 2098 - units binary64 l.y
