use Prim.Native.Nat.{◌*◌}
use lib.ListN.{length-set}
use native.Mathlib.Omega.{arith}
use Rattle.setter.proofs.push.Goals as goal

pub bounds-plan-top-2 : goal.bounds-plan-top-2
bounds-plan-top-2 c = let l = length-set c.args.plan.now (c.args.top * 2) c.args.row in let p = c.requires in omega (arith, l, p)
