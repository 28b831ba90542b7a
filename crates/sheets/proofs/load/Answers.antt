use mathlib.Core.Path.{refl}
use native.Mathlib.Omega.{arith}
use lib.ListN.{length-set}
use Rattle.sheets.proofs.Loads.{none_loaded, one_loaded, all_loaded}
use Rattle.sheets.proofs.load.Goals as goal

pub loop-i-init : goal.loop-i-init
loop-i-init c = (none_loaded 8 _ _, refl)

pub loop-i-preserved : goal.loop-i-preserved
loop-i-preserved c = (one_loaded 8 _ _ _ _ _ c.loop-i.invariant.0 (omega arith) c.long_at.ensures, simp length-set c.loop-i.invariant.1)

pub returns : goal.returns
returns c = all_loaded 8 _ _ _ _ _ c.loop-i.invariant.0 (omega arith) (omega arith)
