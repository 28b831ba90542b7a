use mathlib.Core.Path.{refl}
use Rattle.sink.specs.Told.{fed}
use Rattle.sink.proofs.Feeds.{fed_more}
use native.Mathlib.Omega.{arith}
use Rattle.sink.proofs.put_all.Goals as goal

pub loop-b-init : goal.loop-b-init
unfolding fed
loop-b-init c = refl

pub loop-b-preserved : goal.loop-b-preserved
loop-b-preserved c = fed_more _ _ _ c.args.t.now c.loop-b.b-index (omega arith) c.loop-b.invariant c.put-to.ensures
