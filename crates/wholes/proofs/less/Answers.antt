use Rattle.std.proofs.Common.{refl}
use Rattle.wholes.proofs.Signs.{less_alike, same_sign}
use Rattle.wholes.proofs.less.Goals as goal

pub returns-then-below-negative : goal.returns-then-below-negative
returns-then-below-negative c = less_alike c.args.a c.args.b _ c.ranges.a.fits c.ranges.b.fits refl (same_sign _ _ c.negative-below.ensures c.negative.ensures c.if-below-negative.true)
