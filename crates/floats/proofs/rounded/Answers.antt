use native.Mathlib.Omega.{arith}
use Rattle.floats.proofs.Rounding.{unit_some, unit_fits, down, above, past, even}
use borrow.Author.Rules.{rules}
use Rattle.floats.proofs.rounded.Goals as goal

-- `floats::rounded` meets its contract: each of its answers is the law of how the lower digits and the rest compare with half a unit.

pub nonzero_div-m : goal.nonzero_div-m
nonzero_div-m c = unit_some c.args.w _ c.unit-u.ensures

pub nonzero_rem-part : goal.nonzero_rem-part
nonzero_rem-part c = unit_some c.args.w _ c.unit-u.ensures

pub returns-then-part-half : goal.returns-then-part-half
returns-then-part-half c = down c.args.w _ _ _ c.unit-u.ensures c.if-part-half.true

pub overflow_add-result : goal.overflow_add-result
overflow_add-result c = omega (arith, unit_fits c.args.w _ c.unit-u.ensures _ c.ranges.q.fits)

pub returns-then-half-part : goal.returns-then-half-part
returns-then-half-part c = above c.args.w _ _ _ c.unit-u.ensures c.if-half-part.true

pub overflow_add-result-then-r-gt0 : goal.overflow_add-result-then-r-gt0
overflow_add-result-then-r-gt0 c = omega (arith, unit_fits c.args.w _ c.unit-u.ensures _ c.ranges.q.fits)

pub returns-then-r-gt0 : goal.returns-then-r-gt0
returns-then-r-gt0 c = past c.args.w _ _ _ c.unit-u.ensures (omega (arith, c.if-part-half.false, c.if-half-part.false)) (omega (arith, c.if-r-gt0.true))

pub overflow_add-result-2 : goal.overflow_add-result-2
overflow_add-result-2 c = omega (arith, unit_fits c.args.w _ c.unit-u.ensures _ c.ranges.q.fits)

pub returns : goal.returns
returns c = even c.args.w _ _ _ c.unit-u.ensures (omega (arith, c.if-part-half.false, c.if-half-part.false)) (omega (arith, c.if-r-gt0.false))
