use mathlib.Core.Path.{◌∙◌}
use native.Mathlib.Omega.{arith}
use Rattle.strings.proofs.Strings.{plus_zero, measured_none, measured_more, measured_end, turn_width, turn_inside, turn_some}
use Rattle.strings.proofs.measure.Goals as goal

pub loop-i-init : goal.loop-i-init
loop-i-init c = (plus_zero _, omega arith, omega arith)

pub slice_bounds-piece_of-count : goal.slice_bounds-piece_of-count
slice_bounds-piece_of-count c = omega arith

pub slice_bounds-piece_of-start : goal.slice_bounds-piece_of-start
slice_bounds-piece_of-start c = omega arith

pub returns-in_err-code : goal.returns-in_err-code
returns-in_err-code c = c.from_residual.ensures ∙ measured_none c.args.t.now c.loop-i.i c.loop-i.n c.loop-i-test.true c.piece_of.ensures c.in_err-code.was ∙ c.loop-i.invariant.0

pub overflow_add-n : goal.overflow_add-n
overflow_add-n c = omega (arith, turn_width c.args.t.now c.loop-i.i c.loop-i-test.true c.piece_of.ensures c.in_ok-code.was c.width-n.ensures, turn_inside c.args.t.now c.loop-i.i c.loop-i-test.true c.piece_of.ensures c.in_ok-code.was)

pub overflow_add-i : goal.overflow_add-i
overflow_add-i c = omega (arith, turn_inside c.args.t.now c.loop-i.i c.loop-i-test.true c.piece_of.ensures c.in_ok-code.was)

pub loop-i-smaller : goal.loop-i-smaller
loop-i-smaller c = omega (arith, turn_inside c.args.t.now c.loop-i.i c.loop-i-test.true c.piece_of.ensures c.in_ok-code.was, turn_some c.args.t.now c.loop-i.i c.loop-i-test.true c.piece_of.ensures c.in_ok-code.was)

pub loop-i-preserved : goal.loop-i-preserved
loop-i-preserved c = (measured_more c.args.t.now c.loop-i.i c.loop-i.n c.loop-i-test.true c.piece_of.ensures c.in_ok-code.was c.width-n.ensures ∙ c.loop-i.invariant.0, omega (arith, turn_width c.args.t.now c.loop-i.i c.loop-i-test.true c.piece_of.ensures c.in_ok-code.was c.width-n.ensures), turn_inside c.args.t.now c.loop-i.i c.loop-i-test.true c.piece_of.ensures c.in_ok-code.was)

pub returns : goal.returns
returns c = measured_end c.args.t.now c.loop-i.i c.loop-i.n c.loop-i-test.false ∙ c.loop-i.invariant.0
