use mathlib.Core.Path.{refl}
use native.Mathlib.Omega.{arith}
use Rattle.strings.proofs.Strings.{left_none, left_point, left_room, left_more, left_end, room_at_first, turn_inside, turn_some}
use Rattle.strings.proofs.write.Goals as goal

pub loop-i-init : goal.loop-i-init
loop-i-init c = (refl, room_at_first c.args.t.now _ c.requires, refl, omega arith)

pub slice_bounds-piece_of-count : goal.slice_bounds-piece_of-count
slice_bounds-piece_of-count c = omega arith

pub slice_bounds-piece_of-start : goal.slice_bounds-piece_of-start
slice_bounds-piece_of-start c = omega arith

pub returns-in_default : goal.returns-in_default
returns-in_default c = absurd (left_none c.args.t.now c.args.out.now c.loop-i.out c.loop-i.i c.loop-i.at c.loop-i-test.true c.piece_of.ensures c.loop-i.invariant c.in_default.is)

pub emit-requires : goal.emit-requires
emit-requires c = (left_point c.args.t.now c.args.out.now c.loop-i.out c.loop-i.i c.loop-i.at c.loop-i-test.true c.piece_of.ensures c.loop-i.invariant c.in-Some.is, left_room c.args.t.now c.args.out.now c.loop-i.out c.loop-i.i c.loop-i.at c.loop-i-test.true c.piece_of.ensures c.loop-i.invariant c.in-Some.is refl)

pub overflow_add-at : goal.overflow_add-at
overflow_add-at c = omega (arith, left_room c.args.t.now c.args.out.now c.loop-i.out c.loop-i.i c.loop-i.at c.loop-i-test.true c.piece_of.ensures c.loop-i.invariant c.in-Some.is c.width-at.ensures, c.loop-i.invariant.2, c.well_formed)

pub overflow_add-i : goal.overflow_add-i
overflow_add-i c = omega (arith, turn_inside c.args.t.now c.loop-i.i c.loop-i-test.true c.piece_of.ensures c.in-Some.is)

pub loop-i-smaller : goal.loop-i-smaller
loop-i-smaller c = omega (arith, turn_inside c.args.t.now c.loop-i.i c.loop-i-test.true c.piece_of.ensures c.in-Some.is, turn_some c.args.t.now c.loop-i.i c.loop-i-test.true c.piece_of.ensures c.in-Some.is)

pub loop-i-preserved : goal.loop-i-preserved
loop-i-preserved c = left_more c.args.t.now c.args.out.now c.loop-i.out c.loop-i.i c.loop-i.at c.loop-i-test.true c.piece_of.ensures c.loop-i.invariant c.in-Some.is c.width-at.ensures c.emit.ensures

pub returns : goal.returns
returns c = left_end c.args.t.now _ _ _ _ c.loop-i-test.false c.loop-i.invariant
