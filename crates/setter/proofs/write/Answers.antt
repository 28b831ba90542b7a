use mathlib.Core.Path.{refl}
use Prim.Native.Nat.{◌-◌}
use native.Mathlib.Omega.{arith}
use Rattle.setter.proofs.Turns.{some_rows, writes_begin, writes_ready, writes_more, writes_end}
use Rattle.setter.proofs.write.Goals as goal

pub push-requires : goal.push-requires
push-requires c = let (f, y) = c.requires.grown in let e = some_rows _ _ _ f y in let h = c.requires.count_in_bounds in omega (arith, e, h)

pub loop-top-init : goal.loop-top-init
loop-top-init c = let h = c.requires.count_in_bounds in (writes_begin c.args.s.now c.args.rows.now c.args.count c.args.plan.now _ c.args.text.now c.waiting_root.result _ c.waiting_root.ensures.0 c.waiting_root.ensures.1 c.new-sink.ensures h c.push.ensures, omega (arith, h), refl)

pub take_turn-top-requires : goal.take_turn-top-requires
take_turn-top-requires c = writes_ready c.args.s.now c.args.rows.now c.args.count _ c.args.text.now c.loop-top.plan c.loop-top.text c.loop-top.sink c.loop-top.top (c.loop-top.top - 1) c.loop-top.invariant.0 c.requires.grown c.loop-top.invariant.1 (omega arith)

pub loop-top-smaller : goal.loop-top-smaller
loop-top-smaller c = (writes_more c.args.s.now c.args.rows.now c.args.count _ c.args.text.now c.loop-top.plan c.loop-top.text c.loop-top.sink c.loop-top.top (c.loop-top.top - 1) _ _ c.take_turn-top.new.sink c.take_turn-top.result c.loop-top.invariant.0 c.requires.grown c.loop-top.invariant.1 (omega arith) (omega arith) c.take_turn-top.ensures).1

pub loop-top-preserved : goal.loop-top-preserved
loop-top-preserved c = let l = c.loop-top.invariant.1 in let r = c.loop-top.invariant.2 in ((writes_more c.args.s.now c.args.rows.now c.args.count _ c.args.text.now c.loop-top.plan c.loop-top.text c.loop-top.sink c.loop-top.top (c.loop-top.top - 1) _ _ c.take_turn-top.new.sink c.take_turn-top.result c.loop-top.invariant.0 c.requires.grown c.loop-top.invariant.1 (omega arith) (omega arith) c.take_turn-top.ensures).0, omega arith, omega arith)

pub returns : goal.returns
returns c = writes_end c.args.s.now c.args.rows.now c.args.count _ c.args.text.now c.loop-top.plan c.loop-top.text c.loop-top.sink c.loop-top.top c.loop-top.invariant.0 (omega arith)
