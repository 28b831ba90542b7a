use native.Mathlib.Omega.{arith}
use Prim.Native.Nat.{◌-◌}
use Rattle.places.specs.Meant.{meant}
use Rattle.setter.specs.Waiting.{as_row}
use Rattle.setter.proofs.Turns.{places_start, places_room, places_row, places_end}
use Rattle.setter.proofs.place_children.Goals as goal

pub loop-left-init : goal.loop-left-init
loop-left-init c = places_start _ _ _ _ _ (meant c.args.place) c.requires.rooted

pub overflow_sub-plan : goal.overflow_sub-plan
overflow_sub-plan c = (places_room _ _ _ _ _ _ _ _ _ (c.loop-left.left - 1) c.loop-left.invariant c.requires.backs (omega arith)).0

pub row_at-child-requires : goal.row_at-child-requires
row_at-child-requires c = let r = places_room _ _ _ _ _ _ _ _ _ (c.loop-left.left - 1) c.loop-left.invariant c.requires.backs (omega arith) in let r0 = r.0 in let r1 = r.1 in omega (arith, r0, r1)

pub loop-left-preserved : goal.loop-left-preserved
loop-left-preserved c = places_row c.args.rows.now c.args.plan.now c.args.top c.args.row c.args.children (meant c.args.place) c.loop-left.plan c.loop-left.phase c.loop-left.left (c.loop-left.left - 1) c.waiting_child.result (as_row c.row_at.result) (as_row c.row_at-child.result) c.row_at.ensures c.row_at-child.ensures c.loop-left.invariant (omega arith) c.requires.children_in_bounds c.waiting_child.ensures.0 c.waiting_child.ensures.1 _ c.next_phase-phase.ensures

pub returns : goal.returns
returns c = places_end _ _ _ _ _ _ _ _ _ c.loop-left.invariant (omega arith)
