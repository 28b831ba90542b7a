use native.Mathlib.Omega.{arith}
use mathlib.Core.Path.{ap}
use Rattle.grammar.specs.Rows.{Row}
use Rattle.setter.specs.Waiting.{as_row}
use Rattle.setter.proofs.Turns.{pushes_start, pushes_room, pushes_row, pushes_end}
use Rattle.setter.proofs.push_children.Goals as goal

pub loop-i-init : goal.loop-i-init
loop-i-init c = pushes_start _ _ _ _ _ c.requires.backs

pub overflow_sub-child : goal.overflow_sub-child
overflow_sub-child c = (pushes_room _ _ _ _ _ _ _ _ c.loop-i.invariant (omega arith)).0

pub row_at-child-requires : goal.row_at-child-requires
row_at-child-requires c = let r = pushes_room _ _ _ _ _ _ _ _ c.loop-i.invariant (omega arith) in let r0 = r.0 in let r1 = r.1 in omega (arith, r0, r1)

pub overflow_sub-child-in-loop-i : goal.overflow_sub-child-in-loop-i
overflow_sub-child-in-loop-i c = rw (ap (λ (w : Row). w.size) c.row_at-child.ensures) (pushes_room _ _ _ _ _ _ _ _ c.loop-i.invariant (omega arith)).2

pub loop-i-preserved : goal.loop-i-preserved
loop-i-preserved c = pushes_row _ _ _ _ _ _ _ _ (as_row c.row_at-child.result) c.row_at-child.ensures c.loop-i.invariant (omega arith) c.requires.children_in_bounds

pub returns : goal.returns
returns c = pushes_end _ _ _ _ _ _ _ _ c.loop-i.invariant (omega arith)
