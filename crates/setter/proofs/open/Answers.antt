use native.Mathlib.Omega.{arith}
use Rattle.places.specs.Meant.{meant}
use Rattle.setter.specs.Waiting.{as_row}
use Rattle.setter.proofs.Turns.{opened_row}
use Rattle.setter.proofs.open.Goals as goal

pub returns : goal.returns
returns c = let h = c.requires.row_in_bounds_2 in opened_row c.args.rows.now c.args.plan.now _ _ _ c.args.top c.args.row (meant c.args.place) (meant c.inner-inner.result) c.args.pair c.place_children-phase.result c.ending-last.result (as_row c.row_at-opened.result) c.row_at-opened.ensures c.push_children.ensures.0 c.place_children-phase.ensures.0 c.inner-inner.ensures c.place_children-phase.ensures.1 c.ending-last.ensures (omega (arith, h)) c.push.ensures
