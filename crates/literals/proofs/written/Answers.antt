use Rattle.literals.proofs.written.Goals as goal
-- `literals::written` meets its contract.
use mathlib.Core.Path.{sym, ◌∙◌}
use native.Mathlib.Omega.{arith}
use Rattle.numbers.proofs.Choices.{so}
use Rattle.floats.specs.Nearest.{format_of}
use Rattle.literals.proofs.Runs.{same_point, whole_long, part_long, both_are, lone_is, first_in, point_in, part_in}

pub digits-requires : goal.digits-requires
digits-requires c = (omega (arith), first_in c.args.t.now c.past-point.ensures)

pub returns-in_err-whole : goal.returns-in_err-whole
returns-in_err-whole c = c.from_residual.ensures ∙ whole_long (format_of c.args.w) c.args.t.now c.past-point.ensures c.requires (sym c.in_err-whole.ensures)

pub overflow_add-point : goal.overflow_add-point
overflow_add-point c = omega (arith, point_in c.args.t.now _ (same_point c.args.t.now _ c.point_at.ensures) c.if-point_at.true)

pub overflow_add-point-then-point_at : goal.overflow_add-point-then-point_at
overflow_add-point-then-point_at c = omega (arith, point_in c.args.t.now _ (same_point c.args.t.now _ c.point_at.ensures) c.if-point_at.true)

pub digits-requires-then-point_at : goal.digits-requires-then-point_at
digits-requires-then-point_at c = part_in c.args.t.now _ (same_point c.args.t.now _ c.point_at.ensures) c.if-point_at.true c.past-end.ensures

pub returns-in_err-part : goal.returns-in_err-part
returns-in_err-part c = c.from_residual-in_err-part.ensures ∙ part_long (format_of c.args.w) c.args.t.now c.past-point.ensures (sym c.in_ok-whole.ensures) (so (same_point c.args.t.now _ c.point_at.ensures) c.if-point_at.true) c.past-end.ensures (sym c.in_err-part.ensures)

pub returns-then-point_at : goal.returns-then-point_at
returns-then-point_at c = c.decimal.ensures ∙ both_are (format_of c.args.w) c.args.t.now c.past-point.ensures (sym c.in_ok-whole.ensures) (so (same_point c.args.t.now _ c.point_at.ensures) c.if-point_at.true) c.past-end.ensures (sym c.in_ok-part.ensures)

pub returns : goal.returns
returns c = c.decimal-2.ensures ∙ lone_is (format_of c.args.w) c.args.t.now c.past-point.ensures (sym c.in_ok-whole.ensures) (so (same_point c.args.t.now _ c.point_at.ensures) c.if-point_at.false)
