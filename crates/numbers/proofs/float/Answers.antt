use Rattle.std.proofs.Common.{arith}
use Rattle.std.proofs.lemmas.Bool.Decides.{nat_tests}
use Rattle.numbers.specs.Numbers.{float_with}
use Rattle.numbers.proofs.Numbers.{point_in, fraction_le, float_dot, float_no_point, float_begins_else}
use Rattle.numbers.proofs.float.Goals as goal

pub returns-then-not-is_digit : goal.returns-then-not-is_digit
returns-then-not-is_digit c = float_begins_else c.args.t.now c.byte_at.ensures c.is_digit.ensures c.if-not-is_digit.true

pub returns-then-not-point_at : goal.returns-then-not-point_at
returns-then-not-point_at c = float_no_point c.args.t.now c.byte_at.ensures c.is_digit.ensures c.past-dot.ensures c.point_at.ensures c.if-not-point_at.true

pub overflow_add-dot : goal.overflow_add-dot
overflow_add-dot c = omega (arith, point_in c.args.t.now c.byte_at.ensures c.is_digit.ensures c.past-dot.ensures c.point_at.ensures c.if-not-point_at.false)

pub split_at-requires : goal.split_at-requires
split_at-requires c = fraction_le c.args.t.now c.byte_at.ensures c.is_digit.ensures c.past-dot.ensures c.point_at.ensures c.if-not-point_at.false c.past.ensures

pub returns-then-suffix-eq0 : goal.returns-then-suffix-eq0
unfolding float_with
returns-then-suffix-eq0 c = float_dot c.args.t.now c.byte_at.ensures c.is_digit.ensures c.past-dot.ensures c.point_at.ensures c.if-not-is_digit.false c.if-not-point_at.false c.past.ensures c.split_at.ensures.back c.suffix-suffix.ensures (grind (arith, nat_tests))

pub returns : goal.returns
unfolding float_with
returns c = float_dot c.args.t.now c.byte_at.ensures c.is_digit.ensures c.past-dot.ensures c.point_at.ensures c.if-not-is_digit.false c.if-not-point_at.false c.past.ensures c.split_at.ensures.back c.suffix-suffix.ensures (grind (arith, nat_tests))
