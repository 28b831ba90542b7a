use Rattle.std.proofs.Common.{ap, ◌∙◌, arith}
use Rattle.chars.specs.Chars.{is_digit}
use Rattle.chars.proofs.Runs.{inside}
use borrow.Author.Tests.{ne_eqb}
use Rattle.numbers.proofs.Numbers.{point_on, point_off}
use Rattle.numbers.proofs.point_at.Goals as goal

pub overflow_add-at : goal.overflow_add-at
overflow_add-at c = omega (arith, inside c.args.t.now c.args.at c.byte_at.ensures c.if-byte_at-eq-PERIOD.true (omega arith))

pub returns-then-byte_at-eq-PERIOD : goal.returns-then-byte_at-eq-PERIOD
returns-then-byte_at-eq-PERIOD c = point_on _ _ c.byte_at.ensures c.if-byte_at-eq-PERIOD.true (c.is_digit.ensures ∙ ap is_digit c.byte_at-then-byte_at-eq-PERIOD.ensures)

pub returns-else-byte_at-eq-PERIOD : goal.returns-else-byte_at-eq-PERIOD
returns-else-byte_at-eq-PERIOD c = ne_eqb _ _ c.if-byte_at-eq-PERIOD.false ∙ point_off _ _ c.byte_at.ensures c.if-byte_at-eq-PERIOD.false
