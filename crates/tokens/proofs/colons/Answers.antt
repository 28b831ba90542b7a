use Rattle.chars.proofs.Runs.{inside}
use native.Mathlib.Omega.{arith}
use Rattle.tokens.proofs.Rules.{colons_first, colons_second, colons_fit}
use Rattle.tokens.proofs.colons.Goals as goal

pub returns-then-byte_at-ne-COLON : goal.returns-then-byte_at-ne-COLON
returns-then-byte_at-ne-COLON c = colons_first _ _ c.past-a.ensures c.byte_at.ensures c.if-byte_at-ne-COLON.true

pub overflow_add-a : goal.overflow_add-a
overflow_add-a c = omega (arith, inside c.args.s.now c.past-a.result c.byte_at.ensures c.if-byte_at-ne-COLON.false (omega arith))

pub returns-then-byte_at-ne-COLON-2 : goal.returns-then-byte_at-ne-COLON-2
returns-then-byte_at-ne-COLON-2 c = colons_second _ _ c.past-a.ensures c.byte_at.ensures c.if-byte_at-ne-COLON.false c.past-b.ensures c.byte_at-2.ensures c.if-byte_at-ne-COLON-2.true

pub overflow_add-b : goal.overflow_add-b
overflow_add-b c = omega (arith, inside c.args.s.now c.past-b.result c.byte_at-2.ensures c.if-byte_at-ne-COLON-2.false (omega arith))

pub returns : goal.returns
returns c = colons_fit _ _ c.past-a.ensures c.byte_at.ensures c.if-byte_at-ne-COLON.false c.past-b.ensures c.byte_at-2.ensures c.if-byte_at-ne-COLON-2.false c.past.ensures
