use native.Mathlib.Omega.{arith}
use Rattle.strings.proofs.Escapes.{ascii_is, ascii_not, below_two}
use Rattle.strings.proofs.ascii.Goals as goal

pub overflow_mul-result : goal.overflow_mul-result
overflow_mul-result c = omega (arith, below_two {h = c.digit-h.result} {l = c.digit-l.result} {m = 8} {n = 16} c.if-h-l.true)

pub overflow_add-result : goal.overflow_add-result
overflow_add-result c = omega (arith, below_two {h = c.digit-h.result} {l = c.digit-l.result} {m = 8} {n = 16} c.if-h-l.true)

pub returns-then-h-l : goal.returns-then-h-l
returns-then-h-l c = ascii_is c.args.t.now c.byte_at.ensures c.digit-h.ensures c.byte_at-2.ensures c.digit-l.ensures c.if-h-l.true

pub returns : goal.returns
returns c = ascii_not c.args.t.now c.byte_at.ensures c.digit-h.ensures c.byte_at-2.ensures c.digit-l.ensures c.if-h-l.false
