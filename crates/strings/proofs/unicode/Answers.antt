use mathlib.Core.Path.{◌∙◌}
use native.Mathlib.Omega.{arith}
use Rattle.strings.proofs.Escapes.{unicode_open, unicode_unclosed, unicode_from, unicode_to, unicode_none, unicode_is, unicode_not}
use Rattle.strings.proofs.unicode.Goals as goal

pub returns-then-byte_at-ne-OPEN_BRACE : goal.returns-then-byte_at-ne-OPEN_BRACE
returns-then-byte_at-ne-OPEN_BRACE c = unicode_open c.args.t.now c.byte_at.ensures c.if-byte_at-ne-OPEN_BRACE.true

pub returns-then-byte_at : goal.returns-then-byte_at
returns-then-byte_at c = unicode_unclosed c.args.t.now c.byte_at.ensures c.if-byte_at-ne-OPEN_BRACE.false c.until-e.ensures c.byte_at-2.ensures c.byte_at-3.ensures c.if-byte_at.true

pub slice_bounds-number_of-count : goal.slice_bounds-number_of-count
slice_bounds-number_of-count c = unicode_from c.args.t.now c.byte_at.ensures c.if-byte_at-ne-OPEN_BRACE.false c.until-e.ensures c.byte_at-2.ensures c.byte_at-3.ensures

pub slice_bounds-number_of-start : goal.slice_bounds-number_of-start
slice_bounds-number_of-start c = unicode_from c.args.t.now c.byte_at.ensures c.if-byte_at-ne-OPEN_BRACE.false c.until-e.ensures c.byte_at-2.ensures c.byte_at-3.ensures

pub slice_bounds-number_of-end : goal.slice_bounds-number_of-end
slice_bounds-number_of-end c = omega (arith, unicode_to c.args.t.now c.byte_at.ensures c.if-byte_at-ne-OPEN_BRACE.false c.until-e.ensures c.byte_at-2.ensures c.byte_at-3.ensures c.if-byte_at.false)

pub returns-in_err-value : goal.returns-in_err-value
returns-in_err-value c = c.from_residual.ensures ∙ unicode_none c.args.t.now c.byte_at.ensures c.if-byte_at-ne-OPEN_BRACE.false c.until-e.ensures c.byte_at-2.ensures c.byte_at-3.ensures c.if-byte_at.false c.number_of.ensures c.in_err-value.was

pub overflow_add-result : goal.overflow_add-result
overflow_add-result c = omega (arith, unicode_to c.args.t.now c.byte_at.ensures c.if-byte_at-ne-OPEN_BRACE.false c.until-e.ensures c.byte_at-2.ensures c.byte_at-3.ensures c.if-byte_at.false)

pub returns-then-digits-scalar : goal.returns-then-digits-scalar
returns-then-digits-scalar c = unicode_is c.args.t.now c.byte_at.ensures c.if-byte_at-ne-OPEN_BRACE.false c.until-e.ensures c.byte_at-2.ensures c.byte_at-3.ensures c.if-byte_at.false c.number_of.ensures c.in_ok-value.was c.scalar.ensures c.if-digits-scalar.true

pub returns : goal.returns
returns c = unicode_not c.args.t.now c.byte_at.ensures c.if-byte_at-ne-OPEN_BRACE.false c.until-e.ensures c.byte_at-2.ensures c.byte_at-3.ensures c.if-byte_at.false c.number_of.ensures c.in_ok-value.was c.scalar.ensures c.if-digits-scalar.false
