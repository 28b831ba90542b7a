use native.Mathlib.Omega.{arith}
use Rattle.tokens.proofs.Quotes.{escape_in, escape_next, escape_on, escape_off}
use Rattle.tokens.proofs.past_escape.Goals as goal

pub overflow_add-at : goal.overflow_add-at
overflow_add-at c = omega (arith, escape_in c.args.quote c.args.s.now c.args.at c.requires.0 c.requires.1)

pub overflow_add-result : goal.overflow_add-result
overflow_add-result c = omega (arith, escape_next c.args.quote c.args.s.now c.args.at c.requires.0 c.requires.1 c.byte_at.ensures c.goes_on.ensures c.if-goes_on.true)

pub overflow_add-result-else-goes_on : goal.overflow_add-result-else-goes_on
overflow_add-result-else-goes_on c = omega (arith, escape_in c.args.quote c.args.s.now c.args.at c.requires.0 c.requires.1)

pub returns-then-goes_on : goal.returns-then-goes_on
returns-then-goes_on c = (omega arith, escape_on c.args.quote c.args.s.now c.args.at c.requires.0 c.requires.1 c.byte_at.ensures c.goes_on.ensures c.if-goes_on.true)

pub returns-else-goes_on : goal.returns-else-goes_on
returns-else-goes_on c = (omega arith, escape_off c.args.quote c.args.s.now c.args.at c.requires.0 c.requires.1 c.byte_at.ensures c.goes_on.ensures c.if-goes_on.false)
