use mathlib.Core.Path.{refl, ◌∙◌}
use native.Mathlib.Omega.{arith}
use Rattle.tokens.proofs.Quotes.{plain_in, plain_more, plain_stops}
use Rattle.tokens.proofs.plain_text.Goals as goal

pub loop-i-init : goal.loop-i-init
loop-i-init c = (omega arith, refl)

pub overflow_add-i : goal.overflow_add-i
overflow_add-i c = omega (arith, plain_in c.args.quote c.args.s.now c.loop-i.i c.byte_at.ensures c.goes_on.ensures c.byte_at-in-loop-i.ensures c.loop-i-test.true)

pub loop-i-smaller : goal.loop-i-smaller
loop-i-smaller c = omega (arith, plain_in c.args.quote c.args.s.now c.loop-i.i c.byte_at.ensures c.goes_on.ensures c.byte_at-in-loop-i.ensures c.loop-i-test.true)

pub loop-i-preserved : goal.loop-i-preserved
loop-i-preserved c = (omega arith, plain_more _ _ _ c.byte_at.ensures c.goes_on.ensures c.byte_at-in-loop-i.ensures c.loop-i-test.true ∙ c.loop-i.invariant.1)

pub returns : goal.returns
returns c = record { lower_bound = c.loop-i.invariant; result_value = plain_stops _ _ _ c.byte_at.ensures c.goes_on.ensures c.byte_at-in-loop-i.ensures c.loop-i-test.false }
