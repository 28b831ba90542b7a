use mathlib.Core.Path.{◌∙◌}
use native.Mathlib.Omega.{arith}
use Rattle.tokens.proofs.Quotes.{closes_not, closes_in, closes}
use Rattle.tokens.proofs.closing.Goals as goal

pub loop-i-init : goal.loop-i-init
loop-i-init c = (c.plain_text-i.ensures.lower_bound.1, c.plain_text-i.ensures.result_value)

pub past_escape-requires : goal.past_escape-requires
past_escape-requires c = closes_not _ _ _ c.byte_at.ensures c.goes_on.ensures c.loop-i-test.true c.loop-i.invariant.1

pub loop-i-smaller : goal.loop-i-smaller
loop-i-smaller c = omega (arith, c.plain_text-i-in-loop-i.ensures.lower_bound.0, c.past_escape.ensures.0, closes_in c.args.quote c.args.s.now c.loop-i.i c.byte_at.ensures c.goes_on.ensures c.loop-i-test.true)

pub loop-i-preserved : goal.loop-i-preserved
loop-i-preserved c = (c.plain_text-i-in-loop-i.ensures.lower_bound.1 ∙ c.past_escape.ensures.1 ∙ c.loop-i.invariant.0, c.plain_text-i-in-loop-i.ensures.result_value)

pub returns : goal.returns
returns c = closes _ _ _ c.byte_at.ensures c.goes_on.ensures c.loop-i-test.false ∙ c.loop-i.invariant.0
