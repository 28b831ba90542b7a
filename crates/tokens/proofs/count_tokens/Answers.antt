use native.Mathlib.Omega.{arith}
use Rattle.tokens.proofs.Fits.{so}
use Rattle.tokens.proofs.Lists.{none_counted, one_counted, all_counted, refused_whole}
use Rattle.tokens.proofs.count_tokens.Goals as goal

pub returns-in-Err : goal.returns-in-Err
returns-in-Err c = refused_whole _ _ c.check_source.ensures.0 c.in-Err.is c.refused_answer.ensures

pub loop-next-init : goal.loop-next-init
loop-next-init c = (none_counted c.args.s.now c.new-cursor.ensures, so c.check_source.ensures.0 c.in_default.is)

pub returns-in_default-step : goal.returns-in_default-step
returns-in_default-step c = all_counted c.args.s.now c.loop-next.invariant.0 c.step-step.ensures.0 _ c.in_default-step.is c.loop-next.invariant.1 c.last_answer.ensures

pub overflow_add-count : goal.overflow_add-count
overflow_add-count c = omega (arith, c.loop-next.invariant.0.inside, c.loop-next.invariant.0.fewer, (one_counted c.args.s.now c.loop-next.invariant.0 c.step-step.ensures.0 c.in-Ok.is).1, (one_counted c.args.s.now c.loop-next.invariant.0 c.step-step.ensures.0 c.in-Ok.is).0.inside)

pub loop-next-smaller : goal.loop-next-smaller
loop-next-smaller c = omega (arith, (one_counted c.args.s.now c.loop-next.invariant.0 c.step-step.ensures.0 c.in-Ok.is).1, (one_counted c.args.s.now c.loop-next.invariant.0 c.step-step.ensures.0 c.in-Ok.is).0.inside)

pub loop-next-preserved : goal.loop-next-preserved
loop-next-preserved c = ((one_counted c.args.s.now c.loop-next.invariant.0 c.step-step.ensures.0 c.in-Ok.is).0, c.loop-next.invariant.1)
