use mathlib.Core.Path.{◌∙◌}
use native.Mathlib.Omega.{arith}
use Rattle.tokens.proofs.Fits.{so}
use Rattle.tokens.proofs.Blanks.{skip_stops, skip_none, blanks_left, comment_less, comment_again}
use Rattle.tokens.proofs.skip_whitespace.Goals as goal

pub returns-then-is_solid : goal.returns-then-is_solid
returns-then-is_solid c = skip_none _ _ c.byte_at.ensures c.is_solid.ensures c.if-is_solid.true

pub loop-i-init : goal.loop-i-init
loop-i-init c = blanks_left c.args.s.now c.args.at c.past-i.ensures

pub pair_at-requires : goal.pair_at-requires
pair_at-requires c = omega arith

pub loop-i-smaller : goal.loop-i-smaller
loop-i-smaller c = comment_less c.args.s.now c.loop-i.i (so c.pair_at.ensures c.loop-i-test.true) c.past_comment.ensures c.past-i-in-loop-i.ensures

pub loop-i-preserved : goal.loop-i-preserved
loop-i-preserved c = comment_again c.args.s.now c.loop-i.i (so c.pair_at.ensures c.loop-i-test.true) c.past_comment.ensures c.past-i-in-loop-i.ensures c.loop-i.invariant.0

pub returns : goal.returns
returns c = skip_stops _ _ c.loop-i.invariant.1 (so c.pair_at.ensures c.loop-i-test.false) ∙ c.loop-i.invariant.0
