use Rattle.std.proofs.Common.{arith, false}
use Rattle.chars.proofs.Runs.{block_more}
use Rattle.chars.proofs.past_blocks.Goals as goal

pub loop-i-preserved : goal.loop-i-preserved
loop-i-preserved g c = record {
  from = omega arith;
  inside = λ h. omega arith;
  passed = block_more (λ b. goal.F-post g c.args.stops b false) c.args.s.now c.args.at c.loop-i.i g.row.N (omega arith) c.loop-i.invariant.passed (c.any_passes.ensures c.if-any_passes.false);
}
