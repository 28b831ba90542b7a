use Rattle.sheets.proofs.Stores.{byte_more}
use Rattle.sheets.proofs.endian.put.Goals as goal

pub loop-i-preserved : goal.loop-i-preserved
loop-i-preserved c = byte_more c.args.b.now c.args.part.now c.loop-i.b c.args.at c.loop-i.i c.loop-i.invariant c.loop-i-test.true
