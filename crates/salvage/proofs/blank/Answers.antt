use Rattle.std.proofs.Common.{rules}
use Rattle.salvage.proofs.Stores.{spaced}
use Rattle.salvage.proofs.blank.Goals as goal

pub returns : goal.returns
returns c = spaced c.args.s.now c.args.from c.args.to c.requires.0 c.requires.1 (c.fill.ensures.after (search rules))
