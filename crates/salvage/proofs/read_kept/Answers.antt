use Rattle.salvage.proofs.Next.{treed}
use borrow.Author.Rules.{rules}
use Rattle.salvage.proofs.read_kept.Goals as goal

pub returns : goal.returns
returns c = (c.drop_broken-kept.ensures.0, treed c.drop_broken-kept.ensures.1 c.drop_broken-kept.ensures.2 c.plain_row-row.ensures c.put.ensures)
