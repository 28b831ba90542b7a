use Rattle.entry.proofs.Stored.{counted_fits, counted_over}
use borrow.Author.Rules.{rules}
use Rattle.entry.proofs.counted.Goals as goal

pub returns-then-count-table : goal.returns-then-count-table
returns-then-count-table c = counted_fits _ _ _ c.if-count-table.true c.clear.ensures

pub returns : goal.returns
returns c = counted_over _ _ _ c.if-count-table.false c.clear-2.ensures
