use Rattle.salvage.proofs.Drops.{search_in, search_out}
use borrow.Author.Rules.{rules}
use Rattle.salvage.proofs.search_from.Goals as goal

pub returns-then-first-start : goal.returns-then-first-start
returns-then-first-start c = search_in _ _ c.if-first-start.true

pub returns : goal.returns
returns c = search_out _ _ c.if-first-start.false
