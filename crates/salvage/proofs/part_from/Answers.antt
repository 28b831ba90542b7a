use mathlib.Core.Path.{sym}
use Rattle.salvage.proofs.Rows.{part_in, part_out}
use borrow.Author.Rules.{rules}
use Rattle.salvage.proofs.part_from.Goals as goal

pub returns-then-rows-size : goal.returns-then-rows-size
returns-then-rows-size c = sym (part_in _ _ c.if-rows-size.true)

pub returns : goal.returns
returns c = part_out _ _ c.if-rows-size.false
