use mathlib.Core.Path.{sym, ◌∙◌}
use mathlib.Core.Bool.{true, false}
use lib.Seq.{length-take-le}
use Rattle.entry.proofs.Stored.{permits_early, permits_read}
use borrow.Author.Rules.{rules}
use Rattle.reader.proofs.entries.read_tree.Goals as goal

pub returns-in-Err : goal.returns-in-Err
returns-in-Err c = permits_early c.args.tests true _ _ (sym c.check_source.ensures.0 ∙ c.in-Err.is) c.refused.ensures

pub returns-in-Ok : goal.returns-in-Ok
returns-in-Ok c = permits_read c.args.tests true _ c.args.table.now (sym c.check_source.ensures.0 ∙ c.in-Ok.is) c.tree-r.ensures c.answer.ensures
