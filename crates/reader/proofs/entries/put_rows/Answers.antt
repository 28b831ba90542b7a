use mathlib.Core.Path.{sym, ◌∙◌}
use mathlib.Core.Bool.{true}
use Rattle.entry.proofs.Stored.{puts_early, puts_read}
use borrow.Author.Rules.{rules}
use Rattle.reader.proofs.entries.put_rows.Goals as goal

pub returns-in-Err : goal.returns-in-Err
returns-in-Err c = puts_early true _ _ (sym c.check_source.ensures.0 ∙ c.in-Err.is) c.refused.ensures

pub returns-in-Ok : goal.returns-in-Ok
returns-in-Ok c = puts_read true _ _ (sym c.check_source.ensures.0 ∙ c.in-Ok.is) c.tree-r.ensures c.answer_put.ensures
