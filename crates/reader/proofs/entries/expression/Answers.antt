use mathlib.Core.Path.{sym, ◌∙◌}
use mathlib.Core.Bool.{false}
use lib.Seq.{length-take-le}
use Rattle.entry.proofs.Stored.{permits_early, permits_read}
use borrow.Author.Rules.{rules}
use Rattle.reader.proofs.entries.expression.Goals as goal

pub returns-in-Err : goal.returns-in-Err
returns-in-Err c = permits_early false false _ _ (sym c.check_source.ensures.0 ∙ c.in-Err.is) c.refused.ensures

pub returns-in-Ok : goal.returns-in-Ok
returns-in-Ok c = permits_read false false _ c.args.table.now (sym c.check_source.ensures.0 ∙ c.in-Ok.is) c.expression-r.ensures c.answer.ensures
