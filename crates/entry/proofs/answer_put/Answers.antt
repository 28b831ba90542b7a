use mathlib.Core.Path.{refl}
use Rattle.entry.proofs.Stored.{stored_done, stored_refused}
use borrow.Author.Rules.{rules}
use Rattle.entry.proofs.answer_put.Goals as goal

pub returns-in-Ok : goal.returns-in-Ok
returns-in-Ok c = stored_done _ _ c.in-Ok.is (refl, refl)

pub returns-in-Err : goal.returns-in-Err
returns-in-Err c = stored_refused _ _ c.in-Err.is c.refused.ensures
