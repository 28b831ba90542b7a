use Rattle.entry.proofs.Stored.{answered_done, answered_refused}
use borrow.Author.Rules.{rules}
use Rattle.entry.proofs.answer.Goals as goal

pub returns-in-Ok : goal.returns-in-Ok
returns-in-Ok c = answered_done _ _ c.in-Ok.is c.counted.ensures

pub returns-in-Err : goal.returns-in-Err
returns-in-Err c = answered_refused _ _ c.in-Err.is c.refused.ensures
