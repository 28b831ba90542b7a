use mathlib.Core.Path.{sym}
use Rattle.parser.proofs.Laws.{end_taken, end_refused}
use borrow.Author.Rules.{rules}
use Rattle.parser.proofs.Here.end.Goals as goal

pub returns-in-Ok : goal.returns-in-Ok
returns-in-Ok c = sym (end_taken c.in-Ok.is)

pub returns-in-Err : goal.returns-in-Err
returns-in-Err c = sym (end_refused c.in-Err.is)
