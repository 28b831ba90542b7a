use Rattle.parser.proofs.Laws.{word_taken, word_refused}
use borrow.Author.Rules.{rules}
use Rattle.parser.proofs.Here.word.Goals as goal

pub returns-in-Ok : goal.returns-in-Ok
returns-in-Ok c = word_taken c.in-Ok.is

pub returns-in-Err : goal.returns-in-Err
returns-in-Err c = word_refused c.in-Err.is c.word_of_refused.ensures
