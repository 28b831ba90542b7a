use Rattle.parser.proofs.Laws.{took_taken, took_refused, past_taken}
use borrow.Author.Rules.{rules}
use Rattle.parser.proofs.take.Goals as goal

pub returns-in_default : goal.returns-in_default
returns-in_default c = took_refused _ c.in_default.is c.unusable.ensures

pub returns : goal.returns
returns c = took_taken _ c.in-Ok.is (past_taken c.args.s.now c.args.here c.in-Ok.is c.look.ensures)
