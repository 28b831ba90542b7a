use Rattle.parser.specs.Places.{step_start}
use borrow.Author.Rules.{rules}
use Rattle.salvage.proofs.start_of.Goals as goal

pub returns-in-Ok : goal.returns-in-Ok
unfolding step_start
returns-in-Ok c = search rules

pub returns-in-Err : goal.returns-in-Err
unfolding step_start
returns-in-Err c = search rules
