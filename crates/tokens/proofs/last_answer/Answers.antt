use Rattle.tokens.proofs.Answers.{last_taken, last_end, last_refused}
use Rattle.tokens.proofs.last_answer.Goals as goal

pub returns-in_default : goal.returns-in_default
returns-in_default c = last_taken _ _ _ _ c.in_default.is c.counted_answer.ensures

pub returns-then-r-eq-ENDS_EARLY : goal.returns-then-r-eq-ENDS_EARLY
returns-then-r-eq-ENDS_EARLY c = last_end _ _ _ _ c.in-Err.is c.if-r-eq-ENDS_EARLY.true c.counted_answer-then-r-eq-ENDS_EARLY.ensures

pub returns : goal.returns
returns c = last_refused _ _ _ _ c.in-Err.is c.if-r-eq-ENDS_EARLY.false c.refused_answer.ensures
