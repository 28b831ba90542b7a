use Rattle.list.proofs.Writing.{Good, turns}
use Rattle.list.proofs.tokens.Given as goal

-- what stands in the list is what the writer's place asks for
abbrev pub invariant-loop-state : goal.invariant-loop-state
invariant-loop-state l = Good l.s l.n l.state l.list

abbrev pub decreases-loop-state : goal.decreases-loop-state
decreases-loop-state l = turns l.s l.n l.state
