use Prim.Native.Nat.{◌≤◌}
use Rattle.chars.specs.declared.Answer.{Answer}
use Rattle.rows.specs.Rows.{room}
use Rattle.nodes.specs.Search.{Search}
use Rattle.nodes.proofs.node_at.Given as goal

-- what the search answers from here, it answers from the last row on
abbrev pub invariant-loop-row : goal.invariant-loop-row
invariant-loop-row l = (l.left ≤ room l.table) × ((a : Answer) → Search l.table l.position l.left a → Search l.table l.position (room l.table) a)

abbrev pub decreases-loop-row : goal.decreases-loop-row
decreases-loop-row l = l.left
