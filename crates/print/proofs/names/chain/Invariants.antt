use Rattle.std.proofs.Common.{◌+◌, ◌-◌}
use Rattle.print.proofs.names.chain.Given as goal

abbrev pub decreases-loop-row : goal.decreases-loop-row
decreases-loop-row l = l.row + 1 - l.leaf
