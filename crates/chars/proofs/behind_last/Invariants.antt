use Rattle.std.proofs.Common.{◌≡◌}
use Rattle.chars.specs.Runs.{behind_last}
use Rattle.chars.proofs.behind_last.Given as goal

abbrev pub invariant-loop-i : goal.invariant-loop-i
invariant-loop-i l = behind_last l.c l.s l.i ≡ behind_last l.c l.s l.end
