use Rattle.std.proofs.Common.{◌≤◌, ◌<◌, ◌-◌, true, length}
use Rattle.std.specs.List.{AllWithin}
use Rattle.chars.proofs.past_those.Given as goal

abbrev pub invariant-loop-i : goal.invariant-loop-i
invariant-loop-i g l = record {
  from : l.at ≤ l.i;
  inside : l.at < l.i → l.i ≤ length l.s;
  passed : AllWithin (λ b. goal.F-post g l.passes b true) l.s l.at l.i;
}

abbrev pub decreases-loop-i : goal.decreases-loop-i
decreases-loop-i g l = length l.s - l.i
