use Rattle.std.proofs.Common.{◌≡◌, ◌+◌, drop}
use Rattle.addresses.specs.Addresses.{gap}
use Rattle.addresses.proofs.gap_at.Given as goal

abbrev pub invariant-loop-i : goal.invariant-loop-i
invariant-loop-i l = l.i + gap (drop l.i l.t) ≡ gap l.t
