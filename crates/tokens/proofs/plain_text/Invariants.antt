use mathlib.Core.Path.{◌≡◌}
use mathlib.Core.Bool.{false}
use Prim.Native.Nat.{◌-◌, ◌≤◌}
use lib.ListN.{length}
use Rattle.chars.specs.Runs.{past_span}
use Rattle.tokens.specs.Rules.{goes_on, escapes}
use Rattle.tokens.proofs.plain_text.Given as goal

abbrev pub invariant-loop-i : goal.invariant-loop-i
invariant-loop-i l = (l.at ≤ l.i) × (past_span (goes_on l.quote) escapes false l.s l.i ≡ past_span (goes_on l.quote) escapes false l.s l.at)

abbrev pub decreases-loop-i : goal.decreases-loop-i
decreases-loop-i l = length l.s - l.i
