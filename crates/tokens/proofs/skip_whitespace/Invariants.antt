use mathlib.Core.Path.{◌≡◌}
use Prim.Native.Nat.{◌-◌}
use mathlib.Core.Bool.{false}
use lib.ListN.{length}
use Rattle.chars.specs.declared.Class.TheVariants.{Blank}
use Rattle.chars.specs.Chars.{byte_at, is_class}
use Rattle.tokens.specs.Blanks.{skip_all}
use Rattle.tokens.proofs.skip_whitespace.Given as goal

abbrev pub invariant-loop-i : goal.invariant-loop-i
invariant-loop-i l = (skip_all l.s l.i ≡ skip_all l.s l.at) × (is_class Blank (byte_at l.s l.i) ≡ false)

abbrev pub decreases-loop-i : goal.decreases-loop-i
decreases-loop-i l = length l.s - l.i
