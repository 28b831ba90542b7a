-- A source that is fine as a whole is short.
use Rattle.std.specs.Prelude.{Ok}
use mathlib.Core.Path.{◌≡◌, refl}
use mathlib.Core.List.{List}
use mathlib.Core.Bool.{Bool, true, false, cond}
use Prim.Native.Nat.{ℕ, ◌≤◌}
use lib.ListN.{length}
use lib.Dec.{ltb}
use native.Mathlib.Omega.{arith}
use borrow.Author.Tests.{ltb-false}
use Rattle.tokens.specs.Results.{Whole}
use Rattle.tokens.specs.Tokens.{bad, whole_of}

first_false : (b : Bool) (x : Whole) → cond b (bad 1 65535 65535) x ≡ (Ok tt) → b ≡ false
first_false true x e = let z : ◌≡◌ {A = ℕ} 0 1 = cc in absurd (omega arith)
first_false false x e = refl

pub fine_short : (s : List ℕ) → whole_of s ≡ (Ok tt) → length s ≤ 65535
unfolding whole_of
fine_short s e = let f = first_false (ltb 65535 (length s)) _ e in omega (arith, ltb-false)
