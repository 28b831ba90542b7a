-- What a source that is fine as a whole is like; and that the text that is left is fine too.
use Rattle.std.specs.Prelude.{Ok}
use mathlib.Core.Path.{◌≡◌, refl, ap, ◌∙◌}
use mathlib.Core.List.{List}
use mathlib.Core.Bool.{Bool, true, false, cond}
use Prim.Native.Nat.{ℕ, ◌+◌, ◌<◌, ◌≤◌}
use native.Mathlib.Decide.{dec_lt}
use native.Mathlib.Omega.{arith}
use lib.ListN.{length}
use lib.Dec.{ltb}
use borrow.Author.Tests.{ltb-true, ltb-false}
use Rattle.chars.specs.declared.Class.TheVariants.{Ascii}
use Rattle.chars.specs.Chars.{byte_at, is_class}
use Rattle.chars.specs.Runs.{past_run}
use Rattle.chars.proofs.Runs.{outside, past_more, past_done, along}
use Rattle.tokens.specs.Results.{Whole}
use Rattle.tokens.specs.Tokens.{bad, whole_of}

fails : (b : Bool) (n i e : ℕ) (x : Whole) → cond b (bad n i e) x ≡ (Ok tt) → (b ≡ false) × (x ≡ (Ok tt))
fails true n i e x z = let v : ◌≡◌ {A = ℕ} 0 1 = cc in absurd (omega arith)
fails false n i e x z = (refl, z)

-- a byte of a run passes its test
in_run : (p : ℕ → Bool) → p 256 ≡ false → (s : List ℕ) (i n : ℕ) → i ≤ n → n < past_run p s i → p (byte_at s n) ≡ true
in_run p none s i n = along p none s (λ j. j ≤ n → n < past_run p s j → p (byte_at s n) ≡ true) stop more i
  where
    stop : (j : ℕ) → p (byte_at s j) ≡ false → j ≤ n → n < past_run p s j → p (byte_at s n) ≡ true
    stop j f h k = let z = past_done p none s j f in absurd (omega arith)

    more : (j : ℕ) → p (byte_at s j) ≡ true → (j + 1 ≤ n → n < past_run p s (j + 1) → p (byte_at s n) ≡ true) → j ≤ n → n < past_run p s j → p (byte_at s n) ≡ true
    more j f ih h k = elim (dec_lt j n) [
      | yes l ↦ (let z = past_more p none s j f in ih (omega arith) (omega arith))
      | no l ↦ (let z : n ≡ j = omega arith in ap (λ (m : ℕ). p (byte_at s m)) z ∙ f)
    ]

module _ (s : List ℕ) (fine : whole_of s ≡ (Ok tt)) where
  pub short : length s ≤ 65535
  unfolding whole_of
  short = let f = (fails (ltb 65535 (length s)) 1 65535 65535 _ fine).0 in ltb-false 65535 (length s) f

  pub low : (n : ℕ) → n < length s → byte_at s n < 128
  unfolding whole_of is_class
  low n h =
      let high : ℕ = past_run (is_class Ascii) s 0 in
      let g = (fails (ltb 65535 (length s)) 1 65535 65535 _ fine).1 in
      let f = ltb-false high (length s) (fails (ltb high (length s)) 2 high (high + 1) _ g).0 in
      ltb-true (byte_at s n) 128 (in_run (is_class Ascii) (outside Ascii) s 0 n (omega arith) (omega arith))
