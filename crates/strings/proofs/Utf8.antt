-- UTF-8: how many bytes a code point has, and the stores that write them.
use mathlib.Core.Path.{◌≡◌, refl, ap, ◌∙◌}
use Prim.Native.Nat.{ℕ, suc, ◌+◌, ◌/◌, ◌%◌, ◌<◌, ◌≤◌}
use mathlib.Core.List.{List, [], ◌∷◌, ◌++◌}
use mathlib.Core.Bool.{Bool, true, false, cond}
use native.Mathlib.Nat.{add-zero, add-suc, suc-add}
use native.Mathlib.Numerals.{towards_suc}
use native.Mathlib.Omega.{arith}
use lib.ListN.{length, set}
use lib.Seq.{sets}
use lib.Dec.{ltb}
use borrow.Author.Tests.{lt-ltb, le-ltb, ltb-false}
use Rattle.numbers.proofs.Choices.{first, second}
use Rattle.strings.specs.Utf8.{utf8, width_of}

module _ (c : ℕ) where
  pub width_one : c < 128 → 1 ≡ width_of c
  unfolding width_of
  width_one h = first _ (lt-ltb _ _ h) refl

  pub utf8_one : c < 128 → (c ∷ []) ≡ utf8 c
  unfolding utf8
  utf8_one h = first _ (lt-ltb _ _ h) refl

  module _ (h : 128 ≤ c) where
    pub width_two : c < 2048 → 2 ≡ width_of c
    unfolding width_of
    width_two k = second _ (le-ltb _ _ h) (first _ (lt-ltb _ _ k) refl)

    pub utf8_two : c < 2048 → ((192 + c / 64) ∷ (128 + c % 64) ∷ []) ≡ utf8 c
    unfolding utf8
    utf8_two k = second _ (le-ltb _ _ h) (first _ (lt-ltb _ _ k) refl)

    module _ (k : 2048 ≤ c) where
      pub width_three : c < 65536 → 3 ≡ width_of c
      unfolding width_of
      width_three m = second _ (le-ltb _ _ h) (second _ (le-ltb _ _ k) (first _ (lt-ltb _ _ m) refl))

      pub utf8_three : c < 65536 → ((224 + c / 4096) ∷ (128 + c / 64 % 64) ∷ (128 + c % 64) ∷ []) ≡ utf8 c
      unfolding utf8
      utf8_three m = second _ (le-ltb _ _ h) (second _ (le-ltb _ _ k) (first _ (lt-ltb _ _ m) refl))

      pub width_four : 65536 ≤ c → 4 ≡ width_of c
      unfolding width_of
      width_four m = second _ (le-ltb _ _ h) (second _ (le-ltb _ _ k) (second _ (le-ltb _ _ m) refl))

      pub utf8_four : 65536 ≤ c → ((240 + c / 262144) ∷ (128 + c / 4096 % 64) ∷ (128 + c / 64 % 64) ∷ (128 + c % 64) ∷ []) ≡ utf8 c
      unfolding utf8
      utf8_four m = second _ (le-ltb _ _ h) (second _ (le-ltb _ _ k) (second _ (le-ltb _ _ m) refl))

pub length_utf8 : (c : ℕ) → length (utf8 c) ≡ width_of c
unfolding utf8 width_of
length_utf8 c = go (ltb c 128) (ltb c 2048) (ltb c 65536)
  where
    go : (u v w : Bool)
        → length
        (cond u (c ∷ [])
        (cond v ((192 + c / 64) ∷ (128 + c % 64) ∷ [])
        (cond w ((224 + c / 4096) ∷ (128 + c / 64 % 64) ∷ (128 + c % 64) ∷ [])
        ((240 + c / 262144) ∷ (128 + c / 4096 % 64) ∷ (128 + c / 64 % 64) ∷ (128 + c % 64) ∷ []))))
        ≡ cond u 1 (cond v 2 (cond w 3 4))
    go true v w = refl
    go false true w = refl
    go false false true = refl
    go false false false = refl

-- a character is written in as many bytes as it decodes to, or more
pub width_most : (c n : ℕ) → 1 ≤ n → (128 ≤ c → 2 ≤ n) × (2048 ≤ c → 4 ≤ n) → width_of c ≤ n
unfolding width_of
width_most c n h k = go (ltb c 128) (ltb c 2048) (ltb c 65536) refl refl
  where
    go : (u v w : Bool) → ltb c 128 ≡ u → ltb c 2048 ≡ v → cond u 1 (cond v 2 (cond w 3 4)) ≤ n
    go true v w e f = h
    go false true w e f = k.0 (ltb-false _ _ e)
    go false false true e f = omega (arith, k.1 (ltb-false _ _ f))
    go false false false e f = k.1 (ltb-false _ _ f)

-- the stores of two to four bytes
module _ (T : List ℕ) (at : ℕ) where
  pub sets_two : (a b : ℕ) → set (set T at a) (at + 1) b ≡ sets T at (a ∷ b ∷ [])
  sets_two a b = simp towards_suc refl

  pub sets_three : (a b c : ℕ) → set (set (set T at a) (at + 1) b) (at + 2) c ≡ sets T at (a ∷ b ∷ c ∷ [])
  sets_three a b c = simp towards_suc refl

  pub sets_four : (a b c d : ℕ) → set (set (set (set T at a) (at + 1) b) (at + 2) c) (at + 3) d ≡ sets T at (a ∷ b ∷ c ∷ d ∷ [])
  sets_four a b c d = simp towards_suc refl

-- stores, and the stores behind them
pub sets_append : (T : List ℕ) (at : ℕ) (vs ws : List ℕ) → sets T at (vs ++ ws) ≡ sets (sets T at vs) (at + length vs) ws
sets_append T at [] ws = rw add-zero refl
sets_append T at (v ∷ vs) ws = sets_append (set T at v) (suc at) vs ws ∙ ap (λ n. sets (sets (set T at v) (suc at) vs) n ws) (simp (add-suc, suc-add))
