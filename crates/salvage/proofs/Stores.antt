-- Spaces in a source, and ranges.
use mathlib.Core.Path.{◌≡◌, refl, sym, ap, ◌∙◌}
use mathlib.Core.List.{List, [], ◌∷◌, ◌++◌, append_assoc}
use mathlib.Core.Bool.{Bool, true, false, cond}
use Prim.Native.Nat.{ℕ, zero, suc, ◌+◌, ◌-◌, ◌*◌, ◌/◌, ◌≤◌, ◌<◌}
use native.Mathlib.Omega.{arith}
use lib.ListN.{length, set, take, drop, replicate, length-take, length-drop}
use Rattle.std.proofs.lemmas.List.{drop-drop}
use borrow.Rule.Slice.PartMut.{put_mid, post_of}
use lib.Seq.{sets, sets-eq, length-sets}
use lib.Dec.{ltb}
use borrow.Author.Tests.{lt-ltb, le-ltb}
use Rattle.tokens.specs.declared.Refusal.{Refusal}
use Rattle.salvage.specs.Salvage.{space, blanked}
use Rattle.salvage.specs.Steps.{range_numbers, noted}

-- what is left of a source whose part between two places was filled
pub spaced : (s : List ℕ) (from to : ℕ) {ys : List ℕ} → from ≤ to → to ≤ length s → ys ≡ replicate (length (take (to - from) (drop from s))) space → put_mid from (to - from) s ys ≡ blanked s from to
unfolding blanked
spaced s from to {ys} h k e =
    let n : ℕ = to - from in
    let long : length (take n (drop from s)) ≡ n = simp (length-take, length-drop) (omega (arith, h, k)) in
    let behind : post_of from n s ≡ drop to s = drop-drop n from s ∙ ap (λ (m : ℕ). drop m s) {x = from + n} {y = to} (omega (arith, h)) in
    ap (λ (l : List ℕ). take from s ++ (ys ++ l)) behind ∙ ap (λ (l : List ℕ). take from s ++ (l ++ drop to s)) (e ∙ ap (λ (m : ℕ). replicate m space) long)

-- a range in its place, or no room for it
five_stored : (t : List ℕ) (i a b c d e : ℕ) → set (set (set (set (set t i a) (i + 1) b) (i + 2) c) (i + 3) d) (i + 4) e ≡ sets t i (a ∷ b ∷ c ∷ d ∷ e ∷ [])
five_stored t i a b c d e =
    let e₁ : i + 1 ≡ suc i = omega arith in
    let e₂ : i + 2 ≡ suc (suc i) = omega arith in
    let e₃ : i + 3 ≡ suc (suc (suc i)) = omega arith in
    let e₄ : i + 4 ≡ suc (suc (suc (suc i))) = omega arith in
    λ j. set (set (set (set (set t i a) (e₁ j) b) (e₂ j) c) (e₃ j) d) (e₄ j) e

module _ (t : List ℕ) (n start end : ℕ) (r : Refusal) where
  pub noted_in : n < length t / 5 → set (set (set (set (set t (n * 5) start) (n * 5 + 1) end) (n * 5 + 2) r.number) (n * 5 + 3) r.start) (n * 5 + 4) r.end ≡ noted t n start end r
  noted_in h = five_stored t (n * 5) start end r.number r.start r.end ∙ rw (lt-ltb n (length t / 5) h) refl

  pub noted_out : length t / 5 ≤ n → t ≡ noted t n start end r
  noted_out h = rw (le-ltb n (length t / 5) h) refl

  pub noted_length : length (noted t n start end r) ≡ length t
  noted_length = by (ltb n (length t / 5))
    where
      by : (b : Bool) → length (cond b (sets t (n * 5) (range_numbers start end r)) t) ≡ length t
      by true = length-sets t (n * 5) (range_numbers start end r)
      by false = refl
