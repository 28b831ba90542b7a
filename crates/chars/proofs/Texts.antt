-- Texts that are the same, byte by byte, and a part of a text.
use mathlib.Core.Path.{◌≡◌, refl, sym, ap, ◌∙◌}
use Prim.Native.Nat.{ℕ, zero, suc, ◌+◌, ◌-◌, ◌<◌, ◌≤◌}
use mathlib.Core.List.{List, [], ◌∷◌}
use mathlib.Core.Bool.{Bool, true, false, ◌&&◌}
use native.Mathlib.Nat.{sub-zero, zero-sub, suc-sub-suc}
use native.Mathlib.Numerals.{add-one}
use lib.ListN.{length, get_or, take, drop, drop_of_length-le}
use lib.Seq.{slice, take-nil, drop-cons}
use lib.Dec.{eqb}
use borrow.Author.Tests.{eq-eqb, ne_eqb}
use Rattle.chars.specs.Texts.{same}

not_second : (a : Bool) {b : Bool} → b ≡ false → (a && b) ≡ false
not_second true e = e
not_second false e = refl

-- texts of two lengths differ
pub same_length : (t u : List ℕ) → (length t ≡ length u → ⊥) → same t u ≡ false
unfolding same
same_length [] [] h = absurd (h refl)
same_length [] (b ∷ u) h = refl
same_length (a ∷ t) [] h = refl
same_length (a ∷ t) (b ∷ u) h = not_second (eqb a b) (same_length t u (λ e. h (ap suc e)))

module _ (t u : List ℕ) (i : ℕ) (h : i < length t) (k : i < length u) where
  here : same (drop i t) (drop i u) ≡ (eqb (get_or t i 0) (get_or u i 0) && same (drop (i + 1) t) (drop (i + 1) u))
  unfolding same
  here = rw (drop-cons t i 0 h, drop-cons u i 0 k, add-one)

  pub same_more : get_or t i 0 ≡ get_or u i 0 → same (drop (i + 1) t) (drop (i + 1) u) ≡ same (drop i t) (drop i u)
  same_more e = sym (here ∙ ap (λ b. b && same (drop (i + 1) t) (drop (i + 1) u)) (eq-eqb _ _ e))

  pub same_stops : (get_or t i 0 ≡ get_or u i 0 → ⊥) → false ≡ same (drop i t) (drop i u)
  same_stops e = sym (here ∙ ap (λ b. b && same (drop (i + 1) t) (drop (i + 1) u)) (ne_eqb _ _ e))

pub same_end : (t u : List ℕ) (i : ℕ) → length t ≤ i → length u ≤ i → true ≡ same (drop i t) (drop i u)
unfolding same
same_end t u i h k = rw (drop_of_length-le t {i = i} h, drop_of_length-le u {i = i} k)

-- a part of a text, as code takes it and as a definition names it
pub part_slice : (a e : ℕ) (l : List ℕ) → take (e - a) (drop a l) ≡ slice a e l
part_slice zero e l = ap (λ n. take n l) (sub-zero e)
part_slice (suc a) e [] = take-nil (e - suc a) ∙ sym (ap (drop (suc a)) (take-nil e))
part_slice (suc a) zero (b ∷ l) = ap (λ n. take n (drop a l)) (zero-sub (suc a))
part_slice (suc a) (suc e) (b ∷ l) = ap (λ n. take n (drop a l)) (suc-sub-suc e a) ∙ part_slice a e l
