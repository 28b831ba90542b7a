-- What is skipped before a token of the copy: the blanks and comments that are skipped in s.
use mathlib.Core.Path.{◌≡◌, refl, sym, ap, ◌∙◌}
use mathlib.Core.Logic.{◌⊎◌, inl, inr}
use mathlib.Core.List.{List, [], ◌∷◌, ◌++◌}
use mathlib.Core.Bool.{Bool, true, false, ◌&&◌, true≢false}
use Prim.Native.Nat.{ℕ, suc, ◌+◌, ◌-◌, ◌<◌, ◌≤◌}
use native.Mathlib.Omega.{arith}
use lib.ListN.{length, take, drop, take-append-drop}
use lib.Seq.{slice, length-slice, length-take-le, drop-append-le, drop-cons, drop-drop}
use lib.Dec.{eqb}
use Rattle.chars.specs.declared.Class.TheVariants.{Line}
use Rattle.chars.specs.Chars.{byte_at, is_blank, is_class}
use Rattle.chars.proofs.Runs.{byte_in, byte_drop, within}
use Rattle.tokens.specs.Blanks.{skipped, skip_all}
use Rattle.respell.specs.Copies.{Copied, is_stop}
use Rattle.respell.proofs.Stops.{is_slash}
use Rattle.respell.proofs.Rules.{text_copied}

pub front : (b : ℕ) (l : List ℕ) → byte_at (b ∷ l) 0 ≡ b
front b l = byte_in (b ∷ l) 0 (omega arith)

-- a list that begins with x, then with y or y': the byte in front is the same, or x is empty
ahead : (x y y' : List ℕ) → eqb (byte_at y' 0) 47 ≡ false → (eqb (byte_at (x ++ y') 0) 47 ≡ eqb (byte_at (x ++ y) 0) 47) ⊎ ((eqb (byte_at (x ++ y') 0) 47 ≡ false) × (length x ≡ 0))
ahead [] y y' f = inr (f, refl)
ahead (b ∷ x) y y' f = inl (ap (λ (n : ℕ). eqb n 47) (front b (x ++ y') ∙ sym (front b (x ++ y))))

-- one byte outside a comment: a blank (u), or a slash (v) with another one behind it (w)
one_byte : (n k k' m m' : ℕ) (u v w w' : Bool) → elim u [ true ↦ suc k | false ↦ elim (v && w) [ true ↦ suc m | false ↦ 0 ] ] < suc n → (k < n → k' ≡ k) → (m < n → m' ≡ m) → (w' ≡ w) ⊎ ((w' ≡ false) × (n ≡ 0))
    → ◌≡◌ {A = ℕ} (elim u [ true ↦ suc k' | false ↦ elim (v && w') [ true ↦ suc m' | false ↦ 0 ] ]) (elim u [ true ↦ suc k | false ↦ elim (v && w) [ true ↦ suc m | false ↦ 0 ] ])
one_byte n k k' m m' true v w w' h f g o = ap suc (f (omega arith))
one_byte n k k' m m' false false w w' h f g o = refl
one_byte n k k' m m' false true true true h f g o = ap suc (g (omega arith))
one_byte n k k' m m' false true true false h f g (inl e) = absurd (true≢false (sym e))
one_byte n k k' m m' false true true false h f g (inr e) = let z = e.1 in absurd (omega arith)
one_byte n k k' m m' false true false true h f g (inl e) = absurd (true≢false e)
one_byte n k k' m m' false true false true h f g (inr e) = absurd (true≢false e.0)
one_byte n k k' m m' false true false false h f g o = refl

skip_alike : (c : Bool) (x y y' : List ℕ) → eqb (byte_at y' 0) 47 ≡ false → skipped c (x ++ y) < length x → skipped c (x ++ y') ≡ skipped c (x ++ y)
unfolding skipped
skip_alike c [] y y' f h = absurd (omega arith)
skip_alike true (b ∷ x) y y' f h = ap suc (skip_alike (is_class Line b) x y y' f (omega arith))
skip_alike false (b ∷ x) y y' f h =
    one_byte (length x) (skipped false (x ++ y)) (skipped false (x ++ y')) (skipped true (x ++ y)) (skipped true (x ++ y')) (is_blank b) (eqb b 47) (eqb (byte_at (x ++ y) 0) 47) (eqb (byte_at (x ++ y') 0) 47) h
    (skip_alike false x y y' f) (skip_alike true x y y' f) (ahead x y y' f)

pub in_two : (l : List ℕ) (i e : ℕ) → i ≤ e → e ≤ length l → drop i l ≡ slice i e l ++ drop e l
in_two l i e h k =
    ap (drop i) (sym (take-append-drop e l)) ∙ drop-append-le i (take e l) (drop e l) (let z = length-take-le e l k in omega arith)

-- nothing is skipped where what is skipped ends
rest_skips : (c : Bool) (l : List ℕ) → skipped false (drop (skipped c l) l) ≡ 0
unfolding skipped
rest_skips c [] = refl
rest_skips true (b ∷ l) = rest_skips (is_class Line b) l
rest_skips false (b ∷ l) = by (is_blank b) refl (eqb b 47 && eqb (byte_at l 0) 47) refl (rest_skips false l) (rest_skips true l)
  where
    by : (u : Bool) → is_blank b ≡ u → (v : Bool) → (eqb b 47 && eqb (byte_at l 0) 47) ≡ v → skipped false (drop (skipped false l) l) ≡ 0 → skipped false (drop (skipped true l) l) ≡ 0
        → skipped false (drop (elim u [ true ↦ suc (skipped false l) | false ↦ elim v [ true ↦ suc (skipped true l) | false ↦ 0 ] ]) (b ∷ l)) ≡ 0
    by true e v f p r = p
    by false e true f p r = r
    by false e false f p r = none (is_blank b) e (eqb b 47 && eqb (byte_at l 0) 47) f
      where
        none : (u : Bool) → u ≡ false → (v : Bool) → v ≡ false → ◌≡◌ {A = ℕ} (elim u [ true ↦ suc (skipped false l) | false ↦ elim v [ true ↦ suc (skipped true l) | false ↦ 0 ] ]) 0
        none true e v f = absurd (true≢false e)
        none false e true f = absurd (true≢false f)
        none false e false f = refl

pub skip_ge : (s : List ℕ) (i : ℕ) → i ≤ skip_all s i
unfolding skip_all
skip_ge s i = omega arith

pub skip_again : (s : List ℕ) (i : ℕ) → skip_all s (skip_all s i) ≡ skip_all s i
unfolding skip_all
skip_again s i =
    let n : ℕ = skipped false (drop i s) in
    let z : skipped false (drop (i + n) s) ≡ 0 = ap (skipped false) (sym (drop-drop n i s)) ∙ rest_skips false (drop i s) in
    omega arith

-- a blank is skipped
pub skip_blank : (s : List ℕ) (i : ℕ) → is_blank (byte_at s i) ≡ true → skip_all s i ≡ skip_all s (i + 1)
unfolding skip_all skipped
skip_blank s i e =
    let h : i < length s = within is_blank refl s i e in
    let l : List ℕ = drop (suc i) s in
    let z : drop i s ≡ byte_at s i ∷ l = drop-cons s i 0 h ∙ ap (λ (b : ℕ). b ∷ l) (sym (byte_in s i h)) in
    let y : skipped false (drop i s) ≡ suc (skipped false l) = ap (skipped false) z ∙ by (is_blank (byte_at s i)) e l in
    let x : skipped false (drop (i + 1) s) ≡ skipped false l = ap (λ (n : ℕ). skipped false (drop n s)) {x = i + 1} {y = suc i} (omega arith) in
    omega arith
  where
    by : (u : Bool) → u ≡ true → (l : List ℕ) → ◌≡◌ {A = ℕ} (elim u [ true ↦ suc (skipped false l) | false ↦ elim (eqb (byte_at s i) 47 && eqb (byte_at l 0) 47) [ true ↦ suc (skipped true l) | false ↦ 0 ] ]) (suc (skipped false l))
    by true e l = refl
    by false e l = absurd (true≢false (sym e))

module _ {s t : List ℕ} {lo q q' : ℕ} (copy : Copied s t lo q q') (stop : is_stop (byte_at t q') ≡ true) where
  pub skip_copied : (i i' : ℕ) → lo ≤ i → i + q' ≡ i' + q → skip_all s i < q → skip_all t i' + q ≡ skip_all s i + q'
  unfolding skip_all
  skip_copied i i' l at h =
      let in_s = copy.in_s in
      let in_t = copy.in_t in
      let x : List ℕ = slice i q s in
      let y : List ℕ = drop q s in
      let y' : List ℕ = drop q' t in
      let n : length x ≡ q - i = length-slice i q s in_s in
      let a : drop i s ≡ x ++ y = in_two s i q (omega arith) in_s in
      let a' : drop i' t ≡ x ++ y' = in_two t i' q' (omega arith) in_t ∙ ap (λ (z : List ℕ). z ++ y') (text_copied copy i i' q q' l (omega arith) (omega arith) at (omega arith)) in
      let f : eqb (byte_at y' 0) 47 ≡ false = ap (λ (b : ℕ). eqb b 47) (byte_drop t q' 0 ∙ ap (byte_at t) {x = q' + 0} {y = q'} (omega arith)) ∙ is_slash (byte_at t q') stop in
      let b = ap (skipped false) a in
      let r : skipped false (drop i' t) ≡ skipped false (drop i s) = ap (skipped false) a' ∙ skip_alike false x y y' f (omega arith) ∙ sym b in
      omega arith
