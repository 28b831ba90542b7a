-- There is one first difference, and none between a list and itself.
use mathlib.Core.Path.{◌≡◌, refl, sym, ap, subst}
use mathlib.Core.List.{List, [], ◌∷◌, ◌++◌, head-eq_of_cons-eq, tail-eq_of_cons-eq}
use mathlib.Core.Logic.{◌⊎◌, inl, inr}
use mathlib.Core.Bool.{Bool, true, false}
use mathlib.Core.Logic.{◌≢◌}
use Prim.Native.Nat.{ℕ, suc, ◌≤◌, ◌<◌}
use native.Mathlib.Omega.{arith}
use lib.Dec.{eqb}
use lib.ListN.{length}
use borrow.Author.Tests.{eqb-true, eqb-false}
use Rattle.grammar.specs.Rows.{Row}
use Rattle.sheets.proofs.Noted.{same_row, same_row_lem, other_row}
use Rattle.sheets.specs.Matches.{Differ, other, missing, too_many, later}

module _ {A : Type 0} where
  pub one_difference : {xs ys : List A} {m n : ℕ} → Differ xs ys m → Differ xs ys n → m ≡ n
  one_difference (other h) (other k) = refl
  one_difference (other h) (later e d) = absurd (h e)
  one_difference missing missing = refl
  one_difference too_many too_many = refl
  one_difference (later e d) (other h) = absurd (h e)
  one_difference (later e d) (later e' d') = ap suc (one_difference d d')

  pub no_difference : {xs ys : List A} {n : ℕ} → Differ xs ys n → xs ≡ ys → ⊥
  no_difference (other h) q = h (head-eq_of_cons-eq q)
  no_difference missing q = let z = ap length q in absurd (omega (arith, z))
  no_difference too_many q = let z = ap length q in absurd (omega (arith, z))
  no_difference (later e d) q = no_difference d (tail-eq_of_cons-eq q)

  -- what is too many behind a list that is the same
  pub behind_all : (ys : List A) (x : A) (xs : List A) → Differ (ys ++ (x ∷ xs)) ys (length ys)
  behind_all [] x xs = too_many
  behind_all (y ∷ ys) x xs = later refl (behind_all ys x xs)

  -- a difference in the front of a list is one of the list
  pub front_difference : (xs ys zs : List A) {n : ℕ} → Differ xs ys n → n < length ys → (zs ≡ []) ⊎ (length ys ≤ length xs) → Differ (xs ++ zs) ys n
  front_difference [] [] zs {n = n} x6 l w = elim x6 [ ]
  front_difference (x ∷ xs) (y ∷ ys) zs (other h) l w = other h
  front_difference [] (y ∷ ys) zs missing l (inl e) = subst (λ (z : List A). Differ z (y ∷ ys) 0) (sym e) missing
  front_difference [] (y ∷ ys) zs missing l (inr k) = absurd (omega arith)
  front_difference (x ∷ xs) [] zs too_many l w = too_many
  front_difference (x ∷ xs) (y ∷ ys) zs (later {n = n} e d) l w = later e (front_difference xs ys zs d (omega arith) (less w))
    where
      less : (zs ≡ []) ⊎ (suc (length ys) ≤ suc (length xs)) → (zs ≡ []) ⊎ (length ys ≤ length xs)
      less (inl e) = inl e
      less (inr k) = inr (omega arith)

  -- two lists are the same, or there is a first difference
  pub difference : ((x y : A) → (x ≡ y) ⊎ (x ≢ y)) → (xs ys : List A) → (xs ≡ ys) ⊎ ((n : ℕ) × Differ xs ys n)
  difference dec [] [] = inl refl
  difference dec [] (y ∷ ys) = inr (0, missing)
  difference dec (x ∷ xs) [] = inr (0, too_many)
  difference dec (x ∷ xs) (y ∷ ys) = go (difference dec xs ys) (dec x y)
    where
      go : (xs ≡ ys) ⊎ ((n : ℕ) × Differ xs ys n) → (x ≡ y) ⊎ (x ≢ y) → (x ∷ xs ≡ y ∷ ys) ⊎ ((n : ℕ) × Differ (x ∷ xs) (y ∷ ys) n)
      go k (inr h) = inr (0, other h)
      go (inl q) (inl e) = inl λ i. e i ∷ q i
      go (inr d) (inl e) = inr (suc d.0, later e d.1)

pub same_number_or_not : (x y : ℕ) → (x ≡ y) ⊎ (x ≢ y)
same_number_or_not x y = go (eqb x y) refl
  where
    go : (b : Bool) → eqb x y ≡ b → (x ≡ y) ⊎ (x ≢ y)
    go true e = inl (eqb-true x y e)
    go false e = inr (eqb-false x y e)

pub same_row_or_not : (x y : Row) → (x ≡ y) ⊎ (x ≢ y)
same_row_or_not x y = go (same_row x y) refl
  where
    go : (b : Bool) → same_row x y ≡ b → (x ≡ y) ⊎ (x ≢ y)
    go true e = inl (same_row_lem x y e)
    go false e = inr (other_row x y e)
