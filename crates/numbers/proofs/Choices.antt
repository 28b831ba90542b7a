-- How a choice follows from its test.
use mathlib.Core.Path.{◌≡◌, refl, sym, ap, ◌∙◌}
use mathlib.Core.Bool.{Bool, true, false, ◌&&◌, true≢false, cond}
use Prim.Native.Nat.{ℕ, ◌≤◌}
use lib.Dec.{leb}
use borrow.Author.Tests.{leb-true}

-- what a callee answers is what its definition says, and the answer is known
pub so : {A : Type 0} {r d v : A} → r ≡ d → r ≡ v → d ≡ v
so e h = sym e ∙ h

pub first : {A : Type 0} {t : Bool} {a x : A} (b : A) → t ≡ true → x ≡ a → x ≡ cond t a b
first b h g = rw h g

pub second : {A : Type 0} {t : Bool} (a : A) {b x : A} → t ≡ false → x ≡ b → x ≡ cond t a b
second a h g = rw h g

-- a test that was made on a value known by an equation
pub at : {A : Type 0} (p : A → Bool) {a b : A} {u : Bool} → a ≡ b → p a ≡ u → p b ≡ u
at p e h = ap p (sym e) ∙ h

pub and : {a b : Bool} → a ≡ true → b ≡ true → (a && b) ≡ true
and h k = rw (h, k)

pub and_left : (a b : Bool) → (a && b) ≡ true → a ≡ true
and_left true b h = refl
and_left false b h = h

pub and_right : (a b : Bool) → (a && b) ≡ true → b ≡ true
and_right true b h = h
and_right false b h = absurd (true≢false (sym h))

pub not_left : {a : Bool} (b : Bool) → a ≡ false → (a && b) ≡ false
not_left b h = rw h

pub not_right : (a : Bool) {b : Bool} → b ≡ false → (a && b) ≡ false
not_right true h = h
not_right false h = refl

pub in_range : (lo hi b : ℕ) → (leb lo b && leb b hi) ≡ true → (lo ≤ b) × (b ≤ hi)
in_range lo hi b h = (leb-true lo b (and_left (leb lo b) (leb b hi) h), leb-true b hi (and_right (leb lo b) (leb b hi) h))
