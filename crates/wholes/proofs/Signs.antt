-- The sign of a number, its magnitude, and quotients by them.
use Rattle.std.proofs.Common.{◌≡◌, ℕ, suc, ◌+◌, ◌-◌, ◌/◌, ◌%◌, ◌^◌, ◌<◌, ◌≤◌, Bool, true, false, cond, not, ◌&&◌, T, eqb, ltb, leb, ℤ, pos, negsuc, ◌-ℤ◌, neg_ℤ, nat_abs, sym, refl, ap, ◌∙◌, lt_of_lt_of_le, mod-lt, mod-eq_of_lt, arith, lit≤, leb→le, ltb-false, ltb-true, le-ltb, lt-ltb, eq-eqb, ne_eqb, le-leb, leb-false, leb-true, Some, None, ◌⊎◌, inl, inr}
use borrow.Author.Tests.{lt-leb}
use mathlib.Core.Bool.{beq}
use lib.IntN.{+ℤ_idl}
use lib.Signed.{non_neg, quot_z, rem_z, lt_z}
use Rattle.wholes.specs.Wholes.{lowest, standing, number, signed_of, span, or_none, quotient_of, remainder_of}
use Rattle.wholes.specs.declared.Integer.{Integer}
use Rattle.wholes.proofs.Laws.{some, opposite}

pub cut : (t u : Integer) (x : ℕ) → t ≡ u → x % span u ≡ x % span t
cut t u x e = ap (λ (v : Integer). x % span v) (sym e)

pub kept : (t u : Integer) (x : ℕ) → t ≡ u → x < span u → x ≡ x % span t
kept t u x e h = sym (mod-eq_of_lt h) ∙ cut t u x e

signs : (s : Bool) (m p : ℕ) → not (non_neg (standing s m p)) ≡ (s && leb m (p + p))
unfolding standing
signs s m p = go (s && leb m (p + p)) where
  go : (b : Bool) → not (non_neg (cond b (negsuc (m - suc p)) (pos p))) ≡ b
  go true = refl
  go false = refl

halved : (h p : ℕ) → leb h p ≡ leb (h + h) (p + p)
halved h p = go (leb h p) refl where
  go : (b : Bool) → leb h p ≡ b → b ≡ leb (h + h) (p + p)
  go true e = sym (le-leb (h + h) (p + p) (omega (arith, leb-true h p e)))
  go false e = sym (lt-leb (h + h) (p + p) (omega (arith, leb-false h p e)))

-- a type with a sign: below zero from half of its span on
pub below : (t u : Integer) (a r h : ℕ) → t ≡ u → r ≡ a % span t → signed_of u ≡ true → h + h ≡ span u → leb h r ≡ not (non_neg (number t a))
unfolding number
below t u a r h e f s w =
    ap (λ (x : ℕ). leb h x) (f ∙ sym (cut t u a e)) ∙ halved h (a % span u) ∙ ap (λ (z : ℕ). leb z (a % span u + a % span u)) w ∙ ap (λ (b : Bool). b && leb (span u) (a % span u + a % span u)) (sym s)
    ∙ sym (signs (signed_of u) (span u) (a % span u)) ∙ ap (λ (v : Integer). not (non_neg (number v a))) (sym e)

pub unsigned : (t : Integer) → (t ≡ Integer.U8) ⊎ ((t ≡ Integer.U16) ⊎ ((t ≡ Integer.U32) ⊎ (t ≡ Integer.U64))) → signed_of t ≡ false
unsigned t (inl e) = ap signed_of e
unsigned t (inr (inl e)) = ap signed_of e
unsigned t (inr (inr (inl e))) = ap signed_of e
unsigned t (inr (inr (inr e))) = ap signed_of e

pub never : (t : Integer) (a : ℕ) → signed_of t ≡ false → false ≡ not (non_neg (number t a))
unfolding number
never t a s =
    ap (λ (b : Bool). b && leb (span t) (a % span t + a % span t)) (sym s) ∙ sym (signs (signed_of t) (span t) (a % span t))

standing_under : (s : Bool) (m p : ℕ) → p < m → not (non_neg (standing s m p)) ≡ true → lowest m (neg_ℤ (standing s m p)) ≡ nat_abs (standing s m p)
unfolding standing lowest
standing_under s m p h = go (s && leb m (p + p)) (low s) where
  low : (s : Bool) → T (s && leb m (p + p)) → m ≤ p + p
  low true t = leb→le m (p + p) t
  low false t = absurd t

  go : (b : Bool) → (T b → m ≤ p + p) → not (non_neg (cond b (negsuc (m - suc p)) (pos p))) ≡ true → lowest m (neg_ℤ (cond b (negsuc (m - suc p)) (pos p))) ≡ nat_abs (cond b (negsuc (m - suc p)) (pos p))
  go true f e = mod-eq_of_lt (omega (arith, f tt, h))
  go false f e = cc

standing_over : (s : Bool) (m p : ℕ) → not (non_neg (standing s m p)) ≡ false → p ≡ nat_abs (standing s m p)
unfolding standing
standing_over s m p = go (s && leb m (p + p)) where
  go : (b : Bool) → not (non_neg (cond b (negsuc (m - suc p)) (pos p))) ≡ false → p ≡ nat_abs (cond b (negsuc (m - suc p)) (pos p))
  go true e = cc
  go false e = refl

pub size_under : (t : Integer) (a : ℕ) → not (non_neg (number t a)) ≡ true → lowest (span t) (neg_ℤ (number t a)) ≡ nat_abs (number t a)
unfolding number
size_under t a e = standing_under (signed_of t) (span t) (a % span t) (mod-lt a (some t)) e

pub size_over : (t : Integer) (a : ℕ) → not (non_neg (number t a)) ≡ false → a % span t ≡ nat_abs (number t a)
unfolding number
size_over t a e = standing_over (signed_of t) (span t) (a % span t) e

-- ---- two signs that are told to be the same, or not

pub same_sign : (x y : ℤ) {b c : Bool} → b ≡ not (non_neg x) → c ≡ not (non_neg y) → beq b c ≡ true → not (non_neg y) ≡ not (non_neg x)
same_sign x y e f h = go (not (non_neg x)) (not (non_neg y)) ((λ i. beq (sym e i) (sym f i)) ∙ h) where
  go : (b c : Bool) → beq b c ≡ true → c ≡ b
  go true true h = refl
  go true false h = cc
  go false true h = cc
  go false false h = refl

pub other_sign : (x y : ℤ) {b c : Bool} → b ≡ not (non_neg x) → c ≡ not (non_neg y) → beq b c ≡ false → not (non_neg y) ≡ not (not (non_neg x))
other_sign x y e f h = go (not (non_neg x)) (not (non_neg y)) ((λ i. beq (sym e i) (sym f i)) ∙ h) where
  go : (b c : Bool) → beq b c ≡ false → c ≡ not b
  go true true h = cc
  go true false h = refl
  go false true h = refl
  go false false h = cc

-- ---- quotients

quot_alike : (m : ℕ) (x y : ℤ) (b : Bool) → not (non_neg x) ≡ b → not (non_neg y) ≡ b → nat_abs x / nat_abs y % m ≡ lowest m (quot_z x y)
unfolding lowest
quot_alike m (pos n) (pos k) b e f = refl
quot_alike m (pos n) (negsuc k) b e f = cc
quot_alike m (negsuc n) (pos k) b e f = cc
quot_alike m (negsuc n) (negsuc k) b e f = refl

quot_unlike : (m : ℕ) (x y : ℤ) (b : Bool) → not (non_neg x) ≡ b → not (non_neg y) ≡ not b → lowest m (neg_ℤ (pos (nat_abs x / nat_abs y))) ≡ lowest m (quot_z x y)
quot_unlike m (pos n) (pos k) true e f = cc
quot_unlike m (pos n) (pos k) false e f = cc
quot_unlike m (pos n) (negsuc k) b e f = refl
quot_unlike m (negsuc n) (pos k) b e f = refl
quot_unlike m (negsuc n) (negsuc k) true e f = cc
quot_unlike m (negsuc n) (negsuc k) false e f = cc

rem_over : (m : ℕ) (x y : ℤ) → not (non_neg x) ≡ false → nat_abs x % nat_abs y % m ≡ lowest m (rem_z x y)
unfolding lowest
rem_over m (pos n) y e = refl
rem_over m (negsuc n) y e = cc

rem_under : (m : ℕ) (x y : ℤ) → not (non_neg x) ≡ true → lowest m (neg_ℤ (pos (nat_abs x % nat_abs y))) ≡ lowest m (rem_z x y)
rem_under m (pos n) y e = cc
rem_under m (negsuc n) y e = refl

some_part : (d n k : ℕ) → (d ≡ 0 → ⊥) → n ≡ k → Some n ≡ or_none (eqb d 0) k
unfolding or_none
some_part d n k h e = ap (λ (z : ℕ). Some z) e ∙ ap (λ (b : Bool). or_none b k) (sym (ne_eqb d 0 h))

pub no_part : (d k : ℕ) → d ≡ 0 → None ≡ or_none (eqb d 0) k
unfolding or_none
no_part d k e = ap (λ (b : Bool). or_none b k) (sym (eq-eqb d 0 e))

module _ (t : Integer) (a b d n : ℕ) (D : d ≡ nat_abs (number t b)) (N : n ≡ nat_abs (number t a)) where
  pub no_quotient : d ≡ 0 → None ≡ quotient_of t a b
  unfolding quotient_of
  no_quotient e = no_part (nat_abs (number t b)) (lowest (span t) (quot_z (number t a) (number t b))) (sym D ∙ e)

  pub no_remainder : d ≡ 0 → None ≡ remainder_of t a b
  unfolding remainder_of
  no_remainder e = no_part (nat_abs (number t b)) (lowest (span t) (rem_z (number t a) (number t b))) (sym D ∙ e)

  module _ (h : d ≡ 0 → ⊥) (r : ℕ) where
    pub alike : (s : Bool) → not (non_neg (number t a)) ≡ s → not (non_neg (number t b)) ≡ s → r ≡ n / d % span t → Some r ≡ quotient_of t a b
    unfolding quotient_of
    alike s e f w =
        some_part (nat_abs (number t b)) r (lowest (span t) (quot_z (number t a) (number t b))) (λ z. h (D ∙ z))
        (w ∙ (λ i. N i / D i % span t) ∙ quot_alike (span t) (number t a) (number t b) s e f)

    pub unlike : (s : Bool) → not (non_neg (number t a)) ≡ s → not (non_neg (number t b)) ≡ not s → r ≡ lowest (span t) (neg_ℤ (number t (n / d))) → Some r ≡ quotient_of t a b
    unfolding quotient_of
    unlike s e f w =
        some_part (nat_abs (number t b)) r (lowest (span t) (quot_z (number t a) (number t b))) (λ z. h (D ∙ z))
        (w ∙ opposite t (n / d) ∙ (λ i. lowest (span t) (neg_ℤ (pos (N i / D i)))) ∙ quot_unlike (span t) (number t a) (number t b) s e f)

    pub rest_over : not (non_neg (number t a)) ≡ false → r ≡ n % d % span t → Some r ≡ remainder_of t a b
    unfolding remainder_of
    rest_over e w =
        some_part (nat_abs (number t b)) r (lowest (span t) (rem_z (number t a) (number t b))) (λ z. h (D ∙ z))
        (w ∙ (λ i. N i % D i % span t) ∙ rem_over (span t) (number t a) (number t b) e)

    pub rest_under : not (non_neg (number t a)) ≡ true → r ≡ lowest (span t) (neg_ℤ (number t (n % d))) → Some r ≡ remainder_of t a b
    unfolding remainder_of
    rest_under e w =
        some_part (nat_abs (number t b)) r (lowest (span t) (rem_z (number t a) (number t b))) (λ z. h (D ∙ z))
        (w ∙ opposite t (n % d) ∙ (λ i. lowest (span t) (neg_ℤ (pos (N i % D i)))) ∙ rem_under (span t) (number t a) (number t b) e)

-- ---- zero, and order

zero_is : (t : Integer) → number t 0 ≡ pos 0
unfolding number standing
zero_is Integer.I8 = refl
zero_is Integer.I16 = refl
zero_is Integer.I32 = refl
zero_is Integer.I64 = refl
zero_is Integer.U8 = refl
zero_is Integer.U16 = refl
zero_is Integer.U32 = refl
zero_is Integer.U64 = refl

pub from_zero : (t : Integer) (a : ℕ) → number t 0 -ℤ number t a ≡ neg_ℤ (number t a)
from_zero t a = ap (λ (z : ℤ). z -ℤ number t a) (zero_is t) ∙ +ℤ_idl (neg_ℤ (number t a))

turned_order : (m p q : ℕ) → p < m → q < m → ltb p q ≡ ltb (m - suc q) (m - suc p)
turned_order m p q h k = go (ltb p q) refl where
  go : (b : Bool) → ltb p q ≡ b → b ≡ ltb (m - suc q) (m - suc p)
  go true e = sym (lt-ltb (m - suc q) (m - suc p) (omega (arith, ltb-true p q e)))
  go false e = sym (le-ltb (m - suc q) (m - suc p) (omega (arith, ltb-false p q e)))

module _ (m p q : ℕ) (P : p < m) (Q : q < m) where
  cond_order : (b c s : Bool) → not (non_neg (cond b (negsuc (m - suc p)) (pos p))) ≡ s → not (non_neg (cond c (negsuc (m - suc q)) (pos q))) ≡ s
      → ltb p q ≡ lt_z (cond b (negsuc (m - suc p)) (pos p)) (cond c (negsuc (m - suc q)) (pos q))
  cond_order true true s e f = turned_order m p q P Q
  cond_order true false s e f = cc
  cond_order false true s e f = cc
  cond_order false false s e f = refl

pub less_alike : (a b : ℕ) (s : Bool) → a < 2 ^ 64 → b < 2 ^ 64 → not (non_neg (number Integer.I64 a)) ≡ s → not (non_neg (number Integer.I64 b)) ≡ s → ltb a b ≡ lt_z (number Integer.I64 a) (number Integer.I64 b)
unfolding number standing
less_alike a b s A B e f =
    let m = 2 ^ 64 in
    let p = a % m in
    let q = b % m in
    (λ i. ltb (sym (mod-eq_of_lt A) i) (sym (mod-eq_of_lt B) i))
    ∙ cond_order m p q (mod-lt a {m = m} (omega arith)) (mod-lt b {m = m} (omega arith)) (leb m (p + p)) (leb m (q + q)) s e f

-- ---- the sign drawn out to 64 bits

fits_64 : (t : Integer) → span t ≤ 2 ^ 64
fits_64 Integer.I8 = lit≤ tt
fits_64 Integer.I16 = lit≤ tt
fits_64 Integer.I32 = lit≤ tt
fits_64 Integer.I64 = lit≤ tt
fits_64 Integer.U8 = lit≤ tt
fits_64 Integer.U16 = lit≤ tt
fits_64 Integer.U32 = lit≤ tt
fits_64 Integer.U64 = lit≤ tt

drawn_under : (m : ℕ) (z : ℤ) → not (non_neg z) ≡ true → lowest m (neg_ℤ (pos (nat_abs z))) ≡ lowest m z
drawn_under m (pos n) e = cc
drawn_under m (negsuc n) e = refl

drawn_over : (m n : ℕ) (z : ℤ) → not (non_neg z) ≡ false → n ≡ nat_abs z → n < m → n ≡ lowest m z
unfolding lowest
drawn_over m n (pos k) e f h = sym (mod-eq_of_lt h) ∙ ap (λ (x : ℕ). x % m) f
drawn_over m n (negsuc k) e f h = cc

pub extended_under : (t : Integer) (a n : ℕ) → not (non_neg (number t a)) ≡ true → n ≡ nat_abs (number t a) → lowest (span Integer.U64) (neg_ℤ (number Integer.U64 n)) ≡ lowest (2 ^ 64) (number t a)
extended_under t a n e f = opposite Integer.U64 n ∙ ap (λ (x : ℕ). lowest (2 ^ 64) (neg_ℤ (pos x))) f ∙ drawn_under (2 ^ 64) (number t a) e

pub extended_over : (t : Integer) (a : ℕ) → not (non_neg (number t a)) ≡ false → a % span t ≡ lowest (2 ^ 64) (number t a)
extended_over t a e = drawn_over (2 ^ 64) (a % span t) (number t a) e (size_over t a e) (lt_of_lt_of_le (mod-lt a (some t)) (fits_64 t))
