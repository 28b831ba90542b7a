-- What a remainder of floats is where one is no number, infinite or zero, and that it has the sign of the first.
use mathlib.Core.Path.{◌≡◌, refl, sym, ap, ◌∙◌, subst}
use Prim.Native.Nat.{ℕ, zero, suc, ◌+◌, ◌*◌, ◌%◌, ◌^◌, ◌<◌, ◌≤◌}
use native.Mathlib.Nat.{zero-mul, zero-lt-suc, lt_irrefl, lt_of_lt_of_le, mul-pos, le_refl}
use mathlib.Core.Bool.{Bool, true, false, not, cond, true≢false}
use lib.IntN.{ℤ, pos}
use lib.Dec.{T, ltb, eqb, ltb→lt, lt→ltb, nltb→le}
use lib.Ieee.{Float, nan, inf, fin, Format, binary64, low, prec, emax, up, down, odd, units, round, add, sub, neg, div, rem, lt, of_bits, is_nan}
use lib.Ieee.Fits.{up_pos, down_pos}
use Rattle.std.specs.Float.{float_is_finite, is_sign_negative, float_with_sign}
use Rattle.remainders.specs.Amounts.{amount, divisor}
use Rattle.remainders.proofs.Left.{zero_is}

abbrev b64 : Format
b64 = binary64

pub endless : (a b : Float) → float_is_finite a ≡ false → sub b64 a a ≡ rem b64 a b
unfolding float_is_finite sub add neg rem
endless nan b h = refl
endless (inf false) b h = refl
endless (inf true) b h = refl
endless (fin s m e) b h = absurd (true≢false h)

pub by_nan : (a b : Float) → float_is_finite a ≡ true → is_nan b ≡ true → b ≡ rem b64 a b
unfolding float_is_finite is_nan rem
by_nan nan b p q = absurd (true≢false (sym p))
by_nan (inf s) b p q = absurd (true≢false (sym p))
by_nan (fin s m e) nan p q = refl
by_nan (fin s m e) (inf t) p q = absurd (true≢false (sym q))
by_nan (fin s m e) (fin t n d) p q = absurd (true≢false (sym q))

pub by_endless : (a b : Float) → float_is_finite a ≡ true → is_nan b ≡ false → float_is_finite b ≡ false → a ≡ rem b64 a b
unfolding float_is_finite is_nan rem
by_endless nan b p q r = absurd (true≢false (sym p))
by_endless (inf s) b p q r = absurd (true≢false (sym p))
by_endless (fin s m e) nan p q r = absurd (true≢false q)
by_endless (fin s m e) (inf t) p q r = refl
by_endless (fin s m e) (fin t n d) p q r = absurd (true≢false r)

pub abs_amount : (a x : Float) → float_is_finite a ≡ true → x ≡ float_with_sign false a → T (amount x)
unfolding float_is_finite float_with_sign
abs_amount nan x p h = absurd (true≢false (sym p))
abs_amount (inf s) x p h = absurd (true≢false (sym p))
abs_amount (fin s m e) x p h = subst (λ (z : Float). T (amount z)) (sym h) tt

no_more : (d : ℤ) → ¬ (0 * up (pos 0) * down d < 0 * up d * down (pos 0))
no_more d k = lt_irrefl 0 (lt_of_lt_of_le (subst (λ (z : ℕ). z < 0 * up d * down (pos 0)) (nothing (up (pos 0)) (down d)) k) (subst (λ (z : ℕ). z ≤ 0) (sym (nothing (up d) (down (pos 0)))) (le_refl 0)))
  where
    nothing : (a b : ℕ) → 0 * a * b ≡ 0
    nothing a b = ap (λ (z : ℕ). z * b) (zero-mul a) ∙ zero-mul b

pub abs_divisor : (b y : Float) → float_is_finite b ≡ true → y ≡ float_with_sign false b → lt (of_bits b64 0) y ≡ true → T (divisor y)
unfolding float_is_finite float_with_sign lt
abs_divisor nan y p h k = absurd (true≢false (sym p))
abs_divisor (inf s) y p h k = absurd (true≢false (sym p))
abs_divisor (fin t n d) y p h k =
    subst (λ (z : Float). T (divisor z)) (sym h) (more n d (subst (λ (z : Float). lt z (fin false n d) ≡ true) zero_is (subst (λ (z : Float). lt (of_bits b64 0) z ≡ true) h k)))
  where
    more : (n : ℕ) (d : ℤ) → lt (fin false 0 (pos 0)) (fin false n d) ≡ true → T (ltb 0 n)
    more zero d k = absurd (no_more d (ltb→lt (0 * up (pos 0) * down d) (0 * up d * down (pos 0)) (subst T (sym k) tt)))
    more (suc n) d k = lt→ltb 0 (suc n) (zero-lt-suc n)

pub by_zero : (a b y : Float) → float_is_finite a ≡ true → float_is_finite b ≡ true → y ≡ float_with_sign false b → lt (of_bits b64 0) y ≡ false → div b64 b b ≡ rem b64 a b
unfolding float_is_finite float_with_sign lt div rem
by_zero nan b y p q h k = absurd (true≢false (sym p))
by_zero (inf s) b y p q h k = absurd (true≢false (sym p))
by_zero (fin s m e) nan y p q h k = absurd (true≢false (sym q))
by_zero (fin s m e) (inf t) y p q h k = absurd (true≢false (sym q))
by_zero (fin s m e) (fin t n d) y p q h k = none n (subst (λ (z : Float). lt z (fin false n d) ≡ false) zero_is (subst (λ (z : Float). lt (of_bits b64 0) z ≡ false) h k))
  where
    none : (n : ℕ) → lt (fin false 0 (pos 0)) (fin false n d) ≡ false → div b64 (fin t n d) (fin t n d) ≡ rem b64 (fin s m e) (fin t n d)
    none zero k = refl
    none (suc n) k =
        absurd (lt_irrefl 0 (lt_of_lt_of_le (mul-pos (mul-pos (zero-lt-suc n) (up_pos d)) (down_pos (pos 0))) (subst (λ (z : ℕ). suc n * up d * down (pos 0) ≤ z) (nothing (up (pos 0)) (down d)) (nltb→le (0 * up (pos 0) * down d) (suc n * up d * down (pos 0)) (subst (λ (b : Bool). T (not b)) (sym k) tt)))))
      where
        nothing : (a b : ℕ) → 0 * a * b ≡ 0
        nothing a b = ap (λ (z : ℕ). z * b) (zero-mul a) ∙ zero-mul b

-- ---- the sign
neg_cond : (c : Bool) (x y : Float) → neg (cond c x y) ≡ cond c (neg x) (neg y)
neg_cond true x y = refl
neg_cond false x y = refl

neg_odd : (n q k l : ℕ) → neg (odd n false q k l) ≡ odd n true q k l
unfolding neg odd
neg_odd n zero k l = refl
neg_odd n (suc q) k l = refl

neg_units : (f : Format) (q k : ℕ) → neg (units f false q k) ≡ units f true q k
unfolding units neg
neg_units f q k =
    neg_cond (ltb (q * 2 ^ k) (2 ^ (low f + suc (emax f)))) (odd (suc (prec f)) false q k (low f)) (inf false)
    ∙ ap (λ (z : Float). cond (ltb (q * 2 ^ k) (2 ^ (low f + suc (emax f)))) z (inf true)) (neg_odd (suc (prec f)) q k (low f))

neg_round : (f : Format) (a b : ℕ) → neg (round f false a b) ≡ round f true a b
unfolding round
neg_round f a b = neg_units f _ _

pub negative : (a b x y r : Float) → float_is_finite a ≡ true → float_is_finite b ≡ true → x ≡ float_with_sign false a → y ≡ float_with_sign false b → r ≡ rem b64 x y → true ≡ is_sign_negative a → neg r ≡ rem b64 a b
unfolding float_is_finite float_with_sign is_sign_negative rem neg
negative nan b x y r p q h k g s = absurd (true≢false (sym p))
negative (inf s) b x y r p q h k g t = absurd (true≢false (sym p))
negative (fin s m e) nan x y r p q h k g t = absurd (true≢false (sym q))
negative (fin s m e) (inf u) x y r p q h k g t = absurd (true≢false (sym q))
negative (fin false m e) (fin u n d) x y r p q h k g t = absurd (true≢false t)
negative (fin true m e) (fin u n d) x y r p q h k g t =
    ap neg (g ∙ (λ i. rem b64 (h i) (k i)))
    ∙ neg_cond (eqb n 0) nan (round b64 false (m * up e * down d % (n * up d * down e)) (down e * down d))
    ∙ ap (cond (eqb n 0) nan) (neg_round b64 (m * up e * down d % (n * up d * down e)) (down e * down d))

pub plain : (a b x y r : Float) → float_is_finite a ≡ true → float_is_finite b ≡ true → x ≡ float_with_sign false a → y ≡ float_with_sign false b → r ≡ rem b64 x y → false ≡ is_sign_negative a → r ≡ rem b64 a b
unfolding float_is_finite float_with_sign is_sign_negative rem neg
plain nan b x y r p q h k g s = absurd (true≢false (sym p))
plain (inf s) b x y r p q h k g t = absurd (true≢false (sym p))
plain (fin s m e) nan x y r p q h k g t = absurd (true≢false (sym q))
plain (fin s m e) (inf u) x y r p q h k g t = absurd (true≢false (sym q))
plain (fin false m e) (fin u n d) x y r p q h k g t = g ∙ (λ i. rem b64 (h i) (k i))
plain (fin true m e) (fin u n d) x y r p q h k g t = absurd (true≢false (sym t))
