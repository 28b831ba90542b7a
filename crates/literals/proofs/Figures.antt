-- The digits of a literal: a run of digits and `_` holds digits alone, what digits write, and that they are at most 19 exactly where that is below 10 ^ 19.
use mathlib.Core.Path.{◌≡◌, refl, sym, ap, ◌∙◌, subst}
use mathlib.Core.Logic.{⊎_elim}
use Prim.Native.Nat.{ℕ, zero, suc, ◌+◌, ◌-◌, ◌*◌, ◌^◌, ◌≤◌, ◌<◌, suc-le-suc, zero-le}
use native.Mathlib.Nat.{le_trans, le_of_eq, lt_of_lt_of_le, add-mul, mul_assoc, mul_right_comm, mul-le-mul_right, pow-suc}
use native.Mathlib.Omega.{arith}
use mathlib.Core.List.{List, [], ◌∷◌, ◌++◌, map}
use mathlib.Core.Bool.{Bool, true, false, ◌||◌, cond}
use lib.ListN.{length, take, drop, get_or}
use lib.Seq.{slice, drop-cons}
use lib.Dec.{leb, ltb, eqb}
use borrow.Author.Tests.{lt-ltb, le-ltb, le-leb, lt-leb, ltb-true, ne_eqb}
use Rattle.chars.specs.declared.Class.TheVariants.{Figure}
use Rattle.chars.specs.Chars.{byte_at, is_digit, is_class}
use Rattle.chars.specs.Runs.{span, past_span, past_run}
use Rattle.chars.proofs.Runs.{byte_in, within}
use Rattle.tokens.specs.Rules.{fraction_at}
use Rattle.numbers.specs.Digits.{digit_of, value_from, value_of, all_below, plain}
use Rattle.numbers.proofs.Choices.{first, second, and, and_left, and_right, in_range}
use Rattle.numbers.proofs.Digits.{digit_ten}
use Rattle.chars.proofs.Texts.{part_slice}
use Rattle.floats.proofs.Patterns.{less_or_not}
use Rattle.floats.proofs.Decimals.{ten_up}
use Rattle.literals.specs.Decimals.{digits_at, point_of, before, after, digits, from_first}

-- the digits of a text of digits and `_`
abbrev pub figures : List ℕ → List ℕ
figures text = map digit_of (plain true text)

-- ---- a run of figures
abbrev run : List ℕ → ℕ
run l = span (λ c b. is_class Figure b) (λ c b. c) false l

ten : (b : ℕ) → is_digit b ≡ true → ltb (digit_of b) 10 ≡ true
ten b h = let r : (48 ≤ b) × (b ≤ 57) = in_range 48 57 b h in ap (λ (x : ℕ). ltb x 10) (sym (digit_ten b h)) ∙ lt-ltb (b - 48) 10 (omega arith)

plain_gap : (b : ℕ) (m : List ℕ) → eqb b 95 ≡ true → plain true (b ∷ m) ≡ plain true m
unfolding plain
plain_gap b m f = sym (first (b ∷ plain true m) f refl)

plain_keep : (b : ℕ) (m : List ℕ) → eqb b 95 ≡ false → plain true (b ∷ m) ≡ b ∷ plain true m
unfolding plain
plain_keep b m f = sym (second (plain true m) f refl)

run_digits : (l : List ℕ) → all_below 10 (figures (take (run l) l)) ≡ true
unfolding span is_class plain all_below
run_digits [] = refl
run_digits (b ∷ l) = go (run_digits l) (is_digit b) (eqb b 95) refl refl
  where
    gap : all_below 10 (figures (take (run l) l)) ≡ true → eqb b 95 ≡ true → all_below 10 (figures (b ∷ take (run l) l)) ≡ true
    gap h f = ap (λ (m : List ℕ). all_below 10 (map digit_of m)) (plain_gap b (take (run l) l) f) ∙ h

    go : all_below 10 (figures (take (run l) l)) ≡ true → (d u : Bool) → is_digit b ≡ d → eqb b 95 ≡ u
        → all_below 10 (figures (take (elim (d || u) [ true ↦ suc (run l) | false ↦ 0 ]) (b ∷ l))) ≡ true
    go h true true e f = gap h f
    go h false true e f = gap h f
    go h true false e f = ap (λ (m : List ℕ). all_below 10 (map digit_of m)) (plain_keep b (take (run l) l) f) ∙ and (ten b e) h
    go h false false e f = refl

run_some : (b : ℕ) (l : List ℕ) → is_digit b ≡ true → 1 ≤ length (figures (take (run (b ∷ l)) (b ∷ l)))
unfolding span is_class
run_some b l e =
    let r : (48 ≤ b) × (b ≤ 57) = in_range 48 57 b e in
    subst (λ (t : Bool). 1 ≤ length (figures (take (elim (t || eqb b 95) [ true ↦ suc (run l) | false ↦ 0 ]) (b ∷ l)))) (sym e)
    (subst (λ (m : List ℕ). 1 ≤ length (map digit_of m)) (sym (plain_keep b (take (run l) l) (ne_eqb b 95 (λ g. omega arith)))) (suc-le-suc zero-le))

-- ---- the run from a place on
run_at : (t : List ℕ) (at : ℕ) → take (run (drop at t)) (drop at t) ≡ slice at (past_run (is_class Figure) t at) t
unfolding past_run past_span
run_at t at = ap (λ (n : ℕ). take n (drop at t)) (back at (run (drop at t))) ∙ part_slice at (at + run (drop at t)) t
  where
    back : (i x : ℕ) → x ≡ i + x - i
    back i x = omega arith

pub digits_below : (t : List ℕ) (at : ℕ) → all_below 10 (digits_at t at) ≡ true
unfolding digits_at
digits_below t at = subst (λ (l : List ℕ). all_below 10 (figures l) ≡ true) (run_at t at) (run_digits (drop at t))

pub digits_some : (t : List ℕ) (at : ℕ) → is_digit (byte_at t at) ≡ true → 1 ≤ length (digits_at t at)
unfolding digits_at
digits_some t at h =
    subst (λ (l : List ℕ). 1 ≤ length (figures l)) (run_at t at)
    (subst (λ (l : List ℕ). 1 ≤ length (figures (take (run l) l))) (sym (drop-cons t at 0 inner)) (run_some (get_or t at 0) (drop (suc at) t) (ap is_digit (sym (byte_in t at inner)) ∙ h)))
  where
    inner : at < length t
    inner = within is_digit refl t at h

-- ---- before and after the point
module _ (t : List ℕ) where
  pub after_point : fraction_at t (point_of t) ≡ true → digits_at t (point_of t + 1) ≡ after t
  unfolding after
  after_point h = rw h

  pub no_point : fraction_at t (point_of t) ≡ false → [] ≡ after t
  unfolding after
  no_point h = rw h

  pub after_below : all_below 10 (after t) ≡ true
  unfolding after all_below
  after_below = go (fraction_at t (point_of t))
    where
      go : (b : Bool) → all_below 10 (cond b (digits_at t (point_of t + 1)) []) ≡ true
      go true = digits_below t (point_of t + 1)
      go false = refl

  pub all_below_lem : all_below 10 (digits t) ≡ true
  unfolding before all_below
  all_below_lem = joined (digits_at t 0) (after t) (digits_below t 0) after_below
    where
      joined : (a b : List ℕ) → all_below 10 a ≡ true → all_below 10 b ≡ true → all_below 10 (a ++ b) ≡ true
      joined [] b h k = k
      joined (d ∷ a) b h k = and (and_left (ltb d 10) (all_below 10 a) h) (joined a b (and_right (ltb d 10) (all_below 10 a) h) k)

-- ---- the number that digits write
value_behind : (v : ℕ) (ds : List ℕ) → value_from 10 v ds ≡ v * 10 ^ length ds + value_from 10 0 ds
unfolding value_from
value_behind v [] = nothing v
  where
    nothing : (v : ℕ) → v ≡ v * 1 + 0
    nothing v = omega arith
value_behind v (d ∷ ds) =
    let p = 10 ^ length ds in
    let x : value_from 10 (v * 10 + d) ds ≡ (v * 10 + d) * p + value_from 10 0 ds = value_behind (v * 10 + d) ds in
    let y : value_from 10 (0 * 10 + d) ds ≡ (0 * 10 + d) * p + value_from 10 0 ds = value_behind (0 * 10 + d) ds in
    let a : (v * 10 + d) * p ≡ v * 10 * p + d * p = add-mul (v * 10) d p in
    let b : v * 10 * p ≡ v * p * 10 = mul_right_comm v 10 p in
    let e : (0 * 10 + d) * p ≡ d * p = ap (λ (z : ℕ). z * p) (only d) in
    let g : v * 10 ^ suc (length ds) ≡ v * p * 10 = ap (λ (z : ℕ). v * z) (pow-suc 10 (length ds)) ∙ sym (mul_assoc v p 10) in
    omega arith
  where
    only : (d : ℕ) → 0 * 10 + d ≡ d
    only d = omega arith

value_from_lem : (v : ℕ) (a b : List ℕ) → value_from 10 v (a ++ b) ≡ value_from 10 (value_from 10 v a) b
unfolding value_from
value_from_lem v [] b = refl
value_from_lem v (d ∷ a) b = value_from_lem (v * 10 + d) a b

pub value_joined : (a b : List ℕ) → value_of 10 (a ++ b) ≡ value_of 10 a * 10 ^ length b + value_of 10 b
value_joined a b = value_from_lem 0 a b ∙ value_behind (value_from 10 0 a) b

-- a digit and what is behind it
value_first : (d : ℕ) (ds : List ℕ) → value_of 10 (d ∷ ds) ≡ d * 10 ^ length ds + value_of 10 ds
unfolding value_from
value_first d ds = value_behind (0 * 10 + d) ds ∙ ap (λ (z : ℕ). z * 10 ^ length ds + value_from 10 0 ds) (only d)
  where
    only : (d : ℕ) → 0 * 10 + d ≡ d
    only d = omega arith

value_less : (ds : List ℕ) → all_below 10 ds ≡ true → value_of 10 ds < 10 ^ length ds
unfolding all_below
value_less [] h = unfold value_from in omega arith
value_less (d ∷ ds) h =
    let p = 10 ^ length ds in
    let l : d < 10 = ltb-true d 10 (and_left (ltb d 10) (all_below 10 ds) h) in
    let v : value_of 10 ds < p = value_less ds (and_right (ltb d 10) (all_below 10 ds) h) in
    let e : value_of 10 (d ∷ ds) ≡ d * p + value_of 10 ds = value_first d ds in
    let m : d * p ≤ 9 * p = mul-le-mul_right p (nine d l) in
    lt_of_lt_of_le (omega arith) (le_of_eq (sym (pow-suc 10 (length ds))))
  where
    nine : (d : ℕ) → d < 10 → d ≤ 9
    nine d l = omega arith

-- ---- 19 digits
pub few_digits : (ds : List ℕ) → all_below 10 ds ≡ true → leb (length (from_first ds)) 19 ≡ ltb (value_of 10 ds) (10 ^ 19)
unfolding from_first all_below value_from
few_digits [] h = refl
few_digits (zero ∷ ds) h = few_digits ds (and_right (ltb 0 10) (all_below 10 ds) h)
few_digits (suc d ∷ ds) h =
    ⊎_elim
    (λ (l : length ds < 19). le-leb (suc (length ds)) 19 l ∙ sym (lt-ltb (value_of 10 (suc d ∷ ds)) (10 ^ 19) (lt_of_lt_of_le (value_less (suc d ∷ ds) h) (ten_up l))))
    (λ (l : 19 ≤ length ds).
    lt-leb (suc (length ds)) 19 (more (length ds) l)
    ∙ sym (le-ltb (value_of 10 (suc d ∷ ds)) (10 ^ 19) (le_trans (ten_up l) (le_trans (once d (10 ^ length ds) (value_of 10 ds)) (le_of_eq (sym (value_first (suc d) ds)))))))
    (less_or_not (length ds) 19)
  where
    more : (n : ℕ) → 19 ≤ n → 19 < suc n
    more n l = omega arith

    once : (d p v : ℕ) → p ≤ suc d * p + v
    once d p v = let e : (1 + d) * p ≡ 1 * p + d * p = add-mul 1 d p in let g : (1 + d) * p ≡ suc d * p = ap (λ (z : ℕ). z * p) (one d) in omega arith
      where
        one : (d : ℕ) → 1 + d ≡ suc d
        one d = omega arith
