-- Numbers that digits write, over any base: one digit more, and that no digit makes a number less.
use Rattle.std.specs.Prelude.{Some, None}
use mathlib.Core.Logic.{◌⊎◌, inl, inr}
use mathlib.Core.Path.{◌≡◌, refl, sym, ap, ◌∙◌, subst}
use Prim.Native.Nat.{ℕ, suc, ◌+◌, ◌-◌, ◌*◌, ◌/◌, ◌<◌, ◌≤◌}
use mathlib.Core.List.{List, [], ◌∷◌, map}
use mathlib.Core.Bool.{Bool, true, false, ◌&&◌, cond}
use native.Mathlib.Nat.{le_refl, le_trans, add-zero, le-div_iff_mul-le, div-lt_iff_lt-mul, le-mul_of_pos_right, le-add_right, zero-add}
use native.Mathlib.Numerals.{add-one}
use native.Mathlib.Omega.{arith}
use lib.ListN.{length, drop, drop_of_length-le, length-map}
use lib.Seq.{drop-cons}
use lib.Dec.{eqb, leb, ltb, lit<}
use borrow.Author.Tests.{ne_eqb, lt-ltb, le-ltb, le-leb, lt-leb, ltb-true, ltb-false, leb-true, leb-false}
use Rattle.chars.specs.Chars.{byte_at, is_digit}
use Rattle.chars.proofs.Runs.{byte_in}
use Rattle.numbers.specs.declared.Base.{Base}
use Rattle.numbers.specs.Results.{Number}
use Rattle.numbers.specs.Results.{Sum}
use Rattle.numbers.specs.Digits.{radix_of, digit_of, value_from, value_of, all_below, plain, number_from, number_of, add_of}
use Rattle.numbers.proofs.Choices.{first, second, and, not_left, not_right}

module _ (b : ℕ) where
  pub digit_ten : is_digit b ≡ true → b - 48 ≡ digit_of b
  unfolding digit_of
  digit_ten h = first _ h refl

  module _ (f : is_digit b ≡ false) where
    pub digit_upper : (leb 65 b && leb b 70) ≡ true → b - 55 ≡ digit_of b
    unfolding digit_of
    digit_upper h = second _ f (first _ h refl)

    module _ (g : (leb 65 b && leb b 70) ≡ false) where
      pub digit_lower : (leb 97 b && leb b 102) ≡ true → b - 87 ≡ digit_of b
      unfolding digit_of
      digit_lower h = second _ f (second _ g (first _ h refl))

      pub digit_none : (leb 97 b && leb b 102) ≡ false → 16 ≡ digit_of b
      unfolding digit_of
      digit_none h = second _ f (second _ g (second _ h refl))

pub radix_pos : (base : Base) → 0 < radix_of base
radix_pos Base.Ten = lit< tt
radix_pos Base.Sixteen = lit< tt

-- a digit more is at most the limit exactly where the number is at most the limit's rest divided
module _ (r limit v d : ℕ) (pos : 0 < r) where
  pub fits : d ≤ limit → v ≤ (limit - d) / r → v * r + d ≤ limit
  fits h k = omega (arith, (le-div_iff_mul-le pos).0 k)

  pub over : d ≤ limit → (limit - d) / r < v → limit < v * r + d
  over h k = omega (arith, (div-lt_iff_lt-mul pos).0 k)

module _ (base : Base) (limit v d : ℕ) {r : ℕ} (e : r ≡ radix_of base) where
  pub add_more : d < r → v * r + d ≤ limit → Some (v * r + d) ≡ add_of base limit v d
  unfolding add_of
  add_more h k = rw (← e) (first _ (and (lt-ltb _ _ h) (le-leb _ _ k)) refl)

  pub add_over : limit < v * r + d → None ≡ add_of base limit v d
  unfolding add_of
  add_over k = rw (← e) (second _ (not_right (ltb d r) (lt-leb _ _ k)) refl)

  pub add_bad : r ≤ d → None ≡ add_of base limit v d
  unfolding add_of
  add_bad k = rw (← e) (second _ (not_left (leb (v * r + d) limit) (le-ltb _ _ k)) refl)

grows : (r v : ℕ) (ds : List ℕ) → 0 < r → v ≤ value_from r v ds
unfolding value_from
grows r v [] pos = le_refl v
grows r v (d ∷ ds) pos = le_trans (le_trans (le-mul_of_pos_right v pos) (le-add_right (v * r) d)) (grows r (v * r + d) ds pos)

module _ (r limit v n d : ℕ) (ds : List ℕ) where
  from_more : d < r → number_from r limit v n (d ∷ ds) ≡ number_from r limit (v * r + d) (n + 1) ds
  unfolding number_from value_from all_below
  from_more h =
      let e : n + suc (length ds) ≡ n + 1 + length ds = omega arith in
      rw (lt-ltb d r h)
      (ap (λ k. cond (all_below r ds && (leb (value_from r (v * r + d) ds) limit && ltb 0 k)) (Some (value_from r (v * r + d) ds, k)) None) e)

  from_bad : r ≤ d → None ≡ number_from r limit v n (d ∷ ds)
  unfolding number_from all_below
  from_bad h = second _ (not_left _ (not_left (all_below r ds) (le-ltb d r h))) refl

  from_over : 0 < r → limit < v * r + d → None ≡ number_from r limit v n (d ∷ ds)
  unfolding number_from value_from all_below
  from_over pos h = second _ (not_right (ltb d r && all_below r ds) (not_left (ltb 0 (n + suc (length ds))) (lt-leb _ _ (le_trans h (grows r (v * r + d) ds pos))))) refl

module _ (r limit v n : ℕ) (h : v ≤ limit) where
  pub from_end : 0 < n → Some (v, n) ≡ number_from r limit v n []
  unfolding number_from value_from all_below
  from_end k = rw (add-zero n) (first _ (and (le-leb _ _ h) (lt-ltb _ _ k)) refl)

  pub from_nothing : n ≡ 0 → None ≡ number_from r limit v n []
  unfolding number_from value_from all_below
  from_nothing k = rw (add-zero n) (second _ (not_right (leb v limit) (le-ltb 0 n (omega (arith, k)))) refl)

-- the loop's step, from what `add` answers
module _ (base : Base) (limit v n d : ℕ) (ds : List ℕ) where
  abbrev After : Sum → Type 0
  After (Some m) = (number_from (radix_of base) limit v n (d ∷ ds) ≡ number_from (radix_of base) limit m (n + 1) ds) × (m ≤ limit)
  After None = None ≡ number_from (radix_of base) limit v n (d ∷ ds)

  after : After (add_of base limit v d)
  unfolding add_of
  after = go (ltb d (radix_of base)) (leb (v * radix_of base + d) limit) refl refl
    where
      go : (t u : Bool) → ltb d (radix_of base) ≡ t → leb (v * radix_of base + d) limit ≡ u → After (cond (t && u) (Some (v * radix_of base + d)) None)
      go true true e f = (from_more (radix_of base) limit v n d ds (ltb-true _ _ e), leb-true _ _ f)
      go true false e f = from_over (radix_of base) limit v n d ds (radix_pos base) (leb-false _ _ f)
      go false u e f = from_bad (radix_of base) limit v n d ds (ltb-false _ _ e)

  pub add_is : {m : ℕ} → add_of base limit v d ≡ Some m → (number_from (radix_of base) limit v n (d ∷ ds) ≡ number_from (radix_of base) limit m (n + 1) ds) × (m ≤ limit)
  add_is e = subst After e after

  pub add_none : add_of base limit v d ≡ None → None ≡ number_from (radix_of base) limit v n (d ∷ ds)
  add_none e = subst After e after

-- where no underscore may stand, none is dropped
pub plain_whole : (l : List ℕ) → plain false l ≡ l
unfolding plain
plain_whole [] = refl
plain_whole (b ∷ l) = ap (λ m. b ∷ m) (plain_whole l)

pub no_gap : {gaps : Bool} {b d : ℕ} → d ≡ b → ((gaps ≡ true) × (b ≡ 95 → ⊥)) ⊎ (gaps ≡ false) → (gaps && eqb d 95) ≡ false
no_gap {gaps} e h = elim h [ inl n ↦ not_right gaps (ne_eqb _ 95 (λ g. n.1 (sym e ∙ g))) | inr n ↦ not_left _ n ]

-- the digits of what is left of a text
abbrev pub left : Bool → List ℕ → ℕ → List ℕ
left gaps t i = map digit_of (plain gaps (drop i t))

module _ (gaps : Bool) (t : List ℕ) (i : ℕ) (h : i < length t) {b : ℕ} (e : b ≡ byte_at t i) where
  one : plain gaps (drop i t) ≡ cond (gaps && eqb b 95) (plain gaps (drop (i + 1) t)) (b ∷ plain gaps (drop (i + 1) t))
  unfolding plain
  one = rw (drop-cons t i 0 h, add-one, e, byte_in t i h)

  pub left_gap : (gaps && eqb b 95) ≡ true → left gaps t (i + 1) ≡ left gaps t i
  left_gap f = ap (map digit_of) (first _ f refl ∙ sym one)

  pub left_digit : (gaps && eqb b 95) ≡ false → digit_of b ∷ left gaps t (i + 1) ≡ left gaps t i
  left_digit f = ap (map digit_of) (second _ f refl ∙ sym one)

pub left_end : (gaps : Bool) (t : List ℕ) (i : ℕ) → length t ≤ i → [] ≡ left gaps t i
unfolding plain
left_end gaps t i h = rw (drop_of_length-le t {i = i} h)

-- what a text says that writes a number, and that such a text does
pub record Says (base : Base) (limit : ℕ) (text : List ℕ) (v n : ℕ) : Type 0 where
  pub digits : all_below (radix_of base) (map digit_of text) ≡ true
  pub value : v ≡ value_of (radix_of base) (map digit_of text)
  pub most : v ≤ limit
  pub some : 1 ≤ n
  pub count : n ≡ length text

module _ (base : Base) (limit : ℕ) (text : List ℕ) where
  abbrev Told : Number → Type 0
  Told (Some (v, n)) = Says base limit text v n
  Told None = Unit {0}

  told : Told (number_of base limit text)
  unfolding number_of number_from
  told = go (all_below r ds) (leb (value_from r 0 ds) limit) (ltb 0 (0 + length ds)) refl refl refl
    where
      r : ℕ
      r = radix_of base

      ds : List ℕ
      ds = map digit_of text

      go : (a b d : Bool) → all_below r ds ≡ a → leb (value_from r 0 ds) limit ≡ b → ltb 0 (0 + length ds) ≡ d → Told (cond (a && (b && d)) (Some (value_from r 0 ds, 0 + length ds)) None)
      go true true true e f g = record { digits = e; value = refl; most = leb-true _ _ f; some = ltb-true 0 (0 + length ds) g; count = zero-add (length ds) ∙ length-map text digit_of }
      go true true false e f g = tt
      go true false d e f g = tt
      go false b d e f g = tt

  pub number_says : {v n : ℕ} → number_of base limit text ≡ Some (v, n) → Says base limit text v n
  number_says e = subst Told e told

  pub says_number : {v n : ℕ} → Says base limit text v n → number_of base limit text ≡ Some (v, n)
  unfolding number_of number_from
  says_number {v} {n} s =
      let e : v ≡ value_from (radix_of base) 0 (map digit_of text) = s.value in
      let k : 0 + length (map digit_of text) ≡ n = zero-add (length (map digit_of text)) ∙ length-map text digit_of ∙ sym s.count in
      rw (k, ← e) (sym (first _ (and s.digits (and (le-leb v limit s.most) (lt-ltb 0 n s.some))) refl))
