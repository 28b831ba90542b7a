-- What the two runs of digits write, and what `written` answers.
use Rattle.std.specs.Prelude.{Some, None}
use mathlib.Core.Path.{◌≡◌, refl, sym, ap, ◌∙◌, subst}
use mathlib.Core.Logic.{⊎_elim}
use Prim.Native.Nat.{ℕ, ◌+◌, ◌*◌, ◌^◌, ◌≤◌, ◌<◌, zero-le}
use native.Mathlib.Nat.{le_trans, le_of_eq, le-mul_of_pos_right}
use native.Mathlib.Numerals.{add-one}
use native.Mathlib.Omega.{arith}
use mathlib.Core.List.{List}
use mathlib.Core.Bool.{Bool, true, false, ◌&&◌, cond}
use lib.ListN.{length, length-map}
use lib.Seq.{slice}
use lib.Dec.{leb, ltb, eqb, lit<}
use lib.Ieee.{Format}
use borrow.Author.Tests.{eqb-true}
use Rattle.chars.specs.declared.Class.TheVariants.{Figure}
use Rattle.chars.specs.Chars.{byte_at, is_digit, is_class}
use Rattle.chars.specs.Runs.{past_run}
use Rattle.chars.proofs.Runs.{inside, past_ge, past_le}
use Rattle.tokens.specs.Rules.{fraction_at}
use Rattle.numbers.specs.declared.Base.{Base}
use Rattle.numbers.specs.Results.{Number}
use Rattle.numbers.specs.Numbers.{point_at}
use Rattle.numbers.specs.Digits.{digit_of, value_from, value_of, plain, number_of}
use Rattle.numbers.proofs.Choices.{and_left, and_right}
use Rattle.numbers.proofs.Digits.{number_says, says_number}
use Rattle.floats.specs.Bits.{bits_of, decimal_of}
use Rattle.floats.proofs.Patterns.{less_or_not}
use Rattle.floats.proofs.Decimals.{ten_some, above, long_part}
use Rattle.literals.specs.Decimals.{digits_at, point_of, before, after, digits, from_first, few}
use Rattle.literals.specs.Steps.{written_of}
use Rattle.literals.proofs.Figures.{digits_below, digits_some, after_point, no_point, all_below_lem, value_joined, few_digits}

-- ---- a run whose number is known, or too large
abbrev most : ℕ
most = 9999999999999999999

module _ (t : List ℕ) (at : ℕ) {e : ℕ} (is : e ≡ past_run (is_class Figure) t at) where
  said : ℕ → Number
  said e = number_of Base.Ten most (plain true (slice at e t))

  run_value : {v n : ℕ} → number_of Base.Ten most (plain true (slice at e t)) ≡ Some (v, n) → v ≡ value_of 10 (digits_at t at)
  unfolding digits_at said
  run_value h = (number_says Base.Ten most _ (sym (ap said is) ∙ h)).value

  run_count : {v n : ℕ} → number_of Base.Ten most (plain true (slice at e t)) ≡ Some (v, n) → n ≡ length (digits_at t at)
  unfolding digits_at said
  run_count h = (number_says Base.Ten most _ (sym (ap said is) ∙ h)).count ∙ sym (length-map (plain true (slice at (past_run (is_class Figure) t at) t)) digit_of)

  run_large : is_digit (byte_at t at) ≡ true → number_of Base.Ten most (plain true (slice at e t)) ≡ None → most < value_of 10 (digits_at t at)
  unfolding said digits_at
  run_large s h = ⊎_elim (λ (l : most < value_of 10 (digits_at t at)). l) (λ (l : value_of 10 (digits_at t at) ≤ most). absurd (never (sym (number l) ∙ sym (ap said is) ∙ h))) (less_or_not most (value_of 10 (digits_at t at)))
    where
      text : List ℕ
      text = plain true (slice at (past_run (is_class Figure) t at) t)

      number : value_of 10 (digits_at t at) ≤ most → number_of Base.Ten most text ≡ Some (value_of 10 (digits_at t at), length text)
      number l = says_number Base.Ten most text (record { digits = digits_below t at; value = refl; most = l; some = le_trans (digits_some t at s) (le_of_eq (length-map text digit_of)); count = refl })

      never : {v n : ℕ} → ◌≡◌ {A = Number} (Some (v, n)) None → ⊥
      never h = let z : ◌≡◌ {A = ℕ} 0 1 = cc in omega arith

-- ---- the definition, by the numbers of both runs
swap : (a b : Bool) → (a && b) ≡ (b && a)
swap true true = refl
swap true false = refl
swap false true = refl
swap false false = refl

module _ (f : Format) (t : List ℕ) where
  decimal_is : decimal_of f (value_of 10 (before t)) (value_of 10 (after t)) (length (after t)) ≡ written_of f t
  unfolding written_of decimal_of few
  decimal_is =
      let k = length (after t) in
      let n = value_of 10 (digits t) in
      ap (λ (n : ℕ). cond (leb k 19 && ltb n (10 ^ 19)) (Some (bits_of f n (10 ^ k))) None) (sym (value_joined (before t) (after t)))
      ∙ ap (λ (b : Bool). cond (leb k 19 && b) (Some (bits_of f n (10 ^ k))) None) (sym (few_digits (digits t) (all_below_lem t)))
      ∙ ap (λ (b : Bool). cond b (Some (bits_of f n (10 ^ k))) None) (swap (leb k 19) (leb (length (from_first (digits t))) 19))

  module _ {e : ℕ} (p : e ≡ point_of t) where
    pub whole_long : is_digit (byte_at t 0) ≡ true → number_of Base.Ten most (plain true (slice 0 e t)) ≡ None → None ≡ written_of f t
    whole_long s h =
        let w = value_of 10 (before t) in
        let k = length (after t) in
        let l : most < w = unfold before in run_large t 0 p s h in
        let m : w ≤ w * 10 ^ k = le-mul_of_pos_right w (ten_some k) in
        above f w (value_of 10 (after t)) k (10 ^ k) refl (omega arith) ∙ decimal_is

    module _ {v n : ℕ} (a : number_of Base.Ten most (plain true (slice 0 e t)) ≡ Some (v, n)) where
      whole_is : v ≡ value_of 10 (before t)
      unfolding before
      whole_is = run_value t 0 p a

      pub lone_is : fraction_at t e ≡ false → decimal_of f v 0 0 ≡ written_of f t
      lone_is h =
          ap (λ (z : ℕ). decimal_of f z 0 0) whole_is
          ∙ unfold value_from in ap (λ (l : List ℕ). decimal_of f (value_of 10 (before t)) (value_of 10 l) (length l)) (no_point t (ap (fraction_at t) (sym p) ∙ h))
          ∙ decimal_is

      module _ (fraction : fraction_at t e ≡ true) {z : ℕ} (q : z ≡ past_run (is_class Figure) t (e + 1)) where
        there : fraction_at t (point_of t) ≡ true
        there = ap (fraction_at t) (sym p) ∙ fraction

        part_at : digits_at t (e + 1) ≡ after t
        part_at = ap (λ (x : ℕ). digits_at t (x + 1)) p ∙ after_point t there

        next : is_digit (byte_at t (e + 1)) ≡ true
        unfolding fraction_at
        next = and_right (eqb (byte_at t e) 46) (is_digit (byte_at t (e + 1))) fraction

        pub part_long : number_of Base.Ten most (plain true (slice (e + 1) z t)) ≡ None → None ≡ written_of f t
        part_long h =
            let k = length (after t) in
            let l : most < value_of 10 (after t) = subst (λ (l : List ℕ). most < value_of 10 l) part_at (run_large t (e + 1) q next h) in
            long_part f (value_of 10 (before t)) (value_of 10 (after t)) k (10 ^ k) refl l ∙ decimal_is

        pub both_are : {u k : ℕ} → number_of Base.Ten most (plain true (slice (e + 1) z t)) ≡ Some (u, k) → decimal_of f v u k ≡ written_of f t
        both_are {u} {k} h =
            ap (λ (x : ℕ). decimal_of f x u k) whole_is
            ∙ ap (λ (x : ℕ). decimal_of f (value_of 10 (before t)) x k) (run_value t (e + 1) q h ∙ ap (value_of 10) part_at)
            ∙ ap (λ (x : ℕ). decimal_of f (value_of 10 (before t)) (value_of 10 (after t)) x) (run_count t (e + 1) q h ∙ ap length part_at)
            ∙ decimal_is

-- ---- `.` and a digit, by the test of numbers
pub same_point : (t : List ℕ) (at : ℕ) {b : Bool} → b ≡ point_at t at → b ≡ fraction_at t at
unfolding point_at fraction_at
same_point t at h = h

-- ---- where the runs lie
pub first_in : (t : List ℕ) {e : ℕ} → e ≡ point_of t → e ≤ length t
first_in t is = le_trans (le_of_eq is) (past_le (is_class Figure) t 0 zero-le)

module _ (t : List ℕ) (at : ℕ) {b : Bool} (is : b ≡ fraction_at t at) (h : b ≡ true) where
  pub point_in : at + 1 ≤ length t
  unfolding fraction_at
  point_in = le_trans (le_of_eq (add-one at)) (inside t at refl (eqb-true (byte_at t at) 46 (and_left _ _ (sym is ∙ h))) (lit< tt))

  pub part_in : {e : ℕ} → e ≡ past_run (is_class Figure) t (at + 1) → (at + 1 ≤ e) × (e ≤ length t)
  part_in g = (le_trans (past_ge (is_class Figure) t (at + 1)) (le_of_eq (sym g)), le_trans (le_of_eq g) (past_le (is_class Figure) t (at + 1) point_in))
