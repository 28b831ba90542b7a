-- Rules 3 to 13: what fits in s and ends inside the copy fits in the copy too, and what doesn't fit in s doesn't fit in the copy.
use Rattle.std.specs.Prelude.{Some, None}
use mathlib.Core.Path.{◌≡◌, refl, sym, ap, ◌∙◌}
use mathlib.Core.Logic.{inl}
use mathlib.Core.List.{List, ◌∷◌}
use mathlib.Core.Bool.{Bool, true, false, ◌&&◌, not, true≢false, cond}
use Prim.Native.Nat.{ℕ, zero, suc, ◌+◌, ◌-◌, ◌<◌, ◌≤◌}
use native.Mathlib.Decide.{dec_lt}
use native.Mathlib.Numerals.{add-one}
use native.Mathlib.Omega.{arith}
use lib.ListN.{length}
use lib.Seq.{slice, slice_empty, slice-cons}
use lib.Dec.{eqb, ltb}
use borrow.Author.Tests.{lt-ltb}
use Rattle.chars.specs.declared.Class.TheVariants.{Digit, Figure, HexDigit, NamePart}
use Rattle.chars.specs.Chars.{byte_at, is_class, is_digit}
use Rattle.chars.specs.Runs.{past_span, past_run}
use Rattle.chars.proofs.Runs.{byte_in, outside, past_ge, past_gt, span_ge}
use Rattle.tokens.specs.Words.{two_sign, one_sign, name_word}
use Rattle.tokens.specs.Rules.{when_fit, sign_fit, pair_at, fraction_at, two_at, one_at, as_at, hex_at, number_at, goes_on, escapes, quote_at, is_name_start, name_at}
use Rattle.answers.proofs.Ahead.{left_true, right_true}
use Rattle.respell.specs.Copies.{Copied, is_stop}
use Rattle.respell.proofs.Runs.{span_copied}
use Rattle.respell.proofs.Stops.{unlike, name_off, hex_off, no_digit, digit_off, figure_off, no_second}
use Rattle.respell.proofs.Tests.{both, fit_ends, fit, no_fit, fit_or, not_so, digit_class, digit_figure, is, run_to, short_of_stop, test_to, test_back}
use Rattle.respell.proofs.Addresses.{fraction_to, fraction_back}

never_past : (c : ℕ) (x : Bool) → goes_on c x 256 ≡ false
never_past c true = refl
never_past c false = none_of (not (eqb 256 c))
  where
    none_of : (b : Bool) → (b && false) ≡ false
    none_of true = refl
    none_of false = refl

fraction_digit : (l : List ℕ) (i : ℕ) → fraction_at l i ≡ true → is_digit (byte_at l (i + 1)) ≡ true
unfolding fraction_at
fraction_digit l i e = right_true (eqb (byte_at l i) 46) (is_digit (byte_at l (i + 1))) e

-- a sign is one wherever it ends
sign_ends : (c k : ℕ) {e w : ℕ} → sign_fit c k ≡ Some (e, w) → k ≡ e
unfolding sign_fit
sign_ends c k z = (fit_ends (not (eqb c 0)) k c z).1

sign_hit : (c k k' e' : ℕ) {e w : ℕ} → sign_fit c k ≡ Some (e, w) → k' ≡ e' → sign_fit c k' ≡ Some (e', w)
unfolding sign_fit
sign_hit c k k' e' z h = let f = fit_ends (not (eqb c 0)) k c z in fit (not (eqb c 0)) k' e' c f.0 h ∙ ap (λ (z : ℕ). Some (e', z)) f.2

sign_miss : (c k k' : ℕ) → sign_fit c k ≡ None → sign_fit c k' ≡ None
unfolding sign_fit
sign_miss c k k' z = no_fit (not (eqb c 0)) k' c (not_so _ (fit_or (not (eqb c 0)) k c z))

sign_none : (c k : ℕ) → c ≡ 0 → sign_fit c k ≡ None
unfolding sign_fit when_fit
sign_none c k h = ap (λ (x : ℕ). sign_fit x k) h

pub first_of : (l : List ℕ) (i e : ℕ) → i < e → e ≤ length l → slice i e l ≡ byte_at l i ∷ slice (i + 1) e l
first_of l i e h in-l = slice-cons i e l 0 h in-l ∙ ap (λ (b : ℕ). b ∷ slice (suc i) e l) (sym (byte_in l i (omega arith))) ∙ ap (λ (n : ℕ). byte_at l i ∷ slice n e l) (sym (add-one i))

module _ {s t : List ℕ} {lo q q' : ℕ} (copy : Copied s t lo q q') where
  text_by : (n i i' e e' : ℕ) → i + n ≡ e → lo ≤ i → e ≤ q → i + q' ≡ i' + q → e + q' ≡ e' + q → slice i' e' t ≡ slice i e s
  text_by zero i i' e e' z l h at ends =
      ap (λ (k : ℕ). slice i' k t) {x = e'} {y = i'} (omega arith) ∙ slice_empty i' t ∙ sym (ap (λ (k : ℕ). slice i k s) {x = e} {y = i} (omega arith) ∙ slice_empty i s)
  text_by (suc n) i i' e e' z l h at ends =
      let in_s = copy.in_s in
      let in_t = copy.in_t in
      first_of t i' e' (omega arith) (omega arith)
      ∙ ap (λ (b : ℕ). b ∷ slice (i' + 1) e' t) (copy.bytes i i' l (omega arith) at)
      ∙ ap (λ (x : List ℕ). byte_at s i ∷ x) (text_by n (i + 1) (i' + 1) e e' (omega arith) (omega arith) h (omega arith) ends)
      ∙ sym (first_of s i e (omega arith) (omega arith))

  -- the copy is the text
  pub text_copied : (i i' e e' : ℕ) → lo ≤ i → i ≤ e → e ≤ q → i + q' ≡ i' + q → e + q' ≡ e' + q → slice i' e' t ≡ slice i e s
  text_copied i i' e e' l k h at ends = text_by (e - i) i i' e e' (omega arith) l h at ends

  -- 9, 10
  pub quote_hit : (c w : ℕ) (i i' e e' : ℕ) {v : ℕ} → lo ≤ i → i + q' ≡ i' + q → quote_at c w s i ≡ Some (e, v) → e ≤ q → e + q' ≡ e' + q → e' < length t → quote_at c w t i' ≡ Some (e', w)
  unfolding quote_at
  quote_hit c w i i' e e' l at z h ends room =
      let k : ℕ = past_span (goes_on c) escapes false s (i + 1) in
      let k' : ℕ = past_span (goes_on c) escapes false t (i' + 1) in
      let f = fit_ends (eqb (byte_at s i) c && ltb (k + 1) (length s)) (k + 1) w z in
      let fe = f.1 in
      let g = span_ge (goes_on c) escapes false s (i + 1) in
      let r = span_copied (goes_on c) escapes (never_past c) s t lo q q' copy.bytes (i + 1) (i' + 1) false (omega arith) (omega arith) (inl (omega arith)) in
      fit (eqb (byte_at t i') c && ltb (k' + 1) (length t)) (k' + 1) e' w
      (both (eqb (byte_at t i') c) (ltb (k' + 1) (length t)) (test_to copy (is c) i i' l (omega arith) at (left_true (eqb (byte_at s i) c) (ltb (k + 1) (length s)) f.0)) (lt-ltb (k' + 1) (length t) (omega arith)))
      (omega arith)

  -- no quote begins with another byte
  pub quote_not : (l : List ℕ) (c w i : ℕ) → eqb (byte_at l i) c ≡ false → quote_at c w l i ≡ None
  unfolding quote_at when_fit
  quote_not l c w i e = rw e refl

  pub pair_to : (i i' a b : ℕ) → lo ≤ i → i + 1 < q → i + q' ≡ i' + q → pair_at t i' a b ≡ pair_at s i a b
  unfolding pair_at
  pair_to i i' a b l h at =
      ap (λ (x : ℕ). eqb x a && eqb (byte_at t (i' + 1)) b) (copy.bytes i i' l (omega arith) at)
      ∙ ap (λ (x : ℕ). eqb (byte_at s i) a && eqb x b) (copy.bytes (i + 1) (i' + 1) (omega arith) h (omega arith))

  -- where the stop is no second byte of the pair
  pair_back : (i i' a b : ℕ) → lo ≤ i → i < q → i + q' ≡ i' + q → eqb (byte_at t q') b ≡ false → pair_at t i' a b ≡ true → i + 1 < q
  unfolding pair_at
  pair_back i i' a b l h at off e = let g = short_of_stop copy (is b) off (i' + 1) (omega arith) (right_true (eqb (byte_at t i') a) (eqb (byte_at t (i' + 1)) b) e) in omega arith

  pair_last : (i i' a b : ℕ) → lo ≤ i → i < q → i + q' ≡ i' + q → (eqb (byte_at t q') b ≡ true → eqb (byte_at s q) b ≡ true) → pair_at t i' a b ≡ true → i + 1 ≡ q → i' + 1 ≡ q' → pair_at s i a b ≡ true
  unfolding pair_at
  pair_last i i' a b l h at closes f x y =
      both (eqb (byte_at s i) a) (eqb (byte_at s (i + 1)) b) (test_back copy (is a) i i' l h at (left_true (eqb (byte_at t i') a) (eqb (byte_at t (i' + 1)) b) f))
      (ap (λ (n : ℕ). eqb (byte_at s n) b) x ∙ closes (ap (λ (n : ℕ). eqb (byte_at t n) b) (sym y) ∙ right_true (eqb (byte_at t i') a) (eqb (byte_at t (i' + 1)) b) f))

  -- a pair that s doesn't have isn't in the copy, where the stop is no second byte that s doesn't have too
  pub pair_miss : (i i' a b : ℕ) → lo ≤ i → i < q → i + q' ≡ i' + q → (eqb (byte_at t q') b ≡ true → eqb (byte_at s q) b ≡ true) → pair_at s i a b ≡ false → pair_at t i' a b ≡ false
  pair_miss i i' a b l h at closes e = not_so _ (λ f. elim (dec_lt (i + 1) q) [
    | yes g ↦ true≢false (sym f ∙ pair_to i i' a b l g at ∙ e)
    | no g ↦ true≢false (sym (pair_last i i' a b l h at closes f (omega arith) (omega arith)) ∙ e)
  ])

module _ {s t : List ℕ} {lo q q' : ℕ} (copy : Copied s t lo q q') (stop : is_stop (byte_at t q') ≡ true) (i i' : ℕ) (from : lo ≤ i) (inside : i < q) (at : i + q' ≡ i' + q) where
  first : byte_at t i' ≡ byte_at s i
  first = copy.bytes i i' from inside at

  -- 3, 4
  pub two_hit : (e e' : ℕ) {w : ℕ} → two_at s i ≡ Some (e, w) → e ≤ q → e + q' ≡ e' + q → two_at t i' ≡ Some (e', w)
  unfolding two_at
  two_hit e e' z h ends =
      let f = sign_ends (two_sign (byte_at s i) (byte_at s (i + 1))) (i + 2) z in
      ap (λ (x : ℕ). sign_fit (two_sign x (byte_at t (i' + 1))) (i' + 2)) first
      ∙ ap (λ (x : ℕ). sign_fit (two_sign (byte_at s i) x) (i' + 2)) (copy.bytes (i + 1) (i' + 1) (omega arith) (omega arith) (omega arith))
      ∙ sign_hit (two_sign (byte_at s i) (byte_at s (i + 1))) (i + 2) (i' + 2) e' z (omega arith)

  pub two_miss : two_at s i ≡ None → two_at t i' ≡ None
  unfolding two_at
  two_miss z = elim (dec_lt (i + 1) q) [
    | yes g ↦ ap (λ (x : ℕ). sign_fit (two_sign x (byte_at t (i' + 1))) (i' + 2)) first
        ∙ ap (λ (x : ℕ). sign_fit (two_sign (byte_at s i) x) (i' + 2)) (copy.bytes (i + 1) (i' + 1) (omega arith) g (omega arith))
        ∙ sign_miss (two_sign (byte_at s i) (byte_at s (i + 1))) (i + 2) (i' + 2) z
    | no g ↦ (let y : i' + 1 ≡ q' = omega arith in sign_none _ (i' + 2) (ap (λ (n : ℕ). two_sign (byte_at t i') (byte_at t n)) y ∙ no_second (byte_at t q') stop (byte_at t i')))
  ]

  pub one_hit : (e e' : ℕ) {w : ℕ} → one_at s i ≡ Some (e, w) → e + q' ≡ e' + q → one_at t i' ≡ Some (e', w)
  unfolding one_at
  one_hit e e' z ends =
      let f = sign_ends (one_sign (byte_at s i)) (i + 1) z in
      ap (λ (x : ℕ). sign_fit (one_sign x) (i' + 1)) first ∙ sign_hit (one_sign (byte_at s i)) (i + 1) (i' + 1) e' z (omega arith)

  pub one_miss : one_at s i ≡ None → one_at t i' ≡ None
  unfolding one_at
  one_miss z = ap (λ (x : ℕ). sign_fit (one_sign x) (i' + 1)) first ∙ sign_miss (one_sign (byte_at s i)) (i + 1) (i' + 1) z

  -- 5, 6
  letter_off : (v : ℕ) → is_class NamePart v ≡ true → eqb (byte_at t q') v ≡ false
  letter_off v h = unlike (is_class NamePart) (byte_at t q') v (name_off (byte_at t q') stop) h

  pub as_hit : (e e' : ℕ) {w : ℕ} → as_at s i ≡ Some (e, w) → e ≤ q → e + q' ≡ e' + q → as_at t i' ≡ Some (e', w)
  unfolding as_at
  as_hit e e' z h ends =
      let f = fit_ends (pair_at s i 65 83 && is_digit (byte_at s (i + 2))) (past_run (is_class Digit) s (i + 2)) 5 z in
      let fe = f.1 in
      let x = left_true (pair_at s i 65 83) (is_digit (byte_at s (i + 2))) f.0 in
      let y = right_true (pair_at s i 65 83) (is_digit (byte_at s (i + 2))) f.0 in
      let g = past_gt (is_class Digit) (outside Digit) s (i + 2) (digit_class (byte_at s (i + 2)) y) in
      let r = run_to copy Digit (digit_off (byte_at t q') stop) (i + 2) (i' + 2) (omega arith) (omega arith) (omega arith) in
      fit (pair_at t i' 65 83 && is_digit (byte_at t (i' + 2))) (past_run (is_class Digit) t (i' + 2)) e' 5
      (both (pair_at t i' 65 83) (is_digit (byte_at t (i' + 2))) (pair_to copy i i' 65 83 from (omega arith) at ∙ x) (test_to copy is_digit (i + 2) (i' + 2) (omega arith) (omega arith) (omega arith) y))
      (omega arith)
      ∙ ap (λ (z : ℕ). Some (e', z)) f.2

  pub as_miss : as_at s i ≡ None → as_at t i' ≡ None
  unfolding as_at is_class
  as_miss z = no_fit (pair_at t i' 65 83 && is_digit (byte_at t (i' + 2))) (past_run (is_class Digit) t (i' + 2)) 5 (not_so _ (λ e.
      let x = left_true (pair_at t i' 65 83) (is_digit (byte_at t (i' + 2))) e in
      let y = right_true (pair_at t i' 65 83) (is_digit (byte_at t (i' + 2))) e in
      let g = pair_back copy i i' 65 83 from inside at (letter_off 83 refl) x in
      let k = short_of_stop copy is_digit (no_digit (byte_at t q') stop) (i' + 2) (omega arith) y in
      fit_or (pair_at s i 65 83 && is_digit (byte_at s (i + 2))) (past_run (is_class Digit) s (i + 2)) 5 z
      (both (pair_at s i 65 83) (is_digit (byte_at s (i + 2))) (sym (pair_to copy i i' 65 83 from g at) ∙ x) (test_back copy is_digit (i + 2) (i' + 2) (omega arith) (omega arith) (omega arith) y))))

  pub hex_hit : (e e' : ℕ) {w : ℕ} → hex_at s i ≡ Some (e, w) → e ≤ q → e + q' ≡ e' + q → hex_at t i' ≡ Some (e', w)
  unfolding hex_at
  hex_hit e e' z h ends =
      let f = fit_ends (pair_at s i 48 120) (past_run (is_class HexDigit) s (i + 2)) 6 z in
      let fe = f.1 in
      let g = past_ge (is_class HexDigit) s (i + 2) in
      let r = run_to copy HexDigit (hex_off (byte_at t q') stop) (i + 2) (i' + 2) (omega arith) (omega arith) (omega arith) in
      fit (pair_at t i' 48 120) (past_run (is_class HexDigit) t (i' + 2)) e' 6 (pair_to copy i i' 48 120 from (omega arith) at ∙ f.0) (omega arith) ∙ ap (λ (z : ℕ). Some (e', z)) f.2

  pub hex_miss : hex_at s i ≡ None → hex_at t i' ≡ None
  unfolding hex_at is_class
  hex_miss z = no_fit (pair_at t i' 48 120) (past_run (is_class HexDigit) t (i' + 2)) 6 (not_so _ (λ e.
      let g = pair_back copy i i' 48 120 from inside at (letter_off 120 refl) e in
      fit_or (pair_at s i 48 120) (past_run (is_class HexDigit) s (i + 2)) 6 z (sym (pair_to copy i i' 48 120 from g at) ∙ e)))

  -- 7, 8
  pub number_hit : (e e' : ℕ) {w : ℕ} → number_at s i ≡ Some (e, w) → e ≤ q → e + q' ≡ e' + q → number_at t i' ≡ Some (e', w)
  unfolding number_at
  number_hit e e' {w} z h ends = by (fraction_at s a) refl z
    where
      a : ℕ
      a = past_run (is_class Figure) s i

      a' : ℕ
      a' = past_run (is_class Figure) t i'

      ended : (l : List ℕ) (b : Bool) (n : ℕ) → ℕ
      ended l b n = cond b (past_run (is_class Figure) l (n + 1)) n

      name_to : (m m' : ℕ) → lo ≤ m → m + q' ≡ m' + q → past_run (is_class NamePart) s m ≡ e → past_run (is_class NamePart) t m' ≡ e'
      name_to m m' l k x = let r = run_to copy NamePart (name_off (byte_at t q') stop) m m' l k (omega arith) in omega arith

      whole : a ≤ q → a' + q ≡ a + q'
      whole k = run_to copy Figure (figure_off (byte_at t q') stop) i i' from at k

      digit : is_digit (byte_at s i) ≡ true → is_digit (byte_at t i') ≡ true
      digit d = test_to copy is_digit i i' from inside at d

      by : (b : Bool) → fraction_at s a ≡ b → when_fit (is_digit (byte_at s i)) (past_run (is_class NamePart) s (ended s b a)) (cond b 8 7) ≡ Some (e, w) → number_at t i' ≡ Some (e', w)
      by true x y =
          let f = fit_ends (is_digit (byte_at s i)) (past_run (is_class NamePart) s (past_run (is_class Figure) s (a + 1))) 8 y in
          let fe = f.1 in
          let g = past_ge (is_class Figure) s i in
          let ge = past_gt (is_class Figure) (outside Figure) s (a + 1) (digit_figure (byte_at s (a + 1)) (fraction_digit s a x)) in
          let gn = past_ge (is_class NamePart) s (past_run (is_class Figure) s (a + 1)) in
          let wh = whole (omega arith) in
          let fr = fraction_to copy stop a a' (omega arith) (omega arith) (omega arith) x in
          let r = run_to copy Figure (figure_off (byte_at t q') stop) (a + 1) (a' + 1) (omega arith) (omega arith) (omega arith) in
          ap (λ (b : Bool). when_fit (is_digit (byte_at t i')) (past_run (is_class NamePart) t (ended t b a')) (cond b 8 7)) fr
          ∙ fit (is_digit (byte_at t i')) (past_run (is_class NamePart) t (past_run (is_class Figure) t (a' + 1))) e' 8 (digit f.0) (name_to (past_run (is_class Figure) s (a + 1)) (past_run (is_class Figure) t (a' + 1)) (omega arith) (omega arith) fe)
          ∙ ap (λ (z : ℕ). Some (e', z)) f.2
      by false x y =
          let f = fit_ends (is_digit (byte_at s i)) (past_run (is_class NamePart) s a) 7 y in
          let fe = f.1 in
          let g = past_ge (is_class Figure) s i in
          let gn = past_ge (is_class NamePart) s a in
          let wh = whole (omega arith) in
          let fr : fraction_at t a' ≡ false = not_so _ (λ o. true≢false (sym (fraction_back copy stop a a' (omega arith) (omega arith) (omega arith) o).1 ∙ x)) in
          ap (λ (b : Bool). when_fit (is_digit (byte_at t i')) (past_run (is_class NamePart) t (ended t b a')) (cond b 8 7)) fr
          ∙ fit (is_digit (byte_at t i')) (past_run (is_class NamePart) t a') e' 7 (digit f.0) (name_to a a' (omega arith) (omega arith) fe)
          ∙ ap (λ (z : ℕ). Some (e', z)) f.2

  pub number_miss : number_at s i ≡ None → number_at t i' ≡ None
  unfolding number_at
  number_miss z = no_fit (is_digit (byte_at t i')) _ _ (not_so _ (λ e. fit_or (is_digit (byte_at s i)) _ _ z (test_back copy is_digit i i' from inside at e)))

  -- 11 to 13
  pub name_hit : (e e' : ℕ) {w : ℕ} → name_at s i ≡ Some (e, w) → e ≤ q → e + q' ≡ e' + q → name_at t i' ≡ Some (e', w)
  unfolding name_at
  name_hit e e' z h ends =
      let n : ℕ = past_run (is_class NamePart) s i in
      let n' : ℕ = past_run (is_class NamePart) t i' in
      let f = fit_ends (is_name_start (byte_at s i)) n (name_word (slice i n s)) z in
      let fe = f.1 in
      let g = past_ge (is_class NamePart) s i in
      let r = run_to copy NamePart (name_off (byte_at t q') stop) i i' from at (omega arith) in
      let re : n' ≡ e' = omega arith in
      fit (is_name_start (byte_at t i')) n' e' (name_word (slice i' n' t)) (test_to copy is_name_start i i' from inside at f.0) re
      ∙ ap (λ (z : ℕ). Some (e', z)) (ap (λ (k : ℕ). name_word (slice i' k t)) re ∙ ap name_word (text_copied copy i i' e e' from (omega arith) h at ends) ∙ ap (λ (k : ℕ). name_word (slice i k s)) (sym fe) ∙ f.2)

  pub name_miss : name_at s i ≡ None → name_at t i' ≡ None
  unfolding name_at
  name_miss z = no_fit (is_name_start (byte_at t i')) _ _ (not_so _ (λ e. fit_or (is_name_start (byte_at s i)) _ _ z (test_back copy is_name_start i i' from inside at e)))
