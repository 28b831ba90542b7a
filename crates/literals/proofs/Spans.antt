-- The text of a float's row, by itself, is that float: no row of kind 11 is refused with 7.
use Rattle.std.specs.Prelude.{Some, None, Ok}
use mathlib.Core.Path.{◌≡◌, refl, sym, ap, ◌∙◌}
use Prim.Native.Nat.{ℕ, suc, ◌+◌, ◌-◌, ◌≤◌, ◌<◌, suc-le-suc, zero-le}
use mathlib.Core.List.{List, [], ◌∷◌}
use mathlib.Core.Bool.{Bool, true, false, ◌&&◌, ◌||◌, not, true≢false, cond}
use native.Mathlib.Nat.{le_trans, le_of_eq}
use native.Mathlib.Decide.{dec_lt}
use native.Mathlib.Omega.{arith}
use lib.ListN.{length}
use lib.Seq.{slice}
use lib.Dec.{eqb, leb, lit<}
use borrow.Author.Tests.{eq-eqb, ne_eqb, eqb-true, lt-ltb, lt-leb}
use Rattle.chars.specs.declared.Class.TheVariants.{Digit, Figure, HexDigit, NamePart}
use Rattle.chars.specs.Chars.{byte_at, is_blank, is_digit, is_class}
use Rattle.chars.specs.Texts.{same}
use Rattle.chars.specs.Runs.{past_run}
use Rattle.chars.proofs.Runs.{byte_in, inside, outside, past_ge, past_gt}
use Rattle.tokens.specs.Results.{Fit}
use Rattle.tokens.specs.declared.Cursor.{Cursor}
use Rattle.tokens.specs.Words.{two_sign, one_sign, two_signs, word_in, code_of}
use Rattle.tokens.specs.Blanks.{skip_all, skipped}
use Rattle.tokens.specs.Rules.{when_fit, sign_fit, then_fit, or_else, taken, pair_at, colons_at, three_at, decimal_group, or_to, ipv6_at, period_at, ipv4_at, two_at, one_at, as_at, hex_at, fraction_at, number_at, token_at}
use Rattle.tokens.specs.Tokens.{step_at}
use Rattle.tokens.proofs.Steps.{taken_good}
use Rattle.numbers.proofs.Choices.{and, and_left, and_right, in_range, not_right}
use Rattle.values.specs.Literals.{literal_of}
use Rattle.literals.specs.Answers.{row_for, row_of, width_of, alone_of}
use Rattle.literals.proofs.Starts.{Numeric, numeric_step, row_number, when_fits, number_starts}
use Rattle.literals.proofs.Choices.{a_float}
use Rattle.literals.proofs.Parts.{part_length, byte_part, byte_past, past_part, past_inside}

-- ---- a rule that fits in a part fits in the source
never : {i j : ℕ} → ◌≡◌ {A = Fit} (Some (i, j)) None → ⊥
never h = true≢false (ap (λ (x : Fit). elim x [ Some (a, b) ↦ true | None ↦ false ]) h)

when_no : (t : Bool) (e w : ℕ) → when_fit t e w ≡ None → t ≡ false
unfolding when_fit
when_no true e w h = absurd (never h)
when_no false e w h = refl

then_no : (f : Fit) (g : ℕ → Fit) → ((e w : ℕ) → f ≡ Some (e, w) → g e ≡ None) → then_fit f g ≡ None
unfolding then_fit
then_no (Some (e, w)) g h = h e w refl
then_no None g h = refl

not_both : (a b : Bool) → (a ≡ true → b ≡ true → ⊥) → (a && b) ≡ false
not_both true true f = absurd (f refl refl)
not_both true false f = refl
not_both false b f = refl

-- an address's dotted end only lengthens it
no_colons : (s : List ℕ) (at : ℕ) → ipv6_at s at ≡ None → colons_at s at ≡ None
unfolding ipv6_at then_fit or_to
no_colons s at = go (colons_at s at) λ e. cond (decimal_group s e) (three_at s e) None
  where
    longer : (f : Fit) (end : ℕ) → or_to f end ≡ None → ⊥
    longer (Some (e, w)) end h = never h
    longer None end h = never h

    go : (f : Fit) (g : ℕ → Fit) → then_fit f (λ e. or_to (g e) e) ≡ None → f ≡ None
    go (Some (e, w)) g h = absurd (longer (g e) e h)
    go None g h = refl

three : (s : List ℕ) (a : ℕ) {i j k : ℕ} → period_at s a ≡ Some (i, 2) → period_at s i ≡ Some (j, 2) → period_at s j ≡ Some (k, 2) → ipv4_at s a ≡ Some (past_run (is_class Digit) s k, 2)
unfolding ipv4_at then_fit
three s a f g h = rw (f, g, h)

two_last : (a : ℕ) → two_sign a 256 ≡ 0
unfolding two_sign two_signs word_in same
two_last a = simp and_false
  where
    and_false : (t : Bool) → (t && false) ≡ false
    and_false true = refl
    and_false false = refl

unsigned : (w e : ℕ) → sign_fit w e ≡ None → w ≡ 0
unfolding sign_fit
unsigned w e h = eqb-true w 0 (off (eqb w 0) (when_no (not (eqb w 0)) e w h))
  where
    off : (b : Bool) → not b ≡ false → b ≡ true
    off true h = refl
    off false h = absurd (true≢false h)

no_sign : {w : ℕ} (e : ℕ) → w ≡ 0 → sign_fit w e ≡ None
unfolding sign_fit when_fit
no_sign e h = rw h

form : (t : List ℕ) (fr : Bool) → fraction_at t (past_run (is_class Figure) t 0) ≡ fr → is_digit (byte_at t 0) ≡ true → {n : ℕ}
    → past_run (is_class NamePart) t (cond fr (past_run (is_class Figure) t (past_run (is_class Figure) t 0 + 1)) (past_run (is_class Figure) t 0)) ≡ n → number_at t 0 ≡ Some (n, cond fr 8 7)
unfolding number_at when_fit
form t fr f d g = rw (d, f) (ap (λ (m : ℕ). Some (m, cond fr 8 7)) g)

skip_none : (l : List ℕ) → is_digit (byte_at l 0) ≡ true → skipped false l ≡ 0
unfolding skipped
skip_none [] h = refl
skip_none (b ∷ l) h =
    let r : (48 ≤ b) × (b ≤ 57) = in_range 48 57 b (ap is_digit (sym (byte_in (b ∷ l) 0 (suc-le-suc zero-le))) ∙ h) in
    go (is_blank b) refl (ne_eqb b 47 (λ g. omega arith)) r
  where
    go : (t : Bool) → is_blank b ≡ t → eqb b 47 ≡ false → (48 ≤ b) × (b ≤ 57)
        → ◌≡◌ {A = ℕ} (elim t [ true ↦ suc (skipped false l) | false ↦ elim (eqb b 47 && eqb (byte_at l 0) 47) [ true ↦ suc (skipped true l) | false ↦ 0 ] ]) 0
    go true t e r = absurd (blank b t r)
      where
        blank : (b : ℕ) → is_blank b ≡ true → (48 ≤ b) × (b ≤ 57) → ⊥
        blank b t r = true≢false (sym t ∙ either (and_out b r.0) (ne_eqb b 32 (λ g. omega arith)))
          where
            either : {x y : Bool} → x ≡ false → y ≡ false → (x || y) ≡ false
            either e f = rw (e, f)

            and_out : (b : ℕ) → 48 ≤ b → (leb 9 b && leb b 13) ≡ false
            and_out b h = not_right (leb 9 b) (lt-leb b 13 (omega arith))
    go false t e r = rw e

module _ (s : List ℕ) (a e : ℕ) (fits : e ≤ length s) (some : a < e) where
  front : a + 0 ≡ a
  front = omega arith

  -- where a byte below 256 stands in the part, it stands in the source
  there : (i : ℕ) {v : ℕ} → v < 256 → byte_at (slice a e s) i ≡ v → (a + i < e) × (byte_at s (a + i) ≡ v)
  there i {v} small h = elim (dec_lt (a + i) e) [
    | yes k ↦ (k, sym (byte_part s a e fits i k) ∙ h)
    | no k ↦ absurd (omega (arith, small, sym h ∙ byte_past s a e fits i (omega (arith, k))))
  ]

  -- so does a byte that passes a test that none past the end does
  passes : (p : ℕ → Bool) → p 256 ≡ false → (i : ℕ) → p (byte_at (slice a e s) i) ≡ true → (a + i < e) × (p (byte_at s (a + i)) ≡ true)
  passes p none i h = elim (dec_lt (a + i) e) [
    | yes k ↦ (k, ap p (sym (byte_part s a e fits i k)) ∙ h)
    | no k ↦ absurd (true≢false (sym h ∙ ap p (byte_past s a e fits i (omega (arith, k))) ∙ none))
  ]

  -- a run that a byte below 256 ends
  ran : (p : ℕ → Bool) (i : ℕ) {v : ℕ} → v < 256 → byte_at (slice a e s) (past_run p (slice a e s) i) ≡ v → (a + past_run p (slice a e s) i ≡ past_run p s (a + i)) × (byte_at s (past_run p s (a + i)) ≡ v)
  ran p i {v} small h =
      let g = past_inside p s a e fits i (inside (slice a e s) (past_run p (slice a e s) i) refl h small) in
      (g, sym (ap (byte_at s) g) ∙ (there (past_run p (slice a e s) i) small h).1)

  colons_no : colons_at s a ≡ None → colons_at (slice a e s) 0 ≡ None
  unfolding colons_at when_fit
  colons_no h = rw (not_both (eqb (byte_at (slice a e s) A) 58) (eqb (byte_at (slice a e s) B) 58) go)
    where
      A : ℕ
      A = past_run (is_class HexDigit) (slice a e s) 0

      B : ℕ
      B = past_run (is_class HexDigit) (slice a e s) (A + 1)

      next : (A : ℕ) {W : ℕ} → a + A ≡ W → a + (A + 1) ≡ W + 1
      next A h = omega arith

      go : eqb (byte_at (slice a e s) A) 58 ≡ true → eqb (byte_at (slice a e s) B) 58 ≡ true → ⊥
      go f g =
          let p = ran (is_class HexDigit) 0 (lit< tt) (eqb-true (byte_at (slice a e s) A) 58 f) in
          let q = ran (is_class HexDigit) (A + 1) (lit< tt) (eqb-true (byte_at (slice a e s) B) 58 g) in
          let w : past_run (is_class HexDigit) s (a + 0) ≡ past_run (is_class HexDigit) s a = ap (past_run (is_class HexDigit) s) front in
          let l : byte_at s (past_run (is_class HexDigit) s a) ≡ 58 = ap (byte_at s) (sym w) ∙ p.1 in
          let r : byte_at s (past_run (is_class HexDigit) s (past_run (is_class HexDigit) s a + 1)) ≡ 58 = ap (λ (j : ℕ). byte_at s (past_run (is_class HexDigit) s j)) (sym (next A (p.0 ∙ w))) ∙ q.1 in
          true≢false (sym (and (eq-eqb _ 58 l) (eq-eqb _ 58 r)) ∙ when_no _ _ 1 h)

  ipv6_no : ipv6_at s a ≡ None → ipv6_at (slice a e s) 0 ≡ None
  unfolding ipv6_at then_fit
  ipv6_no h = rw (colons_no (no_colons s a h))

  period_up : (i : ℕ) {m w : ℕ} → period_at (slice a e s) i ≡ Some (m, w) → period_at s (a + i) ≡ Some (a + m, 2)
  unfolding period_at
  period_up i {m} h =
      let E = past_run (is_class Digit) (slice a e s) i in
      let k = when_fits (is_digit (byte_at (slice a e s) i) && eqb (byte_at (slice a e s) E) 46) (E + 1) 2 h in
      let d = passes is_digit refl i (and_left (is_digit (byte_at (slice a e s) i)) (eqb (byte_at (slice a e s) E) 46) k.0) in
      let r = ran (is_class Digit) i (lit< tt) (eqb-true (byte_at (slice a e s) E) 46 (and_right (is_digit (byte_at (slice a e s) i)) (eqb (byte_at (slice a e s) E) 46) k.0)) in
      fits_so (and d.1 (eq-eqb _ 46 r.1)) (sum a E m r.0 k.1.0)
    where
      fits_so : {t : Bool} {x y : ℕ} → t ≡ true → x ≡ y → when_fit t x 2 ≡ Some (y, 2)
      fits_so f g = unfold when_fit in rw (f, g)

      sum : (a E m : ℕ) {W : ℕ} → a + E ≡ W → E + 1 ≡ m → W + 1 ≡ a + m
      sum a E m f g = omega arith

  ipv4_no : ipv4_at s a ≡ None → ipv4_at (slice a e s) 0 ≡ None
  ipv4_no h =
      unfold ipv4_at in then_no (period_at (slice a e s) 0) _ λ i w f. then_no (period_at (slice a e s) i) _ λ j v g. then_no (period_at (slice a e s) j) _ λ k u l.
      absurd (never (sym (three s a (sym (ap (period_at s) front) ∙ period_up 0 f) (period_up i g) (period_up j l)) ∙ h))

  first_byte : byte_at (slice a e s) 0 ≡ byte_at s a
  first_byte = byte_part s a e fits 0 (le_trans (le_of_eq (ap suc front)) some) ∙ ap (byte_at s) front

  two_no : two_at s a ≡ None → two_at (slice a e s) 0 ≡ None
  unfolding two_at
  two_no h = no_sign 2 (ap (λ (b : ℕ). two_sign b (byte_at (slice a e s) 1)) first_byte ∙ elim (dec_lt (a + 1) e) [
    | yes k ↦ ap (two_sign (byte_at s a)) (byte_part s a e fits 1 k) ∙ unsigned (two_sign (byte_at s a) (byte_at s (a + 1))) (a + 2) h
    | no k ↦ ap (two_sign (byte_at s a)) (byte_past s a e fits 1 (omega (arith, k))) ∙ two_last (byte_at s a)
  ])

  one_no : one_at s a ≡ None → one_at (slice a e s) 0 ≡ None
  unfolding one_at
  one_no h = no_sign 1 (ap one_sign first_byte ∙ unsigned (one_sign (byte_at s a)) (a + 1) h)

  hex_no : hex_at s a ≡ None → hex_at (slice a e s) 0 ≡ None
  unfolding hex_at pair_at when_fit
  hex_no h = rw (not_both (eqb (byte_at (slice a e s) 0) 48) (eqb (byte_at (slice a e s) 1) 120) go)
    where
      go : eqb (byte_at (slice a e s) 0) 48 ≡ true → eqb (byte_at (slice a e s) 1) 120 ≡ true → ⊥
      go f g =
          let x : byte_at s a ≡ 48 = sym first_byte ∙ eqb-true (byte_at (slice a e s) 0) 48 f in
          let y : byte_at s (a + 1) ≡ 120 = (there 1 (lit< tt) (eqb-true (byte_at (slice a e s) 1) 120 g)).1 in
          true≢false (sym (and (eq-eqb (byte_at s a) 48 x) (eq-eqb (byte_at s (a + 1)) 120 y)) ∙ when_no _ _ 6 h)

  module _ (digit : is_digit (byte_at s a) ≡ true) where
    begins : is_digit (byte_at (slice a e s) 0) ≡ true
    begins = ap is_digit first_byte ∙ digit

    as_no : as_at (slice a e s) 0 ≡ None
    unfolding as_at pair_at when_fit
    as_no = rw (ne_eqb (byte_at (slice a e s) 0) 65 λ g. omega (arith, in_range 48 57 (byte_at (slice a e s) 0) begins, g))

    W : ℕ
    W = past_run (is_class Figure) s a

    U : ℕ
    U = past_run (is_class Figure) (slice a e s) 0

    -- the run before the point, where the token ends behind it
    module _ (w : W ≤ e) where
      whole : a + U ≡ W
      unfolding W U
      whole = past_part (is_class Figure) s a e fits 0 (omega (arith, some)) (le_trans (le_of_eq (ap (past_run (is_class Figure) s) front)) w) ∙ ap (past_run (is_class Figure) s) front

      behind : a + (U + 1) ≡ W + 1
      behind = omega (arith, whole)

      no_fraction : fraction_at s W ≡ false → fraction_at (slice a e s) U ≡ false
      unfolding fraction_at
      no_fraction h = not_both (eqb (byte_at (slice a e s) U) 46) (is_digit (byte_at (slice a e s) (U + 1))) λ f g.
          let x = there U (lit< tt) (eqb-true (byte_at (slice a e s) U) 46 f) in
          let y = passes is_digit refl (U + 1) g in
          true≢false (sym (and (eq-eqb (byte_at s W) 46 (ap (byte_at s) (sym whole) ∙ x.1)) (ap (λ (i : ℕ). is_digit (byte_at s i)) (sym behind) ∙ y.1)) ∙ h)

      a_fraction : W + 1 < e → fraction_at s W ≡ true → fraction_at (slice a e s) U ≡ true
      unfolding fraction_at
      a_fraction k h =
          and
          (ap (λ (b : ℕ). eqb b 46) (byte_part s a e fits U (omega (arith, whole, k)) ∙ ap (byte_at s) whole) ∙ and_left (eqb (byte_at s W) 46) (is_digit (byte_at s (W + 1))) h)
          (ap is_digit (byte_part s a e fits (U + 1) (omega (arith, whole, k)) ∙ ap (byte_at s) behind) ∙ and_right (eqb (byte_at s W) 46) (is_digit (byte_at s (W + 1))) h)

    -- to the end of the part, by whether there is a fraction
    to_end : (E F : ℕ) → a + F ≡ E → E ≤ e → past_run (is_class NamePart) s E ≡ e → past_run (is_class NamePart) (slice a e s) F ≡ length (slice a e s)
    to_end E F f l h =
        let p = past_part (is_class NamePart) s a e fits F (le_trans (le_of_eq f) l) (le_of_eq (ap (past_run (is_class NamePart) s) f ∙ h)) in
        let q : past_run (is_class NamePart) s (a + F) ≡ e = ap (past_run (is_class NamePart) s) f ∙ h in
        left a (past_run (is_class NamePart) (slice a e s) F) e (p ∙ q) ∙ sym (part_length s a e fits)
      where
        left : (a n e : ℕ) → a + n ≡ e → n ≡ e - a
        left a n e h = omega arith

    number_is : {w : ℕ} → number_at s a ≡ Some (e, w) → number_at (slice a e s) 0 ≡ Some (length (slice a e s), w)
    unfolding number_at W U
    number_is h = go (fraction_at s W) refl (when_fits (is_digit (byte_at s a)) _ _ h).1
      where
        go : (fr : Bool) → fraction_at s W ≡ fr → {w : ℕ} → (past_run (is_class NamePart) s (cond fr (past_run (is_class Figure) s (W + 1)) W) ≡ e) × (cond fr 8 7 ≡ w) → number_at (slice a e s) 0 ≡ Some (length (slice a e s), w)
        go false f k =
            let w : W ≤ e = le_trans (past_ge (is_class NamePart) s W) (le_of_eq k.0) in
            form (slice a e s) false (no_fraction w f) begins (to_end W U (whole w) w k.0) ∙ ap (λ (z : ℕ). Some (length (slice a e s), z)) k.1
        go true f k =
            let E = past_run (is_class Figure) s (W + 1) in
            let l : E ≤ e = le_trans (past_ge (is_class NamePart) s E) (le_of_eq k.0) in
            let m : W + 1 < E = past_gt (is_class Figure) (outside Figure) s (W + 1) (figure f) in
            let w : W ≤ e = omega (arith, l, m) in
            let p : a + past_run (is_class Figure) (slice a e s) (U + 1) ≡ E =
            past_part (is_class Figure) s a e fits (U + 1) (omega (arith, behind w, l, m)) (le_trans (le_of_eq (ap (past_run (is_class Figure) s) (behind w))) l) ∙ ap (past_run (is_class Figure) s) (behind w) in
            form (slice a e s) true (a_fraction w (omega (arith, l, m)) f) begins (to_end E (past_run (is_class Figure) (slice a e s) (U + 1)) p l k.0) ∙ ap (λ (z : ℕ). Some (length (slice a e s), z)) k.1
          where
            figure : fraction_at s W ≡ true → is_class Figure (byte_at s (W + 1)) ≡ true
            figure f = unfold fraction_at is_class in rw (and_right (eqb (byte_at s W) 46) (is_digit (byte_at s (W + 1))) f)

-- ---- the token of the part
module _ (s : List ℕ) {w a e : ℕ} (fits : e ≤ length s) (some : a < e) (n : Numeric s a e w) where
  text : List ℕ
  text = slice a e s

  digit : is_digit (byte_at s a) ≡ true
  digit = number_starts s a n.number

  token_is : token_at text 0 ≡ taken 0 (length text) w
  unfolding token_at or_else text
  token_is =
      rw (
        ipv6_no s a e fits some n.ipv6,
        ipv4_no s a e fits some n.ipv4,
        two_no s a e fits some n.two,
        one_no s a e fits some n.one,
        as_no s a e fits some digit,
        hex_no s a e fits some n.hex,
        number_is s a e fits some digit n.number,
      )

  step_is : step_at text 0 ≡ taken 0 (length text) w
  unfolding step_at skip_all text
  step_is =
      let z : skip_all text 0 ≡ 0 = ap (λ (n : ℕ). 0 + n) (skip_none text (begins s a e fits some digit)) in
      rw (z, lt-ltb 0 (length text) (le_trans (omega (arith, some)) (le_of_eq (sym (part_length s a e fits))))) token_is

  row_is : row_of text ≡ literal_of (code_of w) text
  unfolding row_of row_for taken
  row_is = rw (step_is, eq-eqb (length text) (length text) refl) refl

-- where the lexer finds a float in a source, its text alone is the same float
pub row_alone : (s : List ℕ) (at : ℕ) {w a : ℕ} {n : Cursor} → step_at s at ≡ Ok (w, a, n) → {v d : ℕ}
    → literal_of (code_of w) (slice a n.at s) ≡ Some (record { kind = 11; value = v; detail = d }) → row_of (slice a n.at s) ≡ Some (record { kind = 11; value = v; detail = d })
unfolding text
row_alone s at {w} {a} {n} h e =
    let g = taken_good s at h in
    row_is s g.2 g.1 (numeric_step (row_number (code_of w) (slice a n.at s) e) s at h) ∙ e

-- so a row of kind 11 has a number, of the width that its detail names, or too many digits
pub row_has_number : (s : List ℕ) → length s ≤ 65535 → (at : ℕ) {w a : ℕ} {n : Cursor} → step_at s at ≡ Ok (w, a, n) → {v d : ℕ}
    → literal_of (code_of w) (slice a n.at s) ≡ Some (record { kind = 11; value = v; detail = d }) → Some (width_of d) ≡ alone_of (slice a n.at s)
row_has_number s few at {w} {a} {n} h e =
    let g = taken_good s at h in
    let l : length (slice a n.at s) ≡ n.at - a = part_length s a n.at g.2 in
    a_float (slice a n.at s) (omega (arith, l, g.2, few)) refl (row_alone s at h e) refl refl
