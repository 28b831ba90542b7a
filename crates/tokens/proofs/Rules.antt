-- What each rule answers, from the places that were reached and the bytes that stand there.
use Rattle.std.specs.Prelude.{Some, None}
use mathlib.Core.Path.{◌≡◌, refl, sym, ap, ap₂, ◌∙◌}
use Prim.Native.Nat.{ℕ, ◌+◌, ◌<◌, ◌≤◌}
use mathlib.Core.List.{List, []}
use mathlib.Core.Bool.{Bool, true, false, cond}
use native.Mathlib.Decide.{dec_lt}
use native.Mathlib.Omega.{arith}
use lib.ListN.{length, get_or}
use lib.Dec.{eqb}
use borrow.Author.Tests.{lt-ltb, le-ltb, ne_eqb, eqb-true}
use Rattle.chars.specs.declared.Class.TheVariants.{Line, Digit, Figure, HexDigit, HexColon, NamePart}
use Rattle.chars.specs.Chars.{byte_at, is_class, is_digit}
use Rattle.chars.specs.Texts.{same}
use Rattle.chars.specs.Runs.{past_span, past_run, behind_last}
use Rattle.chars.proofs.Runs.{byte_in, byte_out, inside}
use Rattle.tokens.specs.Results.{Fit}
use Rattle.tokens.specs.Words.{two_sign, two_signs, one_sign, one_signs, word_in, code_of}
use Rattle.tokens.specs.Blanks.{past_comment}
use Rattle.tokens.specs.Rules.{colons_at, fraction_at, dotted_at, three_at, decimal_group, or_to, ipv6_at, period_at, number_at, two_at, one_at, goes_on, escapes, quote_at}
use Rattle.tokens.proofs.Pairs.{fst}
use Rattle.tokens.proofs.Fits.{so, both, not_first, fails_second, byte_is, byte_isn't, fits, fails, no_sign, goes_on_lem, ends, first, second}
use Rattle.tokens.proofs.Tables.{no_first}

one_none : one_sign 256 ≡ 0
unfolding one_sign one_signs word_in same
one_none = refl

module _ (s : List ℕ) (at : ℕ) where
  -- the end of a comment's line
  module _ {e : ℕ} (to : e ≡ past_run (is_class Line) s at) where
    pub line_on : e < length s → e + 1 ≡ past_comment s at
    unfolding past_comment
    line_on h = rw (← to) (first _ (lt-ltb _ _ h) refl)

    pub line_off : length s ≤ e → e ≡ past_comment s at
    unfolding past_comment
    line_off h = rw (← to) (second _ (le-ltb _ _ h) refl)

  -- 1. IPv6: hex digits and colons
  module _ {a x : ℕ} (to : a ≡ past_run (is_class HexDigit) s at) (read : x ≡ byte_at s a) where
    pub colons_first : (x ≡ 58 → ⊥) → None ≡ colons_at s at
    unfolding colons_at
    colons_first h = rw (← to) (fails _ _ (not_first _ (byte_isn't s a read h)))

    module _ {b y : ℕ} (colon : x ≡ 58) (on : b ≡ past_run (is_class HexDigit) s (a + 1)) (next : y ≡ byte_at s b) where
      pub colons_second : (y ≡ 58 → ⊥) → None ≡ colons_at s at
      unfolding colons_at
      colons_second h = rw (← to, ← on) (fails_second (eqb (byte_at s a) 58) _ _ (byte_isn't s b next h))

      pub colons_fit : {r : ℕ} → y ≡ 58 → r ≡ past_run (is_class HexColon) s (b + 1) → Some (r, 1) ≡ colons_at s at
      unfolding colons_at
      colons_fit h g = rw (← to, ← on) (fits (both (byte_is s a read colon) (byte_is s b next h)) g refl)

  -- a period with digits
  pub dotted_fits : {r : ℕ} → fraction_at s at ≡ true → r ≡ past_run (is_class Digit) s (at + 1) → Some (r, 1) ≡ dotted_at s at
  unfolding dotted_at
  dotted_fits h e = fits h e refl

  pub dotted_fails : fraction_at s at ≡ false → None ≡ dotted_at s at
  unfolding dotted_at
  dotted_fails h = fails _ _ h

  -- the last group of an address that ends here
  module _ {group : ℕ} (from : group ≡ behind_last 58 s at) where
    pub group_some : {r : ℕ} → group < at → r ≡ past_run (is_class Digit) s group → eqb r at ≡ decimal_group s at
    unfolding decimal_group
    group_some h e = rw (← from, lt-ltb _ _ h) (ap (λ n. eqb n at) e)

    pub group_none : at ≤ group → false ≡ decimal_group s at
    unfolding decimal_group
    group_none h = rw (← from, le-ltb _ _ h) refl

  -- the ending of an address
  pub ipv6_none : colons_at s at ≡ None → None ≡ ipv6_at s at
  unfolding ipv6_at
  ipv6_none h = ends _ h

  module _ {e w : ℕ} (to : colons_at s at ≡ Some (e, w)) where
    ending : {t : Bool} {f x : Fit} → decimal_group s e ≡ t → three_at s e ≡ f → x ≡ or_to (cond t f None) e → x ≡ ipv6_at s at
    unfolding ipv6_at
    ending h g k = goes_on_lem _ to (rw (h, g) k)

    stays : (t : Bool) (f : Fit) → cond t f None ≡ None → Some (e, 1) ≡ or_to (cond t f None) e
    unfolding or_to
    stays t f h = rw h

    pub ipv6_three : three_at s e ≡ None → Some (e, 1) ≡ ipv6_at s at
    ipv6_three h = ending refl h (stays (decimal_group s e) None (go (decimal_group s e)))
      where
        go : (t : Bool) → ◌≡◌ {A = Fit} (cond t None None) None
        go true = refl
        go false = refl

    pub ipv6_hex : {t : Bool} → t ≡ decimal_group s e → t ≡ false → Some (e, 1) ≡ ipv6_at s at
    ipv6_hex d h = ending (so d h) refl (stays false (three_at s e) refl)

    pub ipv6_dotted : {t : Bool} {r v : ℕ} → t ≡ decimal_group s e → t ≡ true → three_at s e ≡ Some (r, v) → Some (r, 1) ≡ ipv6_at s at
    unfolding or_to
    ipv6_dotted d h g = ending (so d h) g refl

  -- 2. IPv4: a part of it
  pub period_none : is_digit (byte_at s at) ≡ false → None ≡ period_at s at
  unfolding period_at
  period_none h = fails _ _ (not_first _ h)

  module _ {e x : ℕ} (to : e ≡ past_run (is_class Digit) s at) (read : x ≡ byte_at s e) where
    pub period_fails : (x ≡ 46 → ⊥) → None ≡ period_at s at
    unfolding period_at
    period_fails h = rw (← to) (fails_second (is_digit (byte_at s at)) _ _ (byte_isn't s e read h))

    pub period_fits : is_digit (byte_at s at) ≡ true → x ≡ 46 → Some (e + 1, 2) ≡ period_at s at
    unfolding period_at
    period_fits h g = rw (← to) (fits (both h (byte_is s e read g)) refl refl)

  -- 7. Integer, 8. Float
  pub number_none : is_digit (byte_at s at) ≡ false → None ≡ number_at s at
  unfolding number_at
  number_none h = fails _ _ h

  module _ {whole : ℕ} (digit : is_digit (byte_at s at) ≡ true) (to : whole ≡ past_run (is_class Figure) s at) where
    pub number_float : {e r : ℕ} → fraction_at s whole ≡ true → e ≡ past_run (is_class Figure) s (whole + 1) → r ≡ past_run (is_class NamePart) s e → Some (r, 8) ≡ number_at s at
    unfolding number_at
    number_float h g k = rw (← to, h, ← g) (fits digit k refl)

    pub number_integer : {r : ℕ} → fraction_at s whole ≡ false → r ≡ past_run (is_class NamePart) s whole → Some (r, 7) ≡ number_at s at
    unfolding number_at
    number_integer h k = rw (← to, h) (fits digit k refl)

  pub fraction_on : {x : ℕ} {t : Bool} → x ≡ byte_at s at → x ≡ 46 → t ≡ is_digit (byte_at s (at + 1)) → t ≡ fraction_at s at
  unfolding fraction_at
  fraction_on e h g = rw (byte_is s at e h) g

  pub fraction_off : {x : ℕ} → x ≡ byte_at s at → (x ≡ 46 → ⊥) → false ≡ fraction_at s at
  unfolding fraction_at
  fraction_off e h = rw (byte_isn't s at e h)

  pub fraction_in : fraction_at s at ≡ true → at < length s
  unfolding fraction_at
  fraction_in h = inside s at refl (eqb-true _ _ (fst _ _ h)) (omega arith)

  -- 4. One sign stands inside
  pub one_in : {w : ℕ} → w ≡ one_sign (byte_at s at) → (w ≡ 0 → ⊥) → at < length s
  one_in e f = elim (dec_lt at (length s)) [ yes h ↦ h | no k ↦ absurd (f (e ∙ ap one_sign (byte_out s at (omega (arith, k))) ∙ one_none)) ]

  -- 9. String, 10. Char
  module _ (q w : ℕ) where
    pub quote_none : {x : ℕ} → x ≡ byte_at s at → (x ≡ q → ⊥) → None ≡ quote_at q w s at
    unfolding quote_at
    quote_none e h = fails _ _ (not_first _ (byte_isn't s at e h))

    module _ {close : ℕ} (to : close ≡ past_span (goes_on q) escapes false s (at + 1)) where
      pub quote_open : length s ≤ close + 1 → None ≡ quote_at q w s at
      unfolding quote_at
      quote_open h = rw (← to) (fails_second (eqb (byte_at s at) q) _ _ (le-ltb _ _ h))

      pub quote_fits : {x : ℕ} → x ≡ byte_at s at → x ≡ q → close + 1 < length s → Some (close + 1, w) ≡ quote_at q w s at
      unfolding quote_at
      quote_fits e h g = rw (← to) (fits (both (byte_is s at e h) (lt-ltb _ _ g)) refl refl)

-- 3. Two signs: none without a second byte. 4. One sign: none past the end
pub two_out : (s : List ℕ) (at : ℕ) → length s ≤ at + 1 → None ≡ two_at s at
unfolding two_at two_signs
two_out s at h = no_sign (at + 2) refl (ap (two_sign (byte_at s at)) (byte_out s (at + 1) h) ∙ sym (no_first [] (byte_at s at) 256 refl tt))

pub one_out : (s : List ℕ) (at : ℕ) → length s ≤ at → None ≡ one_at s at
unfolding one_at
one_out s at h = no_sign (at + 1) refl (ap one_sign (byte_out s at h) ∙ one_none)

pub two_read : (s : List ℕ) (at : ℕ) {w : ℕ} → at + 1 < length s → w ≡ two_sign (get_or s at 0) (get_or s (at + 1) 0) → w ≡ two_sign (byte_at s at) (byte_at s (at + 1))
two_read s at h e = e ∙ sym (ap₂ two_sign (byte_in s at (omega (arith, h))) (byte_in s (at + 1) h))

pub one_read : (s : List ℕ) (at : ℕ) {w : ℕ} → at < length s → w ≡ one_sign (get_or s at 0) → w ≡ one_sign (byte_at s at)
one_read s at h e = e ∙ sym (ap one_sign (byte_in s at h))

-- the code of a word by the bounds of its rule
module _ (w : ℕ) where
  pub code_keyword : 60 ≤ w → 11 ≡ code_of w
  unfolding code_of
  code_keyword h = second _ (le-ltb w 20 (omega (arith, h))) (second _ (le-ltb w 40 (omega (arith, h))) (second _ (le-ltb w 60 h) refl))

  pub code_one : w < 60 → 40 ≤ w → 4 ≡ code_of w
  unfolding code_of
  code_one k h = second _ (le-ltb w 20 (omega (arith, h))) (second _ (le-ltb w 40 h) (first _ (lt-ltb w 60 k) refl))

  pub code_two : w < 40 → 20 ≤ w → 3 ≡ code_of w
  unfolding code_of
  code_two k h = second _ (le-ltb w 20 h) (first _ (lt-ltb w 40 k) refl)

  pub code_under : w ≡ 14 → 13 ≡ code_of w
  unfolding code_of
  code_under h = rw h

  pub code_same : w < 20 → (w ≡ 14 → ⊥) → w ≡ code_of w
  unfolding code_of
  code_same k h = first _ (lt-ltb w 20 k) (second _ (ne_eqb w 14 h) refl)
