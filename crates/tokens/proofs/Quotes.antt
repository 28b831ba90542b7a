-- The scan for a closing quote: by blocks, and from backslash to backslash.
use mathlib.Core.Path.{◌≡◌, refl, sym, ap, ◌∙◌}
use Prim.Native.Nat.{ℕ, ◌+◌, ◌<◌}
use mathlib.Core.List.{List}
use mathlib.Core.Bool.{Bool, true, false, ◌&&◌, ◌||◌, not}
use native.Mathlib.Omega.{arith}
use lib.ListN.{length}
use lib.Dec.{eqb}
use borrow.Author.Tests.{lt-ltb, eq-eqb, eqb-true, not-true, not-false}
use Rattle.chars.specs.Chars.{byte_at}
use Rattle.chars.specs.Runs.{past_span}
use Rattle.chars.proofs.Runs.{within, span_more, span_done}
use Rattle.tokens.specs.Rules.{goes_on, escapes}
use Rattle.tokens.proofs.Fits.{so, not_second}
use Rattle.tokens.proofs.Pairs.{fst, snd, nor_first, nor_second}

pub quote_outside : (q : ℕ) (c : Bool) → goes_on q c 256 ≡ false
quote_outside q c = not_second (c || not (eqb 256 q)) refl

module _ (q : ℕ) (s : List ℕ) where
  abbrev to : Bool → ℕ → ℕ
  to c i = past_span (goes_on q) escapes c s i

  -- a byte that goes on and is no backslash
  step : (i : ℕ) → goes_on q false (byte_at s i) ≡ true → eqb (byte_at s i) 92 ≡ false → to false (i + 1) ≡ to false i
  step i t f = ap (λ c. to c (i + 1)) (sym f) ∙ span_more (goes_on q) escapes false (quote_outside q false) s i t

  -- a byte that is neither the quote nor a backslash
  pub plain_byte : {b : ℕ} → b < 256 → (eqb b q || eqb b 92) ≡ false → (goes_on q false b ≡ true) × (escapes false b ≡ false)
  plain_byte {b} k e = (rw (nor_first (eqb b q) _ e, lt-ltb b 256 k) refl, nor_second (eqb b q) _ e)

  -- a turn of the loop of `plain_text`, which reads the byte twice
  module _ (i : ℕ) {x y : ℕ} {t : Bool} (read : x ≡ byte_at s i) (test : t ≡ goes_on q false x) (again : y ≡ byte_at s i) where
    on : {u : Bool} → t ≡ u → goes_on q false (byte_at s i) ≡ u
    on e = ap (goes_on q false) (sym read) ∙ sym test ∙ e

    pub plain_in : (t && not (eqb y 92)) ≡ true → i < length s
    plain_in e = within (goes_on q false) (quote_outside q false) s i (on (fst t (not (eqb y 92)) e))

    pub plain_more : (t && not (eqb y 92)) ≡ true → to false (i + 1) ≡ to false i
    plain_more e = step i (on (fst t (not (eqb y 92)) e)) (ap (λ n. eqb n 92) (sym again) ∙ not-true (eqb y 92) (snd t (not (eqb y 92)) e))

    pub plain_stops : (t && not (eqb y 92)) ≡ false → goes_on q false (byte_at s i) ≡ true → byte_at s i ≡ 92
    plain_stops e g = sym again ∙ eqb-true y 92 (not-false (eqb y 92) (sym (rw (test ∙ ap (goes_on q false) read ∙ g)) ∙ e))

  -- a turn of the loop of `closing`, which reads a byte where `plain_text` has stopped
  module _ (i : ℕ) {x : ℕ} {t : Bool} (read : x ≡ byte_at s i) (test : t ≡ goes_on q false x) where
    pub closes_not : t ≡ true → (goes_on q false (byte_at s i) ≡ true → byte_at s i ≡ 92) → (goes_on q false (byte_at s i) ≡ true) × (byte_at s i ≡ 92)
    closes_not e stopped = let g : goes_on q false (byte_at s i) ≡ true = ap (goes_on q false) (sym read) ∙ so test e in (g, stopped g)

    pub closes_in : t ≡ true → i < length s
    closes_in e = within (goes_on q false) (quote_outside q false) s i (ap (goes_on q false) (sym read) ∙ so test e)

    pub closes : t ≡ false → i ≡ to false i
    closes e = sym (span_done (goes_on q) escapes false (quote_outside q false) s i (ap (goes_on q false) (sym read) ∙ so test e))

  -- a backslash, and the byte behind it, that was read and tested
  module _ (i : ℕ) (goes : goes_on q false (byte_at s i) ≡ true) (back : byte_at s i ≡ 92) where
    pub escape_in : i < length s
    escape_in = within (goes_on q false) (quote_outside q false) s i goes

    half : to true (i + 1) ≡ to false i
    half = ap (λ c. to c (i + 1)) (sym (eq-eqb (byte_at s i) 92 back)) ∙ span_more (goes_on q) escapes false (quote_outside q false) s i goes

    module _ {x : ℕ} {t : Bool} (read : x ≡ byte_at s (i + 1)) (test : t ≡ goes_on q true x) where
      told : {u : Bool} → t ≡ u → goes_on q true (byte_at s (i + 1)) ≡ u
      told e = ap (goes_on q true) (sym read) ∙ sym test ∙ e

      pub escape_next : t ≡ true → i + 1 < length s
      escape_next e = within (goes_on q true) (quote_outside q true) s (i + 1) (told e)

      pub escape_on : t ≡ true → to false (i + 2) ≡ to false i
      escape_on e =
          let n : i + 2 ≡ i + 1 + 1 = omega arith in
          ap (to false) n ∙ span_more (goes_on q) escapes true (quote_outside q true) s (i + 1) (told e) ∙ half

      pub escape_off : t ≡ false → to false (i + 1) ≡ to false i
      escape_off e =
          span_done (goes_on q) escapes false (quote_outside q false) s (i + 1) (not_second (false || not (eqb (byte_at s (i + 1)) q)) (told e))
          ∙ sym (span_done (goes_on q) escapes true (quote_outside q true) s (i + 1) (told e))
          ∙ half
