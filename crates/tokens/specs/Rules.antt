-- "Then the first rule that fits; its number is the token's code."
use Rattle.std.specs.Prelude.{Some, None, Ok, Err, ℕ, ◌+◌, List, Bool, true, false, ◌&&◌, ◌||◌, not, cond, length, eqb, ltb}
use Rattle.std.proofs.Math.Seq.{slice}
use Rattle.chars.specs.declared.Class.TheVariants.{Digit, Figure, HexDigit, HexColon, NamePart}
use Rattle.chars.specs.Chars.{byte_at, is_class, is_digit, is_letter}
use Rattle.chars.specs.Runs.{past_span, past_run, behind_last}
use Rattle.tokens.specs.Results.{Fit}
use Rattle.tokens.specs.Results.{Step}
use Rattle.tokens.specs.Words.{two_sign, one_sign, name_word}

-- to e, as the word w, where the test holds
unfoldable pub when_fit : Bool → ℕ → ℕ → Fit
when_fit true e w = Some (e, w)
when_fit false e w = None

-- a sign's word, or none
unfoldable pub sign_fit : ℕ → ℕ → Fit
sign_fit w e = when_fit (not (eqb w 0)) e w

-- one part and then another from where it ends
unfoldable pub then_fit : Fit → (ℕ → Fit) → Fit
then_fit (Some (e, w)) f = f e
then_fit None f = None

-- two bytes stand at a place
unfoldable pub pair_at : List ℕ → ℕ → ℕ → ℕ → Bool
pair_at s at a b = eqb (byte_at s at) a && eqb (byte_at s (at + 1)) b

-- "1. IPv6: hex digits*, `:`, hex digits*, `:`, then hex digits or `:`*."
unfoldable pub colons_at : List ℕ → ℕ → Fit
colons_at s at =
    let a : ℕ = past_run (is_class HexDigit) s at in
    let b : ℕ = past_run (is_class HexDigit) s (a + 1) in
    when_fit (eqb (byte_at s a) 58 && eqb (byte_at s b) 58) (past_run (is_class HexColon) s (b + 1)) 1

-- "`.` and a digit next"
unfoldable pub fraction_at : List ℕ → ℕ → Bool
fraction_at s at = eqb (byte_at s at) 46 && is_digit (byte_at s (at + 1))

-- "a period with decimal digits"
unfoldable pub dotted_at : List ℕ → ℕ → Fit
dotted_at s at = when_fit (fraction_at s at) (past_run (is_class Digit) s (at + 1)) 1

-- "three times", to the end of the last number
unfoldable pub three_at : List ℕ → ℕ → Fit
three_at s at = then_fit (dotted_at s at) λ a. then_fit (dotted_at s a) λ b. dotted_at s b

-- the last group of a token that ends at a place, from behind its last colon on, is "one or more decimal digits only"
unfoldable pub decimal_group : List ℕ → ℕ → Bool
decimal_group s e = let group : ℕ = behind_last 58 s e in ltb group e && eqb (past_run (is_class Digit) s group) e

-- to where a longer token ends, or else to an end
unfoldable pub or_to : Fit → ℕ → Fit
or_to (Some (e, w)) end = Some (e, 1)
or_to None end = Some (end, 1)

-- document 02, C-16: "when the last group of an IPv6 token is one or more decimal digits only and three times a period with decimal
-- digits follows at once, the token runs to the end of the fourth number"
unfoldable pub ipv6_at : List ℕ → ℕ → Fit
ipv6_at s at = then_fit (colons_at s at) λ e. or_to (cond (decimal_group s e) (three_at s e) None) e

-- "digits+ `.`"
unfoldable pub period_at : List ℕ → ℕ → Fit
period_at s at = let e : ℕ = past_run (is_class Digit) s at in when_fit (is_digit (byte_at s at) && eqb (byte_at s e) 46) (e + 1) 2

-- "2. IPv4: three times digits+ `.`, then digits*."
unfoldable pub ipv4_at : List ℕ → ℕ → Fit
ipv4_at s at = then_fit (period_at s at) λ a. then_fit (period_at s a) λ b. then_fit (period_at s b) λ c. Some (past_run (is_class Digit) s c, 2)

-- "3. Two signs"
unfoldable pub two_at : List ℕ → ℕ → Fit
two_at s at = sign_fit (two_sign (byte_at s at) (byte_at s (at + 1))) (at + 2)

-- "4. One sign"
unfoldable pub one_at : List ℕ → ℕ → Fit
one_at s at = sign_fit (one_sign (byte_at s at)) (at + 1)

-- "5. AS number: `AS`, digits+."
unfoldable pub as_at : List ℕ → ℕ → Fit
as_at s at = when_fit (pair_at s at 65 83 && is_digit (byte_at s (at + 2))) (past_run (is_class Digit) s (at + 2)) 5

-- "6. Hex: `0x`, hex digits*."
unfoldable pub hex_at : List ℕ → ℕ → Fit
hex_at s at = when_fit (pair_at s at 48 120) (past_run (is_class HexDigit) s (at + 2)) 6

-- "7. Integer, 8. Float: a digit, then digits or `_`; with `.` and a digit next, that fraction too (digits or `_`): a float.
-- A letter right after begins a suffix: letters, digits, `_`." (Digits and `_` are taken by then, so a suffix begins with a letter.)
unfoldable pub number_at : List ℕ → ℕ → Fit
number_at s at =
    let whole : ℕ = past_run (is_class Figure) s at in
    let fraction : Bool = fraction_at s whole in
    let e : ℕ = cond fraction (past_run (is_class Figure) s (whole + 1)) whole in
    when_fit (is_digit (byte_at s at)) (past_run (is_class NamePart) s e) (cond fraction 8 7)

-- inside a quote: a byte goes on where a backslash escapes it or it isn't the quote; a backslash escapes where it isn't escaped
abbrev pub goes_on : ℕ → Bool → ℕ → Bool
goes_on q escaped b = (escaped || not (eqb b q)) && ltb b 256

abbrev pub escapes : Bool → ℕ → Bool
escapes escaped b = not escaped && eqb b 92

-- "9. String, 10. Char: a quote through the next same quote that no backslash escapes. If the source ends there, or before, no token."
unfoldable pub quote_at : ℕ → ℕ → List ℕ → ℕ → Fit
quote_at q w s at =
    let close : ℕ = past_span (goes_on q) escapes false s (at + 1) in
    when_fit (eqb (byte_at s at) q && ltb (close + 1) (length s)) (close + 1) w

abbrev pub is_name_start : ℕ → Bool
is_name_start b = is_letter b || eqb b 95

-- "11. Keyword, 12. `true` or `false`, 13. Name: a letter or `_`, then letters, digits, `_`"
unfoldable pub name_at : List ℕ → ℕ → Fit
name_at s at =
    let e : ℕ = past_run (is_class NamePart) s at in
    when_fit (is_name_start (byte_at s at)) e (name_word (slice at e s))

-- a word from a place to an end, and the cursor behind it
unfoldable pub taken : ℕ → ℕ → ℕ → Step
taken at e w = Ok (w, at, record { at = e })

unfoldable pub refused : ℕ → ℕ → ℕ → Step
refused n a e = Err (record { number = n; start = a; end = e })

-- the token where a rule fits, and else what the later rules say
unfoldable pub or_else : ℕ → Fit → Step → Step
or_else at (Some (e, w)) later = taken at e w
or_else at None later = later

-- "Then `f"`: refusal 5.": "those two bytes"; "4: no token starts here: that byte, +1".
-- What the rules say at a place where a byte stands that isn't skipped:
unfoldable pub token_at : List ℕ → ℕ → Step
token_at s at =
    or_else at (ipv6_at s at)
    (or_else at (ipv4_at s at)
    (or_else at (two_at s at)
    (or_else at (one_at s at)
    (or_else at (as_at s at)
    (or_else at (hex_at s at)
    (or_else at (number_at s at)
    (cond (pair_at s at 102 34) (refused 5 at (at + 2))
    (or_else at (quote_at 34 9 s at)
    (or_else at (quote_at 39 10 s at)
    (or_else at (name_at s at)
    (refused 4 at (at + 1))))))))))))
