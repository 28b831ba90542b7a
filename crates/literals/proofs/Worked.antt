-- Worked examples: the answers to the open points' texts, and others that Rust's `parse` confirms. By `the_answer` no other is permitted.
use mathlib.Core.Path.{◌≡◌, refl}
use Prim.Native.Nat.{ℕ}
use Prim.Native.String.{String}
use mathlib.Core.List.{List, [], ◌∷◌, ◌++◌, map}
use Rattle.chars.specs.Texts.{bytes, same}
use Rattle.chars.specs.Chars.{byte_at, is_class}
use Rattle.chars.specs.Runs.{past_run, past_span, span}
use Rattle.tokens.specs.Words.{code_of, two_sign, one_sign, two_signs, one_signs, word_in, name_word, keywords, page, words_of}
use Rattle.tokens.specs.Blanks.{skip_all, skipped}
use Rattle.tokens.specs.Rules.{when_fit, sign_fit, then_fit, or_else, taken, refused, pair_at, colons_at, ipv6_at, period_at, ipv4_at, two_at, one_at, as_at, hex_at, fraction_at, number_at, quote_at, name_at, token_at}
use Rattle.tokens.specs.Tokens.{step_at}
use Rattle.numbers.specs.Digits.{number_of, number_from, value_from, all_below, plain, digit_of}
use Rattle.numbers.specs.Numbers.{integer_of, integer_with, as_integer, ceiling_of, point_at, float_of, float_with, suffix_of, place_in, hex_of}
use Rattle.values.specs.Literals.{literal_of}
use lib.Ieee.{round, to_bits}
use Rattle.floats.specs.Bits.{bits_of}
use Rattle.literals.specs.declared.Answer.{Answer}
use Rattle.literals.specs.Decimals.{digits_at, before, after, from_first, few}
use Rattle.literals.specs.Answers.{row_for, row_of, width_of, float_row, alone_of}
use Rattle.literals.proofs.Answered.{answer_for, answer_of}

-- a text, and number, width and bits of its answer
record Case : Type 0 where
  text : String
  answer : List ℕ

infix 20 ◌is_f64◌
abbrev ◌is_f64◌ : String → ℕ → Case
t is_f64 b = record { text = t; answer = 0 ∷ 64 ∷ b ∷ [] }

infix 20 ◌is_f32◌
abbrev ◌is_f32◌ : String → ℕ → Case
t is_f32 b = record { text = t; answer = 0 ∷ 32 ∷ b ∷ [] }

abbrev long : String → Case
long t = record { text = t; answer = 14 ∷ 0 ∷ 0 ∷ [] }

abbrev none : String → Case
none t = record { text = t; answer = 7 ∷ 0 ∷ 0 ∷ [] }

-- floats (T17.2, T17.6), ties among them, and two that an f64 between would change
abbrev floats : List Case
floats =
    ("0.1" is_f64 0x3fb9_9999_9999_999a)
    ∷ ("0.1f32" is_f32 0x3dcc_cccd)
    ∷ ("1f32" is_f32 0x3f80_0000)
    ∷ ("300f32" is_f32 0x4396_0000)
    ∷ ("1_0.2_5f64" is_f64 0x4024_8000_0000_0000)
    ∷ ("1_f32" is_f32 0x3f80_0000)
    ∷ ("1.5_f32" is_f32 0x3fc0_0000)
    ∷ ("00.5" is_f64 0x3fe0_0000_0000_0000)
    ∷ ("9007199254740993.0" is_f64 0x4340_0000_0000_0000)
    ∷ ("9007199254740995.0" is_f64 0x4340_0000_0000_0002)
    ∷ ("16777217f32" is_f32 0x4b80_0000)
    ∷ ("16777219.0f32" is_f32 0x4b80_0002)
    ∷ ("16777217.00000000001f32" is_f32 0x4b80_0001)
    ∷ ("0.00002712892001f32" is_f32 0x37e3_92e9)
    ∷ []

-- "up to 19 digits" (T17.3): zeros at the end count, zeros in front and underscores don't
abbrev digit_counts : List Case
digit_counts =
    ("1.000000000000000000" is_f64 0x3ff0_0000_0000_0000)
    ∷ long "1.0000000000000000000"
    ∷ ("0.0000000000000000000" is_f64 0)
    ∷ long "0.00000000000000000000"
    ∷ ("0.0000000000000000001" is_f64 0x3bfd_83c9_4fb6_d2ac)
    ∷ ("00000000000000000000000.5" is_f64 0x3fe0_0000_0000_0000)
    ∷ ("9_999_999_999_999_999_999f64" is_f64 0x43e1_58e4_6091_3d00)
    ∷ long "10000000000000000000.0"
    ∷ long "1_234_567_890_123_456_789.0"
    ∷ []

-- no float with a value, or not alone (T17.2), before too many digits (T17.4)
abbrev no_floats : List Case
no_floats =
    none ""
    ∷ none "1"
    ∷ none "1."
    ∷ none "."
    ∷ none ".5"
    ∷ none "_.5"
    ∷ none "1.f32"
    ∷ none "1._5"
    ∷ none "1.5u8"
    ∷ none "1e5"
    ∷ none "0x1f32"
    ∷ none "1.2.3"
    ∷ none "1.5 "
    ∷ none " 1.5"
    ∷ none "-1.5"
    ∷ none "1.5f32f32"
    ∷ none "12345678901234567890"
    ∷ none "12345678901234567890.0f16"
    ∷ []

abbrev cases : List Case
cases = floats ++ digit_counts ++ no_floats

abbrev shown : Answer → List ℕ
shown a = a.number ∷ a.width ∷ a.bits ∷ []

worked : map (λ c. shown (answer_of (bytes c.text))) cases ≡ map (λ c. c.answer) cases
unfolding answer_of answer_for alone_of float_row row_of row_for width_of few from_first before after digits_at bits_of round to_bits step_at skip_all skipped token_at or_else taken refused when_fit sign_fit then_fit pair_at colons_at ipv6_at period_at ipv4_at two_at one_at as_at hex_at fraction_at number_at code_of two_sign one_sign two_signs one_signs word_in literal_of byte_at bytes same past_run past_span span is_class integer_of integer_with as_integer ceiling_of point_at float_of float_with suffix_of place_in number_of number_from value_from all_below plain digit_of name_at name_word keywords page words_of hex_of quote_at
worked = refl
