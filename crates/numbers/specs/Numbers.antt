-- "Literal values" of document 01: integers, floats, hex numbers, AS numbers.
use Rattle.std.specs.Prelude.{Some, None, ℕ, ◌+◌, List, [], ◌∷◌, Bool, true, ◌&&◌, ◌||◌, cond, length, take, drop, get_or, eqb, ltb}
use Rattle.chars.specs.declared.Class.{Class}
use Rattle.chars.specs.Chars.{byte_at, is_digit, is_class}
use Rattle.chars.specs.Runs.{past_run}
use Rattle.chars.specs.Texts.{bytes, same}
use Rattle.numbers.specs.declared.Base.{Base}
use Rattle.numbers.specs.Results.{Number}
use Rattle.numbers.specs.Results.{Written}
use Rattle.numbers.specs.declared.Amount.{Amount}
use Rattle.numbers.specs.Digits.{number_of, plain}

-- the suffixes in their order
abbrev pub suffixes : List (List ℕ)
suffixes =
    bytes "i8"
    ∷ bytes "i16"
    ∷ bytes "i32"
    ∷ bytes "i64"
    ∷ bytes "u8"
    ∷ bytes "u16"
    ∷ bytes "u32"
    ∷ bytes "u64"
    ∷ bytes "f32"
    ∷ bytes "f64"
    ∷ []

-- "Test the range of the suffix, and let `u64` reach 18446744073709551615" (document 02): the greatest value of `i8` to `u64`, in the same order
abbrev pub greatest : List ℕ
greatest =
    127
    ∷ 32767
    ∷ 2147483647
    ∷ 9223372036854775807
    ∷ 255
    ∷ 65535
    ∷ 4294967295
    ∷ 18446744073709551615
    ∷ []

-- "Without a suffix the old ceiling stays": "at most 9223372036854775807", and for a hex number "at most 0x7fffffffffffffff"
abbrev pub unsuffixed : ℕ
unsuffixed = 9223372036854775807

-- the greatest value under the suffix of an integer, by the suffix's number
unfoldable pub ceiling_of : ℕ → ℕ
ceiling_of suffix = get_or (unsuffixed ∷ greatest) suffix 0

-- the place of a text in a list, counted from k
unfoldable pub place_in : ℕ → List ℕ → List (List ℕ) → ℕ
place_in k text [] = k
place_in k text (u ∷ us) = let rest : ℕ = place_in (k + 1) text us in cond (same text u) k rest

-- 0 for none, 1 to 10 in the order of the list, 11 for any other text
unfoldable pub suffix_of : List ℕ → ℕ
suffix_of text = cond (eqb (length text) 0) 0 (place_in 1 text suffixes)

unfoldable pub as_integer : ℕ → Number → Written
as_integer suffix (Some (v, n)) = Some (Amount.Integer v suffix)
as_integer suffix None = None

-- "underscores dropped", "then the suffix", whose range is tested; "`f32` or `f64` makes a float; any other is refused"
unfoldable pub integer_with : List ℕ → ℕ → Written
integer_with figures suffix =
    cond (ltb suffix 9) (as_integer suffix (number_of Base.Ten (ceiling_of suffix) (plain true figures)))
    (cond (ltb suffix 11) (Some (Amount.Float suffix)) None)

-- "a digit, then digits or `_`", and a suffix
unfoldable pub integer_of : List ℕ → Written
integer_of text =
    let e : ℕ = past_run (is_class Class.Figure) text 0 in
    cond (is_digit (byte_at text 0)) (integer_with (take e text) (suffix_of (drop e text))) None

-- "kept as text; suffix `f32`, `f64` or none"
unfoldable pub float_with : ℕ → Written
float_with suffix = cond ((eqb suffix 0 || eqb suffix 9) || eqb suffix 10) (Some (Amount.Float suffix)) None

-- "with `.` and a digit next"
unfoldable pub point_at : List ℕ → ℕ → Bool
point_at text at = eqb (byte_at text at) 46 && is_digit (byte_at text (at + 1))

-- "a digit, then digits or `_`; with `.` and a digit next, that fraction too (digits or `_`)", and a suffix
unfoldable pub float_of : List ℕ → Written
float_of text =
    let dot : ℕ = past_run (is_class Class.Figure) text 0 in
    let suffix : ℕ = suffix_of (drop (past_run (is_class Class.Figure) text (dot + 1)) text) in
    cond (is_digit (byte_at text 0) && point_at text dot) (float_with suffix) None

-- "1 digit or more", behind `0x`
unfoldable pub hex_of : List ℕ → Number
hex_of text = cond (eqb (byte_at text 0) 48 && eqb (byte_at text 1) 120) (number_of Base.Sixteen unsuffixed (drop 2 text)) None

-- "the decimal value of its digits, at most 4294967295", behind `AS`
unfoldable pub as_of : List ℕ → Number
as_of text = cond (eqb (byte_at text 0) 65 && eqb (byte_at text 1) 83) (number_of Base.Ten 4294967295 (drop 2 text)) None
