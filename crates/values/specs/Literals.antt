-- The row of a literal token, by the token's code and its text.
use Rattle.std.specs.Prelude.{Option, Some, None, ◌&&◌, cond, ℕ, List, [], ◌∷◌, length, eqb, leb}
use Rattle.std.proofs.Math.Seq.{slice}
use Rattle.rows.specs.Kinds as kinds
use Rattle.chars.specs.Texts.{bytes, same}
use Rattle.numbers.specs.Results.{Number}
use Rattle.numbers.specs.Results.{Written}
use Rattle.numbers.specs.declared.Amount.{Amount}
use Rattle.numbers.specs.Numbers.{integer_of, float_of, hex_of, as_of}
use Rattle.addresses.specs.Results.{Quad}
use Rattle.addresses.specs.Results.{Address}
use Rattle.addresses.specs.Addresses.{quad_of, wide_of}
use Rattle.strings.specs.Results.{Size}
use Rattle.strings.specs.Results.{Point}
use Rattle.strings.specs.Strings.{size_of, char_of}
use Rattle.values.specs.Results.{Worth}

-- "10 integer (detail 0 none, 1 to 4 i8..i64, 5 to 8 u8..u64); 11 float (detail 0, 9 f32, 10 f64)"
abbrev pub from_amount : Written → Worth
from_amount (Some (Amount.Integer v suffix)) = Some (record { kind = kinds.INTEGER; value = v; detail = suffix })
from_amount (Some (Amount.Float suffix)) = Some (record { kind = kinds.FLOAT; value = 0; detail = suffix })
from_amount None = None

abbrev pub from_number : ℕ → Number → Worth
from_number kind (Some (v, n)) = Some (record { kind = kind; value = v; detail = 0 })
from_number kind None = None

-- what the function for both promises: a row with a value and no detail
abbrev pub from_value : ℕ → Option ℕ → Worth
from_value kind (Some v) = Some (record { kind = kind; value = v; detail = 0 })
from_value kind None = None

-- "14 IPv4"
abbrev pub from_quad : Quad → Worth
from_quad (Some v) = Some (record { kind = kinds.IPV4; value = v; detail = 0 })
from_quad None = None

-- "15 IPv6 (value high half, detail low half)"
abbrev pub from_address : Address → Worth
from_address (Some x) = Some (record { kind = kinds.IPV6; value = x.high; detail = x.low })
from_address None = None

-- "16 string"
abbrev pub from_size : Size → Worth
from_size (Some n) = Some (record { kind = kinds.STRING; value = 0; detail = 0 })
from_size None = None

-- "17 char (value code point)"
abbrev pub from_point : Point → Worth
from_point (Some c) = Some (record { kind = kinds.CHAR; value = c; detail = 0 })
from_point None = None

-- "12 bool", "`true` 1"
unfoldable pub bool_of : List ℕ → Worth
bool_of text =
    cond (same text (bytes "true")) (Some (record { kind = kinds.BOOL; value = 1; detail = 0 }))
    (cond (same text (bytes "false")) (Some (record { kind = kinds.BOOL; value = 0; detail = 0 }))
    None)

-- the row of a token with a code of "From bytes to tokens" and a text: kind, value and detail; none for a literal without a value
unfoldable pub literal_of : ℕ → List ℕ → Worth
literal_of code text =
    cond (eqb code 1) (from_address (wide_of text))
    (cond (eqb code 2) (from_quad (quad_of text))
    (cond (eqb code 5) (from_number kinds.ASN (as_of text))
    (cond (eqb code 6) (from_number kinds.INTEGER (hex_of text))
    (cond (eqb code 7) (from_amount (integer_of text))
    (cond (eqb code 8) (from_amount (float_of text))
    (cond (eqb code 9) (from_size (size_of text))
    (cond (eqb code 10) (from_point (char_of text))
    (cond (eqb code 12) (bool_of text)
    None))))))))

-- the row of the token that a source has from start to end: a span that doesn't fit has none
unfoldable pub literal_at : ℕ → ℕ → ℕ → List ℕ → Worth
literal_at code start end s = cond (leb start end && leb end (length s)) (literal_of code (slice start end s)) None

-- What the cases of a literal say in document 01's numbers: its row, kind, value and detail, behind 0; or 7, "literal without a value"
unfoldable pub literal_numbers : Worth → List ℕ
literal_numbers (Some x) = 0 ∷ x.kind ∷ x.value ∷ x.detail ∷ []
literal_numbers None = 7 ∷ 0 ∷ 0 ∷ 0 ∷ []
