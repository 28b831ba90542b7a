-- The bytes of a source by place, and the classes of bytes that document 01 names.
use Rattle.std.specs.Prelude.{ℕ, List, Bool, ◌&&◌, ◌||◌, not, cond, length, get_or, ltb, leb, eqb}
use Rattle.chars.specs.declared.Class.{Class}
use Rattle.chars.specs.declared.Class.TheVariants.{Ascii, Blank, Line, Digit, Figure, HexDigit, HexColon, NamePart}

-- the byte at a place, and 256 past the end: a number that is in no class
unfoldable pub byte_at : List ℕ → ℕ → ℕ
byte_at s at = cond (ltb at (length s)) (get_or s at 0) 256

-- "bytes 9 to 13 and 32"
abbrev pub is_blank : ℕ → Bool
is_blank b = (leb 9 b && leb b 13) || eqb b 32

abbrev pub is_digit : ℕ → Bool
is_digit b = leb 48 b && leb b 57

abbrev pub is_hex_digit : ℕ → Bool
is_hex_digit b = ((leb 48 b && leb b 57) || (leb 65 b && leb b 70)) || (leb 97 b && leb b 102)

abbrev pub is_letter : ℕ → Bool
is_letter b = (leb 65 b && leb b 90) || (leb 97 b && leb b 122)

-- the classes of which the rules of document 01 take runs
unfoldable pub is_class : Class → ℕ → Bool
-- a byte that a source may hold
is_class Ascii b = ltb b 128
is_class Blank b = is_blank b
-- a byte that a comment goes on with: any but the newline
is_class Line b = not (eqb b 10) && ltb b 256
is_class Digit b = is_digit b
-- "digits or `_`"
is_class Figure b = is_digit b || eqb b 95
is_class HexDigit b = is_hex_digit b
-- "hex digits or `:`"
is_class HexColon b = is_hex_digit b || eqb b 58
-- "letters, digits, `_`"
is_class NamePart b = (is_letter b || is_digit b) || eqb b 95
