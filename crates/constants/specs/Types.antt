-- "Each row must have the type wanted of it: the declared one at the top, i64 without suffixes under a comparison, else its parent's."
-- A type is a number: 1 to 8 for i8 to u64 (the detail of row 10), 10 for f64 (the detail of row 11), 12 for bool (the kind of row 12), and 0 for i64 without
-- suffixes. Declared it is never 0.
use Rattle.std.specs.Prelude.{Some, None, List, [], Bool, ◌&&◌, ◌||◌, cond, ℕ, eqb, leb, length, Option}
use Rattle.std.proofs.Math.Seq.{slice}
use Rattle.chars.specs.Texts.{bytes, same}
use Rattle.rows.specs.Kinds as kinds
use Rattle.grammar.specs.Rows.{Row}
use Rattle.numbers.specs.Numbers.{ceiling_of}
use Rattle.floats.specs.Nearest.{format_of}
use Rattle.floats.specs.Bits.{bits_of}
use Rattle.literals.specs.Results.{Alone}
use Rattle.literals.specs.Decimals.{few, numerator, denominator}
use Rattle.literals.specs.Answers.{alone_of}

abbrev pub BARE : ℕ
BARE = 0

abbrev pub I64 : ℕ
I64 = 4

abbrev pub U64 : ℕ
U64 = 8

abbrev pub F64 : ℕ
F64 = 10

abbrev pub TRUTH : ℕ
TRUTH = 12

-- "(detail 1 to 13: `|| && == != < <= > >= + - * / %`)": 3 to 8 compare
unfoldable pub compares : ℕ → ℕ → Bool
compares kind detail = eqb kind kinds.BINARY && (leb 3 detail && leb detail 8)

-- the type wanted of the rows under a row
unfoldable pub under : ℕ → Row → ℕ
unfolding compares
under w r = cond (compares r.kind r.detail) BARE w

-- the type of what a row with this type gives
unfoldable pub type_of : ℕ → ℕ
type_of w = cond (eqb w BARE) I64 w

-- the bytes that a row spans, none where it doesn't fit
unfoldable pub text_at : List ℕ → ℕ → ℕ → List ℕ
text_at s start end = cond (leb start end && leb end (length s)) (slice start end s) []

-- ---- "The declared type is `bool`, `f64` or an integer type i8 to u64"; none for another

unfoldable pub named_of : List ℕ → Option ℕ
unfolding bytes
named_of t =
    cond (same t (bytes "i8")) (Some 1)
    (cond (same t (bytes "i16")) (Some 2)
    (cond (same t (bytes "i32")) (Some 3)
    (cond (same t (bytes "i64")) (Some I64)
    (cond (same t (bytes "u8")) (Some 5)
    (cond (same t (bytes "u16")) (Some 6)
    (cond (same t (bytes "u32")) (Some 7)
    (cond (same t (bytes "u64")) (Some U64)
    (cond (same t (bytes "f64")) (Some F64)
    (cond (same t (bytes "bool")) (Some TRUTH) None)))))))))

-- a path with no brackets and one item is written by its item
unfoldable pub declared_of : List ℕ → ℕ → ℕ → ℕ → Option ℕ
unfolding named_of text_at
declared_of s kind start end = let n : Option ℕ = named_of (text_at s start end) in cond (eqb kind kinds.PATH_TYPE) n None

-- ---- C-17's answer to the text of a float's row: its number, and its bits

unfoldable pub number_for : Alone → List ℕ → ℕ
number_for (Some w) t = cond (few t) 0 14
number_for None t = 7

unfoldable pub bits_for : Alone → List ℕ → ℕ
bits_for (Some w) t = let b : ℕ = bits_of (format_of w) (numerator t) (denominator t) in cond (few t) b 0
bits_for None t = 0

unfoldable pub float_number : List ℕ → ℕ → ℕ → ℕ
unfolding number_for text_at
float_number s start end = let t : List ℕ = text_at s start end in number_for (alone_of t) t

unfoldable pub float_bits : List ℕ → ℕ → ℕ → ℕ
unfolding bits_for text_at
float_bits s start end = let t : List ℕ = text_at s start end in bits_for (alone_of t) t

-- ---- "a form not taken, a wrong type or too large a literal, 15, or too long a float, 14, which wins at one row", or none of these

unfoldable pub fine : Bool → Option ℕ
fine b = cond b None (Some 15)

-- "each literal must fit it": the literal alone, and its suffix, where it has one, is the type
unfoldable pub integer_fault : ℕ → ℕ → ℕ → Option ℕ
unfolding fine
integer_fault w value detail = fine (leb w U64 && ((eqb detail 0 || eqb detail w) && leb value (ceiling_of w)))

unfoldable pub float_fault : ℕ → ℕ → ℕ → Option ℕ
unfolding fine
float_fault number w detail = cond (eqb number 14) (Some 14) (fine ((eqb number 0 && eqb w F64) && (eqb detail 0 || eqb detail F64)))

-- `||`, `&&` and the comparisons give a bool; the others what they take: "no names", and no sum of truth values
unfoldable pub operator_fault : ℕ → ℕ → Option ℕ
unfolding fine
operator_fault w detail = cond (leb detail 8) (fine (leb 1 detail && eqb w TRUTH)) (fine (leb detail 13 && (leb w U64 || eqb w F64)))

-- "Taken: numbers, bools, `! -`, the thirteen operators, parentheses, no names"; "`!` is for `bool`, `-` for signed types and `f64`"
unfoldable pub fault_number : List ℕ → ℕ → ℕ → ℕ → ℕ → ℕ → ℕ → ℕ → Option ℕ
unfolding integer_fault float_fault operator_fault fine float_number
fault_number s w kind start end children value detail =
    let float : Option ℕ = float_fault (float_number s start end) w detail in
    cond (eqb kind kinds.INTEGER && eqb children 0) (integer_fault w value detail)
    (cond (eqb kind kinds.FLOAT && eqb children 0) float
    (cond (eqb kind kinds.BOOL && eqb children 0) (fine (eqb w TRUTH))
    (cond (eqb kind kinds.BINARY && eqb children 2) (operator_fault w detail)
    (cond (eqb kind kinds.NOT && eqb children 1) (fine (eqb w TRUTH))
    (cond (eqb kind kinds.NEGATE && eqb children 1) (fine (leb w I64 || eqb w F64))
    (Some 15))))))
