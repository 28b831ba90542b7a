-- One character as a string or a char writes it: itself, or an escape of the Rust Reference as document 01 lists them.
use Rattle.std.specs.Prelude.{Some, None, ℕ, ◌+◌, ◌*◌, List, Bool, true, ◌&&◌, ◌||◌, not, cond, eqb, ltb, leb}
use Rattle.std.proofs.Math.Seq.{slice}
use Rattle.chars.specs.Chars.{byte_at}
use Rattle.numbers.specs.declared.Base.{Base}
use Rattle.numbers.specs.Results.{Number}
use Rattle.numbers.specs.Digits.{digit_of, number_of, plain}
use Rattle.numbers.specs.Texts.{until_byte}
use Rattle.strings.specs.Results.{Piece}

-- a byte that stands for itself: below 128, no quote of its kind, no backslash; "A bare byte 13 is refused. A char is .. not a bare byte 9, 10, 13
-- or `'`"
abbrev pub is_bare : ℕ → ℕ → Bool
is_bare quote b =
    (((ltb b 128 && not (eqb b 13)) && not (eqb b 92)) && not (eqb b quote)) && (not (eqb quote 39) || (not (eqb b 9) && not (eqb b 10)))

-- "`\n \r \t \\ \0 \' \"`"; 256 for no escape
unfoldable pub simple_of : ℕ → ℕ
simple_of b =
    cond (eqb b 110) 10
    (cond (eqb b 114) 13
    (cond (eqb b 116) 9
    (cond (eqb b 92) 92
    (cond (eqb b 48) 0
    (cond (eqb b 39) 39
    (cond (eqb b 34) 34
    256))))))

-- a scalar value: a code point but no surrogate
abbrev pub is_scalar : ℕ → Bool
is_scalar c = ltb c 55296 || (ltb 57343 c && ltb c 1114112)

-- "`\xHH` up to 7F"
unfoldable pub ascii_of : List ℕ → Piece
ascii_of text =
    let h : ℕ = digit_of (byte_at text 2) in
    let l : ℕ = digit_of (byte_at text 3) in
    cond (ltb h 8 && ltb l 16) (Some (h * 16 + l, 4)) None

unfoldable pub scalar_of : Number → ℕ → Piece
scalar_of (Some (v, n)) size = cond (leb n 6 && is_scalar v) (Some (v, size)) None
scalar_of None size = None

-- "`\u{}` with 1 to 6 hex digits, `_` allowed after the first, a scalar value"
unfoldable pub unicode_of : List ℕ → Piece
unicode_of text =
    let e : ℕ = until_byte 125 text 3 in
    cond (eqb (byte_at text 2) 123)
    (cond (not (eqb (byte_at text e) 125) || eqb (byte_at text 3) 95) None
    (scalar_of (number_of Base.Sixteen 1114111 (plain true (slice 3 e text))) (e + 1)))
    None

unfoldable pub plain_escape : ℕ → Piece
plain_escape c = cond (eqb c 256) None (Some (c, 2))

-- a text that begins with a backslash
unfoldable pub escape_of : List ℕ → Piece
escape_of text = cond (eqb (byte_at text 1) 120) (ascii_of text) (cond (eqb (byte_at text 1) 117) (unicode_of text) (plain_escape (simple_of (byte_at text 1))))

-- the character at the front of a text that stands between quotes of one kind
unfoldable pub piece_of : ℕ → List ℕ → Piece
piece_of quote text =
    cond (eqb (byte_at text 0) 92) (escape_of text) (cond (is_bare quote (byte_at text 0)) (Some (byte_at text 0, 1)) None)
