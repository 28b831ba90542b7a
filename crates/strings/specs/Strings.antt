-- "Literal values" of document 01: strings and chars; and entry point (e).
use Rattle.std.specs.Prelude.{Some, None, ℕ, zero, suc, ◌+◌, ◌-◌, ◌≤◌, List, [], ◌∷◌, ◌++◌, Bool, true, false, ◌&&◌, cond, length, drop, replicate, eqb, ltb, leb}
use Rattle.std.proofs.Math.Option.{Option, none, some}
use Rattle.std.proofs.Math.Seq.{slice}
use Rattle.chars.specs.Chars.{byte_at}
use Rattle.strings.specs.Results.{Piece}
use Rattle.strings.specs.Results.{Size}
use Rattle.strings.specs.Results.{Point}
use Rattle.chars.specs.declared.Answer.{Answer}
use Rattle.strings.specs.Escapes.{piece_of}
use Rattle.strings.specs.Utf8.{encode}

abbrev pub after : ℕ → Option (List ℕ) → Option (List ℕ)
after c (some cs) = some (c ∷ cs)
after c none = none

-- the code points that a text between double quotes writes, where the first k bytes have been read already
unfoldable pub codes_from : ℕ → List ℕ → Option (List ℕ)
codes_from k [] = some []
codes_from (suc k) (b ∷ l) = codes_from k l
codes_from zero (b ∷ l) = elim (piece_of 34 (b ∷ l)) [ Some (c, n) ↦ after c (codes_from (n - 1) l) | None ↦ none ]

abbrev pub codes_of : List ℕ → Option (List ℕ)
codes_of inside = codes_from 0 inside

abbrev pub encoded : Option (List ℕ) → List ℕ
encoded (some cs) = encode cs
encoded none = []

-- "Decoded as UTF-8"; no bytes where the inside does not hold by the string rule
unfoldable pub bytes_of : List ℕ → List ℕ
bytes_of inside = encoded (codes_of inside)

abbrev pub sized : Option (List ℕ) → Size
sized (some cs) = Some (length (encode cs))
sized none = None

-- how many bytes the inside of a string decodes to
unfoldable pub measure_of : List ℕ → Size
measure_of inside = sized (codes_of inside)

-- a table has room for what the inside of a string decodes to
abbrev pub Holds : Size → ℕ → Type 0
Holds (Some n) room = n ≤ room
Holds None room = ⊥

-- a quote at both ends, and what stands between
unfoldable pub is_quoted : ℕ → List ℕ → Bool
is_quoted quote text = leb 2 (length text) && (eqb (byte_at text 0) quote && eqb (byte_at text (length text - 1)) quote)

abbrev pub inside : List ℕ → List ℕ
inside text = slice 1 (length text - 1) text

-- how many bytes a string token decodes to
unfoldable pub size_of : List ℕ → Size
size_of text = cond (is_quoted 34 text) (measure_of (inside text)) None

-- "A char is one character"
unfoldable pub wholly : ℕ → Piece → Point
wholly n (Some (c, size)) = cond (eqb size n) (Some c) None
wholly n None = None

unfoldable pub char_of : List ℕ → Point
char_of text = cond (is_quoted 39 text) (wholly (length text - 2) (piece_of 39 (inside text))) None

-- how many bytes stand before the first `"` that no backslash escapes; the flag: whether one escapes the first byte
unfoldable pub open_for : Bool → List ℕ → ℕ
open_for escaped [] = 0
open_for true (b ∷ l) = suc (open_for false l)
open_for false (b ∷ l) = let rest : ℕ = suc (open_for (eqb b 92) l) in cond (eqb b 34) 0 rest

-- "at most 65,535 bytes that begin with `"`, whose first unescaped `"` after it is the last byte"
unfoldable pub is_token : List ℕ → Bool
is_token text = leb (length text) 65535 && (is_quoted 34 text && eqb (1 + open_for false (drop 1 text)) (length text - 1))

-- how many bytes (e) decodes a token to: "whose inside is below 128 and holds by the string rule"
unfoldable pub token_size : List ℕ → Size
token_size text = cond (is_token text) (measure_of (inside text)) None

abbrev pub answer_for : ℕ → ℕ → Size → Answer
answer_for n room (Some count) =
    cond (ltb room count) (record { number = 10; start = 0; end = 0; count = count }) (record { number = 0; start = 0; end = n; count = count })
answer_for n room None = record { number = 7; start = 0; end = n; count = 0 }

-- 7 for no such token; 10, with the count needed, for no room; else 0
unfoldable pub answer_of : List ℕ → ℕ → Answer
answer_of text room = answer_for (length text) room (token_size text)

abbrev pub content_for : List ℕ → ℕ → Size → List ℕ
content_for bytes room (Some count) = cond (ltb room count) (replicate room 0) (bytes ++ replicate (room - count) 0)
content_for bytes room None = replicate room 0

-- the decoded bytes and then zeros; zeros throughout after a refusal
unfoldable pub content_of : List ℕ → ℕ → List ℕ
content_of text room = content_for (bytes_of (inside text)) room (token_size text)
