-- What stands in a text, and how many bytes were written, after bytes and after tokens. Not to be believed: `telling_prints` (proofs/) says what it comes to.
use Rattle.std.specs.Prelude.{◌≡◌, List, [], ◌∷◌, ◌++◌, Bool, false, not, cond, ℕ, zero, suc, ◌+◌, ◌/◌, ◌%◌, ◌≤◌, ltb, leb, length, set}
use Rattle.tokens.specs.Words.{two_signs, one_signs, keywords}
use Rattle.canon.specs.Text.{Bit, sign, spelled, spelling, ends_line, spaced}
use Rattle.sink.specs.declared.Sink.{Sink}
use Rattle.sink.specs.Few.{few, is_prefix, row_behind}

pub record Written : Type 0 where
  pub text : List ℕ
  pub at : ℕ

abbrev pub written : List ℕ → ℕ → Written
written t n = record { text = t; at = n }

-- one more, as far as they are counted
abbrev pub counted : ℕ → ℕ
counted n = cond (ltb n 65536) (n + 1) n

-- a byte more, where there is room
unfoldable pub put : Written → ℕ → Written
put x b = written (cond (ltb x.at (length x.text)) (set x.text x.at b) x.text) (counted x.at)

unfoldable pub fed : Written → List ℕ → Written
fed x [] = x
fed x (b ∷ t) = fed (put x b) t

-- the text of a word
unfoldable pub word_text : ℕ → List ℕ
word_text w = spelled (two_signs ++ (one_signs ++ keywords)) w

abbrev pub blank : Bool → List ℕ
blank b = cond b (32 ∷ []) []

abbrev pub newline : Bool → List ℕ
newline b = cond b (10 ∷ []) []

pub record Told : Type 0 where
  pub text : List ℕ
  pub sink : Sink

abbrev pub state : List ℕ → Sink → Told
state t x = record { text = t; sink = x }

-- nothing is written yet
abbrev pub empty : Sink
empty = record { at = 0; gap = false; row = 0 }

-- a token more: its text, whether a line ends behind it, whether it is a prefix word
abbrev pub token : Told → List ℕ → Bool → Bool → Told
token x t line prefix =
    let y = fed (fed (fed (written x.text x.sink.at) (blank x.sink.gap)) t) (newline line) in
    state y.text (record { at = y.at; gap = not line; row = row_behind x.sink.row prefix })

unfoldable pub tell : Told → Bit → Told
tell x b = token x (spelling b) (ends_line b) (is_prefix b)

unfoldable pub telling : Told → List Bit → Told
telling x [] = x
telling x (b ∷ bs) = telling (tell x b) bs

-- up to three words in one number: each 1 more than its word, 128 times it the next
abbrev pub digit : ℕ → List Bit
digit zero = []
digit (suc w) = sign w ∷ []

abbrev pub said : ℕ → List Bit
said n = digit (n % 128) ++ (digit (n / 128 % 128) ++ digit (n / 16384 % 128))

-- the first n bytes of a list, zeros where it has ended; its length, as far as it is counted
unfoldable pub padded : ℕ → List ℕ → List ℕ
padded zero w = []
padded (suc n) [] = 0 ∷ padded n []
padded (suc n) (b ∷ w) = b ∷ padded n w

abbrev pub capped : ℕ → ℕ
capped n = cond (ltb n 65536) n 65536

-- Telling a print's tokens to a text of zeros leaves the print there, if all of it is counted; its length, and whether few prefixes stand in a row:
-- `telling_prints` (proofs/Prints.antt).
pub record TellsPrints (n : ℕ) (bs : List Bit) : Type 0 where
  pub text : length (spaced bs) ≤ 65536 → (telling (state (padded n []) empty) bs).text ≡ padded n (spaced bs)
  pub at : (telling (state (padded n []) empty) bs).sink.at ≡ capped (length (spaced bs))
  pub row : leb (telling (state (padded n []) empty) bs).sink.row 32 ≡ few 0 bs
