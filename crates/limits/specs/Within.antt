-- C-20: a test of a print's tokens, from first to last, that no limit is passed: two counts, and a test of each sign. (Heads and chains of
-- `else if` need none: they are those of the source.)
-- It may refuse a print that passes none: a reader counts better what stands in f-strings. It doesn't accept one that does.
use Rattle.std.specs.Prelude.{List, [], ◌∷◌, Bool, true, not, ◌&&◌, ◌||◌, cond, ℕ, suc, pred, ◌+◌, eqb, ltb, leb, length}
use Prim.Native.Char.{code}
use Rattle.chars.specs.Chars.{byte_at}
use Rattle.texts.specs.Signs.{quote}
use Rattle.grammar.specs.Words.{open_paren, close_paren, open_bracket, close_bracket, open_brace, close_brace}
use Rattle.grammar.specs.Grammar.{Token, one_of}
use Rattle.grammar.specs.Limits.{limit}
use Rattle.canon.specs.Text.{Bit, sign, copy}
use Rattle.sink.specs.Few.{prefix_words}

-- Words that open and close a bracket; prefixes (`-` and a type's `!` among them, whatever they are).
abbrev pub openers : List ℕ
openers = open_paren ∷ open_bracket ∷ open_brace ∷ []

abbrev pub closers : List ℕ
closers = close_paren ∷ close_bracket ∷ close_brace ∷ []

abbrev pub opening : ℕ → Bool
opening w = one_of w openers

abbrev pub closing : ℕ → Bool
closing w = one_of w closers

abbrev pub prefixing : ℕ → Bool
prefixing w = one_of w prefix_words

-- Brackets that stand open; prefixes in a row.
pub record Tally : Type 0 where
  pub brackets : ℕ
  pub prefixes : ℕ

abbrev pub nothing_yet : Tally
nothing_yet = record { brackets = 0; prefixes = 0 }

-- The counts behind a word, and whether it may stand where they are so.
abbrev pub behind : ℕ → Tally → Tally
behind w o = record {
  brackets = cond (opening w) (suc o.brackets) (cond (closing w) (pred o.brackets) o.brackets);
  prefixes = cond (prefixing w) (suc o.prefixes) 0;
}

abbrev pub allowed : ℕ → Tally → Bool
allowed w o = (not (opening w) || ltb o.brackets limit) && (not (prefixing w) || ltb o.prefixes limit)

-- An f-string has no more tokens than bytes: as many brackets may stand open in it.
abbrev pub small_f : ℕ
small_f = code "f"

abbrev pub quoted : List ℕ → Bool
quoted t = eqb (byte_at t 0) small_f && eqb (byte_at t 1) quote

abbrev pub past : Tally → Tally
past o = record { brackets = o.brackets; prefixes = 0 }

-- The print's tokens, where these were counted before them.
unfoldable pub within : Tally → List Bit → Bool
within o [] = true
within o (sign w ∷ bs) = allowed w o && within (behind w o) bs
within o (copy t ∷ bs) = cond (quoted t) (leb (o.brackets + length t) limit && within (past o) bs) (within (past o) bs)

-- The same as two tests, each with its own count: prefixes in a row (`few`, sink/specs/Few.antt), and open brackets.
unfoldable pub low : ℕ → List Bit → Bool
low b [] = true
low b (sign w ∷ bs) = cond (opening w) (ltb b limit && low (suc b) bs) (cond (closing w) (low (pred b) bs) (low b bs))
low b (copy t ∷ bs) = cond (quoted t) (leb (b + length t) limit && low b bs) (low b bs)

-- So over tokens, by their words. (For proofs.)
unfoldable pub bounded : Tally → List Token → Bool
bounded o [] = true
bounded o (x ∷ ts) = allowed x.word o && bounded (behind x.word o) ts
