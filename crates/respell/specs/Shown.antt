-- How a source shows a list of tokens. Only proofs cite this, and nobody needs to believe it.
use Rattle.std.specs.Prelude.{◌≡◌, List, [], ◌∷◌, ◌++◌, Bool, not, ℕ, ◌+◌, ◌<◌, ◌≤◌, T}
use Rattle.rows.specs.Kinds as kinds
use Rattle.grammar.specs.Words.{f_quote, text_then_hole, last_text}
use Rattle.grammar.specs.Grammar.{Ask, Symbol, text, Token, found, Stream, Parts, end, leaf, node, mark, Language, one_of}
use Rattle.grammar.specs.Limits.{Counts}
use Rattle.grammar.specs.Kinds.{HOLE}
use Rattle.grammar.specs.Table.{row}
use Rattle.grammar.specs.Readings.{ReadingBy}
use Rattle.answers.specs.Source.{source}
use Rattle.respell.specs.Copies.{Copied}

-- a token at other bytes, and at none
abbrev pub placed : Token → ℕ → ℕ → Token
placed x a e = record { word = x.word; start = a; end = e; holds = x.holds; kind = x.kind; value = x.value; detail = x.detail }

abbrev pub bare : Token → Token
bare x = placed x 0 0

-- the same but for its bytes
abbrev pub Like : Token → Token → Type 0
Like x y = bare y ≡ bare x

-- the words of pieces of text
abbrev pub is_piece : ℕ → Bool
is_piece w = one_of w (text_then_hole ∷ last_text ∷ [])

-- what stands behind an f-string's `f"`, as the grammar has it
abbrev pub tail_symbols : List Symbol
tail_symbols = text HOLE ∷ row kinds.F_STRING ∷ []

-- t has a copy of bytes of s, x stands in them, and y is where x was copied to; if x is `f"`, its f-string lies in them up to the quote.
pub record Moved (s t : List ℕ) (l : Language) (G : Ask → Counts → Token → Bool) (x y : Token) : Type 0 where
  pub lo : ℕ
  pub q : ℕ
  pub q' : ℕ
  pub copy : Copied s t lo q q'
  pub from : lo ≤ x.start
  pub to : x.end ≤ q
  pub starts : x.start + q' ≡ y.start + q
  pub ends : x.end + q' ≡ y.end + q
  pub reach : x.word ≡ f_quote → (d : Counts) × (r : ℕ) × (p : Parts) × ReadingBy (source s) l G d tail_symbols x.end r p × (r ≤ q)

-- y of t stands for x: the same but for its bytes, and copied if x is a token with bytes in s
pub record Again (s t : List ℕ) (l : Language) (G : Ask → Counts → Token → Bool) (x y : Token) : Type 0 where
  pub like : Like x y
  pub moved : 0 < x.end → T (not (is_piece x.word)) → Moved s t l G x y

-- From i up to r there stand tokens for these, by Q: one behind the other, each where the last one ends, pieces of text by their words.
pub data Shown (S : Stream) (Q : Token → Token → Type 0) : List Token → S.Place → S.Place → Type 0 where
  shown_none : {i : S.Place} → Shown S Q [] i i
  shown_token : {x y : Token} {xs : List Token} {i j r : S.Place} → S.look i ≡ found y j → Q x y → T (not (is_piece x.word)) → Shown S Q xs j r → Shown S Q (x ∷ xs) i r
  shown_piece : {x y : Token} {xs : List Token} {i j r : S.Place} → S.piece i ≡ found y j → Q x y → T (is_piece x.word) → Shown S Q xs j r → Shown S Q (x ∷ xs) i r

-- the tokens of a reading, in their order
unfoldable pub tokens_of : Parts → List Token
tokens_of end = []
tokens_of (leaf x p) = x ∷ tokens_of p
tokens_of (node n a p q) = tokens_of p ++ tokens_of q
tokens_of (mark k p) = tokens_of p
