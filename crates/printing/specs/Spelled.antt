-- Which tokens stand for the print's: a sign for its word, and for what is copied the tokens that were copied.
use Rattle.std.specs.Prelude.{◌≡◌, ◌⊎◌, List, [], ◌∷◌, ◌++◌, Bool, false, not, ℕ, T, eqb}
use Rattle.rows.specs.Kinds as kinds
use Rattle.grammar.specs.Words.{f_quote, semicolon, open_brace, close_brace, open_paren, close_paren, open_bracket, close_bracket, '!', '-', 'const', 'fn', 'test', return_words, filter_words, four_words}
use Rattle.grammar.specs.Grammar.{Ask, Symbol, text, Token, Stream, found, Parts, end, leaf, node, mark, Language, one_of}
use Rattle.grammar.specs.Limits.{Counts}
use Rattle.grammar.specs.Kinds.{HOLE}
use Rattle.grammar.specs.Table.{word, row}
use Rattle.grammar.specs.Readings.{ReadingBy}
use Rattle.canon.specs.Trees.{copied}
use Rattle.canon.specs.Text.{Bit, sign, copy}
use Rattle.printing.specs.Groves.{Grove, nil, top, token_of, bytes_of}

-- the tokens of a reading
abbrev pub leaves : Parts → List Token
leaves end = []
leaves (leaf x p) = x ∷ leaves p
leaves (node n a p q) = leaves p ++ leaves q
leaves (mark k p) = leaves p

-- an f-string, as the grammar has it; the words that end a line of a print; words of no token that is copied by itself: those that a print writes, and `f"`
abbrev pub string_symbols : List Symbol
string_symbols = word f_quote ∷ text HOLE ∷ row kinds.F_STRING ∷ []

abbrev pub line_words : List ℕ
line_words = semicolon ∷ open_brace ∷ close_brace ∷ []

abbrev pub sign_words : List ℕ
sign_words = semicolon ∷ open_brace ∷ close_brace ∷ open_paren ∷ close_paren ∷ open_bracket ∷ close_bracket ∷ '!' ∷ '-' ∷ 'const' ∷ 'fn' ∷ 'test' ∷ f_quote ∷ (filter_words ++ (return_words ++ four_words))

module _ (S : Stream) (l : Language) (G : Ask → Counts → Token → Bool) where
  -- What a row of kind k copies stands in the source: a token that is no such word, or the tokens of an f-string.
  pub data Stands : ℕ → List Token → Type 0 where
    stands_token : {k : ℕ} {x : Token} (i j : S.Place) → (eqb k kinds.F_STRING ≡ false) ⊎ (k ≡ x.kind) → S.look i ≡ found x j → T (not (one_of x.word sign_words)) → Stands k (x ∷ [])
    stands_string : {k : ℕ} {xs : List Token} {p : Parts} (d : Counts) (i j : S.Place) → k ≡ kinds.F_STRING → ReadingBy S l G d string_symbols i j p → xs ≡ leaves p → Stands k xs

  -- All that is copied stands in the source.
  abbrev pub FromSource : Grove → Type 0
  FromSource nil = Unit {0}
  FromSource (top h k t) = (T (one_of h.kind copied) → Stands h.kind h.tokens) × FromSource k × FromSource t

  pub data Spells (s : List ℕ) : List Bit → List Token → Type 0 where
    spells_none : Spells s [] []
    spells_sign : {bs : List Bit} {ts : List Token} (c : ℕ) → Spells s bs ts → Spells s (sign c ∷ bs) (token_of c ∷ ts)
    spells_copy : {bs : List Bit} {ts : List Token} (k : ℕ) (xs : List Token) → T (one_of k copied) → Stands k xs → Spells s bs ts → Spells s (copy (bytes_of s k xs) ∷ bs) (xs ++ ts)
