-- Which tokens a print's signs and texts are. Only proofs cite this, and nobody needs to believe it.
use Rattle.std.specs.Prelude.{None, ◌≡◌, List, [], ◌∷◌, ◌++◌, Bool, true, false, not, ◌&&◌, ◌||◌, ℕ, ◌+◌, T, eqb}
use Rattle.std.proofs.Math.Seq.{slice}
use Rattle.tokens.specs.Words.{Entry, two_signs, one_signs, keywords, code_of}
use Rattle.values.specs.Results.{Worth}
use Rattle.grammar.specs.Words.{f_quote, open_brace, close_brace}
use Rattle.grammar.specs.Grammar.{Ask, Symbol, text, Token, found, Parts, Language, one_of}
use Rattle.grammar.specs.Limits.{Counts}
use Rattle.grammar.specs.Kinds.{HOLE, EXPR, records}
use Rattle.grammar.specs.Table.{a, opens, closes}
use Rattle.grammar.specs.Readings.{ReadingBy}
use Rattle.answers.specs.Source.{source, token_for}
use Rattle.canon.specs.Text.{Bit, sign, copy, ends_line}
use Rattle.respell.specs.Shown.{tail_symbols, tokens_of}

-- a hole of an f-string, as the grammar has it
abbrev pub hole_symbols : List Symbol
hole_symbols = opens open_brace ∷ a (EXPR records) ∷ closes close_brace ∷ text HOLE ∷ []

-- a sign or a keyword
abbrev pub has_word : List Entry → ℕ → Bool
has_word [] c = false
has_word (x ∷ xs) c = eqb c x.word || has_word xs c

abbrev pub is_sign : ℕ → Bool
is_sign c = has_word (two_signs ++ (one_signs ++ keywords)) c && one_of (code_of c) (3 ∷ 4 ∷ 11 ∷ [])

-- the last of them ends its line
abbrev pub last_line : List Bit → Bool
last_line [] = true
last_line (x ∷ []) = ends_line x
last_line (x ∷ y ∷ bs) = last_line (y ∷ bs)

-- A sign is its word's token; what is copied is a token of s, no `f"`, or all the tokens of an f-string, up to behind its quote at q.
pub data Spelt (s : List ℕ) (l : Language) (G : Ask → Counts → Token → Bool) : List Bit → List Token → Type 0 where
  spelt_none : Spelt s l G [] []
  spelt_sign : {c : ℕ} {bs : List Bit} {xs : List Token} → is_sign c ≡ true → Spelt s l G bs xs → Spelt s l G (sign c ∷ bs) (token_for c 0 0 None ∷ xs)
  spelt_token : {x : Token} (i j : ℕ) {bs : List Bit} {xs : List Token} → (source s).look i ≡ found x j → T (not (eqb x.word f_quote)) → Spelt s l G bs xs → Spelt s l G (copy (slice x.start j s) ∷ bs) (x ∷ xs)
  spelt_string : {x : Token} {p : Parts} (d : Counts) (i j q : ℕ) {bs : List Bit} {xs : List Token} → (source s).look i ≡ found x j → x.word ≡ f_quote → ReadingBy (source s) l G d tail_symbols j (q + 1) p → Spelt s l G bs xs
      → Spelt s l G (copy (slice x.start (q + 1) s) ∷ bs) (x ∷ (tokens_of p ++ xs))
