-- Prefix words in a row among the tokens of a print.
use Rattle.std.specs.Prelude.{List, [], ◌∷◌, Bool, true, false, ◌&&◌, cond, ℕ, suc, ◌+◌, ltb}
use Rattle.grammar.specs.Words.{'!', '-', return_words}
use Rattle.grammar.specs.Grammar.{one_of}
use Rattle.canon.specs.Text.{Bit, sign, copy}

-- "prefix `!`, `-`, `return`, `accept`, `reject`", by their words alone: a `-` between two operands counts too
abbrev pub prefix_words : List ℕ
prefix_words = '!' ∷ '-' ∷ return_words

-- whether never more than 32 stand in a row, c standing before
unfoldable pub few : ℕ → List Bit → Bool
few c [] = true
few c (sign w ∷ bs) = cond (one_of w prefix_words) (ltb c 32 && few (suc c) bs) (few 0 bs)
few c (copy t ∷ bs) = few 0 bs

-- How the count goes on behind a token, and that a token is such a word. Only proofs use these: a count over 32 stays.
abbrev pub is_prefix : Bit → Bool
is_prefix (sign w) = one_of w prefix_words
is_prefix (copy t) = false

abbrev pub row_behind : ℕ → Bool → ℕ
row_behind c p = cond (ltb 32 c) c (cond p (c + 1) 0)
