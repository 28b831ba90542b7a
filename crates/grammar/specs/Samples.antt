-- Small texts as lists of words, each a byte long, and their answers: so that an edit of the table is seen here.
use Rattle.std.specs.Prelude.{◌≡◌, List, [], ◌∷◌, true, false, ℕ, zero, suc, ◌+◌}
use Rattle.std.proofs.Math.Option.{some}
use Rattle.grammar.specs.Words.{name, f_quote, text_then_hole, last_text, '==', '=', '-', ':', open_brace, close_brace, open_paren, close_paren, comma, 'if'}
use Rattle.grammar.specs.Grammar.{Token}
use Rattle.grammar.specs.Rows.{Row}
use Rattle.grammar.specs.Answers.{Answer, accepted, refused}
use Rattle.grammar.specs.Compute.{answer}
use Rattle.grammar.specs.Culprit.{lists}

-- the words as tokens, one behind the other
abbrev pub tokens_from : ℕ → List ℕ → List Token
tokens_from i [] = []
tokens_from i (w ∷ ws) = record { word = w; start = i; end = i + 1; holds = true; kind = 0; value = 0; detail = 0 } ∷ tokens_from (i + 1) ws

abbrev pub times : ℕ → ℕ → List ℕ → List ℕ
times zero w ws = ws
times (suc n) w ws = w ∷ times n w ws

abbrev pub a_row : ℕ → ℕ → ℕ → ℕ → ℕ → Row
a_row k s e c z = record { kind = k; start = s; end = e; children = c; value = 0; detail = 0; size = z }

-- by (b)
pub record Sample : Type 0 where
  pub words : List ℕ
  pub answer : Answer

abbrev pub samples : List Sample
samples =
    -- `f(a,)`: one trailing comma is allowed after an item
    record { words = name ∷ open_paren ∷ name ∷ comma ∷ close_paren ∷ []; answer = accepted (a_row 1 0 1 0 1 ∷ a_row 2 0 1 1 2 ∷ a_row 1 2 3 0 1 ∷ a_row 2 2 3 1 2 ∷ a_row 23 0 5 2 5 ∷ []) } ∷
    -- `a==b==c`: comparisons are not chained
    record { words = name ∷ '==' ∷ name ∷ '==' ∷ name ∷ []; answer = refused (record { number = 6; start = 3; end = 4 }) } ∷
    -- `f()=a`: the left side is no path
    record { words = name ∷ open_paren ∷ close_paren ∷ '=' ∷ name ∷ []; answer = refused (record { number = 8; start = 0; end = 3 }) } ∷
    -- `-(a)`: parentheses widen no span
    record { words = '-' ∷ open_paren ∷ name ∷ close_paren ∷ []; answer = accepted (a_row 1 2 3 0 1 ∷ a_row 2 2 3 1 2 ∷ a_row 22 0 3 1 3 ∷ []) } ∷
    -- `if f({a: b}) {}`: inside a call's brackets a record may stand, in a head too
    record { words = 'if' ∷ name ∷ open_paren ∷ open_brace ∷ name ∷ ':' ∷ name ∷ close_brace ∷ close_paren ∷ open_brace ∷ close_brace ∷ []; answer = accepted (a_row 1 1 2 0 1 ∷ a_row 2 1 2 1 2 ∷ a_row 1 4 5 0 1 ∷ a_row 1 6 7 0 1 ∷ a_row 2 6 7 1 2 ∷ a_row 37 4 7 2 4 ∷ a_row 36 3 8 1 5 ∷ a_row 23 1 9 2 8 ∷ a_row 35 9 11 0 1 ∷ a_row 28 0 11 2 10 ∷ []) } ∷
    -- `f"{a}"`: the hole's expr is the string's only part, as its texts are empty
    record { words = f_quote ∷ text_then_hole ∷ open_brace ∷ name ∷ close_brace ∷ last_text ∷ []; answer = accepted (a_row 1 3 4 0 1 ∷ a_row 2 3 4 1 2 ∷ a_row 46 0 6 1 3 ∷ []) } ∷
    -- 32 `(` and a hole: it counts as one open bracket
    record { words = times 32 open_paren (f_quote ∷ text_then_hole ∷ open_brace ∷ []); answer = refused (record { number = 9; start = 34; end = 35 }) } ∷
    []

abbrev pub Holds : List Sample → Type 0
Holds [] = Unit {0}
Holds (x ∷ xs) = (answer lists true false 9 500 (tokens_from 0 x.words) ≡ some x.answer) × Holds xs
