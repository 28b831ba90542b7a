-- C-24: a refused token is the first that can't go there. "The tokens before it begin some text of the grammar, with limits
-- and room set aside and literals taken as good, and with the named token added they begin none."
use Rattle.std.specs.Prelude.{◌≡◌, List, [], ◌∷◌, Bool, true, cond, ℕ}
use Rattle.grammar.specs.Words.{text_then_hole, last_text}
use Rattle.grammar.specs.Grammar.{Ask, Token, Look, found, over, Stream, Parts, one_of}
use Rattle.grammar.specs.Limits.{Counts, zeros}
use Rattle.grammar.specs.Readings.{ReadingBy}
use Rattle.grammar.specs.Language.{roto, start}

-- A text is a list of tokens and, in strings with expressions inside (C-11), of pieces of text, which have words of their own.
abbrev pub look_at : List Token → Look (List Token)
look_at [] = over
look_at (x ∷ ts) = found x ts

abbrev pub piece_at : List Token → Look (List Token)
piece_at [] = over
piece_at (x ∷ ts) = cond (one_of x.word (text_then_hole ∷ last_text ∷ [])) (found x ts) over

abbrev pub lists : Stream
lists = record { Place = List Token; look = look_at; piece = piece_at }

-- Limits set aside and literals taken as good.
abbrev pub any : Ask → Counts → Token → Bool
any g d x = true

abbrev pub FreeText : Bool → Bool → List Token → Parts → Type 0
FreeText tests tree ts p = ReadingBy lists (roto tests) any zeros (start tree) ts [] p

-- The same tokens, and no text.
abbrev pub textless : Stream → Stream
textless S = record { Place = S.Place; look = S.look; piece = λ i. over }

module _ (S : Stream) where
  -- The places that the tokens from i on come to; "sources with f-strings are left out": no token from i on is this word.
  pub data Reach : S.Place → S.Place → Type 0 where
    reach_here : {i : S.Place} → Reach i i
    reach_on : {x : Token} {i j z : S.Place} → S.look i ≡ found x j → Reach j z → Reach i z

  abbrev pub Clean : ℕ → S.Place → Type 0
  Clean quote i = (x : Token) (j k : S.Place) → Reach i j → S.look j ≡ found x k → x.word ≡ quote → ⊥

  -- The text begins with the tokens from i on that stand before z.
  pub data Before (z : S.Place) : S.Place → List Token → Type 0 where
    before_here : {ts : List Token} → Before z z ts
    before_there : {x : Token} {i j : S.Place} {ts : List Token} → S.look i ≡ found x j → Before z j ts → Before z i (x ∷ ts)

  -- It begins with those and with the token at z.
  pub data With (z : S.Place) : S.Place → List Token → Type 0 where
    with_here : {x : Token} {u : S.Place} {ts : List Token} → S.look z ≡ found x u → With z z (x ∷ ts)
    with_there : {x : Token} {i j : S.Place} {ts : List Token} → S.look i ≡ found x j → With z j ts → With z i (x ∷ ts)

  pub record Culprit (tests tree : Bool) (i z : S.Place) : Type 0 where
    pub begins : (ts : List Token) × (p : Parts) × Before z i ts × FreeText tests tree ts p
    pub begins_none : (ts : List Token) (p : Parts) → With z i ts → FreeText tests tree ts p → ⊥
