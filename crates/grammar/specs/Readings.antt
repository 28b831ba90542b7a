-- What a source is under a grammar: its readings.
use Rattle.std.specs.Prelude.{◌≡◌, List, [], ◌∷◌, Bool, true, not, cond, ℕ, T, eqb}
use Rattle.grammar.specs.Words.{the_end, no_token}
use Rattle.grammar.specs.Grammar.{Ask, has_value, Scope, same, Symbol, token, phrase, unless, note, left_side, text, Token, Look, found, over, wrong, Stream, Parts, end, leaf, node, mark, Language, alternatives, In, one_of}
use Rattle.grammar.specs.Limits.{Counts, zeros, after, inside, kept}

module _ (S : Stream) (l : Language) where
  -- The word of what stands at a place.
  abbrev pub word_of_lem : Look S.Place → ℕ
  word_of_lem (found x j) = x.word
  word_of_lem over = the_end
  word_of_lem (wrong n a b) = no_token

  abbrev pub peek : S.Place → ℕ
  peek i = word_of_lem (S.look i)

  -- `Reads passes stands takes d s i r p`: from place i up to place r stands what s says, with the parts p, where the counts
  -- are d at i. `passes` says whether a token passes what is asked of it, `takes` which alternatives of a kind may be taken
  -- at a place, `stands` whether a word may stand behind a phrase that is a path (true) or none (false).
  pub data Reads (passes : Ask → Counts → Token → Bool) (stands : Bool → ℕ → Bool) (takes : ℕ → S.Place → List Symbol → Type 0) : Counts → List Symbol → S.Place → S.Place → Parts → Type 0 where
    -- nothing is left
    reads_end : {d : Counts} {i : S.Place} → Reads passes stands takes d [] i i end
    -- a token of one of these words, that passes; then the rest
    reads_token : {d : Counts} {g : Ask} {w : List ℕ} {s : List Symbol} {x : Token} {i j r : S.Place} {p : Parts}
        → S.look i ≡ found x j → T (one_of x.word w) → T (passes g d x)
        → Reads passes stands takes (after g d) s j r p → Reads passes stands takes d (token g w ∷ s) i r (leaf x p)
    -- one alternative of a kind; then the rest
    reads_phrase : {d : Counts} {n : ℕ} {o : Scope} {a s : List Symbol} {i m r : S.Place} {p q : Parts}
        → takes n i a → Reads passes stands takes (inside o d) a i m p → Reads passes stands takes d s m r q
        → Reads passes stands takes d (phrase o n ∷ s) i r (node n a p q)
    -- none of these words stands next
    reads_unless : {d : Counts} {w : List ℕ} {s : List Symbol} {i r : S.Place} {p : Parts}
        → T (not (one_of (peek i) w)) → Reads passes stands takes d s i r p
        → Reads passes stands takes d (unless w ∷ s) i r p
    -- a note takes no token
    reads_note : {d : Counts} {k : ℕ} {s : List Symbol} {i r : S.Place} {p : Parts}
        → Reads passes stands takes d s i r p → Reads passes stands takes d (note k ∷ s) i r (mark k p)
    -- one alternative of the first kind; where it is a path, a phrase of the second kind; then the rest
    reads_side : {d : Counts} {n n₁ : ℕ} {a s : List Symbol} {i m r : S.Place} {p q : Parts}
        → takes n i a → Reads passes stands takes d a i m p → T (stands (l.is_path p) (peek m))
        → Reads passes stands takes d (cond (l.is_path p) (phrase same n₁ ∷ s) s) m r q
        → Reads passes stands takes d (left_side n n₁ ∷ s) i r (node n a p q)
    -- a piece of text; where a hole follows, a phrase of a kind; then the rest
    reads_text : {d : Counts} {n : ℕ} {s : List Symbol} {x : Token} {i j r : S.Place} {p : Parts}
        → S.piece i ≡ found x j → T (passes has_value d x)
        → Reads passes stands takes (after has_value d) (cond (eqb x.word l.hole) (phrase same n ∷ s) s) j r p
        → Reads passes stands takes d (text n ∷ s) i r (leaf x p)

  -- A reading takes any alternative of the grammar.
  abbrev pub Is : ℕ → S.Place → List Symbol → Type 0
  Is n i a = In a (alternatives l n)

  abbrev pub all : Bool → ℕ → Bool
  all b c = true

  abbrev pub ReadingBy : (Ask → Counts → Token → Bool) → Counts → List Symbol → S.Place → S.Place → Parts → Type 0
  ReadingBy G = Reads G all Is

  -- Its literals hold and no limit is passed.
  abbrev pub Reading : Counts → List Symbol → S.Place → S.Place → Parts → Type 0
  Reading = ReadingBy kept

  -- The source from a place to its end is one phrase of kind n, with these parts.
  pub record Text (n : ℕ) (i : S.Place) (p : Parts) : Type 0 where
    pub stop : S.Place
    pub reads : Reading zeros (phrase same n ∷ []) i stop p
    pub whole : S.look stop ≡ over
