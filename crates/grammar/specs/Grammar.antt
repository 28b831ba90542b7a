-- What a grammar is made of, as data; what stands at a place of a source; what a reading is made of.
use Rattle.std.specs.Prelude.{List, [], ◌∷◌, Bool, false, ◌||◌, cond, ℕ, eqb}

-- What is asked of a token besides its word: nothing; that its literal has a value; or that a limit is kept.
pub data Ask : Type 0 where
  plain has_value opens_bracket closes_bracket is_prefix is_head is_else_if : Ask

-- A phrase stands anywhere, or behind the head that its parent began with.
pub data Scope : Type 0 where
  same body : Scope

-- What an alternative is made of:
-- a token of one of these words, with its test; a phrase of a kind; "none of these words stands next";
-- a note for the rows (0: the part that a row's value tells of is there; else: a row of this kind);
-- a phrase of a kind and, where that phrase is a path, one of a second kind;
-- a piece of text and, where a hole follows it, a phrase of a kind (C-11).
pub data Symbol : Type 0 where
  token : Ask → List ℕ → Symbol
  phrase : Scope → ℕ → Symbol
  unless : List ℕ → Symbol
  note : ℕ → Symbol
  left_side : ℕ → ℕ → Symbol
  text : ℕ → Symbol

-- A phrase of this kind consists of one of these alternatives.
pub record Rule : Type 0 where
  pub kind : ℕ
  pub alternatives : List (List Symbol)

-- A token: its word, its bytes, whether its literal has a value, and the kind, value and detail of a literal's row.
pub record Token : Type 0 where
  pub word : ℕ
  pub start : ℕ
  pub end : ℕ
  pub holds : Bool
  pub kind : ℕ
  pub value : ℕ
  pub detail : ℕ

-- What stands at a place: a token and the place behind it; the end; no token, with the refusal's number and place.
pub data Look (P : Type 0) : Type 0 where
  found : Token → P → Look P
  over : Look P
  wrong : ℕ → ℕ → ℕ → Look P

-- A source: its places, what stands at each, and the piece of text that begins at each (C-11).
pub record Stream : Type 1 where
  pub Place : Type 0
  pub look : Place → Look Place
  pub piece : Place → Look Place

-- What a phrase consists of, in order: a token; a phrase (its kind, the alternative taken, its own parts); a note.
pub data Parts : Type 0 where
  end : Parts
  leaf : Token → Parts → Parts
  node : ℕ → List Symbol → Parts → Parts → Parts
  mark : ℕ → Parts → Parts

-- What a predictive reader sees of a token: its word, or that it stands in front of the word it is looked at with.
pub data View : Type 0 where
  one : ℕ → View
  pair : ℕ → View

pub record Pair : Type 0 where
  pub this : ℕ
  pub next : ℕ

-- What may begin a kind, and stand behind it; whether each text of it has a token; which alternative has its shortest
-- text; by how much two times its rows may exceed three times its tokens; how many steps there are at most to a token.
-- Nothing trusts a hint: each is tested.
pub record Hint : Type 0 where
  pub kind : ℕ
  pub firsts : List View
  pub follows : List View
  pub full : Bool
  pub shortest : ℕ
  pub more : ℕ
  pub less : ℕ
  pub rank : ℕ

-- A language: its rules; whether the parts of a phrase are a path; the signs that stand behind a path alone; the word of a
-- piece of text that a hole follows; and, for a predictive reader alone, hints and the pairs of words it looks at together.
pub record Language : Type 0 where
  pub rules : List Rule
  pub is_path : Parts → Bool
  pub assigns : List ℕ
  pub hole : ℕ
  pub hints : List Hint
  pub pairs : List Pair

abbrev pub one_of : ℕ → List ℕ → Bool
one_of c [] = false
one_of c (x ∷ xs) = eqb c x || one_of c xs

-- The alternatives of a kind.
abbrev pub alternatives_in : List Rule → ℕ → List (List Symbol)
alternatives_in [] n = []
alternatives_in (r ∷ rs) n = let k = alternatives_in rs n in cond (eqb n r.kind) r.alternatives k

abbrev pub alternatives : Language → ℕ → List (List Symbol)
alternatives l n = alternatives_in l.rules n

-- One of several alternatives.
pub data In : List Symbol → List (List Symbol) → Type 0 where
  here : {a : List Symbol} {ss : List (List Symbol)} → In a (a ∷ ss)
  there : {a b : List Symbol} {ss : List (List Symbol)} → In a ss → In a (b ∷ ss)
