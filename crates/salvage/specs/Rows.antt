-- The rows of what is kept, as its declarations are read one by one. Not to be believed: only the proofs of the code stand on it.
use Rattle.std.specs.Prelude.{Some, None, Ok, Err, ◌≡◌, List, [], ◌∷◌, ◌++◌, false, cond, ℕ, ◌+◌, ◌*◌, ◌/◌, ◌≤◌, leb, length, take, drop}
use Rattle.rows.specs.Kinds as kinds
use Rattle.rows.specs.Rows.{width, put_row}
use Rattle.tokens.specs.Blanks.{skip_all}
use Rattle.grammar.specs.Grammar.{over, Parts}
use Rattle.grammar.specs.Limits.{zeros}
use Rattle.grammar.specs.Table.{a}
use Rattle.grammar.specs.Kinds.{DECLARATION}
use Rattle.grammar.specs.Language.{roto}
use Rattle.grammar.specs.Readings.{Reading}
use Rattle.grammar.specs.Rows.{flat, count, sizes, Draft, blank, write}
use Rattle.answers.specs.Source.{source}
use Rattle.parser.specs.declared.Here.{Here}
use Rattle.keeping.specs.Kept.{Ends}
use Rattle.keeping.specs.Breaks.{Breaks}
use Rattle.parser.specs.Results.{Read}
use Rattle.parser.specs.Places.{start_of, plain_row}
use Rattle.parser.specs.Going.{Answers}
use Rattle.promises.specs.Promises.{the}
use Rattle.salvage.specs.Results.{Break}

-- where a table of so many numbers goes on behind n rows: at its end, where it has no room for them
abbrev pub part_from : ℕ → ℕ → ℕ
part_from size n = cond (leb n (size / width)) (n * width) size

abbrev pub freshly : Here → Here
freshly h = record { step = h.step; place = h.place; rows = 0 }

-- a declaration at h is read, and its rows go behind n others; what stood there before them stays
pub record Declares (s : List ℕ) (h : Here) (t : List ℕ) (n : ℕ) (r : Read) (t' : List ℕ) : Type 0 where
  pub part : List ℕ
  pub read : Answers (the s zeros DECLARATION h (drop (part_from (length t) n) t)) 1 r part
  pub back : t' ≡ take (part_from (length t) n) t ++ part

-- declarations one after the other from the first byte on, and what is written for them
pub data Written (s : List ℕ) : ℕ → Draft → Type 0 where
  none : Written s 0 blank
  more : {i j : ℕ} {p : Parts} {b : Draft} → Written s i b → Reading (source s) (roto false) zeros (a DECLARATION ∷ []) i j p → Written s j (write p b)

-- four rows for each byte that a source can have: more than one declaration has
abbrev pub most_rows : ℕ
most_rows = 262144

-- The text s was read up to i: n rows of c declarations, which stand first in the table t where there is room for them.
pub record Upto (s : List ℕ) (i : ℕ) (t : List ℕ) (n c : ℕ) : Type 0 where
  pub stop : ℕ
  pub draft : Draft
  pub written : Written s stop draft
  pub skips : skip_all s stop ≡ skip_all s i
  pub rows : length draft.rows ≡ n
  pub children : count draft.items ≡ c
  pub sized : sizes draft.items ≡ length draft.rows
  pub whole : length t / width * width ≡ length t
  pub held : n ≤ length t / width → (rest : List ℕ) × (t ≡ flat draft.rows ++ rest)
  pub inside : i ≤ length s
  pub few : n ≤ most_rows * i
  pub fewer : c ≤ i

-- and nothing stands behind
pub record Through (s t : List ℕ) (n c : ℕ) : Type 0 where
  pub place : ℕ
  pub upto : Upto s place t n c
  pub ends : (source s).look place ≡ over

-- the tree's row is put behind them
pub record Treed (s t t' : List ℕ) (n : ℕ) : Type 0 where
  pub children : ℕ
  pub table : List ℕ
  pub through : Through s table n children
  pub long : length table ≡ length t
  pub put : t' ≡ put_row table n (plain_row kinds.TREE 0 (length s) children) (n + 1)

abbrev pub broken_by : Here → Read → Break
broken_by h (Ok (m, z)) = None
broken_by h (Err r) = Some (start_of h, r)

-- how the declarations from a place on end, and what is written for all of them
abbrev pub ReachesIs : List ℕ → ℕ → List ℕ → ℕ → ℕ → Break → Type 0
ReachesIs s i t n c None = Ends (source s) (roto false) i × Through s t n c
ReachesIs s i t n c (Some (first, r)) = (b : Breaks false s i first (record { number = r.number; start = r.start; end = r.end })) × Upto s b.behind t n c

pub record Reaches (s : List ℕ) (i : ℕ) (t : List ℕ) (n c : ℕ) (e : Break) (t' : List ℕ) : Type 0 where
  pub is : ReachesIs s i t' n c e
  pub long : length t' ≡ length t
