-- C-21: "Say yes exactly when the rows are the table our reader makes for that source and the indexes name its declarations in order."
-- The complete answer to a file of any bytes, and what then stands in a lent table of `size` numbers. `tests`: whether `test` is a declaration.
use Rattle.std.specs.Prelude.{Ok, ◌≡◌, List, [], ◌∷◌, ◌++◌, Bool, true, cond, ◌≢◌, ℕ, ◌+◌, ◌-◌, ◌*◌, ◌/◌, ◌≤◌, eqb, length, replicate}
use Rattle.chars.specs.declared.Answer.{Answer}
use Rattle.tokens.specs.Tokens.{whole_of}
use Rattle.rows.specs.Kinds as kinds
use Rattle.rows.specs.Rows.{width}
use Rattle.grammar.specs.Rows.{Row, flat}
use Rattle.grammar.specs.Answers.{accepted, Answers}
use Rattle.answers.specs.Source.{source}
use Rattle.answers.specs.Entries.{Permitted}
use Rattle.sheets.specs.declared.Checked.{Checked}
use Rattle.sheets.specs.Files.{File, Fills}
use Rattle.sheets.specs.Matches.{Differ, Declares}

-- "new 17, sections don't fill the file exactly", "new 18 at the number of the first row", "new 19 at the first such index"
abbrev pub UNFILLED : ℕ
UNFILLED = 17

abbrev pub WRONG_ROW : ℕ
WRONG_ROW = 18

abbrev pub WRONG_INDEX : ℕ
WRONG_INDEX = 19

-- "at 0, 0"
abbrev pub unfilled : Answer
unfilled = record { number = UNFILLED; start = 0; end = 0; count = 0 }

-- "both as number from 0, +1"
abbrev pub differing : ℕ → ℕ → Answer
differing number n = record { number = number; start = n; end = n + 1; count = 0 }

abbrev pub refusing : Answer → Checked
refusing a = record { number = a.number; start = a.start; end = a.end; count = a.count; tests = 0 }

-- C-22: "an answer says how many such rows there were", of kind 42
abbrev pub of_kind : ℕ → List Row → ℕ
of_kind k [] = 0
of_kind k (r ∷ rs) = cond (eqb r.kind k) 1 0 + of_kind k rs

abbrev pub accepting : List ℕ → List Row → Checked
accepting b rs = record { number = 0; start = 0; end = length b; count = length rs; tests = of_kind kinds.TEST rs }

-- The rows that our reader makes for a source.
pub record Makes (tests : Bool) (s : List ℕ) (rs : List Row) : Type 0 where
  pub fine : whole_of s ≡ (Ok tt)
  pub read : Answers (source s) tests true (length s) 0 (accepted rs)

-- One number of the lent table stands behind the rows that are compared.
abbrev pub room_for : ℕ → ℕ
room_for size = (size - 1) / width

-- 17, "before 1 to 9 and 11 for the source", and 10 as (a) gives it, "before new 18", "before new 19". Refused: zeros throughout. Accepted: the rows stand first
-- and zeros fill the rest.
pub data Checks (tests : Bool) (b : List ℕ) (size : ℕ) : Checked → List ℕ → Type 0 where
  none : ((f : File) → Fills b f → ⊥) → Checks tests b size (refusing unfilled) (replicate size 0)
  refuses : {f : File} {a : Answer} {t : List ℕ} → Fills b f → Permitted tests true f.source (size - 1) a t → a.number ≢ 0 → Checks tests b size (refusing a) (replicate size 0)
  row : {f : File} {rs : List Row} {n : ℕ} → Fills b f → Makes tests f.source rs → length rs ≤ room_for size → Differ f.rows rs n → Checks tests b size (refusing (differing WRONG_ROW n)) (replicate size 0)
  index : {f : File} {ids : List ℕ} {n : ℕ} → Fills b f → Makes tests f.source f.rows → length f.rows ≤ room_for size → Declares f.rows ids → Differ f.indexes ids n → Checks tests b size (refusing (differing WRONG_INDEX n)) (replicate size 0)
  accepts : {f : File} → Fills b f → Makes tests f.source f.rows → length f.rows ≤ room_for size → Declares f.rows f.indexes → Checks tests b size (accepting b f.rows) (flat f.rows ++ replicate (size - width * length f.rows) 0)
