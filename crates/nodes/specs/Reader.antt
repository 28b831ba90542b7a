-- C-15: the search "equals that of a walk over all rows for our reader's tables".
use Rattle.std.specs.Prelude.{◌≡◌, List, Bool, ℕ, ◌*◌, take}
use Rattle.chars.specs.declared.Answer.{Answer}
use Rattle.rows.specs.Rows.{width}
use Rattle.answers.specs.Entries as reader
use Rattle.nodes.specs.Search.{Permitted, walked}

-- "a finished table without its zeros": as many rows as the count says
abbrev pub finished : Answer → List ℕ → List ℕ
finished a t = take (a.count * width) t

-- For every table that (a) or (b) hand back for a source, of any size, and every position. `tree`: (a), else (b); `tests`: whether
-- `test` is a declaration.
pub record SearchWalks (tests tree : Bool) (s : List ℕ) (size : ℕ) : Type 0 where
  pub equal : {a b : Answer} {t : List ℕ} → reader.Permitted tests tree s size a t → a.number ≡ 0 → (position : ℕ) → Permitted (finished a t) position b → b ≡ walked (finished a t) position
