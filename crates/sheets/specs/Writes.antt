-- The writer: from a source to its file in a lent buffer of `room` bytes, with a lent table of `size` numbers. It reads as (a) does. `tests`: whether `test` is
-- a declaration.
use Rattle.std.specs.Prelude.{List, ◌++◌, Bool, true, ◌≢◌, ℕ, ◌-◌, ◌*◌, ◌/◌, ◌≤◌, ◌<◌, length, replicate}
use Rattle.chars.specs.declared.Answer.{Answer}
use Rattle.rows.specs.Rows.{width}
use Rattle.grammar.specs.Rows.{Row, flat}
use Rattle.answers.specs.Entries.{Permitted}
use Rattle.sheets.specs.Files.{File, written, Fills}
use Rattle.sheets.specs.Matches.{Declares}
use Rattle.sheets.specs.Checks.{Makes}

-- The file that a source with these rows has.
abbrev pub file_for : List ℕ → List Row → List ℕ → File
file_for s rs ids = record { source = s; rows = rs; indexes = ids }

abbrev pub sized : List ℕ → List Row → List ℕ → ℕ
sized s rs ids = length (written (file_for s rs ids))

-- (a)'s refusals, 10 with the rows needed among them; then 10 with the bytes needed; else the count is the file's bytes, which stand first, and zeros fill the
-- rest; its counts and numbers fit their bytes. Refused: zeros throughout, in the table and in the buffer.
pub data Writes (tests : Bool) (s : List ℕ) (size room : ℕ) : Answer → List ℕ → List ℕ → Type 0 where
  refuses : {a : Answer} {t : List ℕ} → Permitted tests true s size a t → a.number ≢ 0 → Writes tests s size room a t (replicate room 0)
  over : {rs : List Row} {ids : List ℕ} → Makes tests s rs → length rs ≤ size / width → Declares rs ids → room < sized s rs ids → Writes tests s size room (record { number = 10; start = 0; end = 0; count = sized s rs ids }) (replicate size 0) (replicate room 0)
  writes : {rs : List Row} {ids : List ℕ} → Makes tests s rs → length rs ≤ size / width → Declares rs ids → Fills (written (file_for s rs ids)) (file_for s rs ids) → sized s rs ids ≤ room → Writes tests s size room (record { number = 0; start = 0; end = length s; count = sized s rs ids }) (flat rs ++ replicate (size - width * length rs) 0) (written (file_for s rs ids) ++ replicate (room - sized s rs ids) 0)
