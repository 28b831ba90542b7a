-- What the theorems of C-21 say. `tests`: whether `test` is a declaration.
use Rattle.std.specs.Prelude.{Ok, ◌≡◌, List, ◌++◌, Bool, true, ℕ, ◌-◌, ◌/◌, ◌≤◌, length, take, replicate}
use Rattle.chars.specs.declared.Answer.{Answer}
use Rattle.tokens.specs.Tokens.{whole_of}
use Rattle.rows.specs.Rows.{width}
use Rattle.grammar.specs.Grammar.{Parts}
use Rattle.answers.specs.Demands.{Reading, rows_of}
use Rattle.sheets.specs.declared.Checked.{Checked}
use Rattle.sheets.specs.Files.{Fills}
use Rattle.sheets.specs.Matches.{Declares}
use Rattle.sheets.specs.Checks.{Checks, room_for}
use Rattle.sheets.specs.Writes.{file_for, Writes}

-- The file b is that of a source and a reading of it.
pub record OfReading (tests : Bool) (b : List ℕ) : Type 0 where
  pub source : List ℕ
  pub parts : Parts
  pub indexes : List ℕ
  pub fine : whole_of source ≡ (Ok tt)
  pub reading : Reading tests true source parts
  pub declares : Declares (rows_of true source parts) indexes
  pub fills : Fills b (file_for source (rows_of true source parts) indexes)

-- "Say yes exactly when": with room for its rows, a file is accepted exactly when it is that of a source and a reading.
pub record AcceptedIff (tests : Bool) (b : List ℕ) (size : ℕ) : Type 0 where
  pub only : {c : Checked} {t : List ℕ} → Checks tests b size c t → c.number ≡ 0 → OfReading tests b
  pub all : {c : Checked} {t : List ℕ} → Checks tests b size c t → (o : OfReading tests b) → length (rows_of true o.source o.parts) ≤ room_for size → c.number ≡ 0

-- "A file that our own writer makes is always accepted": by the check, which keeps to the old grammar (C-22), whichever one the writer reads by. And a file that is accepted
-- by a grammar is the one that a writer by that grammar makes of its source.
pub record WriterChecks (tests : Bool) : Type 0 where
  pub ours : {s : List ℕ} {size room size' : ℕ} {a : Answer} {c : Checked} {t file t' : List ℕ} → Writes tests s size room a t file → a.number ≡ 0 → Checks true (take a.count file) size' c t' → 98304 ≤ room_for size' → c.number ≡ 0
  pub back : {b : List ℕ} {size : ℕ} {c : Checked} {t : List ℕ} → Checks tests b size c t → c.number ≡ 0 → (s : List ℕ) × ((size' room : ℕ) (a : Answer) (t' file : List ℕ) → Writes tests s size' room a t' file → c.count ≤ size' / width → length b ≤ room → (a.number ≡ 0) × (file ≡ b ++ replicate (room - length b) 0))
