-- C-21 for C: the answers in a lent run of numbers, rows in a lent table, a file in lent bytes.
use Rattle.std.specs.Prelude.{◌≡◌, List, true, false, ℕ}
use Rattle.std.proofs.lemmas.List.Edits.{sets}
use Rattle.chars.specs.declared.Answer.{Answer}
use Rattle.sheets.specs.declared.Checked.{Checked}
use Rattle.sheets.specs.Checks.{Checks}
use Rattle.sheets.specs.Writes.{Writes}
use Rattle.lekhyundo.specs.Numbers.{answer_numbers, checked_numbers}

-- An answer that document 02 permits to a file (and by sheets' `one_check` it permits one), with what then stands in a lent table of `size` numbers;
-- `run`, which was lent, holds its numbers in the end. By the old grammar.
pub record TableChecked (file : List ℕ) (size : ℕ) (table run run' : List ℕ) : Type 0 where
  pub answer : Checked
  pub permitted : Checks true file size answer table
  pub numbers : run' ≡ sets run 0 (checked_numbers answer)

-- An answer of the writer (and by `one_write` there is one), with what then stands in a lent table of `size` numbers and in `room` lent bytes.
-- By the new grammar (C-22).
pub record TableWritten (s : List ℕ) (size room : ℕ) (table file run run' : List ℕ) : Type 0 where
  pub answer : Answer
  pub permitted : Writes false s size room answer table file
  pub numbers : run' ≡ sets run 0 (answer_numbers answer)
