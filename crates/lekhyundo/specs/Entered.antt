-- (a) and (b) for C: the answer in a lent run of numbers, its rows in a lent table.
use Rattle.std.specs.Prelude.{◌≡◌, List, Bool, false, ℕ}
use Rattle.std.proofs.lemmas.List.Edits.{sets}
use Rattle.chars.specs.declared.Answer.{Answer}
use Rattle.answers.specs.Entries.{Permitted}
use Rattle.lekhyundo.specs.Numbers.{answer_numbers}

-- An answer that document 01 permits (and by answers' `one_permitted` it permits one), with what then stands in a lent
-- table of `size` numbers; `run`, which was lent, holds its numbers in the end. By the new grammar (C-22).
pub record Entered (tree : Bool) (s : List ℕ) (size : ℕ) (table run run' : List ℕ) : Type 0 where
  pub answer : Answer
  pub permitted : Permitted false tree s size answer table
  pub numbers : run' ≡ sets run 0 (answer_numbers answer)
