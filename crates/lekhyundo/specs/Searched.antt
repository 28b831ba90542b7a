-- C-15 for C: the answer to a table and a position in a lent run of numbers.
use Rattle.std.specs.Prelude.{◌≡◌, List, ℕ}
use Rattle.std.proofs.lemmas.List.Edits.{sets}
use Rattle.chars.specs.declared.Answer.{Answer}
use Rattle.nodes.specs.Search.{Permitted}
use Rattle.lekhyundo.specs.Numbers.{answer_numbers}

-- An answer that document 02 permits (and by nodes' `one_answer` it permits one); `run`, which was lent, holds its numbers in the end.
pub record Searched (table : List ℕ) (position : ℕ) (run run' : List ℕ) : Type 0 where
  pub answer : Answer
  pub permitted : Permitted table position answer
  pub numbers : run' ≡ sets run 0 (answer_numbers answer)
