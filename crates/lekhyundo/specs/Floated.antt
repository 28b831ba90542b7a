-- C-17 for C: the answer to a float literal in a lent run of numbers.
use Rattle.std.specs.Prelude.{◌≡◌, List, ℕ}
use Rattle.std.proofs.lemmas.List.Edits.{sets}
use Rattle.literals.specs.declared.Answer.{Answer}
use Rattle.literals.specs.Answers.{Permitted}
use Rattle.lekhyundo.specs.Numbers.{float_numbers}

-- An answer that document 02 permits (and by literals' `one_answer` it permits one); `run`, which was lent, holds its numbers in the end.
pub record Floated (text run run' : List ℕ) : Type 0 where
  pub answer : Answer
  pub permitted : Permitted text answer
  pub numbers : run' ≡ sets run 0 (float_numbers answer)
