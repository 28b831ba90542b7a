-- C-23 for C: the answer in a lent run of numbers, what is left of a source in its own bytes, rows and ranges in lent tables.
use Rattle.std.specs.Prelude.{◌≡◌, List, false, ℕ}
use Rattle.std.proofs.lemmas.List.Edits.{sets}
use Rattle.chars.specs.declared.Answer.{Answer}
use Rattle.salvage.specs.Answers.{Salvages}
use Rattle.lekhyundo.specs.Numbers.{salvaged_numbers}

-- An answer that document 02 permits (and by salvage's `one_salvage` it permits one) with how many ranges; with what then stands in the lent source, in a
-- lent table of `size` numbers for the rows and in one of `room` numbers for the ranges; `run`, which was lent, holds its numbers in the end. By the new
-- grammar (C-22).
pub record Salvaged (s : List ℕ) (size room : ℕ) (text table ranges run run' : List ℕ) : Type 0 where
  pub answer : Answer
  pub dropped : ℕ
  pub permitted : Salvages false s size room answer dropped text table ranges
  pub numbers : run' ≡ sets run 0 (salvaged_numbers answer dropped)
