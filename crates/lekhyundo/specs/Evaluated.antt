-- C-18 for C: the answer to a source and a constant's number in a lent run of numbers, its rows and its instructions in lent tables.
use Rattle.std.specs.Prelude.{◌≡◌, List, false, ℕ, length}
use Rattle.std.proofs.lemmas.List.Edits.{sets}
use Rattle.constants.specs.Answers.{Constant, Permitted}
use Rattle.lekhyundo.specs.Numbers.{constant_numbers}

-- A constant that document 02 permits (and by constants' `one_answer` it permits one), with what then stands in a lent table of `size` numbers and in a lent
-- list of `room` numbers; `run`, which was lent, holds its numbers in the end. By the new grammar (C-22).
pub record Evaluated (s : List ℕ) (k size room : ℕ) (table list run run' : List ℕ) : Type 0 where
  pub constant : Constant
  pub permitted : Permitted false s k size room constant table list
  pub numbers : run' ≡ sets run 0 (constant_numbers (length s) constant)
