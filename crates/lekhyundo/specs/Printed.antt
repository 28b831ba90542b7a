-- C-20 for C: the answer in a lent run of numbers, the print in lent bytes, its source's rows in a lent table, zeros in the plan.
use Rattle.std.specs.Prelude.{◌≡◌, List, ℕ}
use Rattle.std.proofs.lemmas.List.Edits.{sets}
use Rattle.chars.specs.declared.Answer.{Answer}
use Rattle.roundtrip.specs.Prints.{Prints}
use Rattle.lekhyundo.specs.Numbers.{printed_numbers}

-- An answer that document 02 permits (and by roundtrip's `one_way` it permits one) with how many tests; with what then stands in a lent table of `size`
-- numbers for the rows, in a lent plan of `size'` numbers and in a lent text of `size''` bytes; `run`, which was lent, holds its numbers in the end. By the
-- grammar in which `test` is a declaration (C-22).
pub record Printed (s : List ℕ) (size size' size'' : ℕ) (table plan text run run' : List ℕ) : Type 0 where
  pub answer : Answer
  pub tests : ℕ
  pub permitted : Prints s size size' size'' answer tests table plan text
  pub numbers : run' ≡ sets run 0 (printed_numbers answer tests)
