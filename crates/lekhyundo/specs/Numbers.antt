-- The answers as runs of numbers.
use Rattle.std.specs.Prelude.{ℕ, List, [], ◌∷◌, ◌++◌}
use Rattle.chars.specs.declared.Answer.{Answer}
use Rattle.literals.specs.declared.Answer as literals
use Rattle.constants.specs.Answers.{Constant, answer_of, type_for, value_bits}
use Rattle.sheets.specs.declared.Checked.{Checked}

-- "An answer is number, place and a count"
unfoldable pub answer_numbers : Answer → List ℕ
answer_numbers a = a.number ∷ a.start ∷ a.end ∷ a.count ∷ []

-- a float literal's width and bits, behind its number and place
unfoldable pub float_numbers : literals.Answer → List ℕ
float_numbers a = a.number ∷ a.start ∷ a.end ∷ a.width ∷ a.bits ∷ []

-- a constant's declared type and its value in 64 bits, behind its number, place and count; len: the source's bytes
unfoldable pub constant_numbers : ℕ → Constant → List ℕ
unfolding answer_numbers
constant_numbers len c = answer_numbers (answer_of len c) ++ (type_for c ∷ value_bits c ∷ [])

-- how many rows of a file are tests, behind its answer
unfoldable pub checked_numbers : Checked → List ℕ
checked_numbers c = c.number ∷ c.start ∷ c.end ∷ c.count ∷ c.tests ∷ []

-- how many ranges were dropped, behind the answer
unfoldable pub salvaged_numbers : Answer → ℕ → List ℕ
salvaged_numbers a n = a.number ∷ a.start ∷ a.end ∷ a.count ∷ n ∷ []

-- how many rows are tests, behind the answer to a print
unfoldable pub printed_numbers : Answer → ℕ → List ℕ
printed_numbers a n = a.number ∷ a.start ∷ a.end ∷ a.count ∷ n ∷ []
