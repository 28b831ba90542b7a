-- What is written in digits, if it is a number.
use Rattle.std.specs.Prelude.{ℕ, Option}
use Rattle.numbers.specs.declared.Amount.{Amount}

-- A number and how many digits write it.
abbrev pub Number : Type 0
Number = Option (ℕ × ℕ)

-- What an integer or a float says.
abbrev pub Written : Type 0
Written = Option Amount

-- A sum below its limit.
abbrev pub Sum : Type 0
Sum = Option ℕ
