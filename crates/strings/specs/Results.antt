-- What is written, if it has a value.
use Rattle.std.specs.Prelude.{ℕ, Option}

-- A character's code point, and how many bytes write it.
abbrev pub Piece : Type 0
Piece = Option (ℕ × ℕ)

-- How many bytes a string decodes to.
abbrev pub Size : Type 0
Size = Option ℕ

-- A code point.
abbrev pub Point : Type 0
Point = Option ℕ
