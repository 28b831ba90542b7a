-- The bits of a decimal, if it hasn't too many digits.
use Rattle.std.specs.Prelude.{ℕ, Option}

abbrev pub Decimal : Type 0
Decimal = Option ℕ
