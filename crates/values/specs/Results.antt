-- A literal's row, if it has a value.
use Rattle.std.specs.Prelude.{Option}
use Rattle.values.specs.declared.Literal.{Literal}

abbrev pub Worth : Type 0
Worth = Option Literal
