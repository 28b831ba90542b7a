-- The width of the one float literal that the bytes are.
use Rattle.std.specs.Prelude.{Option}
use Rattle.floats.specs.declared.Width.{Width}

abbrev pub Alone : Type 0
Alone = Option Width
