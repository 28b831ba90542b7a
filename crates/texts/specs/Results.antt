-- The end of a piece of text, if it has one.
use Rattle.std.specs.Prelude.{Option}
use Rattle.texts.specs.declared.Part.{Part}

abbrev pub Scanned : Type 0
Scanned = Option Part
