-- The bytes that the rules of f-strings name.
use Rattle.std.specs.Prelude.{ℕ}
use Prim.Native.Char.{code}

abbrev pub backslash : ℕ
backslash = code "\\"

abbrev pub quote : ℕ
quote = code "\""

abbrev pub open_brace : ℕ
open_brace = code "{"

abbrev pub close_brace : ℕ
close_brace = code "}"

abbrev pub small_u : ℕ
small_u = code "u"

abbrev pub capital_u : ℕ
capital_u = code "U"
