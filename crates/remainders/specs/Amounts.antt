-- A float that is finite and has no minus, and one that is finite and above zero.
use Rattle.std.specs.Prelude.{Bool, false, not, cond, Float, ltb}
use Rattle.std.specs.Float.Ieee.{nan, inf, fin}

abbrev pub amount : Float → Bool
amount nan = false
amount (inf s) = false
amount (fin s m e) = not s

abbrev pub divisor : Float → Bool
divisor nan = false
divisor (inf s) = false
divisor (fin s m e) = cond s false (ltb 0 m)
