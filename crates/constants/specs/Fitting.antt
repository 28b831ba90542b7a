-- "A finished constant holds either a whole number, a float or a truth value": which of them, its declared type says.
use Rattle.std.specs.Prelude.{◌≡◌, Bool, ℕ, ◌<◌, Float, Some}
use Rattle.wholes.specs.declared.Integer.{Integer}
use Rattle.wholes.specs.Wholes.{span}
use Rattle.machine.specs.declared.Value.{Value}
use Rattle.machine.specs.Values.{integer_of}
use Rattle.constants.specs.Types.{F64, TRUTH}

-- A value of the type with this number: a whole number is held by as many bits as its type has.
pub data Fits : ℕ → Value → Type 0 where
  whole : {w n : ℕ} {t : Integer} → integer_of w ≡ Some t → n < span t → Fits w (Value.Whole n)
  float : {x : Float} → Fits F64 (Value.Float x)
  truth : {b : Bool} → Fits TRUTH (Value.Truth b)
