-- What the functions inside promise: the bits by the logic library's own rounding, which is the nearest float (floats/proofs/Closest.antt).
use Rattle.std.specs.Prelude.{Some, None, ℕ, List, cond}
use Rattle.std.specs.Float.{Format}
use Rattle.floats.specs.Results.{Decimal}
use Rattle.floats.specs.Bits.{bits_of}
use Rattle.literals.specs.Decimals.{numerator, denominator, few}

unfoldable pub written_of : Format → List ℕ → Decimal
written_of f text = cond (few text) (Some (bits_of f (numerator text) (denominator text))) None
