-- The bits of the float that is nearest to a fraction, once for both widths, by the logic library's own rounding: proofs/Closest.antt ties it to Nearest.antt.
use Rattle.std.specs.Prelude.{Some, None, ℕ, ◌+◌, ◌*◌, ◌^◌, false, ◌&&◌, cond, leb, ltb}
use Rattle.std.specs.Float.{Format}
use Rattle.std.specs.Float.Ieee.{round, to_bits}
use Rattle.floats.specs.Results.{Decimal}

-- n / d rounded as the language's own operators round: to the nearest, a tie to the even one
unfoldable pub bits_of : Format → ℕ → ℕ → ℕ
bits_of f n d = to_bits f (round f false n d)

-- A decimal of so many places is one whole number over a power of ten. It has at most 19 places, and from its first digit that isn't 0 at most 19 digits.
unfoldable pub decimal_of : Format → ℕ → ℕ → ℕ → Decimal
decimal_of f whole part places =
    let n : ℕ = whole * 10 ^ places + part in
    cond (leb places 19 && ltb n (10 ^ 19)) (Some (bits_of f n (10 ^ places))) None
