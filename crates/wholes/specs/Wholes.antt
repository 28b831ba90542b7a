-- Whole numbers of the eight types. A constant holds the lowest bits of its number, as many as its type has.
use Rattle.std.specs.Prelude.{ℕ, suc, ◌+◌, ◌-◌, ◌%◌, ◌^◌, Bool, true, false, cond, ◌&&◌, ℤ, pos, negsuc, ◌==◌, int_div, int_rem, nat_le, unsigned_abs, Option, Some, None}
use Rattle.wholes.specs.declared.Integer.{Integer}

abbrev pub bits_of : Integer → ℕ
bits_of Integer.I8 = 8
bits_of Integer.I16 = 16
bits_of Integer.I32 = 32
bits_of Integer.I64 = 64
bits_of Integer.U8 = 8
bits_of Integer.U16 = 16
bits_of Integer.U32 = 32
bits_of Integer.U64 = 64

abbrev pub signed_of : Integer → Bool
signed_of Integer.I8 = true
signed_of Integer.I16 = true
signed_of Integer.I32 = true
signed_of Integer.I64 = true
signed_of Integer.U8 = false
signed_of Integer.U16 = false
signed_of Integer.U32 = false
signed_of Integer.U64 = false

abbrev pub span : Integer → ℕ
span t = 2 ^ bits_of t

-- the lowest bits of any whole number, where m is 2 to the power of how many: -1 is m - 1
unfoldable pub lowest : ℕ → ℤ → ℕ
lowest m (pos n) = n % m
lowest m (negsuc n) = m - suc (n % m)

-- the number of the type that has these lowest bits
unfoldable pub standing : Bool → ℕ → ℕ → ℤ
standing s m p = cond (s && nat_le m (p + p)) (negsuc (m - suc p)) (pos p)

unfoldable pub number : Integer → ℕ → ℤ
unfolding standing
number t p = standing (signed_of t) (span t) (p % span t)

-- "wrap at the declared width"
unfoldable pub wrap : Integer → ℤ → ℤ
unfolding number lowest
wrap t z = number t (lowest (span t) z)

unfoldable pub or_none : Bool → ℕ → Option ℕ
or_none true n = None
or_none false n = Some n

-- "signed division rounds toward zero, `%` takes the sign of the left operand": int_div and int_rem of std
unfoldable pub quotient_of : Integer → ℕ → ℕ → Option ℕ
unfolding or_none lowest number
quotient_of t a b = or_none (unsigned_abs (number t b) == 0) (lowest (span t) (int_div (number t a) (number t b)))

unfoldable pub remainder_of : Integer → ℕ → ℕ → Option ℕ
unfolding or_none lowest number
remainder_of t a b = or_none (unsigned_abs (number t b) == 0) (lowest (span t) (int_rem (number t a) (number t b)))
