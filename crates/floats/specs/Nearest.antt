-- What it is to be the nearest float, over whole numbers: no float of this width is nearer, and on a tie it is the even one. A float is its
-- pattern of bits, without a sign, which no literal has. Of a width (32 and 64 bits): `hid` is the weight of the exponent's field in the
-- pattern, 2 ^ 23 and 2 ^ 52; `ones` is the field of what is no number, 255 and 2047; 2 ^ -low is the least float above 0, low 149 and 1074.
use Rattle.std.specs.Prelude.{◌≡◌, ◌⊎◌, ℕ, zero, suc, ◌+◌, ◌-◌, ◌*◌, ◌/◌, ◌%◌, ◌^◌, ◌≤◌, ◌<◌}
use Rattle.std.specs.Float.{Format, binary32, binary64}
use Rattle.std.specs.Float.Ieee.{low, hid, ones}
use Rattle.floats.specs.declared.Width.{Width}

abbrev pub format_of : Width → Format
format_of Width.F32 = binary32
format_of Width.F64 = binary64

-- what an exponent's field and the digits behind the leading one stand for, in smallest values: a field of 0 has no leading digit
abbrev pub placed : ℕ → ℕ → ℕ → ℕ
placed lead zero digits = digits
placed lead (suc k) digits = (lead + digits) * 2 ^ k

-- a pattern without a sign stands for so many times 2 ^ -low
unfoldable pub value_of : Format → ℕ → ℕ
value_of f b = placed (hid f) (b / hid f) (b % hid f)

-- how far n / d lies from what a pattern stands for, times d and 2 ^ low, so that it is a whole number
unfoldable pub distance : Format → ℕ → ℕ → ℕ → ℕ
unfolding value_of
distance f n d b = (n * 2 ^ low f - value_of f b * d) + (value_of f b * d - n * 2 ^ low f)

-- the first pattern that is no number: those before it are the floats
abbrev pub infinite : Format → ℕ
infinite f = ones f * hid f

-- "the nearest to the exact decimal, ties to even as in IEEE 754"
pub record Nearest (f : Format) (n d b : ℕ) : Type 0 where
  pub finite : b < infinite f
  pub close : (c : ℕ) → c < infinite f → distance f n d b ≤ distance f n d c
  pub even : (c : ℕ) → c < infinite f → distance f n d b ≡ distance f n d c → (c ≡ b) ⊎ (b % 2 ≡ 0)
