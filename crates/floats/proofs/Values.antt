-- The bits as a float of the language, for what computes with it: they are no NaN's, so `f64::from_bits` is defined there, and the float is n / d rounded once.
use mathlib.Core.Path.{◌≡◌, refl, sym, subst}
use Prim.Native.Nat.{ℕ, ◌*◌, ◌%◌, ◌^◌, ◌<◌}
use native.Mathlib.Nat.{le_trans, le_of_lt, mod-le}
use mathlib.Core.Bool.{Bool, false, not}
use lib.Dec.{T}
use lib.Arith.{le→nltb}
use lib.Ieee.{Format, binary32, binary64, round, of_bits, nan_bits, ones, hid, low, top}
use lib.Ieee.Fits.{round-fits}
use lib.Ieee.Bits.{of_bits-to_bits, nan_bits_above}
use Rattle.floats.specs.Bits.{bits_of}
use Rattle.floats.proofs.Closest.{bits_nearest}

-- the numbers of both widths that Nearest.antt names
widths : ((hid binary32 ≡ 2 ^ 23) × ((ones binary32 ≡ 255) × (low binary32 ≡ 149))) × ((hid binary64 ≡ 2 ^ 52) × ((ones binary64 ≡ 2047) × (low binary64 ≡ 1074)))
widths = ((refl, (refl, refl)), (refl, (refl, refl)))

module _ (f : Format) (n d : ℕ) where
  pub value_is : of_bits f (bits_of f n d) ≡ round f false n d
  unfolding bits_of
  value_is = of_bits-to_bits f (round f false n d) (round-fits f false n d)

  pub no_nan : 0 < d → n < 2 ^ 64 → T (not (nan_bits f (bits_of f n d)))
  no_nan D small =
      subst (λ (t : Bool). T (not t)) (sym (nan_bits_above f (bits_of f n d)))
      (le→nltb (ones f * hid f) (bits_of f n d % top f) (le_trans (mod-le (bits_of f n d) (top f)) (le_of_lt (bits_nearest f n d D small).finite)))
