-- Powers of ten, and the whole number of a decimal.
use Rattle.std.specs.Prelude.{Some, None}
use mathlib.Core.Path.{◌≡◌, refl, sym, ap, ◌∙◌}
use Prim.Native.Nat.{ℕ, ◌+◌, ◌-◌, ◌*◌, ◌/◌, ◌^◌, ◌≤◌, ◌<◌, zero-le}
use native.Mathlib.Nat.{le_trans, le_of_eq, pow-suc, pow-le-pow_right, lt_of_lt_of_le, lt_of_le_of_lt, le-div_iff_mul-le, div-lt_iff_lt-mul}
use native.Mathlib.Numerals.{add-one}
use native.Mathlib.Omega.{arith}
use mathlib.Core.Bool.{Bool, true, false, ◌&&◌, cond}
use lib.Dec.{leb, ltb, lit<}
use lib.Ieee.{Format}
use borrow.Author.Tests.{lt-ltb, le-ltb, le-leb, lt-leb}
use Rattle.floats.specs.Results.{Decimal}
use Rattle.floats.specs.Bits.{bits_of, decimal_of}

pub ten_up : {i j : ℕ} → i ≤ j → 10 ^ i ≤ 10 ^ j
ten_up h = pow-le-pow_right (lit< tt) h

pub ten_some : (k : ℕ) → 0 < 10 ^ k
ten_some k = ten_up zero-le

-- one place more
module _ (p i : ℕ) (e : p ≡ 10 ^ i) where
  pub ten_next : p * 10 ≡ 10 ^ (i + 1)
  ten_next = ap (λ (x : ℕ). x * 10) e ∙ sym (ap (λ (x : ℕ). 10 ^ x) (add-one i) ∙ pow-suc 10 i)

  pub ten_fits : i < 19 → p * 10 < 2 ^ 64
  ten_fits h = lt_of_le_of_lt (le_of_eq ten_next) (lt_of_le_of_lt (ten_up (le_trans (le_of_eq (add-one i)) h)) (lit< tt))

-- ---- the answers of `decimal`
module _ (f : Format) (whole part places : ℕ) where
  pub long_places : 19 < places → None ≡ decimal_of f whole part places
  unfolding decimal_of
  long_places h = rw (lt-leb places 19 h)

  module _ (d : ℕ) (e : d ≡ 10 ^ places) where
    pub above : 9999999999999999999 < whole * d + part → None ≡ decimal_of f whole part places
    unfolding decimal_of
    above h = rw (← e) (go (leb places 19) (le-ltb (whole * d + part) (10 ^ 19) h))
      where
        go : (t : Bool) → ltb (whole * d + part) (10 ^ 19) ≡ false → None ≡ cond (t && ltb (whole * d + part) (10 ^ 19)) (Some (bits_of f (whole * d + part) d)) None
        go true g = rw g
        go false g = refl

    pub long_part : 9999999999999999999 < part → None ≡ decimal_of f whole part places
    long_part h = above (omega arith)

    D : 0 < d
    D = lt_of_lt_of_le (ten_some places) (le_of_eq (sym e))

    pub long_whole : part ≤ 9999999999999999999 → (9999999999999999999 - part) / d < whole → None ≡ decimal_of f whole part places
    long_whole p h = let g : 9999999999999999999 - part < whole * d = (div-lt_iff_lt-mul D).0 h in above (omega arith)

    module _ (few : places ≤ 19) (p : part ≤ 9999999999999999999) (h : whole ≤ (9999999999999999999 - part) / d) where
      pub product_room : whole * d + part ≤ 9999999999999999999
      product_room = let g : whole * d ≤ 9999999999999999999 - part = (le-div_iff_mul-le D).0 h in omega arith

      pub short_is : {b : ℕ} → b ≡ bits_of f (whole * d + part) d → Some b ≡ decimal_of f whole part places
      unfolding decimal_of
      short_is {b} g = rw (← e, le-leb places 19 few, lt-ltb (whole * d + part) (10 ^ 19) (omega (arith, product_room))) (ap Some g)
