-- From a quotient of 64 digits to the bits, once for both widths.
use mathlib.Core.Path.{◌≡◌, refl, sym, ap, ◌∙◌, subst}
use Prim.Native.Nat.{ℕ, suc, ◌+◌, ◌-◌, ◌*◌, ◌/◌, ◌%◌, ◌^◌, ◌≤◌, ◌<◌, compare}
use native.Mathlib.Nat.{le_trans, le_of_eq, lt_of_lt_of_le, lt_of_le_of_lt, le-add_right, zero-mul, zero-div, zero-mod, zero-sub, mul_assoc, mul_left_comm, mul_right_comm, mul-le-mul_right, mul-lt-mul_of_pos_right, mul-pos, le-div_iff_mul-le, div-lt_iff_lt-mul, suc-mul}
use native.Mathlib.Omega.{arith}
use lib.Dec.{lit≤}
use lib.Pow.{pow-add, pow_pos}
use lib.Ieee.{prec, emax, low, hid, size, nearest}
use lib.Ieee.Nearest.{closest, closest_same}
use Rattle.floats.specs.declared.Width.{Width}
use Rattle.floats.specs.Bits.{bits_of}
use Rattle.floats.specs.Nearest.{format_of}
use Rattle.floats.specs.Steps.{unit_of, lead_of, last_of, Scaled}
use Rattle.floats.proofs.Rounding.{compare_lt}
use Rattle.floats.proofs.Patterns.{size_is, short, dropped, keeps, keeps_most, in_range, bits_are}

-- ---- of a width: what the code's numbers are, and how far its exponents reach
unit_is : (w : Width) → unit_of w ≡ 2 ^ (64 - prec (format_of w))
unit_is Width.F32 = refl
unit_is Width.F64 = refl

lead_is : (w : Width) → lead_of w ≡ hid (format_of w)
lead_is Width.F32 = refl
lead_is Width.F64 = refl

last_is : (w : Width) → last_of w ≡ 64 + low (format_of w) - prec (format_of w)
last_is Width.F32 = refl
last_is Width.F64 = refl

fine : (w : Width) → 127 ≤ low (format_of w)
fine Width.F32 = lit≤ tt
fine Width.F64 = lit≤ tt

last_room : (w : Width) (t : ℕ) → t ≤ 127 → t ≤ last_of w
last_room Width.F32 t h = omega arith
last_room Width.F64 t h = omega arith

field_fits : (w : Width) (t : ℕ) → (last_of w - t) * lead_of w < 2 ^ 64
field_fits Width.F32 t = omega arith
field_fits Width.F64 t = omega arith

all_fits : (w : Width) (t m : ℕ) → m ≤ lead_of w * 2 → (last_of w - t) * lead_of w + m < 2 ^ 64
all_fits Width.F32 t m h = omega arith
all_fits Width.F64 t m h = omega arith

-- ---- 0
size_zero : size 0 ≡ 0
unfolding size
size_zero = refl

closest_zero : (u : ℕ) → 0 < u → closest 0 u ≡ 0
closest_zero u h =
    ap (λ (x : ℕ). nearest x (compare (0 % u * 2) u)) (zero-div u)
    ∙ ap (λ (x : ℕ). nearest 0 (compare (x * 2) u)) (zero-mod u)
    ∙ ap (nearest 0) (compare_lt 0 u h)

pub bits_zero : (w : Width) (d : ℕ) → 0 < d → 0 ≡ bits_of (format_of w) 0 d
bits_zero w d D =
    let f = format_of w in
    let z : 0 * 2 ^ low f ≡ 0 = zero-mul (2 ^ low f) in
    let k : dropped f 0 d ≡ 0 = ap (λ (x : ℕ). size (x / d) - prec f) z ∙ ap (λ (x : ℕ). size x - prec f) (zero-div d) ∙ ap (λ (x : ℕ). x - prec f) size_zero ∙ zero-sub (prec f) in
    let q : keeps f 0 d ≡ 0 = ap (λ (x : ℕ). closest x (d * 2 ^ dropped f 0 d)) z ∙ closest_zero (d * 2 ^ dropped f 0 d) (mul-pos D (pow_pos (dropped f 0 d))) in
    let none : keeps f 0 d * 2 ^ dropped f 0 d ≡ 0 = ap (λ (x : ℕ). x * 2 ^ dropped f 0 d) q ∙ zero-mul (2 ^ dropped f 0 d) in
    sym (bits_are f 0 d (lt_of_le_of_lt (le_of_eq none) (pow_pos (low f + suc (emax f)))) ∙ both (dropped f 0 d) (keeps f 0 d) (hid f) k q)
  where
    both : (k q h : ℕ) → k ≡ 0 → q ≡ 0 → k * h + q ≡ 0
    both k q h e g = ap (λ (x : ℕ). x * h + q) e ∙ ap (λ (x : ℕ). 0 * h + x) g ∙ nothing h
      where
        nothing : (h : ℕ) → 0 * h + 0 ≡ 0
        nothing h = omega arith

-- ---- any other number
module _ (w : Width) (n d Q R t : ℕ) (x : Scaled n d Q R t) (few : t ≤ 127) (D : 0 < d) (N : n < 2 ^ 64) where
  j : ℕ
  j = low (format_of w) - t

  shift : n * 2 ^ low (format_of w) ≡ (Q * d + R) * 2 ^ j
  unfolding j
  shift =
      ap (λ (y : ℕ). n * 2 ^ y) (up (low (format_of w)) t (fine w) few)
      ∙ ap (λ (y : ℕ). n * y) (pow-add 2 t j)
      ∙ sym (mul_assoc n (2 ^ t) (2 ^ j))
      ∙ ap (λ (y : ℕ). y * 2 ^ j) (sym x.whole)
    where
      up : (l t : ℕ) → 127 ≤ l → t ≤ 127 → l ≡ t + (l - t)
      up l t a b = omega arith

  at_least : 2 ^ (63 + j) ≤ n * 2 ^ low (format_of w) / d
  at_least =
      (le-div_iff_mul-le D).1
      (le_trans (le_of_eq (ap (λ (y : ℕ). y * d) (pow-add 2 63 j) ∙ mul_right_comm (2 ^ 63) (2 ^ j) d))
      (le_trans (mul-le-mul_right (2 ^ j) (le_trans (mul-le-mul_right d x.full) (le-add_right (Q * d) R))) (le_of_eq (sym shift))))

  less : n * 2 ^ low (format_of w) / d < 2 ^ (64 + j)
  less =
      (div-lt_iff_lt-mul D).1
      (lt_of_le_of_lt (le_of_eq shift)
      (lt_of_lt_of_le (mul-lt-mul_of_pos_right under (pow_pos j)) (le_of_eq (mul_right_comm (2 ^ 64) d (2 ^ j) ∙ ap (λ (y : ℕ). y * d) (sym (pow-add 2 64 j))))))
    where
      under : Q * d + R < 2 ^ 64 * d
      under =
          let e : suc Q * d ≡ Q * d + d = suc-mul Q d in
          let s : R < d = x.small in
          lt_of_lt_of_le (omega arith) (mul-le-mul_right d x.fits)

  digits : size (n * 2 ^ low (format_of w) / d) ≡ 64 + j
  digits = size_is (63 + j) (n * 2 ^ low (format_of w) / d) at_least (subst (λ (y : ℕ). n * 2 ^ low (format_of w) / d < 2 ^ y) (next j) less) ∙ sym (next j)
    where
      next : (j : ℕ) → 64 + j ≡ suc (63 + j)
      next j = omega arith

  dropped_is : dropped (format_of w) n d ≡ last_of w - t
  unfolding j
  dropped_is = ap (λ (y : ℕ). y - prec (format_of w)) digits ∙ order (low (format_of w)) (prec (format_of w)) t (fine w) few (short (format_of w)) ∙ ap (λ (y : ℕ). y - t) (sym (last_is w))
    where
      order : (l p t : ℕ) → 127 ≤ l → t ≤ 127 → p ≤ 64 → 64 + (l - t) - p ≡ 64 + l - p - t
      order l p t a b c = omega arith

  balance : low (format_of w) + (64 - prec (format_of w)) ≡ t + dropped (format_of w) n d
  unfolding j
  balance = sum (low (format_of w)) (prec (format_of w)) t (dropped (format_of w) n d) (fine w) few (short (format_of w)) (ap (λ (y : ℕ). y - prec (format_of w)) digits)
    where
      sum : (l p t k : ℕ) → 127 ≤ l → t ≤ 127 → p ≤ 64 → k ≡ 64 + (l - t) - p → l + (64 - p) ≡ t + k
      sum l p t k a b c e = omega arith

  keeps_is : keeps (format_of w) n d ≡ closest (Q * d + R) (d * unit_of w)
  keeps_is =
      let f = format_of w in
      let k = dropped f n d in
      let u = 2 ^ (64 - prec f) in
      let e : 2 ^ low f * u ≡ 2 ^ t * 2 ^ k = sym (pow-add 2 (low f) (64 - prec f)) ∙ ap (λ (y : ℕ). 2 ^ y) balance ∙ pow-add 2 t k in
      closest_same (n * 2 ^ low f) (d * 2 ^ k) (Q * d + R) (d * u) (mul-pos D (pow_pos k)) (mul-pos D (pow_pos (64 - prec f)))
      (turn n d (2 ^ low f) u (2 ^ t) (2 ^ k) e ∙ ap (λ (y : ℕ). y * (d * 2 ^ k)) (sym x.whole))
      ∙ ap (λ (y : ℕ). closest (Q * d + R) (d * y)) (sym (unit_is w))
    where
      turn : (n d a b c e : ℕ) → a * b ≡ c * e → n * a * (d * b) ≡ n * c * (d * e)
      turn n d a b c e h = swap n a d b ∙ ap (λ (y : ℕ). n * (d * y)) h ∙ sym (swap n c d e)
        where
          swap : (n a d b : ℕ) → n * a * (d * b) ≡ n * (d * (a * b))
          swap n a d b = mul_assoc n a (d * b) ∙ ap (λ (y : ℕ). n * y) (mul_left_comm a d b)

  module _ (m : ℕ) (is : m ≡ closest (Q * d + R) (d * unit_of w)) where
    kept_is : m ≡ keeps (format_of w) n d
    kept_is = is ∙ sym keeps_is

    answer : (last_of w - t) * lead_of w + m ≡ bits_of (format_of w) n d
    answer =
        ap (λ (y : ℕ). y * lead_of w + m) (sym dropped_is)
        ∙ ap (λ (y : ℕ). dropped (format_of w) n d * y + m) (lead_is w)
        ∙ ap (λ (y : ℕ). dropped (format_of w) n d * hid (format_of w) + y) kept_is
        ∙ sym (bits_are (format_of w) n d (in_range (format_of w) n d D N))

    answer_fits : (last_of w - t) * lead_of w + m < 2 ^ 64
    answer_fits = all_fits w t m (le_trans (le_of_eq kept_is) (le_trans (keeps_most (format_of w) n d) (le_of_eq (ap (λ (y : ℕ). y * 2) (sym (lead_is w))))))

-- ---- the same of the numbers that the code holds
module _ (w : Width) (n d Q R t m l h : ℕ) (x : Scaled n d Q R t) (few : t ≤ 127) (D : 0 < d) (N : n < 2 ^ 64) (e : l ≡ last_of w) (g : h ≡ lead_of w)
    (is : (d : ℕ) → R < d → m ≡ closest (Q * d + R) (d * unit_of w)) where
  named : (last_of w - t) * lead_of w ≡ (l - t) * h
  named = ap (λ (y : ℕ). (y - t) * lead_of w) (sym e) ∙ ap (λ (y : ℕ). (l - t) * y) (sym g)

  pub product_fits : (l - t) * h < 2 ^ 64
  product_fits = subst (λ (y : ℕ). y < 2 ^ 64) named (field_fits w t)

  pub sum_fits : (l - t) * h + m < 2 ^ 64
  sum_fits = subst (λ (y : ℕ). y + m < 2 ^ 64) named (answer_fits w n d Q R t x few D N m (is d x.small))

  pub sum_is : (l - t) * h + m ≡ bits_of (format_of w) n d
  sum_is = ap (λ (y : ℕ). y + m) (sym named) ∙ answer w n d Q R t x few D N m (is d x.small)

pub left_room : (w : Width) (t l : ℕ) → t ≤ 127 → l ≡ last_of w → t ≤ l
left_room w t l h e = le_trans (last_room w t h) (le_of_eq (sym e))
