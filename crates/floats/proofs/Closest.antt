-- `bits_of` is the nearest pattern, and the only one: `bits_nearest` and `only_bits`, for a number of 64 digits over any other, once for both formats.
-- n / d lies between two neighbours on the grid of `round`, and no pattern's value lies strictly between those.
use mathlib.Core.Path.{◌≡◌, refl, sym, ap, ◌∙◌}
use mathlib.Core.Logic.{◌⊎◌, inl, inr, ⊎_elim}
use Prim.Native.Nat.{ℕ, zero, suc, ◌+◌, ◌-◌, ◌*◌, ◌/◌, ◌%◌, ◌^◌, ◌≤◌, ◌<◌}
use native.Mathlib.Nat.{le_trans, le_of_eq, le_of_lt, le_antisymm, lt_of_le_of_lt, eq-or-lt_of_le, mul-one, mul_comm, mul_assoc, add-mul, suc-mul, mul-pos, mul-le-mul_right, mul-le-mul_left, mul-lt-mul_of_pos_right, eq_of_mul-eq-mul_right, mod-lt, div-add-mod', pow-succ', pow-suc}
use native.Mathlib.Numerals.{add-one}
use native.Mathlib.Omega.{arith}
use lib.Arith.{digits_div, digits_mod}
use lib.Pow.{pow-add, pow_pos, pow_mono}
use lib.Ieee.{Format, prec, emax, low, hid, nearest}
use lib.Ieee.Fits.{two}
use lib.Ieee.Nearest.{closest}
use Rattle.floats.specs.Bits.{bits_of}
use Rattle.floats.specs.Nearest.{placed, value_of, distance, infinite, Nearest}
use Rattle.floats.proofs.Rounding.{compare_lt, compare_eq, compare_gt}
use Rattle.floats.proofs.Patterns.{less_or_not, wide, bits_at, grid_bits, dropped, keeps, step, floor, floor_leads, floor_less, leads, keeps_most, dropped_few, in_range, bits_are}

-- ---- a pattern and its value
module _ (f : Format) where
  -- as a number of digits dropped and a number kept
  pub record Shape (c : ℕ) : Type 0 where
    pub k : ℕ
    pub q : ℕ
    pub is : c ≡ k * hid f + q
    pub value : value_of f c ≡ q * 2 ^ k
    pub lead : (k ≡ 0) ⊎ (hid f ≤ q)
    pub less : q < hid f * 2

  shape : (c : ℕ) → Shape c
  unfolding value_of
  shape c = go (c / hid f) (c % hid f) refl (sym (div-add-mod' c (hid f))) (mod-lt c (pow_pos (prec f - 1)))
    where
      first : (h t : ℕ) → t < h → t < h * 2
      first h t l = omega arith

      more : (h t : ℕ) → t < h → h + t < h * 2
      more h t l = omega arith

      lead_on : (h t : ℕ) → h ≤ h + t
      lead_on h t = omega arith

      carry : (x h t : ℕ) → suc x * h + t ≡ x * h + (h + t)
      carry x h t = let e : suc x * h ≡ x * h + h = suc-mul x h in omega arith

      go : (x t : ℕ) → placed (hid f) (c / hid f) (c % hid f) ≡ placed (hid f) x t → c ≡ x * hid f + t → t < hid f → Shape c
      go zero t e g l = record { k = 0; q = t; is = g; value = e ∙ sym (mul-one t); lead = inl refl; less = first (hid f) t l }
      go (suc x) t e g l = record { k = x; q = hid f + t; is = g ∙ carry x (hid f) t; value = e; lead = inr (lead_on (hid f) t); less = more (hid f) t l }

  value_back : (c : ℕ) → bits_at f (value_of f c) ≡ c
  value_back c = let s = shape c in ap (bits_at f) s.value ∙ grid_bits f s.q s.k s.lead (le_of_lt s.less) ∙ sym s.is

  pub value_one : (b c : ℕ) → value_of f b ≡ value_of f c → b ≡ c
  value_one b c e = sym (value_back b) ∙ ap (bits_at f) e ∙ value_back c

  -- the value of a pattern on the grid
  value_in : (x t : ℕ) → t < hid f → value_of f (x * hid f + t) ≡ placed (hid f) x t
  unfolding value_of
  value_in x t l = ap (λ (y : ℕ). placed (hid f) y ((x * hid f + t) % hid f)) (digits_div x l) ∙ ap (placed (hid f) x) (digits_mod x l)

  pub value_grid : (q k : ℕ) → (k ≡ 0) ⊎ (hid f ≤ q) → q ≤ hid f * 2 → value_of f (k * hid f + q) ≡ q * 2 ^ k
  value_grid q k lead le = go (eq-or-lt_of_le le) (less_or_not q (hid f)) lead
    where
      some : 0 < hid f
      some = pow_pos (prec f - 1)

      at_top : (k h : ℕ) → k * h + h * 2 ≡ suc (suc k) * h + 0
      at_top k h = let e : suc (suc k) * h ≡ suc k * h + h = suc-mul (suc k) h in let g : suc k * h ≡ k * h + h = suc-mul k h in omega arith

      past : (k h q : ℕ) → h ≤ q → k * h + q ≡ suc k * h + (q - h)
      past k h q l = let e : suc k * h ≡ k * h + h = suc-mul k h in omega arith

      rest : (h q : ℕ) → q < h * 2 → h ≤ q → q - h < h
      rest h q a b = omega arith

      join : (h q : ℕ) → h ≤ q → h + (q - h) ≡ q
      join h q l = omega arith

      plain : (h : ℕ) → h + 0 ≡ h
      plain h = omega arith

      not_both : (h q : ℕ) → q < h → h ≤ q → ⊥
      not_both h q a b = omega arith

      go : (q ≡ hid f * 2) ⊎ (q < hid f * 2) → (q < hid f) ⊎ (hid f ≤ q) → (k ≡ 0) ⊎ (hid f ≤ q) → value_of f (k * hid f + q) ≡ q * 2 ^ k
      go (inl e) s l =
          ap (λ (y : ℕ). value_of f (k * hid f + y)) e
          ∙ ap (value_of f) (at_top k (hid f))
          ∙ value_in (suc (suc k)) 0 some
          ∙ ap (λ (y : ℕ). y * 2 ^ suc k) (plain (hid f))
          ∙ ap (λ (y : ℕ). hid f * y) (pow-succ' 2 k)
          ∙ sym (mul_assoc (hid f) 2 (2 ^ k))
          ∙ ap (λ (y : ℕ). y * 2 ^ k) (sym e)
      go (inr t) (inr l) n =
          ap (value_of f) (past k (hid f) q l) ∙ value_in (suc k) (q - hid f) (rest (hid f) q t l) ∙ ap (λ (y : ℕ). y * 2 ^ k) (join (hid f) q l)
      go (inr t) (inl s) (inr l) = absurd (not_both (hid f) q s l)
      go (inr t) (inl s) (inl z) =
          ap (λ (y : ℕ). value_of f (y * hid f + q)) z ∙ value_in 0 q s ∙ sym (mul-one q) ∙ ap (λ (y : ℕ). q * 2 ^ y) (sym z)

  -- no value lies strictly between two neighbours of the grid
  pub apart : (q k : ℕ) → (k ≡ 0) ⊎ (hid f ≤ q) → (c : ℕ) → (value_of f c ≤ q * 2 ^ k) ⊎ ((q + 1) * 2 ^ k ≤ value_of f c)
  apart q k lead c = let s = shape c in elim (less_or_not s.k k) [
    | inl l ↦
        let a : s.q * 2 ^ s.k ≤ hid f * 2 * 2 ^ s.k = mul-le-mul_right (2 ^ s.k) (le_of_lt s.less) in
        let b : hid f * 2 * 2 ^ s.k ≤ hid f * 2 ^ k = le_trans (le_of_eq (mul_assoc (hid f) 2 (2 ^ s.k) ∙ ap (λ (y : ℕ). hid f * y) (sym (pow-succ' 2 s.k)))) (mul-le-mul_left (hid f) (pow_mono l)) in
        inl (le_trans (le_of_eq s.value) (le_trans a (le_trans b (mul-le-mul_right (2 ^ k) (top s.k l)))))
    | inr l ↦
        let x = s.q * 2 ^ (s.k - k) in
        let e : value_of f c ≡ x * 2 ^ k = s.value ∙ ap (λ (y : ℕ). s.q * 2 ^ y) (join s.k k l) ∙ ap (λ (y : ℕ). s.q * y) (pow-add 2 (s.k - k) k) ∙ sym (mul_assoc s.q (2 ^ (s.k - k)) (2 ^ k)) in
        elim (less_or_not q x) [
          | inl m ↦ inr (le_trans (mul-le-mul_right (2 ^ k) (le_trans (le_of_eq (add-one q)) m)) (le_of_eq (sym e)))
          | inr m ↦ inl (le_trans (le_of_eq e) (mul-le-mul_right (2 ^ k) m))
        ]
  ]
    where
      join : (a k : ℕ) → k ≤ a → a ≡ a - k + k
      join a k l = omega arith

      none : (j k : ℕ) → j < k → k ≡ 0 → ⊥
      none j k l e = omega arith

      top : (j : ℕ) → j < k → hid f ≤ q
      top j l = elim lead [ inl z ↦ absurd (none j k l z) | inr h ↦ h ]

-- ---- the nearer of two neighbours
abbrev Chosen : ℕ → ℕ → ℕ → ℕ → Type 0
Chosen q w r u = ((q ≡ w) × (r * 2 ≤ u) × (r * 2 ≡ u → q % 2 ≡ 0)) ⊎ ((q ≡ w + 1) × (u ≤ r * 2) × (r * 2 ≡ u → q % 2 ≡ 0))

chosen : (a u : ℕ) → Chosen (closest a u) (a / u) (a % u) u
chosen a u = elim (less_or_not (a % u * 2) u) [
  | inl l ↦ inl (ap (nearest (a / u)) (compare_lt (a % u * 2) u l), le_of_lt l, λ t. absurd (unlike (a % u * 2) u l t))
  | inr g ↦ elim (eq-or-lt_of_le g) [
    | inl e ↦
        let q : closest a u ≡ a / u + a / u % 2 = ap (nearest (a / u)) (compare_eq (a % u * 2) u (sym e)) in
        tie (closest a u) (a / u) (a % u * 2) u q e
    | inr l ↦ inr (ap (nearest (a / u)) (compare_gt (a % u * 2) u l) ∙ sym (add-one (a / u)), le_of_lt l, λ t. absurd (unlike u (a % u * 2) l (sym t)))
  ]
]
  where
    unlike : (x y : ℕ) → x < y → x ≡ y → ⊥
    unlike x y l e = omega arith

    tie : (q w r u : ℕ) → q ≡ w + w % 2 → u ≡ r → ((q ≡ w) × (r ≤ u) × (r ≡ u → q % 2 ≡ 0)) ⊎ ((q ≡ w + 1) × (u ≤ r) × (r ≡ u → q % 2 ≡ 0))
    tie q w r u e g = elim (less_or_not (w % 2) 1) [ inl l ↦ inl (omega arith, omega arith, λ t. omega arith) | inr l ↦ inr (omega arith, omega arith, λ t. omega arith) ]

-- how far a number lies from another
abbrev gap : ℕ → ℕ → ℕ
gap a x = (a - x) + (x - a)

-- a lies r above w, and r is less than u: x is no nearer than the nearer of w and w + u, and if it is as near it is one of them
module _ (a w r u x : ℕ) (is : a ≡ w + r) (l : r < u) (out : (x ≤ w) ⊎ (w + u ≤ x)) where
  module _ (h : r * 2 ≤ u) where
    near_low : gap a w ≤ gap a x
    near_low = elim out [ inl y ↦ omega arith | inr y ↦ omega arith ]

    tie_low : gap a w ≡ gap a x → (x ≡ w) ⊎ ((r * 2 ≡ u) × (x ≡ w + u))
    tie_low e = elim out [ inl y ↦ inl (omega arith) | inr y ↦ inr (omega arith, omega arith) ]

  module _ (h : u ≤ r * 2) where
    near_high : gap a (w + u) ≤ gap a x
    near_high = elim out [ inl y ↦ omega arith | inr y ↦ omega arith ]

    tie_high : gap a (w + u) ≡ gap a x → (x ≡ w + u) ⊎ ((r * 2 ≡ u) × (x ≡ w))
    tie_high e = elim out [ inl y ↦ inr (omega arith, omega arith) | inr y ↦ inl (omega arith) ]

-- ---- the theorem
even_lead : (f : Format) (k q : ℕ) → (k * hid f + q) % 2 ≡ q % 2
even_lead f k q = ap (λ (y : ℕ). (y + q) % 2) (ap (λ (y : ℕ). k * y) (half (prec f) (two f)) ∙ sym (mul_assoc k (2 ^ (prec f - 2)) 2)) ∙ off (k * 2 ^ (prec f - 2)) q
  where
    half : (p : ℕ) → 2 ≤ p → 2 ^ (p - 1) ≡ 2 ^ (p - 2) * 2
    half p h = ap (λ (y : ℕ). 2 ^ y) (one p h) ∙ pow-suc 2 (p - 2)
      where
        one : (p : ℕ) → 2 ≤ p → p - 1 ≡ suc (p - 2)
        one p h = omega arith

    off : (y q : ℕ) → (y * 2 + q) % 2 ≡ q % 2
    off y q = omega arith

module _ (f : Format) (n d : ℕ) (D : 0 < d) (small : n < 2 ^ 64) where
  k : ℕ
  k = dropped f n d

  q : ℕ
  q = keeps f n d

  w : ℕ
  w = floor f n d

  u : ℕ
  u = step f n d

  a : ℕ
  a = n * 2 ^ low f

  r : ℕ
  unfolding a u
  r = a % u

  bits : bits_of f n d ≡ k * hid f + q
  unfolding k q
  bits = bits_are f n d (in_range f n d D small)

  on_grid : (x : ℕ) → x * 2 ^ k * d ≡ x * u
  unfolding k u
  on_grid x = mul_assoc x (2 ^ dropped f n d) d ∙ ap (λ (y : ℕ). x * y) (mul_comm (2 ^ dropped f n d) d)

  value : value_of f (bits_of f n d) * d ≡ q * u
  unfolding k q
  value = ap (λ (y : ℕ). value_of f y * d) bits ∙ ap (λ (y : ℕ). y * d) (value_grid f q k (leads f n d) (keeps_most f n d)) ∙ on_grid q

  is : a ≡ w * u + r
  unfolding a w u r
  is = sym (div-add-mod' (n * 2 ^ low f) (step f n d))

  below : r < u
  unfolding r a u
  below = mod-lt (n * 2 ^ low f) (mul-pos D (pow_pos (dropped f n d)))

  out : (c : ℕ) → (value_of f c * d ≤ w * u) ⊎ (w * u + u ≤ value_of f c * d)
  unfolding k w
  out c = elim (apart f w k (floor_leads f n d) c) [
    | inl l ↦ inl (le_trans (mul-le-mul_right d l) (le_of_eq (on_grid w)))
    | inr l ↦ inr (le_trans (le_of_eq (sym (on_grid (w + 1) ∙ more w u))) (mul-le-mul_right d l))
  ]
    where
      more : (w u : ℕ) → (w + 1) * u ≡ w * u + u
      more w u = ap (λ (y : ℕ). y * u) (add-one w) ∙ suc-mul w u

  far : (c : ℕ) → distance f n d c ≡ gap a (value_of f c * d)
  unfolding distance a
  far c = refl

  mine : distance f n d (bits_of f n d) ≡ gap a (q * u)
  mine = far (bits_of f n d) ∙ ap (gap a) value

  choice : Chosen q w r u
  unfolding q w r a u
  choice = chosen (n * 2 ^ low f) (step f n d)

  high : (x : ℕ) → x ≡ w + 1 → x * u ≡ w * u + u
  high x e = ap (λ (y : ℕ). y * u) (e ∙ add-one w) ∙ suc-mul w u

  close : (c : ℕ) → distance f n d (bits_of f n d) ≤ distance f n d c
  close c =
      le_trans (le_of_eq mine)
      (le_trans
      (⊎_elim
      (λ h. le_trans (le_of_eq (ap (λ (y : ℕ). gap a (y * u)) h.0)) (near_low a (w * u) r u (value_of f c * d) is below (out c) h.1))
      (λ h. le_trans (le_of_eq (ap (gap a) (high q h.0))) (near_high a (w * u) r u (value_of f c * d) is below (out c) h.1))
      choice)
      (le_of_eq (sym (far c))))

  -- what is as near is one of the two neighbours, and the other one only at a tie
  module _ (c : ℕ) (same : distance f n d (bits_of f n d) ≡ distance f n d c) where
    level : gap a (q * u) ≡ gap a (value_of f c * d)
    level = sym mine ∙ same ∙ far c

    standing : (x : ℕ) → (k ≡ 0) ⊎ (hid f ≤ x) → x ≤ hid f * 2 → value_of f c * d ≡ x * u → c ≡ k * hid f + x
    standing x l m e = value_one f c (k * hid f + x) (eq_of_mul-eq-mul_right d D (value_of f c) (x * 2 ^ k) (e ∙ sym (on_grid x)) ∙ sym (value_grid f x k l m))

    lead_low : (k ≡ 0) ⊎ (hid f ≤ w)
    unfolding k w
    lead_low = floor_leads f n d

    lead_high : (k ≡ 0) ⊎ (hid f ≤ w + 1)
    lead_high = ⊎_elim (λ z. inl z) (λ l. inr (up (hid f) w l)) lead_low
      where
        up : (h w : ℕ) → h ≤ w → h ≤ w + 1
        up h w l = omega arith

    most_high : w + 1 ≤ hid f * 2
    unfolding w
    most_high = le_trans (le_of_eq (add-one (floor f n d))) (floor_less f n d)

    most_low : w ≤ hid f * 2
    most_low = le_trans (omega arith) most_high

    -- the same pattern, or a tie: then mine is even, and the other is not
    or_tie : (c ≡ bits_of f n d) ⊎ ((q % 2 ≡ 0) × (c % 2 ≡ 1))
    or_tie =
        ⊎_elim
        (λ h. ⊎_elim
        (λ x. inl (standing w lead_low most_low x ∙ ap (λ (y : ℕ). k * hid f + y) (sym h.0) ∙ sym bits))
        (λ t. inr (h.2 t.0, ap (λ (y : ℕ). y % 2) (standing (w + 1) lead_high most_high (t.1 ∙ sym (high (w + 1) refl))) ∙ even_lead f k (w + 1) ∙ after q w h.0 (h.2 t.0)))
        (tie_low a (w * u) r u (value_of f c * d) is below (out c) h.1 (sym (ap (λ (y : ℕ). gap a (y * u)) h.0) ∙ level)))
        (λ h. ⊎_elim
        (λ x. inl (standing (w + 1) lead_high most_high (x ∙ sym (high (w + 1) refl)) ∙ ap (λ (y : ℕ). k * hid f + y) (sym h.0) ∙ sym bits))
        (λ t. inr (h.2 t.0, ap (λ (y : ℕ). y % 2) (standing w lead_low most_low t.1) ∙ even_lead f k w ∙ ahead q w h.0 (h.2 t.0)))
        (tie_high a (w * u) r u (value_of f c * d) is below (out c) h.1 (sym (ap (gap a) (high q h.0)) ∙ level)))
        choice
      where
        after : (q w : ℕ) → q ≡ w → q % 2 ≡ 0 → (w + 1) % 2 ≡ 1
        after q w e g = omega arith

        ahead : (q w : ℕ) → q ≡ w + 1 → q % 2 ≡ 0 → w % 2 ≡ 1
        ahead q w e g = omega arith

  bounded : bits_of f n d < infinite f
  unfolding k q
  bounded =
      lt_of_le_of_lt (le_trans (le_of_eq bits) (room k q (hid f) (keeps_most f n d)))
      (mul-lt-mul_of_pos_right (far_off (prec f) k (emax f) (wide f) (two f) (dropped_few f n d D small)) (pow_pos (prec f - 1)))
    where
      room : (k q h : ℕ) → q ≤ h * 2 → k * h + q ≤ (k + 2) * h
      room k q h l = le_trans (omega arith) (le_of_eq (sym (add-mul k 2 h)))

      far_off : (p k e : ℕ) → 64 ≤ e → 2 ≤ p → p + k ≤ 64 + (e + p - 2) → k + 2 < 2 * e + 1
      far_off p k e a b c = omega arith

  pub bits_nearest : Nearest f n d (bits_of f n d)
  bits_nearest = record {
    finite = bounded;
    close = λ c l. close c;
    even = λ c l e. ⊎_elim (λ x. inl x) (λ t. inr (ap (λ (y : ℕ). y % 2) bits ∙ even_lead f k q ∙ t.0)) (or_tie c e);
  }

  pub only_bits : (b : ℕ) → Nearest f n d b → b ≡ bits_of f n d
  only_bits b x =
      let e : distance f n d (bits_of f n d) ≡ distance f n d b = le_antisymm (close b) (x.close (bits_of f n d) bounded) in
      ⊎_elim (λ y. y)
      (λ t. ⊎_elim (λ y. sym y) (λ z. absurd (odd_even (b % 2) z t.1)) (x.even (bits_of f n d) bounded (sym e)))
      (or_tie b e)
    where
      odd_even : (y : ℕ) → y ≡ 0 → y ≡ 1 → ⊥
      odd_even y a b = omega arith

  -- there is one nearest float, and only one
  pub one_nearest : {b c : ℕ} → Nearest f n d b → Nearest f n d c → b ≡ c
  one_nearest {b} {c} x y = only_bits b x ∙ sym (only_bits c y)
