-- Sums, differences and products of numbers by their lowest bits, once for every width.
use Rattle.std.proofs.Common.{◌≡◌, ℕ, zero, suc, ◌+◌, ◌-◌, ◌*◌, ◌/◌, ◌%◌, ◌^◌, ◌<◌, ◌≤◌, Bool, true, false, cond, not, ◌&&◌, T, ltb, leb, ℤ, pos, negsuc, ◌+ℤ◌, ◌-ℤ◌, ◌*ℤ◌, neg_ℤ, sym, refl, ap, ◌∙◌, lt_of_le_of_lt, le_of_lt, add_assoc, mod-lt, mod-eq_of_lt, mul_assoc, mul_comm, add-mul, add_comm, mul-le-mul_left, mul-lt-mul_of_pos_right, div-add-mod', mul-add, mul_left_comm, arith, ltb→lt, nltb→le, pow_pos, w64, Fits}
use native.Mathlib.Nat.{add-mod, add_left_comm, add-mul-mod_self_right}
use lib.IntN.{sub_ℕ}
use Rattle.wholes.specs.Wholes.{lowest, standing, number, bits_of, signed_of, span}
use Rattle.wholes.specs.declared.Integer.{Integer}

-- ---- numbers that differ by a multiple of m

pub near : (m n a j k : ℕ) → n + j * m ≡ a + k * m → n % m ≡ a % m
near m n a j k e = sym (add-mul-mod_self_right n j m) ∙ ap (λ (x : ℕ). x % m) e ∙ add-mul-mod_self_right a k m

-- -(n + 1) has the lowest bits of a where a + n + 1 is a multiple of m
pub over : (m n a k : ℕ) → 0 < m → a + suc n ≡ k * m → m - suc (n % m) ≡ a % m
over m n a k M e =
    let h = mod-lt n M in
    let d = div-add-mod' n m in
    let l = add-mul (n / m) 1 m in
    sym (near m a (m - suc (n % m)) (n / m + 1) k (omega (arith, h, d, l))
    ∙ mod-eq_of_lt (omega (arith, h)))

pub neg_low : (m n a k : ℕ) → 0 < m → a + n ≡ k * m → lowest m (neg_ℤ (pos n)) ≡ a % m
unfolding lowest
neg_low m zero a k M e = near m 0 a k 0 (omega arith)
neg_low m (suc n) a k M e = over m n a k M e

-- ---- what stands for a number

pub data Reads (m : ℕ) : ℤ → ℕ → Type 0 where
  plain : {q : ℕ} → Reads m (pos q) q
  under : {n q : ℕ} → q + suc n ≡ m → Reads m (negsuc n) q

cond_reads : (b : Bool) (m p : ℕ) → (T b → p + suc (m - suc p) ≡ m) → Reads m (cond b (negsuc (m - suc p)) (pos p)) p
cond_reads true m p f = under (f tt)
cond_reads false m p f = plain

pub reads : (s : Bool) (m p : ℕ) → p < m → Reads m (standing s m p) p
unfolding standing
reads s m p h = cond_reads (s && leb m (p + p)) m p (λ t. omega (arith, h))

sub_view : (a b : ℕ) (P : ℤ → Type 0) → (a < b → P (negsuc (b - suc a))) → (b ≤ a → P (pos (a - b))) → P (sub_ℕ a b)
sub_view a b P f g = go (ltb a b) (λ t. f (ltb→lt a b t)) (λ t. g (nltb→le a b t)) where
  go : (c : Bool) → (T c → P (negsuc (b - suc a))) → (T (not c) → P (pos (a - b))) → P (cond c (negsuc (b - suc a)) (pos (a - b)))
  go true f g = f tt
  go false f g = g tt

module _ (m : ℕ) (M : 0 < m) where
  pub sums : {x y : ℤ} {a b : ℕ} → Reads m x a → Reads m y b → lowest m (x +ℤ y) ≡ (a + b) % m
  unfolding lowest
  sums plain plain = refl
  sums {a = a} {b = b} plain (under {n} e) =
      sub_view a (suc n) (λ (z : ℤ). lowest m z ≡ (a + b) % m)
      (λ h. over m (suc n - suc a) (a + b) 1 M (omega (arith, h, e)))
      (λ h. near m (a - suc n) (a + b) 1 0 (omega (arith, h, e)))
  sums {a = a} {b = b} (under {n} e) plain =
      sub_view b (suc n) (λ (z : ℤ). lowest m z ≡ (a + b) % m)
      (λ h. over m (suc n - suc b) (a + b) 1 M (omega (arith, h, e)))
      (λ h. near m (b - suc n) (a + b) 1 0 (omega (arith, h, e)))
  sums {a = a} {b = b} (under {n} e) (under {n = k} d) = over m (suc (n + k)) (a + b) 2 M (omega (arith, d, e))

  pub products : {x y : ℤ} {a b : ℕ} → Reads m x a → Reads m y b → lowest m (x *ℤ y) ≡ (a * b) % m
  unfolding lowest
  products plain plain = refl
  products {a = a} {b = b} plain (under {n} e) =
      neg_low m (a * suc n) (a * b) a M (sym (mul-add a b (suc n)) ∙ ap (λ (x : ℕ). a * x) e)
  products {a = a} {b = b} (under {n} e) plain =
      neg_low m (suc n * b) (a * b) b M (sym (add-mul a (suc n) b) ∙ ap (λ (x : ℕ). x * b) e ∙ mul_comm m b)
  products {a = a} {b = b} (under {n} e) (under {n = k} d) =
      let u : suc n * b + suc n * suc k ≡ suc n * m = sym (mul-add (suc n) b (suc k)) ∙ ap (λ (x : ℕ). suc n * x) d in
      let v : a * b + suc n * b ≡ b * m = sym (add-mul a (suc n) b) ∙ ap (λ (x : ℕ). x * b) e ∙ mul_comm m b in
      near m (suc n * suc k) (a * b) b (suc n) (omega (arith, u, v))

  -- what stands for the number with the other sign
  pub data Against : ℤ → ℕ → Type 0 where
    against : {z : ℤ} {b c : ℕ} (k : ℕ) → Reads m z c → c + b ≡ k * m → Against z b

  pub turned : {y : ℤ} {b : ℕ} → b < m → Reads m y b → Against (neg_ℤ y) b
  turned {b = zero} h plain = against {b = 0} {c = 0} 0 plain (omega arith)
  turned {b = suc b} h plain = against {b = suc b} {c = m - suc b} 1 (under {n = b} {q = m - suc b} (omega (arith, h))) (omega (arith, h))
  turned {b = b} h (under {n} e) = against {b = b} {c = suc n} 1 plain (omega (arith, e))

  pub differences : {x y : ℤ} {a b : ℕ} → b < m → Reads m x a → Reads m y b → (r j k : ℕ) → r + b + j * m ≡ a + k * m → lowest m (x -ℤ y) ≡ r % m
  differences {x = x} {a = a} {b = b} h p q r j k e = go (turned h q) where
    go : {z : ℤ} → Against z b → lowest m (x +ℤ z) ≡ r % m
    go (against {c = c} l w f) = sums p w ∙ near m (a + c) r k (j + l) (omega (arith, f, e, add-mul j l m))

-- ---- the product by halves

spread : (P x y u v : ℕ) → (x * P + y) * (u * P + v) ≡ x * u * (P * P) + ((x * v + y * u) * P + y * v)
spread P x y u v = simp (mul-add, add-mul, mul_assoc, mul_comm, mul_left_comm, add_assoc, add_comm, add_left_comm) refl

pub halves : (P a b : ℕ) → ((a / P * (b % P) % P + a % P * (b / P) % P) % P * P + a % P * (b % P)) % (P * P) ≡ a * b % (P * P)
halves P a b =
    let x = a / P in
    let y = a % P in
    let u = b / P in
    let v = b % P in
    let s = x * v + y * u in
    let e : a * b ≡ x * u * (P * P) + (s * P + y * v) =
    sym (ap (λ (z : ℕ). z * b) (div-add-mod' a P)) ∙ sym (ap (λ (z : ℕ). (x * P + y) * z) (div-add-mod' b P)) ∙ spread P x y u v in
    let f : s / P * (P * P) + s % P * P ≡ s * P =
    ap (λ (z : ℕ). z + s % P * P) (sym (mul_assoc (s / P) P P)) ∙ sym (add-mul (s / P * P) (s % P) P) ∙ ap (λ (z : ℕ). z * P) (div-add-mod' s P) in
    ap (λ (z : ℕ). (z * P + y * v) % (P * P)) (sym (add-mod (x * v) (y * u) P))
    ∙ near (P * P) (s % P * P + y * v) (a * b) (x * u + s / P) 0 (omega (arith, e, f, add-mul (x * u) (s / P) (P * P)))

pub within : {x y : ℕ} → x < 2 ^ 32 → y < 2 ^ 32 → Fits w64 (x * y)
within {x} {y} h k = record { fits = lt_of_le_of_lt (mul-le-mul_left x (le_of_lt k)) (mul-lt-mul_of_pos_right h (pow_pos 32)) }

-- ---- the types

pub some : (t : Integer) → 0 < span t
some t = pow_pos (bits_of t)

abbrev pub factor : Integer → ℕ
factor Integer.I8 = 2 ^ 56
factor Integer.I16 = 2 ^ 48
factor Integer.I32 = 2 ^ 32
factor Integer.I64 = 1
factor Integer.U8 = 2 ^ 56
factor Integer.U16 = 2 ^ 48
factor Integer.U32 = 2 ^ 32
factor Integer.U64 = 1

pub whole : (t : Integer) → factor t * span t ≡ 2 ^ 64
whole Integer.I8 = refl
whole Integer.I16 = refl
whole Integer.I32 = refl
whole Integer.I64 = refl
whole Integer.U8 = refl
whole Integer.U16 = refl
whole Integer.U32 = refl
whole Integer.U64 = refl

-- the lowest 64 bits have the lowest of the type
pub narrower : (t : Integer) (n : ℕ) → n % 2 ^ 64 % span t ≡ n % span t
narrower t n =
    near (span t) (n % 2 ^ 64) n (n / 2 ^ 64 * factor t) 0
    (omega (arith, div-add-mod' n (2 ^ 64), mul_assoc (n / 2 ^ 64) (factor t) (span t) ∙ ap (λ (z : ℕ). n / 2 ^ 64 * z) (whole t)))

pub stands : (t : Integer) (p : ℕ) → Reads (span t) (number t p) (p % span t)
unfolding number
stands t p = reads (signed_of t) (span t) (p % span t) (mod-lt p (some t))

mul_mod : (m a b : ℕ) → (a % m) * (b % m) % m ≡ a * b % m
mul_mod m a b =
    let x = a / m in
    let y = a % m in
    let u = b / m in
    let v = b % m in
    let e : a * b ≡ (x * u * m + (x * v + y * u)) * m + y * v =
    sym (ap (λ (z : ℕ). z * b) (div-add-mod' a m)) ∙ sym (ap (λ (z : ℕ). (x * m + y) * z) (div-add-mod' b m)) ∙ spread m x y u v
    ∙ simp (add-mul, mul_assoc, mul_comm, mul_left_comm, add_assoc, add_comm, add_left_comm) refl in
    near m (y * v) (a * b) (x * u * m + (x * v + y * u)) 0 (omega (arith, e))

pub summed : (t : Integer) (a b : ℕ) → (a + b) % 2 ^ 64 % span t ≡ lowest (span t) (number t a +ℤ number t b)
summed t a b = narrower t (a + b) ∙ add-mod a b (span t) ∙ sym (sums (span t) (some t) (stands t a) (stands t b))

pub multiplied : (t : Integer) (a b : ℕ) → a * b % 2 ^ 64 % span t ≡ lowest (span t) (number t a *ℤ number t b)
multiplied t a b = narrower t (a * b) ∙ sym (mul_mod (span t) a b) ∙ sym (products (span t) (some t) (stands t a) (stands t b))

-- a difference of 64 bits is the number that the right side brings back to the left one
pub subtracted : (t : Integer) (a b r : ℕ) → (r + b) % 2 ^ 64 ≡ a → r % span t ≡ lowest (span t) (number t a -ℤ number t b)
subtracted t a b r e =
    let m = span t in
    let q = (r + b) / 2 ^ 64 in
    let w : q * factor t * m ≡ q * 2 ^ 64 = mul_assoc q (factor t) m ∙ ap (λ (z : ℕ). q * z) (whole t) in
    sym (differences m (some t) (mod-lt b (some t)) (stands t a) (stands t b) r (b / m) (a / m + q * factor t)
    (omega (arith, e, w, div-add-mod' (r + b) (2 ^ 64), div-add-mod' b m, div-add-mod' a m, add-mul (a / m) (q * factor t) m)))

-- ---- signs and magnitudes

-- the lowest bits of a number with the other sign, from its own
opposed : (m p : ℕ) (M : 0 < m) {z : ℤ} → Against m M z (p % m) → lowest m z ≡ lowest m (neg_ℤ (pos p))
unfolding lowest
opposed m p M (against {c = c} k plain e) = sym (neg_low m p c (k + p / m) M (omega (arith, e, div-add-mod' p m, add-mul k (p / m) m)))
opposed m p M (against {c = c} k (under {n} d) e) =
    over m n c 1 M (omega (arith, d)) ∙ sym (neg_low m p c (k + p / m) M (omega (arith, e, div-add-mod' p m, add-mul k (p / m) m)))

pub opposite : (t : Integer) (p : ℕ) → lowest (span t) (neg_ℤ (number t p)) ≡ lowest (span t) (neg_ℤ (pos p))
opposite t p = opposed (span t) p (some t) (turned (span t) (some t) (mod-lt p (some t)) (stands t p))
