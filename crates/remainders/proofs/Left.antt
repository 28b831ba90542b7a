-- What a remainder of floats is in units of the format's smallest value, and that what is left of twice a divisor and then of itself is what is left of it.
use mathlib.Core.Path.{◌≡◌, refl, sym, ap, ◌∙◌, subst}
use mathlib.Core.Logic.{◌⊎◌, inl, inr}
use Prim.Native.Nat.{ℕ, zero, suc, ◌+◌, ◌-◌, ◌*◌, ◌/◌, ◌%◌, ◌^◌, ◌≤◌, ◌<◌}
use native.Mathlib.Nat.{mod-add-div, add-mul, mul-add, mul_assoc, mul_comm, mul_right_comm, mul-sub, add-mul-mod_self_left, mod-eq_of_lt, mod-eq-sub-mod, mod-lt, mod-le, mul-pos, mul-one, mul-le-mul_right, mul-lt-mul_of_pos_right, le_of_mul-le-mul_right, lt_of_mul-lt-mul_right, lt_of_le_of_lt, le_of_lt, lt_irrefl, le_of_eq, le_trans, mul-div_cancel, not-le_of_lt, zero-mul, zero-lt-suc, one-mul}
use native.Mathlib.Omega.{arith}
use mathlib.Core.Bool.{Bool, true, false, not, ◌&&◌, true≢false}
use lib.IntN.{ℤ, pos, negsuc}
use lib.Dec.{T, leb, ltb, eqb, ltb→lt, lt→ltb, leb→le, nleb→lt, nltb→le, eqb→eq}
use lib.Pow.{pow-add, pow_pos, pow-lt}
use lib.Ieee.{Float, nan, inf, fin, Format, binary64, prec, emax, low, up, down, round, sum, add, sub, neg, rem, lt, fits, of_bits}
use lib.Ieee.Fits.{up_pos, down_pos, and_l, and_r}
use lib.Ieee.Bits.{cond_no}
use lib.Ieee.Exact.{HasValue, round_exact}
use lib.Ieee.Scale.{round_same}
use lib.Ieee.Positive.{num, den, first_pos}
use Rattle.std.proofs.Common.{zero-le}
use Rattle.remainders.specs.Amounts.{amount, divisor}

-- ---- natural numbers

scale : (x y d : ℕ) → 0 < y → 0 < d → (x * d) % (y * d) ≡ x % y * d
scale x y d Y D =
    ap (λ (z : ℕ). (z * d) % (y * d)) (sym (mod-add-div x y))
    ∙ ap (λ (z : ℕ). z % (y * d)) (add-mul (x % y) (y * (x / y)) d ∙ ap (λ (z : ℕ). x % y * d + z) (mul_right_comm y (x / y) d))
    ∙ add-mul-mod_self_left (x % y * d) (y * d) (x / y)
    ∙ mod-eq_of_lt (mul-lt-mul_of_pos_right (mod-lt x Y) D)

halved : (x y : ℕ) → x % (y + y) % y ≡ x % y
halved x y =
    sym (ap (λ (z : ℕ). z % y) (sym (mod-add-div x (y + y)) ∙ ap (λ (z : ℕ). x % (y + y) + z) (add-mul y y (x / (y + y)) ∙ sym (mul-add y (x / (y + y)) (x / (y + y)))))
    ∙ add-mul-mod_self_left (x % (y + y)) y (x / (y + y) + x / (y + y)))

gone : (r y : ℕ) → y ≤ r → r < y + y → r - y < y
gone r y h k = omega arith

once : (r y : ℕ) → y ≤ r → r < y + y → r % y ≡ r - y
once r y h k = mod-eq-sub-mod h ∙ mod-eq_of_lt (gone r y h k)

either : (i j : ℕ) → (i ≤ j) ⊎ (j ≤ i)
either i j = go (leb i j) refl
  where
    go : (b : Bool) → leb i j ≡ b → (i ≤ j) ⊎ (j ≤ i)
    go true h = inl (leb→le i j (subst T (sym h) tt))
    go false h = inr (le_of_lt (nleb→lt i j (subst (λ (b : Bool). T (not b)) (sym h) tt)))

back : (a l : ℕ) → l ≤ a → a - l + l ≡ a
back a l h = omega arith

-- ---- numbers that a format counts: q * 2 ^ i with a q of so many digits
pub record Grid (p x : ℕ) : Type 0 where
  pub q : ℕ
  pub i : ℕ
  pub is : x ≡ q * 2 ^ i
  pub small : q < 2 ^ p

shifted : (n i j : ℕ) → i ≤ j → n * 2 ^ j ≡ n * 2 ^ (j - i) * 2 ^ i
shifted n i j h = ap (λ (z : ℕ). n * 2 ^ z) (sym (back j i h)) ∙ ap (λ (z : ℕ). n * z) (pow-add 2 (j - i) i) ∙ sym (mul_assoc n (2 ^ (j - i)) (2 ^ i))

grid_mod : (p x y : ℕ) → Grid p x → Grid p y → 0 < y → Grid p (x % y)
grid_mod p x y g h Y = go (either g.i h.i)
  where
    N : 0 < h.q
    N = first_pos h.q (2 ^ h.i) (subst (λ (z : ℕ). 0 < z) h.is Y)

    go : (g.i ≤ h.i) ⊎ (h.i ≤ g.i) → Grid p (x % y)
    go (inl k) = record {
      q = g.q % (h.q * 2 ^ (h.i - g.i));
      i = g.i;
      is = ap (λ (z : ℕ). z % y) g.is ∙ ap (λ (z : ℕ). g.q * 2 ^ g.i % z) (h.is ∙ shifted h.q g.i h.i k) ∙ scale g.q (h.q * 2 ^ (h.i - g.i)) (2 ^ g.i) (mul-pos N (pow_pos (h.i - g.i))) (pow_pos g.i);
      small = lt_of_le_of_lt (mod-le g.q (h.q * 2 ^ (h.i - g.i))) g.small;
    }
    go (inr k) = record {
      q = g.q * 2 ^ (g.i - h.i) % h.q;
      i = h.i;
      is = ap (λ (z : ℕ). z % y) (g.is ∙ shifted g.q h.i g.i k) ∙ ap (λ (z : ℕ). g.q * 2 ^ (g.i - h.i) * 2 ^ h.i % z) h.is ∙ scale (g.q * 2 ^ (g.i - h.i)) h.q (2 ^ h.i) N (pow_pos h.i);
      small = le_of_lt_lt (mod-lt (g.q * 2 ^ (g.i - h.i)) N) h.small;
    }
      where
        le_of_lt_lt : {a b c : ℕ} → a < b → b < c → a < c
        le_of_lt_lt {a} {b} {c} s t = omega arith

grid_twice : (p y : ℕ) → Grid p y → Grid p (y + y)
grid_twice p y g = record {
  q = g.q;
  i = g.i + 1;
  is = ap (λ (z : ℕ). z + z) g.is ∙ sym (mul-add g.q (2 ^ g.i) (2 ^ g.i)) ∙ ap (λ (z : ℕ). g.q * z) (two (2 ^ g.i) ∙ sym (pow-add 2 g.i 1));
  small = g.small;
}
  where
    two : (z : ℕ) → z + z ≡ z * 2 ^ 1
    two z = omega arith

-- ---- values in units of the format's smallest
abbrev unit : Format → ℕ
unit f = 2 ^ low f

abbrev most : Format → ℕ
most f = 2 ^ (low f + suc (emax f))

pub units : Format → Float → ℕ
units f x = num x * unit f / den x

-- a value that is a whole number of units which the format counts
pub record Amount (f : Format) (x : Float) (X : ℕ) : Type 0 where
  pub value : HasValue x false X (unit f)
  pub grid : Grid (prec f) X
  pub below : X < most f

ups : (f : Format) (e : ℤ) → down e ≤ unit f → ℕ
ups f (pos k) h = k + low f
ups f (negsuc k) h = low f - suc k

reaches : (f : Format) (k : ℕ) → 2 ^ suc k ≤ 2 ^ low f → suc k ≤ low f
reaches f k h = go (either (suc k) (low f))
  where
    go : (suc k ≤ low f) ⊎ (low f ≤ suc k) → suc k ≤ low f
    go (inl h') = h'
    go (inr h') = go' (leb (suc k) (low f)) refl
      where
        go' : (b : Bool) → leb (suc k) (low f) ≡ b → suc k ≤ low f
        go' true e = leb→le (suc k) (low f) (subst T (sym e) tt)
        go' false e = absurd (not-le_of_lt (pow-lt (nleb→lt (suc k) (low f) (subst (λ (b : Bool). T (not b)) (sym e) tt))) h)

ups_is : (f : Format) (e : ℤ) (h : down e ≤ unit f) → up e * unit f ≡ 2 ^ ups f e h * down e
unfolding ups
ups_is f (pos k) h = sym (pow-add 2 k (low f)) ∙ sym (mul-one (2 ^ (k + low f)))
ups_is f (negsuc k) h = one (2 ^ low f) ∙ ap (λ (z : ℕ). 2 ^ z) (sym (back (low f) (suc k) (reaches f k h))) ∙ pow-add 2 (low f - suc k) (suc k)
  where
    one : (z : ℕ) → 1 * z ≡ z
    one z = omega arith

grid_zero : (p : ℕ) → Grid p 0
grid_zero p = record { q = 0; i = 0; is = sym (zero-mul (2 ^ 0)); small = pow_pos p }

amount_at : (f : Format) (m : ℕ) (e : ℤ) (X : ℕ) → m * up e * unit f ≡ X * down e → Grid (prec f) X → X < most f → Amount f (fin false m e) (units f (fin false m e))
unfolding units
amount_at f m e X h g b =
    let is : m * up e * unit f / down e ≡ X = ap (λ (z : ℕ). z / down e) h ∙ mul-div_cancel X (down_pos e) in
    subst (Amount f (fin false m e)) (sym is) (record { value = (refl, h); grid = g; below = b })

pub amount_of : (f : Format) (x : Float) → T (fits f x) → T (amount x) → Amount f x (units f x)
unfolding fits
amount_of f nan t a = absurd a
amount_of f (inf s) t a = absurd a
amount_of f (fin true m e) t a = absurd a
amount_of f (fin false zero e) t a =
    amount_at f 0 e 0 (ap (λ (z : ℕ). z * unit f) (zero-mul (up e)) ∙ zero-mul (unit f) ∙ sym (zero-mul (down e))) (grid_zero (prec f)) (pow_pos (low f + suc (emax f)))
amount_of f (fin false (suc m) e) t a =
    let t1 = and_l (eqb (suc m % 2) 1 && ltb (suc m) (2 ^ prec f) && leb (down e) (2 ^ low f)) (ltb (suc m * up e) (2 ^ suc (emax f) * down e)) t in
    let top = ltb→lt (suc m * up e) (2 ^ suc (emax f) * down e) (and_r (eqb (suc m % 2) 1 && ltb (suc m) (2 ^ prec f) && leb (down e) (2 ^ low f)) (ltb (suc m * up e) (2 ^ suc (emax f) * down e)) t) in
    let fine = leb→le (down e) (2 ^ low f) (and_r (eqb (suc m % 2) 1 && ltb (suc m) (2 ^ prec f)) (leb (down e) (2 ^ low f)) t1) in
    let small = ltb→lt (suc m) (2 ^ prec f) (and_r (eqb (suc m % 2) 1) (ltb (suc m) (2 ^ prec f)) (and_l (eqb (suc m % 2) 1 && ltb (suc m) (2 ^ prec f)) (leb (down e) (2 ^ low f)) t1)) in
    let i = ups f e fine in
    let h : suc m * up e * unit f ≡ suc m * 2 ^ i * down e = mul_assoc (suc m) (up e) (unit f) ∙ ap (λ (z : ℕ). suc m * z) (ups_is f e fine) ∙ sym (mul_assoc (suc m) (2 ^ i) (down e)) in
    let wide : 2 ^ suc (emax f) * down e * unit f ≡ most f * down e =
    mul_right_comm (2 ^ suc (emax f)) (down e) (unit f) ∙ ap (λ (z : ℕ). z * down e) (mul_comm (2 ^ suc (emax f)) (unit f) ∙ sym (pow-add 2 (low f) (suc (emax f)))) in
    amount_at f (suc m) e (suc m * 2 ^ i) h (record { q = suc m; i = i; is = refl; small = small })
    (lt_of_mul-lt-mul_right (down e) (subst (λ (z : ℕ). z < most f * down e) h (subst (λ (z : ℕ). suc m * up e * unit f < z) wide (mul-lt-mul_of_pos_right top (pow_pos (low f))))))

-- ---- the operations in units
left_in : (f : Format) (m : ℕ) (e d : ℤ) (X : ℕ) → m * up e * unit f ≡ X * down e → m * up e * down d * unit f ≡ X * (down e * down d)
left_in f m e d X h = mul_right_comm (m * up e) (down d) (unit f) ∙ ap (λ (z : ℕ). z * down d) h ∙ mul_assoc X (down e) (down d)

right_in : (f : Format) (n : ℕ) (e d : ℤ) (Y : ℕ) → n * up d * unit f ≡ Y * down d → n * up d * down e * unit f ≡ Y * (down e * down d)
right_in f n e d Y h = mul_right_comm (n * up d) (down e) (unit f) ∙ ap (λ (z : ℕ). z * down e) h ∙ mul_assoc Y (down d) (down e) ∙ ap (λ (z : ℕ). Y * z) (mul_comm (down d) (down e))

sub-mul' : (a b c : ℕ) → (a - b) * c ≡ a * c - b * c
sub-mul' a b c = mul_comm (a - b) c ∙ mul-sub c a b ∙ (λ i. mul_comm c a i - mul_comm c b i)

nonzero : (n : ℕ) → 0 < n → (b : Bool) → eqb n 0 ≡ b → T (not b)
nonzero n p true q = lt_irrefl 0 (subst (λ (z : ℕ). 0 < z) (eqb→eq n 0 (subst T (sym q) tt)) p)
nonzero n p false q = tt

pub rem_is : (f : Format) (x y : Float) (X Y : ℕ) → HasValue x false X (unit f) → HasValue y false Y (unit f) → 0 < Y → rem f x y ≡ round f false (X % Y) (unit f)
unfolding rem
rem_is f nan y X Y v w p = absurd v
rem_is f (inf s) y X Y v w p = absurd v
rem_is f (fin true m e) y X Y v w p = absurd (true≢false v.0)
rem_is f (fin false m e) nan X Y v w p = absurd w
rem_is f (fin false m e) (inf t) X Y v w p = absurd w
rem_is f (fin false m e) (fin true n d) X Y v w p = absurd (true≢false w.0)
rem_is f (fin false m e) (fin false zero d) X Y v w p =
    absurd (lt_irrefl 0 (subst (λ (z : ℕ). 0 < z) (sym w.1 ∙ ap (λ (z : ℕ). z * unit f) (zero-mul (up d)) ∙ zero-mul (unit f)) (mul-pos p (down_pos d))))
rem_is f (fin false m e) (fin false (suc n) d) X Y v w p =
    let D = mul-pos (down_pos e) (down_pos d) in
    let L = pow_pos (low f) in
    let B : 0 < suc n * up d * down e = mul-pos (mul-pos (zero-lt-suc n) (up_pos d)) (down_pos e) in
    let h : m * up e * down d % (suc n * up d * down e) * unit f ≡ X % Y * (down e * down d) =
    sym (scale (m * up e * down d) (suc n * up d * down e) (unit f) B L)
    ∙ (λ i. left_in f m e d X v.1 i % right_in f (suc n) e d Y w.1 i)
    ∙ scale X Y (down e * down d) p D
    in
    cond_no (eqb (suc n) 0) nan (round f false (m * up e * down d % (suc n * up d * down e)) (down e * down d)) (nonzero (suc n) (zero-lt-suc n) (eqb (suc n) 0) refl)
    ∙ round_same f false (m * up e * down d % (suc n * up d * down e)) (down e * down d) (X % Y) (unit f) D L h

pub sub_is : (f : Format) (x y : Float) (X Y : ℕ) → HasValue x false X (unit f) → HasValue y false Y (unit f) → Y ≤ X → sub f x y ≡ round f false (X - Y) (unit f)
unfolding sub add neg sum
sub_is f nan y X Y v w p = absurd v
sub_is f (inf s) y X Y v w p = absurd v
sub_is f (fin true m e) y X Y v w p = absurd (true≢false v.0)
sub_is f (fin false m e) nan X Y v w p = absurd w
sub_is f (fin false m e) (inf t) X Y v w p = absurd w
sub_is f (fin false m e) (fin true n d) X Y v w p = absurd (true≢false w.0)
sub_is f (fin false m e) (fin false n d) X Y v w p =
    let a = m * up e * down d in
    let b = n * up d * down e in
    let D = mul-pos (down_pos e) (down_pos d) in
    let L = pow_pos (low f) in
    let l = left_in f m e d X v.1 in
    let r = right_in f n e d Y w.1 in
    let order : b ≤ a = le_of_mul-le-mul_right (le_trans (le_of_eq r) (le_trans (mul-le-mul_right (down e * down d) p) (le_of_eq (sym l)))) L in
    let h : (a - b) * unit f ≡ (X - Y) * (down e * down d) = sub-mul' a b (unit f) ∙ (λ i. l i - r i) ∙ sym (sub-mul' X Y (down e * down d)) in
    cond_no (ltb a b) (round f true (b - a) (down e * down d)) (round f false (a - b) (down e * down d)) (no (ltb a b) refl order)
    ∙ round_same f false (a - b) (down e * down d) (X - Y) (unit f) D L h
  where
    no : {a b : ℕ} (c : Bool) → ltb a b ≡ c → b ≤ a → T (not c)
    no {a} {b} true q k = not-le_of_lt (ltb→lt a b (subst T (sym q) tt)) k
    no false q k = tt

pub add_is : (f : Format) (x y : Float) (X Y : ℕ) → HasValue x false X (unit f) → HasValue y false Y (unit f) → add f x y ≡ round f false (X + Y) (unit f)
unfolding add sum
add_is f nan y X Y v w = absurd v
add_is f (inf s) y X Y v w = absurd v
add_is f (fin true m e) y X Y v w = absurd (true≢false v.0)
add_is f (fin false m e) nan X Y v w = absurd w
add_is f (fin false m e) (inf t) X Y v w = absurd w
add_is f (fin false m e) (fin true n d) X Y v w = absurd (true≢false w.0)
add_is f (fin false m e) (fin false n d) X Y v w =
    let a = m * up e * down d in
    let b = n * up d * down e in
    let h : (a + b) * unit f ≡ (X + Y) * (down e * down d) = add-mul a b (unit f) ∙ (λ i. left_in f m e d X v.1 i + right_in f n e d Y w.1 i) ∙ sym (add-mul X Y (down e * down d)) in
    round_same f false (a + b) (down e * down d) (X + Y) (unit f) (mul-pos (down_pos e) (down_pos d)) (pow_pos (low f)) h

-- ---- comparisons
pub under : (f : Format) (x y : Float) (X Y : ℕ) → HasValue x false X (unit f) → HasValue y false Y (unit f) → lt x y ≡ true → X < Y
unfolding lt
under f nan y X Y v w p = absurd v
under f (inf s) y X Y v w p = absurd v
under f (fin true m e) y X Y v w p = absurd (true≢false v.0)
under f (fin false m e) nan X Y v w p = absurd w
under f (fin false m e) (inf t) X Y v w p = absurd w
under f (fin false m e) (fin true n d) X Y v w p = absurd (true≢false w.0)
under f (fin false m e) (fin false n d) X Y v w p =
    let k = ltb→lt (m * up e * down d) (n * up d * down e) (subst T (sym p) tt) in
    lt_of_mul-lt-mul_right (down e * down d) (subst (λ (z : ℕ). z < Y * (down e * down d)) (left_in f m e d X v.1) (subst (λ (z : ℕ). m * up e * down d * unit f < z) (right_in f n e d Y w.1) (mul-lt-mul_of_pos_right k (pow_pos (low f)))))

pub over : (f : Format) (x y : Float) (X Y : ℕ) → HasValue x false X (unit f) → HasValue y false Y (unit f) → lt x y ≡ false → Y ≤ X
unfolding lt
over f nan y X Y v w p = absurd v
over f (inf s) y X Y v w p = absurd v
over f (fin true m e) y X Y v w p = absurd (true≢false v.0)
over f (fin false m e) nan X Y v w p = absurd w
over f (fin false m e) (inf t) X Y v w p = absurd w
over f (fin false m e) (fin true n d) X Y v w p = absurd (true≢false w.0)
over f (fin false m e) (fin false n d) X Y v w p =
    let k = nltb→le (m * up e * down d) (n * up d * down e) (subst (λ (b : Bool). T (not b)) (sym p) tt) in
    le_of_mul-le-mul_right (le_trans (le_of_eq (sym (right_in f n e d Y w.1))) (le_trans (mul-le-mul_right (unit f) k) (le_of_eq (left_in f m e d X v.1)))) (mul-pos (down_pos e) (down_pos d))

-- ---- exact results
pub rounded : (f : Format) (R : ℕ) → Grid (prec f) R → R < most f → Amount f (round f false R (unit f)) R
rounded f R g b = record {
  value = round_exact f false R (unit f) g.q g.i (pow_pos (low f)) g.small (subst (λ (z : ℕ). z < most f) g.is b) (ap (λ (z : ℕ). z * unit f) g.is);
  grid = g;
  below = b;
}

pub rem_amount : (f : Format) (x y : Float) (X Y : ℕ) → Amount f x X → Amount f y Y → 0 < Y → Amount f (rem f x y) (X % Y)
rem_amount f x y X Y a b p =
    subst (λ (z : Float). Amount f z (X % Y)) (sym (rem_is f x y X Y a.value b.value p)) (rounded f (X % Y) (grid_mod (prec f) X Y a.grid b.grid p) (lt_of_le_of_lt (mod-le X Y) a.below))

pub twice_amount : (f : Format) (y : Float) (Y : ℕ) → Amount f y Y → Y + Y < most f → Amount f (add f y y) (Y + Y)
twice_amount f y Y b h = subst (λ (z : Float). Amount f z (Y + Y)) (sym (add_is f y y Y Y b.value b.value)) (rounded f (Y + Y) (grid_twice (prec f) Y b.grid) h)

pub divisor_amount : (x : Float) → T (divisor x) → T (amount x)
divisor_amount nan t = t
divisor_amount (inf s) t = t
divisor_amount (fin true m e) t = t
divisor_amount (fin false m e) t = tt

pub divisor_pos : (f : Format) (y : Float) (Y : ℕ) → HasValue y false Y (unit f) → T (divisor y) → 0 < Y
divisor_pos f nan Y v t = absurd t
divisor_pos f (inf s) Y v t = absurd t
divisor_pos f (fin true n d) Y v t = absurd t
divisor_pos f (fin false n d) Y v t = first_pos Y (down d) (subst (λ (z : ℕ). 0 < z) v.1 (mul-pos (mul-pos (ltb→lt 0 n t) (up_pos d)) (pow_pos (low f))))

pub pos_divisor : (f : Format) (y : Float) (Y : ℕ) → HasValue y false Y (unit f) → 0 < Y → T (divisor y)
pos_divisor f nan Y v p = absurd v
pos_divisor f (inf s) Y v p = absurd v
pos_divisor f (fin true n d) Y v p = absurd (true≢false v.0)
pos_divisor f (fin false n d) Y v p = lt→ltb 0 n (first_pos n (up d) (first_pos (n * up d) (unit f) (subst (λ (z : ℕ). 0 < z) (sym v.1) (mul-pos p (down_pos d)))))

pub units_is : (f : Format) (x : Float) (X : ℕ) → HasValue x false X (unit f) → units f x ≡ X
unfolding units
units_is f nan X v = absurd v
units_is f (inf s) X v = absurd v
units_is f (fin s m e) X v = ap (λ (z : ℕ). z / down e) v.1 ∙ mul-div_cancel X (down_pos e)

-- ---- the steps of `rest`
pub zero_is : of_bits binary64 0 ≡ fin false 0 (pos 0)
unfolding of_bits
zero_is = refl

half : Float
half = fin false 1 (pos 1023)

half_is : of_bits binary64 9214364837600034816 ≡ fin false 1 (pos 1023)
unfolding of_bits
half_is = refl

abbrev b64 : Format
b64 = binary64

half_value : HasValue (of_bits b64 9214364837600034816) false (2 ^ 2097) (unit b64)
half_value = subst (λ (x : Float). HasValue x false (2 ^ 2097) (unit b64)) (sym half_is) (refl, one (2 ^ 1023) (2 ^ 1074) (2 ^ 2097) (sym (pow-add 2 1023 1074)))
  where
    one : (a b c : ℕ) → a * b ≡ c → 1 * a * b ≡ c * 1
    one a b c h = ap (λ (z : ℕ). z * b) (one-mul a) ∙ h ∙ sym (mul-one c)

both : (a y x m : ℕ) → a ≤ y → x < m → m ≡ a + a → x < y + y
both a y x m h k e = omega arith

double : (a y m : ℕ) → y < a → m ≡ a + a → y + y < m
double a y m h e = omega arith

most_is : most b64 ≡ 2 ^ 2097 + 2 ^ 2097
most_is = pow-add 2 2097 1 ∙ twofold (2 ^ 2097)
  where
    twofold : (z : ℕ) → z * 2 ^ 1 ≡ z + z
    twofold z = omega arith

pub smaller : (x y : Float) (X Y : ℕ) → Amount b64 x X → Amount b64 y Y → 0 < Y → lt x y ≡ true → sub b64 x (of_bits b64 0) ≡ rem b64 x y
smaller x y X Y a b p h =
    ap (λ (z : Float). sub b64 x z) zero_is
    ∙ sub_is b64 x (fin false 0 (pos 0)) X 0 a.value (refl, none) zero-le
    ∙ ap (λ (z : ℕ). round b64 false z (unit b64)) (all X ∙ sym (mod-eq_of_lt (under b64 x y X Y a.value b.value h)))
    ∙ sym (rem_is b64 x y X Y a.value b.value p)
  where
    all : (z : ℕ) → z - 0 ≡ z
    all z = omega arith

    none : 0 * up (pos 0) * unit b64 ≡ 0 * down (pos 0)
    none = ap (λ (z : ℕ). z * unit b64) (zero-mul (up (pos 0))) ∙ zero-mul (unit b64)

pub larger : (x y : Float) (X Y : ℕ) → Amount b64 x X → Amount b64 y Y → 0 < Y → lt x y ≡ false → lt y (of_bits b64 9214364837600034816) ≡ false → sub b64 x y ≡ rem b64 x y
larger x y X Y a b p h k =
    let m = over b64 x y X Y a.value b.value h in
    sub_is b64 x y X Y a.value b.value m
    ∙ ap (λ (z : ℕ). round b64 false z (unit b64)) (sym (once X Y m (both (2 ^ 2097) Y X (most b64) (over b64 y (of_bits b64 9214364837600034816) Y (2 ^ 2097) b.value half_value k) a.below most_is)))
    ∙ sym (rem_is b64 x y X Y a.value b.value p)

pub doubled : (y : Float) (Y : ℕ) → Amount b64 y Y → lt y (of_bits b64 9214364837600034816) ≡ true → Amount b64 (add b64 y y) (Y + Y)
doubled y Y b k = twice_amount b64 y Y b (double (2 ^ 2097) Y (most b64) (under b64 y (of_bits b64 9214364837600034816) Y (2 ^ 2097) b.value half_value k) most_is)

pub pos_twice : (y : ℕ) → 0 < y → 0 < y + y
pos_twice y h = omega arith

pub ended : (x y r : Float) (X Y : ℕ) → Amount b64 x X → Amount b64 y Y → 0 < Y → lt y (of_bits b64 9214364837600034816) ≡ true → r ≡ rem b64 x (add b64 y y) → lt r y ≡ true → r ≡ rem b64 x y
ended x y r X Y a b p k e h =
    let d = doubled y Y b k in
    let q = pos_twice Y p in
    let w = subst (λ (z : Float). Amount b64 z (X % (Y + Y))) (sym e) (rem_amount b64 x (add b64 y y) X (Y + Y) a d q) in
    let l = under b64 r y (X % (Y + Y)) Y w.value b.value h in
    e ∙ rem_is b64 x (add b64 y y) X (Y + Y) a.value d.value q
    ∙ ap (λ (z : ℕ). round b64 false z (unit b64)) (sym (mod-eq_of_lt l) ∙ halved X Y)
    ∙ sym (rem_is b64 x y X Y a.value b.value p)

pub taken : (x y r : Float) (X Y : ℕ) → Amount b64 x X → Amount b64 y Y → 0 < Y → lt y (of_bits b64 9214364837600034816) ≡ true → r ≡ rem b64 x (add b64 y y) → lt r y ≡ false → sub b64 r y ≡ rem b64 x y
taken x y r X Y a b p k e h =
    let d = doubled y Y b k in
    let q = pos_twice Y p in
    let w = subst (λ (z : Float). Amount b64 z (X % (Y + Y))) (sym e) (rem_amount b64 x (add b64 y y) X (Y + Y) a d q) in
    let m = over b64 r y (X % (Y + Y)) Y w.value b.value h in
    sub_is b64 r y (X % (Y + Y)) Y w.value b.value m
    ∙ ap (λ (z : ℕ). round b64 false z (unit b64)) (sym (once (X % (Y + Y)) Y m (mod-lt X q)) ∙ halved X Y)
    ∙ sym (rem_is b64 x y X Y a.value b.value p)

pub falls : (t : ℕ) (y : Float) (Y : ℕ) → Amount b64 y Y → 0 < Y → lt y (of_bits b64 9214364837600034816) ≡ true → t ≡ 2 ^ 2098 - units b64 y → 2 ^ 2098 - units b64 (add b64 y y) < t
falls t y Y b p k e =
    let d = doubled y Y b k in
    subst (λ (z : ℕ). 2 ^ 2098 - z < t) (sym (units_is b64 (add b64 y y) (Y + Y) d.value))
    (subst (λ (z : ℕ). 2 ^ 2098 - (Y + Y) < z) (sym (e ∙ ap (λ (z : ℕ). 2 ^ 2098 - z) (units_is b64 y Y b.value)))
    (less (2 ^ 2098) Y p d.below))
  where
    less : (a y : ℕ) → 0 < y → y + y < a → a - (y + y) < a - y
    less a y h g = omega arith
