-- Words in one number, with a `)` behind them, and with a place.
use mathlib.Core.Path.{◌≡◌, refl, sym, ap, ◌∙◌}
use mathlib.Core.List.{List, [], ◌∷◌, ◌++◌, append-nil}
use mathlib.Core.Bool.{Bool, true, false, ◌&&◌, cond}
use Prim.Native.Nat.{ℕ, zero, suc, ◌+◌, ◌*◌, ◌/◌, ◌%◌, ◌<◌}
use lib.Dec.{T, eqb, leb, leb→le}
use native.Mathlib.Omega.{arith}
use Rattle.grammar.proofs.Bools.{and_l, and_r}
use Rattle.canon.specs.Layout as canon
use Rattle.canon.specs.Text.{Bit, sign, signs}
use Rattle.canon.specs.Events.{closing}
use Rattle.sink.specs.Told.{digit, said}
use Rattle.places.specs.Meant.{unless_in, unless_of}
use Rattle.layouts.specs.Packed.{packed, past_three, place_in}

-- The digits of a number.

said_of : (n a b c : ℕ) → n % 128 ≡ a → n / 128 % 128 ≡ b → n / 16384 % 128 ≡ c → said n ≡ digit a ++ (digit b ++ digit c)
said_of n a b c h i j = ap (λ (x : ℕ). digit x ++ (digit (n / 128 % 128) ++ digit (n / 16384 % 128))) h ∙ ap (λ (x : ℕ). digit a ++ (digit x ++ digit (n / 16384 % 128))) i ∙ ap (λ (x : ℕ). digit a ++ (digit b ++ digit x)) j

and_both : (a b : Bool) → T a → T b → T (a && b)
and_both true b h k = k
and_both false b h k = absurd h

-- at most so many words, each below 127
unfoldable pub within : ℕ → List ℕ → Bool
within n [] = true
within zero (w ∷ ws) = false
within (suc n) (w ∷ ws) = leb w 126 && within n ws

-- as a number, up to three words say themselves
pub says_so : (ws : List ℕ) → T (within 3 ws) → (said (packed ws 0) ≡ signs ws) × (packed ws 0 < past_three)
unfolding within packed
says_so [] h = (refl, omega arith)
says_so (a ∷ []) h = let la = leb→le a 126 (and_l (leb a 126) true h) in (said_of (a + 1 + 128 * 0) (suc a) 0 0 (omega (arith, la)) (omega (arith, la)) (omega (arith, la)), omega (arith, la))
says_so (a ∷ b ∷ []) h =
    let la = leb→le a 126 (and_l (leb a 126) (within 2 (b ∷ [])) h) in
    let lb = leb→le b 126 (and_l (leb b 126) true (and_r (leb a 126) (within 2 (b ∷ [])) h)) in
    (said_of (a + 1 + 128 * (b + 1 + 128 * 0)) (suc a) (suc b) 0 (omega (arith, la, lb)) (omega (arith, la, lb)) (omega (arith, la, lb)), omega (arith, la, lb))
says_so (a ∷ b ∷ c ∷ []) h =
    let k = and_r (leb a 126) (within 2 (b ∷ c ∷ [])) h in
    let la = leb→le a 126 (and_l (leb a 126) (within 2 (b ∷ c ∷ [])) h) in
    let lb = leb→le b 126 (and_l (leb b 126) (within 1 (c ∷ [])) k) in
    let lc = leb→le c 126 (and_l (leb c 126) true (and_r (leb b 126) (within 1 (c ∷ [])) k)) in
    (said_of (a + 1 + 128 * (b + 1 + 128 * (c + 1 + 128 * 0))) (suc a) (suc b) (suc c) (omega (arith, la, lb, lc)) (omega (arith, la, lb, lc)) (omega (arith, la, lb, lc)), omega (arith, la, lb, lc))
says_so (a ∷ b ∷ c ∷ d ∷ ws) h = absurd (and_r (leb c 126) false (and_r (leb b 126) (within 1 (c ∷ d ∷ ws)) (and_r (leb a 126) (within 2 (b ∷ c ∷ d ∷ ws)) h)))

packed_append : (ws vs : List ℕ) → packed ws (packed vs 0) ≡ packed (ws ++ vs) 0
unfolding packed
packed_append [] vs = refl
packed_append (w ∷ ws) vs = ap (λ (n : ℕ). (w + 1) + 128 * n) (packed_append ws vs)

signs_append : (ws vs : List ℕ) → signs (ws ++ vs) ≡ signs ws ++ signs vs
signs_append [] vs = refl
signs_append (w ∷ ws) vs = ap (λ (z : List Bit). sign w ∷ z) (signs_append ws vs)

within_more : (n : ℕ) (ws : List ℕ) → T (within n ws) → T (within (suc n) (ws ++ (43 ∷ [])))
unfolding within
within_more n [] h = tt
within_more zero (w ∷ ws) h = absurd h
within_more (suc n) (w ∷ ws) h = and_both (leb w 126) (within (suc n) (ws ++ (43 ∷ []))) (and_l (leb w 126) (within n ws) h) (within_more n ws (and_r (leb w 126) (within n ws) h))

within_weaker : (n : ℕ) (ws : List ℕ) → T (within n ws) → T (within (suc n) ws)
unfolding within
within_weaker n [] h = tt
within_weaker zero (w ∷ ws) h = absurd h
within_weaker (suc n) (w ∷ ws) h = and_both (leb w 126) (within (suc n) ws) (and_l (leb w 126) (within n ws) h) (within_weaker n ws (and_r (leb w 126) (within n ws) h))

-- up to two words, and a `)` behind them
pub closed_so : (ws : List ℕ) (pair : Bool) (n : ℕ) → T (within 2 ws) → n ≡ cond pair 44 0 → (said (packed ws n) ≡ signs ws ++ closing pair) × (packed ws n < past_three)
unfolding packed
closed_so ws true n h e =
    let k = says_so (ws ++ (43 ∷ [])) (within_more 2 ws h) in
    let q : packed ws n ≡ packed (ws ++ (43 ∷ [])) 0 = ap (packed ws) e ∙ packed_append ws (43 ∷ []) in
    (ap said q ∙ k.0 ∙ signs_append ws (43 ∷ []), rw q k.1)
closed_so ws false n h e =
    let k = says_so ws (within_weaker 2 ws h) in
    let q : packed ws n ≡ packed ws 0 = ap (packed ws) e in
    (ap said q ∙ k.0 ∙ sym (append-nil (signs ws)), rw q k.1)

pub said_low : (w y : ℕ) → said (w + 2097152 * y) ≡ said w
said_low w y = said_of (w + 2097152 * y) (w % 128) (w / 128 % 128) (w / 16384 % 128) (omega arith) (omega arith) (omega arith)

-- The digits of a place.

abbrev bit : Bool → ℕ
bit b = cond b 1 0

bit_small : (b : Bool) → bit b < 2
bit_small true = omega arith
bit_small false = omega arith

bit_back : (b : Bool) → eqb (bit b) 1 ≡ b
bit_back true = refl
bit_back false = refl

was : (n : ℕ) (b : Bool) → n ≡ bit b → eqb n 1 ≡ b
was n b h = ap (λ (x : ℕ). eqb x 1) h ∙ bit_back b

place_with : (c : ℕ) (n l u : ℕ) (r p m : Bool) (ws : List ℕ) → n / 2097152 ≡ c → c % 8 ≡ l → eqb (c / 8 % 2) 1 ≡ r → eqb (c / 16 % 2) 1 ≡ p → eqb (c / 32 % 2) 1 ≡ m → c / 64 % 4 ≡ u → unless_of (unless_in u) ≡ ws → place_in n ≡ record { level = l; records = r; path = p; unless = ws; more = m }
unfolding place_in
place_with c n l u r p m ws h a b d e f g =
    ap (λ (x : ℕ). at (x % 8) (eqb (x / 8 % 2) 1) (eqb (x / 16 % 2) 1) (unless_of (unless_in (x / 64 % 4))) (eqb (x / 32 % 2) 1)) h
    ∙ ap (λ (x : ℕ). at x (eqb (c / 8 % 2) 1) (eqb (c / 16 % 2) 1) (unless_of (unless_in (c / 64 % 4))) (eqb (c / 32 % 2) 1)) a
    ∙ ap (λ (x : Bool). at l x (eqb (c / 16 % 2) 1) (unless_of (unless_in (c / 64 % 4))) (eqb (c / 32 % 2) 1)) b
    ∙ ap (λ (x : Bool). at l r x (unless_of (unless_in (c / 64 % 4))) (eqb (c / 32 % 2) 1)) d
    ∙ ap (λ (x : Bool). at l r p (unless_of (unless_in (c / 64 % 4))) x) e
    ∙ ap (λ (x : ℕ). at l r p (unless_of (unless_in x)) m) f
    ∙ ap (λ (x : List ℕ). at l r p x m) g
  where
    at : ℕ → Bool → Bool → List ℕ → Bool → canon.Place
    at k x y z w = record { level = k; records = x; path = y; unless = z; more = w }

pub place_back : (w l u : ℕ) (x y z : ℕ) (r p m : Bool) (ws : List ℕ) → w < 2097152 → l < 8 → u < 4 → x ≡ cond r 1 0 → y ≡ cond p 1 0 → z ≡ cond m 1 0 → unless_of (unless_in u) ≡ ws → place_in (w + 2097152 * (l + 8 * (x + 2 * (y + 2 * (z + 2 * u))))) ≡ record { level = l; records = r; path = p; unless = ws; more = m }
place_back w l u x y z r p m ws hw hl hu hx hy hz e =
    let sx : x < 2 = rw hx (bit_small r) in
    let sy : y < 2 = rw hy (bit_small p) in
    let sz : z < 2 = rw hz (bit_small m) in
    let c = l + 8 * (x + 2 * (y + 2 * (z + 2 * u))) in
    place_with c (w + 2097152 * c) l u r p m ws
    (omega (arith, hw)) (omega (arith, hl))
    (was (c / 8 % 2) r (digit_x l x y z u hl sx ∙ hx)) (was (c / 16 % 2) p (digit_y l x y z u hl sx sy ∙ hy)) (was (c / 32 % 2) m (digit_z l x y z u hl sx sy sz ∙ hz))
    (digit_u l x y z u hl sx sy sz hu) e
  where
    digit_x : (l x y z u : ℕ) → l < 8 → x < 2 → (l + 8 * (x + 2 * (y + 2 * (z + 2 * u)))) / 8 % 2 ≡ x
    digit_x l x y z u a b = omega (arith, a, b)

    digit_y : (l x y z u : ℕ) → l < 8 → x < 2 → y < 2 → (l + 8 * (x + 2 * (y + 2 * (z + 2 * u)))) / 16 % 2 ≡ y
    digit_y l x y z u a b d = omega (arith, a, b, d)

    digit_z : (l x y z u : ℕ) → l < 8 → x < 2 → y < 2 → z < 2 → (l + 8 * (x + 2 * (y + 2 * (z + 2 * u)))) / 32 % 2 ≡ z
    digit_z l x y z u a b d e = omega (arith, a, b, d, e)

    digit_u : (l x y z u : ℕ) → l < 8 → x < 2 → y < 2 → z < 2 → u < 4 → (l + 8 * (x + 2 * (y + 2 * (z + 2 * u)))) / 64 % 4 ≡ u
    digit_u l x y z u a b d e f = omega (arith, a, b, d, e, f)
