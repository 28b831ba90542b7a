-- Trees in a table, and entries of the stack.
use mathlib.Core.Path.{◌≡◌, refl, sym, ap, ◌∙◌, subst}
use mathlib.Core.List.{List, [], ◌++◌, append_assoc, append-nil}
use Prim.Native.Nat.{ℕ, zero, suc, ◌+◌, ◌-◌, ◌*◌, ◌≤◌, ◌<◌}
use lib.ListN.{length, get_or, set, length-set}
use lib.Seq.{get_or-set_other}
use native.Mathlib.Omega.{arith}
use Rattle.canon.specs.Trees.{Forest, none, tree}
use Rattle.canon.specs.Text.{Bit}
use Rattle.forests.specs.Told.{trees, count}
use Rattle.setter.specs.Waiting.{row_at, Sits, back, Backs, Waits, Held, weigh, load, Kept}

-- ---- trees in a table

pub trees_few : (f : Forest) → trees f ≤ count f
unfolding trees count
trees_few none = omega arith
trees_few (tree a kids ts) = let h = trees_few ts in omega (arith, h)

-- from behind trees back over them
pub sits_backs : (s t : List ℕ) (f : Forest) (i m : ℕ) → Sits s t f i → Backs t i m → Backs t (i + count f) (trees f + m)
unfolding Sits Backs trees count
sits_backs s t none i m h b = subst (λ (k : ℕ). Backs t k (0 + m)) {x = i} {y = i + 0} (omega arith) (subst (λ (k : ℕ). Backs t i k) {x = m} {y = 0 + m} (omega arith) b)
sits_backs s t (tree a kids ts) i m (h, e, o, k) b =
    let j = i + suc (count kids) in
    let last : j - 1 ≡ i + count kids = omega arith in
    let size : (row_at t (j - 1)).size ≡ suc (count kids) = ap (λ (n : ℕ). (row_at t n).size) last ∙ o.size in
    let back_to : j - (row_at t (j - 1)).size ≡ i = ap (λ (n : ℕ). j - n) size ∙ omega arith in
    let room : j * 7 ≤ length t = let r = o.room in omega (arith, r) in
    let fits : (row_at t (j - 1)).size ≤ j = omega (arith, size) in
    let here : Backs t j (suc m) = (omega arith, room, fits, subst (λ (n : ℕ). Backs t n m) (sym back_to) b) in
    let all = sits_backs s t ts j (suc m) k here in
    subst (λ (n : ℕ). Backs t n (suc (trees ts) + m)) {x = j + count ts} {y = i + (suc (count kids) + count ts)} (omega arith) (subst (λ (n : ℕ). Backs t (j + count ts) n) {x = trees ts + suc m} {y = suc (trees ts) + m} (omega arith) all)

pub sits_back : (s t : List ℕ) (f : Forest) (i m : ℕ) → Sits s t f i → back t (i + count f) (trees f + m) ≡ back t i m
unfolding Sits back trees count
sits_back s t none i m h = (λ x. back t (p x) (q x))
  where
    p : i + 0 ≡ i
    p = omega arith

    q : 0 + m ≡ m
    q = omega arith
sits_back s t (tree a kids ts) i m (h, e, o, k) =
    let j = i + suc (count kids) in
    let last : j - 1 ≡ i + count kids = omega arith in
    let size : (row_at t (j - 1)).size ≡ suc (count kids) = ap (λ (n : ℕ). (row_at t n).size) last ∙ o.size in
    let back_to : j - (row_at t (j - 1)).size ≡ i = ap (λ (n : ℕ). j - n) size ∙ omega arith in
    let p : i + (suc (count kids) + count ts) ≡ j + count ts = omega arith in
    let q : suc (trees ts) + m ≡ trees ts + suc m = omega arith in
    (λ x. back t (p x) (q x)) ∙ sits_back s t ts j (suc m) k ∙ ap (λ (n : ℕ). back t n m) back_to

-- one step further back
pub back_more : (t : List ℕ) (c n : ℕ) → back t c (n + 1) ≡ back t c n - (row_at t (back t c n - 1)).size
unfolding back
back_more t c zero = refl
back_more t c (suc n) = let q : suc n + 1 ≡ suc (n + 1) = omega arith in ap (back t c) q ∙ back_more t (c - (row_at t (c - 1)).size) n

pub backs_first : (t : List ℕ) (c n : ℕ) → Backs t c (suc n) → (1 ≤ c) × (c * 7 ≤ length t) × ((row_at t (c - 1)).size ≤ c) × Backs t (c - (row_at t (c - 1)).size) n
unfolding Backs
backs_first t c n h = h

-- the row of the n-th one back, n among them
pub backs_room : (t : List ℕ) (c k n : ℕ) → Backs t c k → n < k → (1 ≤ back t c n) × (back t c n * 7 ≤ length t)
unfolding Backs back
backs_room t c zero n b h = absurd (omega arith)
backs_room t c (suc k) zero b h = (b.0, b.1)
backs_room t c (suc k) (suc n) b h = backs_room t (c - (row_at t (c - 1)).size) k n b.3 (omega arith)

-- ---- entries

-- entries stand where the plan is the same
pub held_kept : (s t p p' : List ℕ) (m n : ℕ) (bs : List Bit) (w : ℕ) → ((k : ℕ) → m * 2 ≤ k → k < (m + n) * 2 → get_or p' k 0 ≡ get_or p k 0) → Held s t p m n bs w → Held s t p' m n bs w
unfolding Held
held_kept s t p p' m zero bs w e h = h
held_kept s t p p' m (suc n) bs w e (b, v, bs', w', x, h, q, r) =
    let e0 = e ((m + n) * 2) (omega arith) (omega arith) in
    let e1 = e ((m + n) * 2 + 1) (omega arith) (omega arith) in
    (b, v, bs', w', subst (λ (k : ℕ). Waits s t (get_or p' ((m + n) * 2) 0) k b v) (sym e1) (subst (λ (k : ℕ). Waits s t k (get_or p ((m + n) * 2 + 1) 0) b v) (sym e0) x), held_kept s t p p' m n bs' w' (λ k l u. e k l (omega arith)) h, q, r)

-- one below the others
pub held_below : (s t p : List ℕ) (m n : ℕ) (bs b : List Bit) (w v : ℕ) → Held s t p (m + 1) n bs w → Waits s t (get_or p (m * 2) 0) (get_or p (m * 2 + 1) 0) b v → Held s t p m (n + 1) (bs ++ b) (w + v)
unfolding Held
held_below s t p m zero bs b w v (e, f) x =
    let q : m + 0 ≡ m = omega arith in
    (b, v, [], 0, subst (λ (k : ℕ). Waits s t (get_or p (k * 2) 0) (get_or p (k * 2 + 1) 0) b v) (sym q) x, (refl, refl), ap (λ (z : List Bit). z ++ b) e ∙ sym (append-nil b), omega (arith, f))
held_below s t p m (suc n) bs b w v (c, u, cs, y, z, h, e, f) x =
    let q : m + 1 + n ≡ m + (n + 1) = omega arith in
    let rest = held_below s t p m n cs b y v h x in
    subst (λ (k : ℕ). Held s t p m k (bs ++ b) (w + v)) {x = suc (n + 1)} {y = suc n + 1} (omega arith)
    (c, u, cs ++ b, y + v, subst (λ (k : ℕ). Waits s t (get_or p (k * 2) 0) (get_or p (k * 2 + 1) 0) c u) q z, rest, ap (λ (z : List Bit). z ++ b) e ∙ append_assoc c cs b, omega (arith, f))

-- some on top of others
pub held_on : (s t p : List ℕ) (m n : ℕ) (bs cs : List Bit) (w v : ℕ) → Held s t p 0 m bs w → Held s t p m n cs v → Held s t p 0 (m + n) (cs ++ bs) (v + w)
unfolding Held
held_on s t p m zero bs cs w v h (e, f) =
    let q : m + 0 ≡ m = omega arith in
    let y : v + w ≡ w = omega (arith, f) in
    let z : cs ++ bs ≡ bs = ap (λ (z : List Bit). z ++ bs) e in
    subst (λ (k : ℕ). Held s t p 0 k (cs ++ bs) (v + w)) (sym q) (subst (λ (k : ℕ). Held s t p 0 m (cs ++ bs) k) (sym y) (subst (λ (k : List Bit). Held s t p 0 m k w) (sym z) h))
held_on s t p m (suc n) bs cs w v h (c, u, ds, y, z, k, e, f) =
    let q : 0 + (m + n) ≡ m + n = omega arith in
    subst (λ (l : ℕ). Held s t p 0 l (cs ++ bs) (v + w)) {x = suc (m + n)} {y = m + suc n} (omega arith)
    (c, u, ds ++ bs, y + w, subst (λ (l : ℕ). Waits s t (get_or p (l * 2) 0) (get_or p (l * 2 + 1) 0) c u) (sym q) z, held_on s t p m n bs ds w y h k, ap (λ (z : List Bit). z ++ bs) e ∙ append_assoc c ds bs, omega (arith, f))

-- each entry weighs something, and as much as its row's size says
waits_weight : (s t : List ℕ) (r x : ℕ) (b : List Bit) (v : ℕ) → Waits s t r x b v → (weigh t r ≡ v) × (1 ≤ v) × (r * 7 ≤ length t)
unfolding Waits weigh
waits_weight s t zero x b v (e, f) = (sym f, omega (arith, f), omega arith)
waits_weight s t (suc j) x b v (kids, i, h, e, o, q, f) = (ap (λ (n : ℕ). 2 * n) o.size ∙ sym f, omega (arith, f), o.room)

pub held_load : (s t p : List ℕ) (n : ℕ) (bs : List Bit) (w : ℕ) → Held s t p 0 n bs w → (load t p n ≡ w) × (n ≤ w)
unfolding Held load
held_load s t p zero bs w (e, f) = (sym f, omega arith)
held_load s t p (suc n) bs w (b, v, bs', w', x, h, e, f) =
    let q : 0 + n ≡ n = omega arith in
    let a = waits_weight s t _ _ b v x in
    let r = held_load s t p n bs' w' h in
    let a1 = a.1 in
    let r1 = r.1 in
    (ap (λ (k : ℕ). weigh t (get_or p (k * 2) 0) + load t p n) (sym q) ∙ (λ i. a.0 i + r.0 i) ∙ sym f, omega (arith, f, a1, r1))

-- ---- the top entry

pub record Top (s t p : List ℕ) (m : ℕ) (bs : List Bit) (w : ℕ) : Type 0 where
  pub b : List Bit
  pub v : ℕ
  pub rest : List Bit
  pub w' : ℕ
  pub waits : Waits s t (get_or p (m * 2) 0) (get_or p (m * 2 + 1) 0) b v
  pub held : Held s t p 0 m rest w'
  pub bits : bs ≡ b ++ rest
  pub weight : w ≡ v + w'
  pub some : 1 ≤ v
  pub room : get_or p (m * 2) 0 * 7 ≤ length t
  pub high : m ≤ w'

pub top_of : (s t p : List ℕ) (m : ℕ) (bs : List Bit) (w : ℕ) → Held s t p 0 (suc m) bs w → Top s t p m bs w
unfolding Held
top_of s t p m bs w (b, v, bs', w', x, h, e, f) =
    let q : 0 + m ≡ m = omega arith in
    let y = subst (λ (k : ℕ). Waits s t (get_or p (k * 2) 0) (get_or p (k * 2 + 1) 0) b v) q x in
    let a = waits_weight s t _ _ b v y in
    record { b = b; v = v; rest = bs'; w' = w'; waits = y; held = h; bits = e; weight = f; some = a.1; room = a.2; high = (held_load s t p m bs' w' h).1 }

-- ---- what is written to a plan

pub kept_all : (p : List ℕ) (m : ℕ) → Kept p p m
kept_all p m = record { long = refl; same = λ k h. refl }

pub kept_set : (p p' : List ℕ) (m i x : ℕ) → Kept p p' m → m * 2 ≤ i → Kept p (set p' i x) m
kept_set p p' m i x k h = record { long = length-set p' i x ∙ k.long; same = λ j l. get_or-set_other p' i j x 0 (λ (e : j ≡ i). absurd (omega arith)) ∙ k.same j l }

pub kept_on : (p p' p'' : List ℕ) (m m' : ℕ) → Kept p p' m → Kept p' p'' m' → m ≤ m' → Kept p p'' m
kept_on p p' p'' m m' a b h = record { long = b.long ∙ a.long; same = λ k l. b.same k (omega arith) ∙ a.same k l }
