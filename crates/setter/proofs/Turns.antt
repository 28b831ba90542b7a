-- What each function does to the stack.
use mathlib.Core.Path.{◌≡◌, refl, sym, ap, ◌∙◌, subst}
use mathlib.Core.List.{List, [], ◌∷◌, ◌++◌, append_assoc, append-nil}
use mathlib.Core.Bool.{Bool, true, false, not, cond}
use mathlib.Core.Logic.{◌⊎◌, inl, inr}
use Prim.Native.Nat.{ℕ, zero, suc, ◌+◌, ◌-◌, ◌*◌, ◌≤◌, ◌<◌}
use lib.Dec.{eqb, ltb, le→leb}
use lib.ListN.{length, get_or, set, length-set}
use Rattle.std.proofs.Common.{min}
use lib.Seq.{get_or-set_same, get_or-set_other, slice}
use native.Mathlib.Omega.{arith}
use borrow.Author.Tests.{ne_eqb}
use Rattle.rows.specs.Kinds as kinds
use Rattle.grammar.specs.Grammar.{one_of}
use Rattle.grammar.specs.Rows.{Row}
use Rattle.grammar.proofs.Bools.{T→eq}
use Rattle.canon.specs.Trees.{Label, Forest, none, tree, label, copied}
use Rattle.canon.specs.Layout as canon
use Rattle.canon.specs.Text.{Bit, copy, signs, paired, inner, fill, tokens}
use Rattle.canon.specs.Events.{opening, closing}
use Rattle.forests.specs.Told.{trees, count}
use Rattle.sink.specs.declared.Sink.{Sink}
use Rattle.sink.specs.Told.{Told, empty, state, tell, telling, said}
use Rattle.sink.proofs.Feeds.{telling_append}
use Rattle.places.specs.Under.{under}
use Rattle.layouts.specs.Phases.{before, next, behind, one, going}
use Rattle.layouts.specs.Packed.{place_in}
use Rattle.layouts.proofs.Phased.{phased}
use Rattle.setter.specs.Waiting.{row_at, Over, Sits, Planted, back, Backs, Waits, Held, load, Kept, Rooted, PlacedUnder, Opened, ClosedBy, text_at, Turned}
use Rattle.setter.proofs.Stack.{trees_few, sits_backs, sits_back, back_more, backs_first, backs_room, held_kept, held_below, held_on, held_load, Top, top_of, kept_all, kept_set, kept_on}

-- ---- the roots of the children

abbrev pub Pushing : List ℕ → List ℕ → ℕ → ℕ → ℕ → List ℕ → ℕ → ℕ → Type 0
Pushing t p₀ m c n p i k = Kept p₀ p m × Rooted t c i p m × (k ≡ back t c i) × ((j : ℕ) × (i + j ≡ n) × Backs t k j)

pub pushes_start : (t p : List ℕ) (m c n : ℕ) → Backs t c n → Pushing t p m c n p 0 c
unfolding back
pushes_start t p m c n b = (kept_all p m, λ q h. absurd (omega arith), refl, (n, omega arith, b))

pub pushes_room : (t p₀ : List ℕ) (m c n : ℕ) (p : List ℕ) (i k : ℕ) → Pushing t p₀ m c n p i k → i < n → (1 ≤ k) × (k * 7 ≤ length t) × ((row_at t (k - 1)).size ≤ k) × (length p ≡ length p₀)
pushes_room t p₀ m c n p i k (a, b, e, (zero, h, d)) l = absurd (omega arith)
pushes_room t p₀ m c n p i k (a, b, e, (suc j, h, d)) l = let x = backs_first t k j d in (x.0, x.1, x.2, a.long)

upto : (q i : ℕ) → q < i + 1 → (q < i) ⊎ (q ≡ i)
upto zero zero h = inr refl
upto zero (suc i) h = inl (omega arith)
upto (suc q) zero h = absurd (omega arith)
upto (suc q) (suc i) h = go (upto q i (omega arith))
  where
    go : (q < i) ⊎ (q ≡ i) → (suc q < suc i) ⊎ (suc q ≡ suc i)
    go (inl l) = inl (omega arith)
    go (inr e) = inr (ap suc e)

pub pushes_more : (t p₀ : List ℕ) (m c n : ℕ) (p : List ℕ) (i k : ℕ) → Pushing t p₀ m c n p i k → i < n → (m + n) * 2 ≤ length p₀ → Pushing t p₀ m c n (set p ((m + i) * 2) k) (i + 1) (k - (row_at t (k - 1)).size)
pushes_more t p₀ m c n p i k (a, b, e, (zero, h, d)) l r = absurd (omega arith)
pushes_more t p₀ m c n p i k (a, b, e, (suc j, h, d)) l r = (
  kept_set p₀ p m ((m + i) * 2) k a (omega arith),
  (λ q u. go q (upto q i u)),
  ap (λ (x : ℕ). x - (row_at t (x - 1)).size) e ∙ sym (back_more t c i),
  (j, omega arith, (backs_first t k j d).3),
)
  where
    long : length p ≡ length p₀
    long = a.long

    go : (q : ℕ) → (q < i) ⊎ (q ≡ i) → get_or (set p ((m + i) * 2) k) ((m + q) * 2) 0 ≡ back t c q
    go q (inr g) = ap (λ (x : ℕ). get_or (set p ((m + i) * 2) k) ((m + x) * 2) 0) g ∙ get_or-set_same p ((m + i) * 2) k 0 (omega (arith, long)) ∙ e ∙ ap (back t c) (sym g)
    go q (inl g) = get_or-set_other p ((m + i) * 2) ((m + q) * 2) k 0 (λ (x : (m + q) * 2 ≡ (m + i) * 2). absurd (omega (arith, g, x))) ∙ b q g

-- the same with the row as it was read
pub pushes_row : (t p₀ : List ℕ) (m c n : ℕ) (p : List ℕ) (i k : ℕ) (r : Row) → r ≡ row_at t (k - 1) → Pushing t p₀ m c n p i k → i < n → (m + n) * 2 ≤ length p₀ → Pushing t p₀ m c n (set p ((m + i) * 2) k) (i + 1) (k - r.size)
pushes_row t p₀ m c n p i k r e g l h = subst (λ (w : Row). Pushing t p₀ m c n (set p ((m + i) * 2) k) (i + 1) (k - w.size)) (sym e) (pushes_more t p₀ m c n p i k g l h)

pub pushes_end : (t p₀ : List ℕ) (m c n : ℕ) (p : List ℕ) (i k : ℕ) → Pushing t p₀ m c n p i k → n ≤ i → Kept p₀ p m × Rooted t c n p m
pushes_end t p₀ m c n p i k (a, b, e, d) l = (a, λ q u. b q (omega arith))

-- ---- their places

pub record Far (s t : List ℕ) (m j n : ℕ) (c : canon.Place) (kids : Forest) (p : List ℕ) (z l : ℕ) : Type 0 where
  pub f : Forest
  pub at : ℕ
  pub bits : List Bit
  pub w : ℕ
  pub sits : Sits s t f at
  pub ends : at + count f ≡ j
  pub left : trees f ≡ l
  pub held : Held s t p (m + l) (n - l) bits w
  pub weighs : w + 2 * count f ≡ 2 * count kids
  pub goes : bits ++ going c (label s (row_at t j)) z f ≡ going c (label s (row_at t j)) 0 kids

abbrev pub Placing : List ℕ → List ℕ → ℕ → ℕ → ℕ → canon.Place → List ℕ → ℕ → ℕ → Type 0
Placing t p₀ m j n c p z l = Kept p₀ p m × Rooted t j n p m × (l ≤ n) × ((s : List ℕ) (kids : Forest) (i : ℕ) → Sits s t kids i → i + count kids ≡ j → trees kids ≡ n → Far s t m j n c kids p z l)

pub places_start : (t p : List ℕ) (m j n : ℕ) (c : canon.Place) → Rooted t j n p m → Placing t p m j n c p 0 n
unfolding Held
places_start t p m j n c r =
    (kept_all p m, r, omega arith, λ s kids i h e k. record { f = kids; at = i; bits = []; w = 0; sits = h; ends = e; left = k; held = subst (λ (x : ℕ). Held s t p (m + n) x [] 0) {x = 0} {y = n - n} (omega arith) (refl, refl); weighs = omega arith; goes = refl })

pub places_room : (t p₀ : List ℕ) (m j n : ℕ) (c : canon.Place) (p : List ℕ) (z l q : ℕ) → Placing t p₀ m j n c p z l → Backs t j n → q < l → (1 ≤ get_or p ((m + q) * 2) 0) × (get_or p ((m + q) * 2) 0 * 7 ≤ length t) × (length p ≡ length p₀)
places_room t p₀ m j n c p z l q (a, b, d, g) k h =
    let x = backs_room t j n q k (omega arith) in
    let e = b q (omega arith) in
    let x0 = x.0 in
    let x1 = x.1 in
    (omega (arith, e, x0), omega (arith, e, x1), a.long)

some_more : (ts : Forest) → ltb 0 (trees ts) ≡ not (canon.empty ts)
unfolding trees
some_more none = refl
some_more (tree a kids ts) = T→eq _ (le→leb 1 (suc (trees ts)) (omega arith))

module _ (s t : List ℕ) (m j n : ℕ) (c : canon.Place) (kids : Forest) (p : List ℕ) (z l q x child : ℕ) where
  abbrev K0 : ℕ
  K0 = get_or t (j * 7) 0

  abbrev V0 : ℕ
  V0 = get_or t (j * 7 + 4) 0

  abbrev D0 : ℕ
  D0 = get_or t (j * 7 + 5) 0

  far_at : (f : Forest) (at : ℕ) (bits : List Bit) (w : ℕ) → Sits s t f at → at + count f ≡ j → trees f ≡ l → Held s t p (m + l) (n - l) bits w → w + 2 * count f ≡ 2 * count kids → bits ++ going c (label s (row_at t j)) z f ≡ going c (label s (row_at t j)) 0 kids → l ≡ suc q → l ≤ n → (m + n) * 2 ≤ length p → Rooted t j n p m → child ≡ get_or t ((get_or p ((m + q) * 2) 0 - 1) * 7) 0 → place_in x ≡ under K0 V0 D0 c z child (ltb 0 q) → said x ≡ signs (before K0 V0 D0 z child) → Far s t m j n c kids (set p ((m + q) * 2 + 1) x) (next K0 V0 z child) q
  unfolding Sits trees count going back Waits
  far_at none at bits w h e k d y g lq ln long roots ch px sx = absurd (omega (arith, k, lq))
  far_at (tree b kb ts) at bits w (hk, lb, o, ht) e k d y g lq ln long roots ch px sx =
      let r = at + count kb in
      let p' = set p ((m + q) * 2 + 1) x in
      let behind_it = sits_back s t ts (at + suc (count kb)) 0 ht in
      let e1 : j ≡ at + suc (count kb) + count ts = sym e ∙ omega arith in
      let q1 : q ≡ trees ts + 0 = omega (arith, k, lq) in
      let root : get_or p ((m + q) * 2) 0 ≡ at + suc (count kb) = roots q (omega (arith, lq, ln)) ∙ (λ i. back t (e1 i) (q1 i)) ∙ behind_it in
      let root1 : get_or p ((m + q) * 2) 0 - 1 ≡ r = omega (arith, root) in
      let kind : child ≡ b.kind = ch ∙ ap (λ (a : ℕ). get_or t (a * 7) 0) root1 ∙ ap (λ (a : Label). a.kind) lb in
      let more : ltb 0 q ≡ not (canon.empty ts) = ap (λ (a : ℕ). ltb 0 a) {x = q} {y = trees ts} (omega (arith, k, lq)) ∙ some_more ts in
      let place : place_in x ≡ under K0 V0 D0 c z b.kind (not (canon.empty ts)) = px ∙ (λ i. under K0 V0 D0 c z (kind i) (more i)) in
      let words : said x ≡ signs (before K0 V0 D0 z b.kind) = sx ∙ ap (λ (a : ℕ). signs (before K0 V0 D0 z a)) kind in
      let bs = said x ++ one (place_in x) (label s (row_at t r)) kb in
      let number : get_or p' ((m + q) * 2) 0 ≡ suc r = get_or-set_other p ((m + q) * 2 + 1) ((m + q) * 2) x 0 (λ (u : (m + q) * 2 ≡ (m + q) * 2 + 1). absurd (omega (arith, u))) ∙ root ∙ omega arith in
      let what : get_or p' ((m + q) * 2 + 1) 0 ≡ x = get_or-set_same p ((m + q) * 2 + 1) x 0 (omega (arith, long, lq, ln)) in
      let waits0 : Waits s t (suc r) x bs (2 * suc (count kb)) = (kb, at, hk, refl, o, refl, refl) in
      let waits : Waits s t (get_or p' ((m + q) * 2) 0) (get_or p' ((m + q) * 2 + 1) 0) bs (2 * suc (count kb)) = subst (λ (u : ℕ). Waits s t u (get_or p' ((m + q) * 2 + 1) 0) bs (2 * suc (count kb))) (sym number) (subst (λ (u : ℕ). Waits s t (suc r) u bs (2 * suc (count kb))) (sym what) waits0) in
      let above : Held s t p (m + q + 1) (n - l) bits w = subst (λ (u : ℕ). Held s t p u (n - l) bits w) {x = m + l} {y = m + q + 1} (omega (arith, lq)) d in
      let above' = held_kept s t p p' (m + q + 1) (n - l) bits w (λ i a b. get_or-set_other p ((m + q) * 2 + 1) i x 0 (λ (u : i ≡ (m + q) * 2 + 1). absurd (omega (arith, a, u)))) above in
      let all = held_below s t p' (m + q) (n - l) bits bs w (2 * suc (count kb)) above' waits in
      let goes' : (bits ++ bs) ++ going c (label s (row_at t j)) (next K0 V0 z child) ts ≡ going c (label s (row_at t j)) 0 kids
      = append_assoc bits bs (going c (label s (row_at t j)) (next K0 V0 z child) ts)
      ∙ ap (λ (u : List Bit). bits ++ u) ((λ i. (words i ++ one (place i) (lb i) kb) ++ going c (label s (row_at t j)) (next K0 V0 z (kind i)) ts) ∙ append_assoc (signs (before K0 V0 D0 z b.kind)) (one (under K0 V0 D0 c z b.kind (not (canon.empty ts))) b kb) (going c (label s (row_at t j)) (next K0 V0 z b.kind) ts))
      ∙ g in
      record { f = ts; at = at + suc (count kb); bits = bits ++ bs; w = w + 2 * suc (count kb); sits = ht; ends = sym e1; left = omega (arith, k, lq); held = subst (λ (u : ℕ). Held s t p' (m + q) u (bits ++ bs) (w + 2 * suc (count kb))) {x = n - l + 1} {y = n - q} (omega (arith, lq, ln)) all; weighs = omega (arith, y); goes = goes' }

  far_more : Far s t m j n c kids p z l → l ≡ suc q → l ≤ n → (m + n) * 2 ≤ length p → Rooted t j n p m → child ≡ get_or t ((get_or p ((m + q) * 2) 0 - 1) * 7) 0 → place_in x ≡ under K0 V0 D0 c z child (ltb 0 q) → said x ≡ signs (before K0 V0 D0 z child) → Far s t m j n c kids (set p ((m + q) * 2 + 1) x) (next K0 V0 z child) q
  far_more y lq ln long roots ch px sx = far_at y.f y.at y.bits y.w y.sits y.ends y.left y.held y.weighs y.goes lq ln long roots ch px sx

pub places_more : (t p₀ : List ℕ) (m j n : ℕ) (c : canon.Place) (p : List ℕ) (z l q x child : ℕ) → Placing t p₀ m j n c p z l → l ≡ suc q → (m + n) * 2 ≤ length p₀ → child ≡ get_or t ((get_or p ((m + q) * 2) 0 - 1) * 7) 0 → place_in x ≡ under (get_or t (j * 7) 0) (get_or t (j * 7 + 4) 0) (get_or t (j * 7 + 5) 0) c z child (ltb 0 q) → said x ≡ signs (before (get_or t (j * 7) 0) (get_or t (j * 7 + 4) 0) (get_or t (j * 7 + 5) 0) z child) → (z' : ℕ) → z' ≡ next (get_or t (j * 7) 0) (get_or t (j * 7 + 4) 0) z child → Placing t p₀ m j n c (set p ((m + q) * 2 + 1) x) z' q
places_more t p₀ m j n c p z l q x child (a, b, d, g) lq long ch px sx z' ez =
    let same = a.long in (
      kept_set p₀ p m ((m + q) * 2 + 1) x a (omega arith),
      (λ i u. get_or-set_other p ((m + q) * 2 + 1) ((m + i) * 2) x 0 (λ (e : (m + i) * 2 ≡ (m + q) * 2 + 1). absurd (omega (arith, e))) ∙ b i u),
      omega (arith, lq, d),
      λ s kids i h e k. subst (λ (y : ℕ). Far s t m j n c kids (set p ((m + q) * 2 + 1) x) y q) (sym ez) (far_more s t m j n c kids p z l q x child (g s kids i h e k) lq d (omega (arith, long, same)) b ch px sx),
    )

-- the same with the rows as they were read
pub places_row : (t p₀ : List ℕ) (m j n : ℕ) (c : canon.Place) (p : List ℕ) (z l q x : ℕ) (r b : Row) → r ≡ row_at t j → b ≡ row_at t (get_or p ((m + q) * 2) 0 - 1) → Placing t p₀ m j n c p z l → l ≡ suc q → (m + n) * 2 ≤ length p₀ → place_in x ≡ under r.kind r.value r.detail c z b.kind (ltb 0 q) → said x ≡ signs (before r.kind r.value r.detail z b.kind) → (z' : ℕ) → z' ≡ next r.kind r.value z b.kind → Placing t p₀ m j n c (set p ((m + q) * 2 + 1) x) z' q
places_row t p₀ m j n c p z l q x r b e f g lq long px sx z' ez = places_more t p₀ m j n c p z l q x b.kind g lq long (ap (λ (w : Row). w.kind) f) (px ∙ ap (λ (w : Row). under w.kind w.value w.detail c z b.kind (ltb 0 q)) e) (sx ∙ ap (λ (w : Row). signs (before w.kind w.value w.detail z b.kind)) e) z' (ez ∙ ap (λ (w : Row). next w.kind w.value z b.kind) e)

module _ (s t : List ℕ) (m j n : ℕ) (c : canon.Place) (kids : Forest) (p : List ℕ) (z l : ℕ) where
  abbrev Done : Type 0
  Done = (bs : List Bit) × Held s t p m n bs (2 * count kids) × (bs ++ signs (behind (row_at t j).kind (row_at t j).value (row_at t j).detail z c.more) ≡ going c (label s (row_at t j)) 0 kids)

  far_end : (f : Forest) (bits : List Bit) (w : ℕ) → l ≤ 0 → trees f ≡ l → Held s t p (m + l) (n - l) bits w → w + 2 * count f ≡ 2 * count kids → bits ++ going c (label s (row_at t j)) z f ≡ going c (label s (row_at t j)) 0 kids → Done
  unfolding trees count going
  far_end none bits w h k u v r =
      (bits, subst (λ (o : ℕ). Held s t p o n bits (2 * count kids)) {x = m + l} {y = m} (omega arith) (subst (λ (o : ℕ). Held s t p (m + l) o bits (2 * count kids)) {x = n - l} {y = n} (omega arith) (subst (λ (o : ℕ). Held s t p (m + l) (n - l) bits o) {x = w} {y = 2 * count kids} (omega (arith, v)) u)), r)
  far_end (tree b kb ts) bits w h k u v r = absurd (omega (arith, k))

pub places_end : (t p₀ : List ℕ) (m j n : ℕ) (c : canon.Place) (p : List ℕ) (z l : ℕ) → Placing t p₀ m j n c p z l → l ≤ 0 → Kept p₀ p m × PlacedUnder t j n c p m z
places_end t p₀ m j n c p z l (a, b, d, g) h = (a, λ s kids i x e k. let y = g s kids i x e k in far_end s t m j n c kids p z l y.f y.bits y.w h y.left y.held y.weighs y.goes)

-- ---- what is in a row

words_entry : (s t p : List ℕ) (m x : ℕ) → suc m * 2 ≤ length p → Waits s t (get_or (set (set p (m * 2) 0) (m * 2 + 1) x) (m * 2) 0) (get_or (set (set p (m * 2) 0) (m * 2 + 1) x) (m * 2 + 1) 0) (said x) 1
unfolding Waits
words_entry s t p m x h =
    let p' = set (set p (m * 2) 0) (m * 2 + 1) x in
    let long = length-set p (m * 2) 0 in
    let number : get_or p' (m * 2) 0 ≡ 0 = get_or-set_other (set p (m * 2) 0) (m * 2 + 1) (m * 2) x 0 (λ (u : m * 2 ≡ m * 2 + 1). absurd (omega (arith, u))) ∙ get_or-set_same p (m * 2) 0 0 (omega arith) in
    let what : get_or p' (m * 2 + 1) 0 ≡ x = get_or-set_same (set p (m * 2) 0) (m * 2 + 1) x 0 (omega (arith, long)) in
    let w : Waits s t 0 x (said x) 1 = (refl, refl) in
    subst (λ (u : ℕ). Waits s t u (get_or p' (m * 2 + 1) 0) (said x) 1) (sym number) (subst (λ (u : ℕ). Waits s t 0 u (said x) 1) (sym what) w)

pub kept_pushed : (p p' : List ℕ) (m r x : ℕ) → Kept p p' m → Kept p (set (set p' (m * 2) r) (m * 2 + 1) x) m
kept_pushed p p' m r x k = kept_set p (set p' (m * 2) r) m (m * 2 + 1) x (kept_set p p' m (m * 2) r k (omega arith)) (omega arith)

pub opens : (t p p₁ p₂ : List ℕ) (m j : ℕ) (c : canon.Place) (pair : Bool) (z x : ℕ) → Kept p p₁ (m + 1) → Kept p₁ p₂ (m + 1) → PlacedUnder t j (row_at t j).children (inner pair c) p₂ (m + 1) z → said x ≡ signs (behind (row_at t j).kind (row_at t j).value (row_at t j).detail z (inner pair c).more) ++ closing pair → suc m * 2 ≤ length p → Kept p (set (set p₂ (m * 2) 0) (m * 2 + 1) x) m × Opened t j c pair (set (set p₂ (m * 2) 0) (m * 2 + 1) x) m (m + 1 + (row_at t j).children)
opens t p p₁ p₂ m j c pair z x k₁ k₂ u sx long = (kept_pushed p p₂ m 0 x all, λ s kids i h e o. go s kids (u s kids i h e (sym o.children)))
  where
    all : Kept p p₂ m
    all = kept_on p p₂ p₂ m (m + 1) (record { long = k₂.long ∙ k₁.long; same = λ k l. k₂.same k (omega arith) ∙ k₁.same k (omega arith) }) (kept_all p₂ (m + 1)) (omega arith)

    p' : List ℕ
    p' = set (set p₂ (m * 2) 0) (m * 2 + 1) x

    n : ℕ
    n = (row_at t j).children

    go : (s : List ℕ) (kids : Forest) → (bs : List Bit) × Held s t p₂ (m + 1) n bs (2 * count kids) × (bs ++ signs (behind (row_at t j).kind (row_at t j).value (row_at t j).detail z (inner pair c).more) ≡ going (inner pair c) (label s (row_at t j)) 0 kids) → Held s t p' m (m + 1 + n - m) (going (inner pair c) (label s (row_at t j)) 0 kids ++ closing pair) (suc (2 * count kids)) × (m ≤ m + 1 + n)
    go s kids (bs, d, g) =
        let same = all.long in
        let w = signs (behind (row_at t j).kind (row_at t j).value (row_at t j).detail z (inner pair c).more) in
        let d' = held_kept s t p₂ p' (m + 1) n bs (2 * count kids) (λ i a b. get_or-set_other (set p₂ (m * 2) 0) (m * 2 + 1) i x 0 (λ (u : i ≡ m * 2 + 1). absurd (omega (arith, a, u))) ∙ get_or-set_other p₂ (m * 2) i 0 0 (λ (u : i ≡ m * 2). absurd (omega (arith, a, u)))) d in
        let y = held_below s t p' m n bs (said x) (2 * count kids) 1 d' (words_entry s t p₂ m x (omega (arith, same, long))) in
        let eq : bs ++ said x ≡ going (inner pair c) (label s (row_at t j)) 0 kids ++ closing pair = ap (λ (v : List Bit). bs ++ v) sx ∙ sym (append_assoc bs w (closing pair)) ∙ ap (λ (v : List Bit). v ++ closing pair) g in
        (subst (λ (v : ℕ). Held s t p' m v (going (inner pair c) (label s (row_at t j)) 0 kids ++ closing pair) (suc (2 * count kids))) {x = n + 1} {y = m + 1 + n - m} (omega arith) (subst (λ (v : ℕ). Held s t p' m (n + 1) (going (inner pair c) (label s (row_at t j)) 0 kids ++ closing pair) v) {x = 2 * count kids + 1} {y = suc (2 * count kids)} (omega arith) (subst (λ (v : List Bit). Held s t p' m (n + 1) v (2 * count kids + 1)) eq y)), omega arith)

-- ---- `)` alone

pub closes : (p : List ℕ) (m : ℕ) → suc m * 2 ≤ length p → Kept p (set (set p (m * 2) 0) (m * 2 + 1) 44) m × ClosedBy true (set (set p (m * 2) 0) (m * 2 + 1) 44) m (m + 1)
unfolding Held
closes p m h = (kept_pushed p p m 0 44 (kept_all p m), λ s t. (1, subst (λ (k : ℕ). Held s t p' m k (closing true) 1) {x = 1} {y = m + 1 - m} (omega arith) (said 44, 1, [], 0, subst (λ (k : ℕ). Waits s t (get_or p' (k * 2) 0) (get_or p' (k * 2 + 1) 0) (said 44) 1) {x = m} {y = m + 0} (omega arith) (words_entry s t p m 44 h), (refl, refl), refl, refl), omega arith, omega arith))
  where
    p' : List ℕ
    p' = set (set p (m * 2) 0) (m * 2 + 1) 44

pub closes_none : (p : List ℕ) (m : ℕ) → Kept p p m × ClosedBy false p m m
unfolding Held
closes_none p m = (kept_all p m, λ s t. (0, subst (λ (k : ℕ). Held s t p m k [] 0) {x = 0} {y = m - m} (omega arith) (refl, refl), omega arith, omega arith))

-- ---- a copied text

slice_none : (f t : ℕ) (l : List ℕ) → t ≤ f → slice f t l ≡ []
slice_none zero zero l h = refl
slice_none (suc f) zero l h = refl
slice_none zero (suc t) l h = absurd (omega arith)
slice_none (suc f) (suc t) [] h = refl
slice_none (suc f) (suc t) (x ∷ l) h = slice_none f t l (omega arith)

slice_long : (f t : ℕ) (l : List ℕ) → length l ≤ t → slice f (length l) l ≡ slice f t l
slice_long zero zero [] h = refl
slice_long zero (suc t) [] h = refl
slice_long (suc f) zero [] h = refl
slice_long (suc f) (suc t) [] h = refl
slice_long zero zero (x ∷ l) h = absurd (omega arith)
slice_long zero (suc t) (x ∷ l) h = ap (λ (z : List ℕ). x ∷ z) (slice_long zero t l (omega arith))
slice_long (suc f) zero (x ∷ l) h = absurd (omega arith)
slice_long (suc f) (suc t) (x ∷ l) h = slice_long f t l (omega arith)

-- as far as a list reaches
clipped : (f t a b : ℕ) (l : List ℕ) → (b ≡ t) ⊎ ((b ≡ length l) × (length l ≤ t)) → (a ≡ f) ⊎ ((a ≡ b) × (b ≤ f)) → slice a b l ≡ slice f t l
clipped f t a b l x y = start y ∙ stop x
  where
    start : (a ≡ f) ⊎ ((a ≡ b) × (b ≤ f)) → slice a b l ≡ slice f b l
    start (inl e) = ap (λ (n : ℕ). slice n b l) e
    start (inr (e, h)) = slice_none a b l (omega (arith, e)) ∙ sym (slice_none f b l h)

    stop : (b ≡ t) ⊎ ((b ≡ length l) × (length l ≤ t)) → slice f b l ≡ slice f t l
    stop (inl e) = ap (λ (n : ℕ). slice f n l) e
    stop (inr (e, h)) = ap (λ (n : ℕ). slice f n l) e ∙ slice_long f t l h

pub copied_so : (s : List ℕ) (r : Row) (q a b : ℕ) → q ≡ cond (eqb r.kind kinds.F_STRING) 1 0 → b ≡ min (r.end + q) (length s) → a ≡ min r.start b → slice a b s ≡ text_at s r
copied_so s r q a b h e k = clipped r.start (cond (eqb r.kind kinds.F_STRING) (r.end + 1) r.end) a b s (stop (r.end + q) (ends (eqb r.kind kinds.F_STRING) h) e (either (r.end + q) (length s))) (start k (either r.start b))
  where
    ends : (f : Bool) → q ≡ cond f 1 0 → r.end + q ≡ cond f (r.end + 1) r.end
    ends true h = omega (arith, h)
    ends false h = omega (arith, h)

    either : (n m : ℕ) → (n ≤ m) ⊎ (m ≤ n)
    either zero m = inl (omega arith)
    either (suc n) zero = inr (omega arith)
    either (suc n) (suc m) = on (either n m)
      where
        on : (n ≤ m) ⊎ (m ≤ n) → (suc n ≤ suc m) ⊎ (suc m ≤ suc n)
        on (inl h) = inl (omega arith)
        on (inr h) = inr (omega arith)

    stop : (n : ℕ) {t : ℕ} → n ≡ t → b ≡ min n (length s) → (n ≤ length s) ⊎ (length s ≤ n) → (b ≡ t) ⊎ ((b ≡ length s) × (length s ≤ t))
    stop n g e (inl l) = inl (omega (arith, g, e, l))
    stop n g e (inr l) = inr (omega (arith, e, l), omega (arith, g, l))

    start : a ≡ min r.start b → (r.start ≤ b) ⊎ (b ≤ r.start) → (a ≡ r.start) ⊎ ((a ≡ b) × (b ≤ r.start))
    start k (inl l) = inl (omega (arith, k, l))
    start k (inr l) = inr (omega (arith, k, l), l)

-- ---- a pair

abbrev marked : Row → Label
marked w = record { kind = w.kind; value = w.value; detail = w.detail; text = [] }

pub needs_at : (t : List ℕ) (number what : ℕ) (c : canon.Place) (w : Row) (r : Bool) → w ≡ row_at t (number - 1) → c ≡ place_in what → ((kids : Forest) → canon.empty kids ≡ eqb w.children 0 → r ≡ canon.needs c (marked w) kids) → (s : List ℕ) (j : ℕ) (kids : Forest) → number ≡ suc j → canon.empty kids ≡ eqb (get_or t (j * 7 + 3) 0) 0 → r ≡ canon.needs (place_in what) (label s (row_at t j)) kids
needs_at t number what c w r h e f s j kids n g =
    let q : w ≡ row_at t j = h ∙ ap (row_at t) (omega (arith, n)) in
    f kids (g ∙ ap (λ (x : Row). eqb x.children 0) (sym q)) ∙ (λ i. canon.needs (e i) (marked (q i)) kids)

-- ---- a turn

paired_so : (b : Bool) (xs : List Bit) → paired b xs ≡ opening b ++ (xs ++ closing b)
paired_so true xs = refl
paired_so false xs = sym (append-nil xs)

empty_trees : (f : Forest) → canon.empty f ≡ eqb (trees f) 0
unfolding trees
empty_trees none = refl
empty_trees (tree a kids ts) = sym (ne_eqb (suc (trees ts)) 0 (λ (e : suc (trees ts) ≡ 0). absurd (omega (arith, e))))

module _ (c : canon.Place) (a : Label) (kids : Forest) (pair : Bool) (e : pair ≡ canon.needs c a kids) where
  one_copied : one_of a.kind copied ≡ true → one c a kids ≡ opening pair ++ ((copy a.text ∷ []) ++ closing pair)
  unfolding one
  one_copied h =
      let b = canon.needs c a kids in
      let y = canon.layout (inner b c) a kids in
      ap (λ (k : Bool). paired b (cond k (copy a.text ∷ []) (fill y.slots y.last kids))) h
      ∙ paired_so b (copy a.text ∷ [])
      ∙ ap (λ (k : Bool). opening k ++ ((copy a.text ∷ []) ++ closing k)) (sym e)

  one_open : one_of a.kind copied ≡ false → one c a kids ≡ opening pair ++ (going (inner pair c) a 0 kids ++ closing pair)
  unfolding one
  one_open h =
      let b = canon.needs c a kids in
      let y = canon.layout (inner b c) a kids in
      ap (λ (k : Bool). paired b (cond k (copy a.text ∷ []) (fill y.slots y.last kids))) h
      ∙ ap (paired b) (phased (inner b c) a kids)
      ∙ paired_so b (going (inner b c) a 0 kids)
      ∙ ap (λ (k : Bool). opening k ++ (going (inner k c) a 0 kids ++ closing k)) (sym e)

told_on : (x : Told) (a o g r : List Bit) → telling (telling x (a ++ o)) (g ++ r) ≡ telling x ((a ++ (o ++ g)) ++ r)
told_on x a o g r =
    sym (telling_append x (a ++ o) (g ++ r))
    ∙ ap (telling x) (append_assoc a o (g ++ r) ∙ ap (λ (k : List Bit). a ++ k) (sym (append_assoc o g r)) ∙ sym (append_assoc a (o ++ g) r))

told_copy : (x : Told) (b : Bit) (l r : List Bit) → telling (tell x b) (l ++ r) ≡ telling x (((b ∷ []) ++ l) ++ r)
unfolding telling
told_copy x b l r = refl

module _ (s t p : List ℕ) (m : ℕ) (x x₁ : Told) (pair : Bool) (bs : List Bit) (w : ℕ) (y : Top s t p m bs w) (told : x₁ ≡ telling x (said (get_or p (m * 2 + 1) 0) ++ opening pair)) where
  abbrev what : ℕ
  what = get_or p (m * 2 + 1) 0

  abbrev j : ℕ
  j = get_or p (m * 2) 0 - 1

  abbrev lb : Label
  lb = label s (row_at t j)

  -- less waits, and it is the same print
  abbrev Less : List ℕ → ℕ → Told → Type 0
  Less p' z x' = (bs' : List Bit) × (w' : ℕ) × Held s t p' 0 z bs' w' × (w' < w) × (telling x' bs' ≡ telling x bs)

  pub turned_words : get_or p (m * 2) 0 ≡ 0 → pair ≡ false → Less p m x₁
  unfolding Waits
  turned_words e n =
      let v = subst (λ (r : ℕ). Waits s t r what y.b y.v) e y.waits in
      let some = y.some in
      let weight = y.weight in (
        y.rest,
        y.w',
        y.held,
        omega (arith, some, weight),
        ap (λ (k : Told). telling k y.rest) (told ∙ ap (λ (k : Bool). telling x (said what ++ opening k)) n ∙ ap (telling x) (append-nil (said what)))
            ∙ sym (telling_append x (said what) y.rest)
            ∙ ap (λ (k : List Bit). telling x (k ++ y.rest)) (sym v.0)
            ∙ ap (telling x) (sym y.bits),
      )

  -- the row on top
  pub record OnTop : Type 0 where
    pub kids : Forest
    pub i : ℕ
    pub sits : Sits s t kids i
    pub ends : i + count kids ≡ j
    pub over : Over t j kids
    pub bits : y.b ≡ said what ++ one (place_in what) lb kids
    pub weight : y.v ≡ 2 * suc (count kids)

  pub on_top : 1 ≤ get_or p (m * 2) 0 → OnTop
  unfolding Waits
  on_top h =
      let e : get_or p (m * 2) 0 ≡ suc j = omega arith in
      go (subst (λ (r : ℕ). Waits s t r what y.b y.v) e y.waits)
    where
      go : Waits s t (suc j) what y.b y.v → OnTop
      go (kids, i, h, e, o, q, f) = record { kids = kids; i = i; sits = h; ends = e; over = o; bits = q; weight = f }

  -- what its children need: rows back, and room in the plan
  pub top_backs : OnTop → Backs t j (row_at t j).children
  unfolding Backs
  top_backs o =
      let a = sits_backs s t o.kids o.i 0 o.sits tt in
      let e : trees o.kids + 0 ≡ (row_at t j).children = omega arith ∙ sym o.over.children in
      subst (λ (k : ℕ). Backs t j k) e (subst (λ (k : ℕ). Backs t k (trees o.kids + 0)) o.ends a)

  pub top_room : OnTop → w * 2 ≤ length p → (suc m + (row_at t j).children) * 2 ≤ length p
  top_room o l =
      let a = trees_few o.kids in
      let b = o.over.children in
      let c = o.weight in
      let d = y.weight in
      let h = y.high in
      omega (arith, a, b, c, d, h, l)

  module _ (p' : List ℕ) (z : ℕ) (o : OnTop) (pairs : canon.empty o.kids ≡ eqb (row_at t j).children 0 → pair ≡ canon.needs (place_in what) lb o.kids) (k : Kept p p' m) where
    pn : pair ≡ canon.needs (place_in what) lb o.kids
    pn = pairs (empty_trees o.kids ∙ ap (λ (n : ℕ). eqb n 0) (sym o.over.children))

    -- its tokens behind its words and `(`: g; they wait in p'
    finish : (g : List Bit) (v : ℕ) (x' : Told) (l : List Bit) → one (place_in what) lb o.kids ≡ opening pair ++ g → ((r : List Bit) → telling x' (l ++ r) ≡ telling x₁ (g ++ r)) → Held s t p' m (z - m) l v → m ≤ z → v < 2 * suc (count o.kids) → Less p' z x'
    finish g v x' l e f h le less =
        let rest = held_kept s t p p' 0 m y.rest y.w' (λ i a b. k.same i (omega arith)) y.held in
        let all = held_on s t p' m (z - m) y.rest l y.w' v rest h in
        let c = o.weight in
        let d = y.weight in (
          l ++ y.rest,
          v + y.w',
          subst (λ (n : ℕ). Held s t p' 0 n (l ++ y.rest) (v + y.w')) {x = m + (z - m)} {y = z} (omega arith) all,
          omega (arith, c, d, less),
          f y.rest
              ∙ ap (λ (u : Told). telling u (g ++ y.rest)) told
              ∙ told_on x (said what) (opening pair) g y.rest
              ∙ ap (λ (u : List Bit). telling x ((said what ++ u) ++ y.rest)) (sym e)
              ∙ ap (λ (u : List Bit). telling x (u ++ y.rest)) (sym o.bits)
              ∙ ap (telling x) (sym y.bits),
        )

    pub turned_copy : (x₂ : Told) → one_of (row_at t j).kind copied ≡ true → x₂ ≡ tell x₁ (copy (text_at s (row_at t j))) → ClosedBy pair p' m z → Less p' z x₂
    turned_copy x₂ h e cl =
        let c = cl s t in
        let le = c.2 in
        let text : lb.text ≡ text_at s (row_at t j) = ap (λ (b : Bool). cond b (text_at s (row_at t j)) []) h in
        let e' : x₂ ≡ tell x₁ (copy lb.text) = e ∙ ap (λ (u : List ℕ). tell x₁ (copy u)) (sym text) in
        finish ((copy lb.text ∷ []) ++ closing pair) c.0 x₂ (closing pair) (one_copied (place_in what) lb o.kids pair pn h) (λ r. ap (λ (u : Told). telling u (closing pair ++ r)) e' ∙ told_copy x₁ (copy lb.text) (closing pair) r) c.1 c.3 (omega (arith, le))

    pub turned_open : one_of (row_at t j).kind copied ≡ false → Opened t j (place_in what) pair p' m z → Less p' z x₁
    turned_open h op =
        let c = op s o.kids o.i o.sits o.ends o.over in
        let g = going (inner pair (place_in what)) lb 0 o.kids ++ closing pair in
        finish g (suc (2 * count o.kids)) x₁ g (one_open (place_in what) lb o.kids pair pn h) (λ r. refl) c.0 c.1 (omega arith)

-- ---- the whole

-- what is written and what waits are the print of each tree that stands so
pub record Writing (s t : List ℕ) (n : ℕ) (p₀ text₀ p text : List ℕ) (x : Sink) (top : ℕ) : Type 0 where
  pub long : length p ≡ length p₀
  pub goes : (f : Forest) → Planted s t n f → (bs : List Bit) × (w : ℕ) × Held s t p 0 top bs w × (w ≤ 2 * n) × (telling (state text x) bs ≡ telling (state text₀ empty) (tokens f))

tokens_one : (a : Label) (kids : Forest) → tokens (tree a kids none) ≡ one canon.whole a kids ++ []
unfolding fill one
tokens_one a kids = refl

pub writes_start : (s t : List ℕ) (n : ℕ) (p text : List ℕ) (x : ℕ) (z : Sink) → place_in x ≡ canon.whole → said x ≡ [] → z ≡ empty → n * 4 ≤ length p → Writing s t n p text (set (set p (0 * 2) n) (0 * 2 + 1) x) text z 1
unfolding Sits Held Waits trees count
writes_start s t n p text x z px sx ez long = record { long = length-set (set p (0 * 2) n) (0 * 2 + 1) x ∙ length-set p (0 * 2) n; goes = λ f h. go f h.sits h.single h.all }
  where
    p' : List ℕ
    p' = set (set p (0 * 2) n) (0 * 2 + 1) x

    go : (f : Forest) → Sits s t f 0 → trees f ≡ 1 → count f ≡ n → (bs : List Bit) × (w : ℕ) × Held s t p' 0 1 bs w × (w ≤ 2 * n) × (telling (state text z) bs ≡ telling (state text empty) (tokens f))
    go none h k e = absurd (omega (arith, k))
    go (tree a kids (tree b kb ts)) h k e = absurd (omega (arith, k))
    go (tree a kids none) (h, l, o, u) k e =
        let j = 0 + count kids in
        let b = said x ++ one (place_in x) (label s (row_at t j)) kids in
        let v = 2 * suc (count kids) in
        let some : 1 ≤ n = omega (arith, e) in
        let q0 : get_or p' ((0 + 0) * 2) 0 ≡ suc j = get_or-set_other (set p (0 * 2) n) (0 * 2 + 1) ((0 + 0) * 2) x 0 (λ (r : (0 + 0) * 2 ≡ 0 * 2 + 1). absurd (omega (arith, r))) ∙ get_or-set_same p (0 * 2) n 0 (omega (arith, long, some)) ∙ sym e ∙ omega arith in
        let same = length-set p (0 * 2) n in
        let q1 : get_or p' ((0 + 0) * 2 + 1) 0 ≡ x = get_or-set_same (set p (0 * 2) n) (0 * 2 + 1) x 0 (omega (arith, long, some, same)) in
        let w0 : Waits s t (suc j) x b v = (kids, 0, h, refl, o, refl, refl) in
        let w1 : Waits s t (get_or p' ((0 + 0) * 2) 0) (get_or p' ((0 + 0) * 2 + 1) 0) b v = subst (λ (r : ℕ). Waits s t r (get_or p' ((0 + 0) * 2 + 1) 0) b v) (sym q0) (subst (λ (r : ℕ). Waits s t (suc j) r b v) (sym q1) w0) in (
          b ++ [],
          v + 0,
          (b, v, [], 0, w1, (refl, refl), refl, refl),
          omega (arith, e),
          (λ i. telling (state text (ez i)) ((sx i ++ one (px i) (l i) kids) ++ [])) ∙ ap (telling (state text empty)) (sym (tokens_one a kids)),
        )

pub writes_end : (s t : List ℕ) (n : ℕ) (p₀ text₀ p text : List ℕ) (x : Sink) (top : ℕ) → Writing s t n p₀ text₀ p text x top → top ≤ 0 → (f : Forest) → Planted s t n f → state text x ≡ telling (state text₀ empty) (tokens f)
unfolding Held telling
writes_end s t n p₀ text₀ p text x zero g h f y = let (bs, w, d, u, e) = g.goes f y in ap (λ (k : List Bit). telling (state text x) k) (sym d.0) ∙ e
writes_end s t n p₀ text₀ p text x (suc top) g h f y = absurd (omega arith)

pub writes_ready : (s t : List ℕ) (n : ℕ) (p₀ text₀ p text : List ℕ) (x : Sink) (top m : ℕ) → Writing s t n p₀ text₀ p text x top → ((f : Forest) × Planted s t n f) → n * 4 ≤ length p₀ → top ≡ suc m → (bs : List Bit) × (w : ℕ) × Held s t p 0 (suc m) bs w × (w * 2 ≤ length p)
writes_ready s t n p₀ text₀ p text x top m g (f, y) h e = let l = g.long in let (bs, w, d, u, q) = g.goes f y in (bs, w, subst (λ (k : ℕ). Held s t p 0 k bs w) e d, omega (arith, u, l, h))

pub writes_more : (s t : List ℕ) (n : ℕ) (p₀ text₀ p text : List ℕ) (x : Sink) (top m : ℕ) (p' text' : List ℕ) (x' : Sink) (z' : ℕ) → Writing s t n p₀ text₀ p text x top → ((f : Forest) × Planted s t n f) → n * 4 ≤ length p₀ → top ≡ suc m → length p' ≡ length p → Turned s t p text m x p' text' x' z' → Writing s t n p₀ text₀ p' text' x' z' × (load t p' z' < load t p top)
writes_more s t n p₀ text₀ p text x top m p' text' x' z' g (f₀, y₀) h e k z = (record { long = k ∙ l; goes = λ f y. on f y (g.goes f y) }, less (g.goes f₀ y₀))
  where
    l : length p ≡ length p₀
    l = g.long

    on : (f : Forest) → Planted s t n f → ((bs : List Bit) × (w : ℕ) × Held s t p 0 top bs w × (w ≤ 2 * n) × (telling (state text x) bs ≡ telling (state text₀ empty) (tokens f))) → (bs : List Bit) × (w : ℕ) × Held s t p' 0 z' bs w × (w ≤ 2 * n) × (telling (state text' x') bs ≡ telling (state text₀ empty) (tokens f))
    on f y (bs, w, d, u, q) = let (bs', w', d', v, q') = z bs w (subst (λ (i : ℕ). Held s t p 0 i bs w) e d) (omega (arith, u, l, h)) in (bs', w', d', omega (arith, u, v), q' ∙ q)

    less : ((bs : List Bit) × (w : ℕ) × Held s t p 0 top bs w × (w ≤ 2 * n) × (telling (state text x) bs ≡ telling (state text₀ empty) (tokens f₀))) → load t p' z' < load t p top
    less (bs, w, d, u, q) =
        let (bs', w', d', v, q') = z bs w (subst (λ (i : ℕ). Held s t p 0 i bs w) e d) (omega (arith, u, l, h)) in
        let a = (held_load s t p top bs w d).0 in
        let b = (held_load s t p' z' bs' w' d').0 in
        omega (arith, a, b, v)

-- ---- as the functions have it

pub opened_so : (t p p₁ p₂ p₃ : List ℕ) (m j : ℕ) (c c' : canon.Place) (pair : Bool) (z x : ℕ) → Kept p p₁ (m + 1) → Kept p₁ p₂ (m + 1) → c' ≡ inner pair c → PlacedUnder t j (row_at t j).children c' p₂ (m + 1) z → said x ≡ signs (behind (row_at t j).kind (row_at t j).value (row_at t j).detail z c'.more) ++ closing pair → suc m * 2 ≤ length p → p₃ ≡ set (set p₂ (m * 2) 0) (m * 2 + 1) x → Kept p p₃ m × Opened t j c pair p₃ m (m + 1 + (row_at t j).children)
opened_so t p p₁ p₂ p₃ m j c c' pair z x k₁ k₂ e u sx long q =
    subst (λ (v : List ℕ). Kept p v m × Opened t j c pair v m (m + 1 + (row_at t j).children)) (sym q)
    (opens t p p₁ p₂ m j c pair z x k₁ k₂ (subst (λ (v : canon.Place). PlacedUnder t j (row_at t j).children v p₂ (m + 1) z) e u) (sx ∙ ap (λ (v : canon.Place). signs (behind (row_at t j).kind (row_at t j).value (row_at t j).detail z v.more) ++ closing pair) e) long)

-- the same with the row as it was read
pub opened_row : (t p p₁ p₂ p₃ : List ℕ) (m j : ℕ) (c c' : canon.Place) (pair : Bool) (z x : ℕ) (r : Row) → r ≡ row_at t j → Kept p p₁ (m + 1) → Kept p₁ p₂ (m + 1) → c' ≡ inner pair c → PlacedUnder t j r.children c' p₂ (m + 1) z → said x ≡ signs (behind r.kind r.value r.detail z c'.more) ++ closing pair → suc m * 2 ≤ length p → p₃ ≡ set (set p₂ (m * 2) 0) (m * 2 + 1) x → Kept p p₃ m × Opened t j c pair p₃ m (m + 1 + r.children)
opened_row t p p₁ p₂ p₃ m j c c' pair z x r e k₁ k₂ f u sx long q =
    let y = opened_so t p p₁ p₂ p₃ m j c c' pair z x k₁ k₂ f (subst (λ (w : Row). PlacedUnder t j w.children c' p₂ (m + 1) z) e u) (sx ∙ ap (λ (w : Row). signs (behind w.kind w.value w.detail z c'.more) ++ closing pair) e) long q in
    subst (λ (w : Row). Kept p p₃ m × Opened t j c pair p₃ m (m + 1 + w.children)) (sym e) y

pub record Fits (s t p : List ℕ) (m : ℕ) : Type 0 where
  pub row : get_or p (m * 2) 0 * 7 ≤ length t
  pub entry : suc m * 2 ≤ length p

pub fits_so : (s t p : List ℕ) (m : ℕ) → (bs : List Bit) × (w : ℕ) × Held s t p 0 (suc m) bs w × (w * 2 ≤ length p) → Fits s t p m
fits_so s t p m (bs, w, h, l) =
    let y = top_of s t p m bs w h in
    let a = y.high in
    let b = y.weight in
    let d = y.some in
    record { row = y.room; entry = omega (arith, a, b, d, l) }

module _ (s t p text text₁ : List ℕ) (m : ℕ) (x x₁ : Sink) (pair : Bool) (told : state text₁ x₁ ≡ telling (state text x) (said (get_or p (m * 2 + 1) 0) ++ opening pair)) where
  pub takes_words : get_or p (m * 2) 0 ≡ 0 → pair ≡ false → Turned s t p text m x p text₁ x₁ m
  takes_words e n bs w h l = turned_words s t p m (state text x) (state text₁ x₁) pair bs w (top_of s t p m bs w h) told e n

  pub open_fits : (bs : List Bit) × (w : ℕ) × Held s t p 0 (suc m) bs w × (w * 2 ≤ length p) → 1 ≤ get_or p (m * 2) 0 → Backs t (get_or p (m * 2) 0 - 1) (row_at t (get_or p (m * 2) 0 - 1)).children × ((suc m + (row_at t (get_or p (m * 2) 0 - 1)).children) * 2 ≤ length p)
  open_fits (bs, w, h, l) n =
      let y = top_of s t p m bs w h in
      let o = on_top s t p m (state text x) (state text₁ x₁) pair bs w y told n in
      (top_backs s t p m (state text x) (state text₁ x₁) pair bs w y told o, top_room s t p m (state text x) (state text₁ x₁) pair bs w y told o l)

  module _ (p' : List ℕ) (z : ℕ) (n : 1 ≤ get_or p (m * 2) 0) (pairs : (s : List ℕ) (j : ℕ) (kids : Forest) → get_or p (m * 2) 0 ≡ suc j → canon.empty kids ≡ eqb (get_or t (j * 7 + 3) 0) 0 → pair ≡ canon.needs (place_in (get_or p (m * 2 + 1) 0)) (label s (row_at t j)) kids) (k : Kept p p' m) where
    pub takes_copy : (text₂ : List ℕ) (x₂ : Sink) → one_of (row_at t (get_or p (m * 2) 0 - 1)).kind copied ≡ true → state text₂ x₂ ≡ tell (state text₁ x₁) (copy (text_at s (row_at t (get_or p (m * 2) 0 - 1)))) → ClosedBy pair p' m z → Turned s t p text m x p' text₂ x₂ z
    takes_copy text₂ x₂ c e cl bs w h l =
        let y = top_of s t p m bs w h in
        let o = on_top s t p m (state text x) (state text₁ x₁) pair bs w y told n in
        turned_copy s t p m (state text x) (state text₁ x₁) pair bs w y told p' z o (pairs s (get_or p (m * 2) 0 - 1) o.kids (omega arith)) k (state text₂ x₂) c e cl

    pub takes_open : (c : canon.Place) → one_of (row_at t (get_or p (m * 2) 0 - 1)).kind copied ≡ false → c ≡ place_in (get_or p (m * 2 + 1) 0) → Opened t (get_or p (m * 2) 0 - 1) c pair p' m z → Turned s t p text m x p' text₁ x₁ z
    takes_open c d e op bs w h l =
        let y = top_of s t p m bs w h in
        let o = on_top s t p m (state text x) (state text₁ x₁) pair bs w y told n in
        turned_open s t p m (state text x) (state text₁ x₁) pair bs w y told p' z o (pairs s (get_or p (m * 2) 0 - 1) o.kids (omega arith)) k d (subst (λ (v : canon.Place). Opened t (get_or p (m * 2) 0 - 1) v pair p' m z) e op)

pub writes_begin : (s t : List ℕ) (n : ℕ) (p p' text : List ℕ) (x : ℕ) (z : Sink) → place_in x ≡ canon.whole → said x ≡ [] → z ≡ empty → n * 4 ≤ length p → p' ≡ set (set p (0 * 2) n) (0 * 2 + 1) x → Writing s t n p' text p' text z 1
writes_begin s t n p p' text x z px sx ez long e = subst (λ (v : List ℕ). Writing s t n v text v text z 1) (sym e) (record { long = refl; goes = (writes_start s t n p text x z px sx ez long).goes })

pub some_rows : (s t : List ℕ) (n : ℕ) (f : Forest) → Planted s t n f → 1 ≤ n
some_rows s t n f y = let a = trees_few f in let b = y.single in let c = y.all in omega (arith, a, b, c)
