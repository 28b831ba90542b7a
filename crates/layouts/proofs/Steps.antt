-- A row's children in slots, and phase by phase: one step, and what stays the same from step to step.
use mathlib.Core.Path.{◌≡◌, ap, ◌∙◌}
use mathlib.Core.List.{List, [], ◌∷◌, ◌++◌}
use mathlib.Core.Bool.{Bool, true, false, not, cond}
use Prim.Native.Nat.{ℕ}
use Rattle.canon.specs.Trees.{Label, Forest, none, tree}
use Rattle.canon.specs.Layout.{Place, whole, empty, rest, Slot, each, joined, ◌then◌}
use Rattle.canon.specs.Text.{Bit, signs, place_of, words_of, later, fill}
use Rattle.places.specs.Under.{under}
use Rattle.layouts.specs.Phases.{before, next, behind, one, going}

-- what holds of both holds of the one that is chosen
pub chosen : {A : Type 0} (P : A → Type 0) {x y : A} (b : Bool) → P x → P y → P (cond b x y)
chosen P true h i = h
chosen P false h i = i

abbrev pub row : ℕ → ℕ → ℕ → List ℕ → Label
row k v d t = record { kind = k; value = v; detail = d; text = t }

pub step : (c : Place) (a : Label) (p : ℕ) (xs : List Slot) (last : List ℕ) (b : Label) (kids ts : Forest) → words_of xs ≡ before a.kind a.value a.detail p b.kind → place_of xs ≡ under a.kind a.value a.detail c p b.kind (not (empty ts)) → fill (later xs) last ts ≡ going c a (next a.kind a.value p b.kind) ts → fill xs last (tree b kids ts) ≡ going c a p (tree b kids ts)
unfolding fill one going
step c a p xs last b kids ts h i j =
    ap (λ (w : List ℕ). signs w ++ (one (place_of xs) b kids ++ fill (later xs) last ts)) h
    ∙ ap (λ (x : Place). signs (before a.kind a.value a.detail p b.kind) ++ (one x b kids ++ fill (later xs) last ts)) i
    ∙ ap (λ (z : List Bit). signs (before a.kind a.value a.detail p b.kind) ++ (one (under a.kind a.value a.detail c p b.kind (not (empty ts))) b kids ++ z)) j

-- what comes next, all together
pub record Seen : Type 0 where
  pub words : List ℕ
  pub place : Place
  pub phase : ℕ
  pub end : List ℕ

abbrev pub seen : List ℕ → Place → ℕ → List ℕ → Seen
seen w x q last = record { words = w; place = x; phase = q; end = last }

-- in a phase, whatever the child: these words, this place, that phase behind it; and these words behind the last
abbrev pub Steady : Place → Label → ℕ → List ℕ → Place → ℕ → List ℕ → Type 0
Steady c a p w x q last = (k : ℕ) (m : Bool) → seen w x q last ≡ seen (before a.kind a.value a.detail p k) (under a.kind a.value a.detail c p k m) (next a.kind a.value p k) (behind a.kind a.value a.detail p c.more)

pub steady : (c : Place) (a : Label) (p : ℕ) (w : List ℕ) (x : Place) (q : ℕ) (last : List ℕ) → ((k : ℕ) → w ≡ before a.kind a.value a.detail p k) → ((k : ℕ) (m : Bool) → x ≡ under a.kind a.value a.detail c p k m) → ((k : ℕ) → q ≡ next a.kind a.value p k) → last ≡ behind a.kind a.value a.detail p c.more → Steady c a p w x q last
steady c a p w x q last h i j l k m =
    ap (λ (z : List ℕ). seen z x q last) (h k)
    ∙ ap (λ (z : Place). seen (before a.kind a.value a.detail p k) z q last) (i k m)
    ∙ ap (λ (z : ℕ). seen (before a.kind a.value a.detail p k) (under a.kind a.value a.detail c p k m) z last) (j k)
    ∙ ap (λ (z : List ℕ). seen (before a.kind a.value a.detail p k) (under a.kind a.value a.detail c p k m) (next a.kind a.value p k) z) l

pub steadily : (c : Place) (a : Label) (p : ℕ) (xs : List Slot) (q : ℕ) (last last' : List ℕ) (b : Label) (kids ts : Forest) → Steady c a p (words_of xs) (place_of xs) q last' → fill (later xs) last ts ≡ going c a q ts → fill xs last (tree b kids ts) ≡ going c a p (tree b kids ts)
steadily c a p xs q last last' b kids ts h j = step c a p xs last b kids ts (ap (λ (s : Seen). s.words) (h b.kind (not (empty ts)))) (ap (λ (s : Seen). s.place) (h b.kind (not (empty ts)))) (j ∙ ap (λ (s : Seen). going c a s.phase ts) (h b.kind (not (empty ts))))

pub at_end : (c : Place) (a : Label) (p : ℕ) (w : List ℕ) (x : Place) (q : ℕ) (last : List ℕ) (xs : List Slot) → Steady c a p w x q last → fill xs last none ≡ going c a p none
unfolding fill going
at_end c a p w x q last xs h = ap (λ (s : Seen). signs s.end) (h 0 false)

-- no slot any more
pub stuck : (c : Place) (a : Label) (p : ℕ) (last : List ℕ) → Steady c a p [] whole p last → (ts : Forest) → fill [] last ts ≡ going c a p ts
stuck c a p last h none = at_end c a p [] whole p last [] h
stuck c a p last h (tree b kids ts) = steadily c a p [] p last last b kids ts h (stuck c a p last h ts)

-- a slot, whatever the children
pub on : (c : Place) (a : Label) (p : ℕ) (xs : List Slot) (q : ℕ) (last : List ℕ) → Steady c a p (words_of xs) (place_of xs) q last → ((ts : Forest) → fill (later xs) last ts ≡ going c a q ts) → (ts : Forest) → fill xs last ts ≡ going c a p ts
on c a p xs q last h j none = at_end c a p (words_of xs) (place_of xs) q last xs h
on c a p xs q last h j (tree b kids ts) = steadily c a p xs q last last b kids ts h (j ts)

-- up to three parts
pub parts : (c : Place) (a : Label) (xs : List Slot) (last : List ℕ) → later (later (later xs)) ≡ [] → Steady c a 0 (words_of xs) (place_of xs) 1 last → Steady c a 1 (words_of (later xs)) (place_of (later xs)) 2 last → Steady c a 2 (words_of (later (later xs))) (place_of (later (later xs))) 3 last → Steady c a 3 [] whole 3 last → (ts : Forest) → fill xs last ts ≡ going c a 0 ts
parts c a xs last e h i j l =
    on c a 0 xs 1 last h (on c a 1 (later xs) 2 last i (on c a 2 (later (later xs)) 3 last j
    (λ (ts : Forest). ap (λ (ys : List Slot). fill ys last ts) e ∙ stuck c a 3 last l ts)))

-- no words and no slot behind the first child
pub quiet : (c : Place) (a : Label) (last : List ℕ) → Steady c a 1 [] whole 2 last → Steady c a 2 [] whole 3 last → Steady c a 3 [] whole 3 last → (ts : Forest) → fill [] last ts ≡ going c a 1 ts
quiet c a last h i j = on c a 1 [] 2 last h (on c a 2 [] 3 last i (stuck c a 3 last j))

-- each child after the same words
pub each_step : (c : Place) (a : Label) (p : ℕ) (w : List ℕ) (q : ℕ) (last : List ℕ) → Steady c a p w whole q last → ((ts : Forest) → fill (each w whole ts) last ts ≡ going c a q ts) → (ts : Forest) → fill (each w whole ts) last ts ≡ going c a p ts
each_step c a p w q last h j none = at_end c a p w whole q last [] h
each_step c a p w q last h j (tree b kids ts) = steadily c a p (each w whole (tree b kids ts)) q last last b kids ts h (j ts)

pub each_on : (c : Place) (a : Label) (p : ℕ) (w : List ℕ) (last : List ℕ) → Steady c a p w whole p last → (ts : Forest) → fill (each w whole ts) last ts ≡ going c a p ts
each_on c a p w last h none = at_end c a p w whole p last [] h
each_on c a p w last h (tree b kids ts) = steadily c a p (each w whole (tree b kids ts)) p last last b kids ts h (each_on c a p w last h ts)

-- a list, with other last words where it has no child
pub joined_on : (c : Place) (a : Label) (p : ℕ) (v w : List ℕ) (q : ℕ) (all last : List ℕ) → Steady c a p v whole q all → ((ts : Forest) → fill (each w whole ts) last ts ≡ going c a q ts) → (ts : Forest) → fill (joined v w whole ts) (cond (empty ts) all last) ts ≡ going c a p ts
joined_on c a p v w q all last h j none = at_end c a p v whole q all [] h
joined_on c a p v w q all last h j (tree b kids ts) = steadily c a p (joined v w whole (tree b kids ts)) q last all b kids ts h (j ts)

pub list_at_once : (c : Place) (a : Label) (v w : List ℕ) (all last : List ℕ) → Steady c a 0 v whole 1 all → Steady c a 1 w whole 2 last → Steady c a 2 w whole 3 last → Steady c a 3 w whole 3 last → (ts : Forest) → fill (joined v w whole ts) (cond (empty ts) all last) ts ≡ going c a 0 ts
list_at_once c a v w all last h i j l = joined_on c a 0 v w 1 all last h (each_step c a 1 w 2 last i (each_step c a 2 w 3 last j (each_on c a 3 w last l)))

-- a list behind the first child
pub list_behind : (c : Place) (a : Label) (x : Place) (v w : List ℕ) (all last : List ℕ) → Steady c a 0 [] x 1 all → Steady c a 1 v whole 2 all → Steady c a 2 w whole 3 last → Steady c a 3 w whole 3 last → (ts : Forest) → fill (([] then x) ∷ joined v w whole (rest ts)) (cond (empty (rest ts)) all last) ts ≡ going c a 0 ts
list_behind c a x v w all last h i j l none = at_end c a 0 [] x 1 all _ h
list_behind c a x v w all last h i j l (tree b kids ts) = steadily c a 0 (([] then x) ∷ joined v w whole ts) 1 (cond (empty ts) all last) all b kids ts h (joined_on c a 1 v w 2 all last i (each_step c a 2 w 3 last j (each_on c a 3 w last l)) ts)
