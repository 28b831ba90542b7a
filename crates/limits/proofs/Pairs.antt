-- No row of a print stands in more pairs than in any reading with the same trees.
use mathlib.Core.Path.{◌≡◌, refl, sym, subst}
use mathlib.Core.Logic.{◌⊎◌, inl, inr}
use mathlib.Core.List.{List, [], ◌∷◌}
use mathlib.Core.Bool.{Bool, true, false, not, ◌&&◌, ◌||◌, cond}
use Prim.Native.Nat.{ℕ, zero, suc, pred, ◌+◌, ◌≤◌}
use native.Mathlib.Omega.{arith}
use lib.Dec.{T, T_not, eqb, ltb, ltb→lt, lt→ltb}
use Rattle.grammar.proofs.Bools.{and_l, and_r, both, or_cases, or_l, or_r}
use Rattle.grammar.specs.Words.{'if', return_words}
use Rattle.rows.specs.Kinds as kinds
use Rattle.grammar.specs.Grammar.{Parts, one_of}
use Rattle.grammar.specs.Readings.{Text}
use Rattle.grammar.specs.Language.{roto, goal}
use Rattle.answers.specs.Source.{source}
use Rattle.canon.specs.Trees.{Label, Forest}
use Rattle.canon.specs.Layout.{Place, whole, level, begins, empty, needs, Slot, Entry, layout_in, layouts, layout, left, right, pathless, left_level, binary_level, nth, only_if, done, by, and_then, ◌then◌, body, first_kind, rest}
use Rattle.canon.specs.Text.{inner, place_of, later}
use Rattle.forests.specs.Planted.{Marked, no_more, stands, unmarked, marked}
use Rattle.forests.specs.Met.{within, served, Met}
use Rattle.forests.proofs.Sources.{source_fits}
use Rattle.limits.specs.Pairs.{and_one, NoMore}

-- ---- places that ask no more

record Easier (c c' : Place) : Type 0 where
  level : c.level ≤ c'.level
  records : T (not c.records) → T (not c'.records)
  path : T (not c.path) → T (not c'.path)
  words : (w : ℕ) → T (one_of w c.unless) → T (one_of w c'.unless)

same_place : (c : Place) → Easier c c
same_place c = record { level = omega arith; records = λ t. t; path = λ t. t; words = λ w t. t }

whole_easier : (c : Place) → Easier whole c
whole_easier c = record { level = omega arith; records = λ t. absurd t; path = λ t. absurd t; words = λ w t. absurd t }

-- a row that needs a pair at one needs one at the other
needs_easier : {c c' : Place} → Easier c c' → (a : Label) (kids : Forest) → T (needs c a kids) → T (needs c' a kids)
needs_easier {c} {c'} g a kids t = elim (or_cases low (pathy || (recordy || wordy)) t) [
  | inl x ↦ or_l (ltb (level a) c'.level) _ (let k = ltb→lt (level a) c.level x in let j = g.level in lt→ltb (level a) c'.level (omega (arith, k, j)))
  | inr x ↦ or_r (ltb (level a) c'.level) (pathy' || (recordy' || wordy')) (elim (or_cases pathy (recordy || wordy) x) [
    | inl y ↦ or_l pathy' (recordy' || wordy') (both (not c'.path) is_path (g.path (and_l (not c.path) is_path y)) (and_r (not c.path) is_path y))
    | inr y ↦ or_r pathy' (recordy' || wordy') (elim (or_cases recordy wordy y) [
      | inl z ↦ or_l recordy' wordy' (both (not c'.records) is_record (g.records (and_l (not c.records) is_record z)) (and_r (not c.records) is_record z))
      | inr z ↦ or_r recordy' wordy' (g.words (begins a) z)
    ])
  ])
]
  where
    low : Bool
    low = ltb (level a) c.level

    is_path : Bool
    is_path = eqb a.kind kinds.PATH

    is_record : Bool
    is_record = eqb a.kind kinds.RECORD || (eqb a.kind kinds.RETURN && empty kids)

    pathy : Bool
    pathy = not c.path && is_path

    pathy' : Bool
    pathy' = not c'.path && is_path

    recordy : Bool
    recordy = not c.records && is_record

    recordy' : Bool
    recordy' = not c'.records && is_record

    wordy : Bool
    wordy = one_of (begins a) c.unless

    wordy' : Bool
    wordy' = one_of (begins a) c'.unless

left_easier : {c c' : Place} (k : ℕ) → Easier c c' → Easier (left k c) (left k c')
left_easier k g = record { level = omega arith; records = g.records; path = λ t. t; words = g.words }

right_easier : {c c' : Place} (k : ℕ) → Easier c c' → Easier (right k c) (right k c')
right_easier k g = record { level = omega arith; records = g.records; path = λ t. t; words = λ w t. t }

pathless_easier : {c c' : Place} → Easier c c' → Easier (pathless (left 7 c)) (pathless (left 7 c'))
pathless_easier g = record { level = omega arith; records = g.records; path = λ t. t; words = g.words }

-- ---- layouts at such places

data Slots : List Slot → List Slot → Type 0 where
  no_slots : Slots [] []
  one_slot : {x y : Slot} {xs ys : List Slot} → Easier x.place y.place → Slots xs ys → Slots (x ∷ xs) (y ∷ ys)

same_slots : (xs : List Slot) → Slots xs xs
same_slots [] = no_slots
same_slots (x ∷ xs) = one_slot (same_place x.place) (same_slots xs)

place_easier : {xs ys : List Slot} → Slots xs ys → Easier (place_of xs) (place_of ys)
place_easier no_slots = same_place whole
place_easier (one_slot g s) = g

later_easier : {xs ys : List Slot} → Slots xs ys → Slots (later xs) (later ys)
later_easier no_slots = no_slots
later_easier (one_slot g s) = s

data Entries : List Entry → List Entry → Type 0 where
  no_entries : Entries [] []
  one_entry : {x y : Entry} {xs ys : List Entry} → x.kind ≡ y.kind → Slots x.layout.slots y.layout.slots → Entries xs ys → Entries (x ∷ xs) (y ∷ ys)

entry_at : {xs ys : List Entry} (k : ℕ) → Entries xs ys → Slots (layout_in xs k).slots (layout_in ys k).slots
entry_at k no_entries = no_slots
entry_at k (one_entry {x} {y} {xs} {ys} e s es) = subst (λ (n : ℕ). Slots (cond (eqb k x.kind) x.layout (layout_in xs k)).slots (cond (eqb k n) y.layout (layout_in ys k)).slots) e (go (eqb k x.kind) (entry_at k es))
  where
    go : (b : Bool) → Slots (layout_in xs k).slots (layout_in ys k).slots → Slots (cond b x.layout (layout_in xs k)).slots (cond b y.layout (layout_in ys k)).slots
    go true r = s
    go false r = r

entries : {c c' : Place} (v d : ℕ) (ts : Forest) → Easier c c' → Entries (layouts c v d ts) (layouts c' v d ts)
unfolding layouts
entries {c} {c'} v d ts g =
    one_entry refl (same_slots _)
    (one_entry refl (same_slots _)
    (one_entry refl (same_slots _)
    (one_entry refl (same_slots _)
    (one_entry refl (same_slots _)
    (one_entry refl (same_slots _)
    (one_entry refl (same_slots _)
    (one_entry refl (one_slot (left_easier (left_level d) g) (one_slot (right_easier (suc (binary_level d)) g) no_slots))
    (one_entry refl (one_slot (right_easier 6 g) no_slots)
    (one_entry refl (one_slot (right_easier 6 g) no_slots)
    (one_entry refl (one_slot (left_easier 7 g) (same_slots _))
    (one_entry refl (one_slot (pathless_easier g) (same_slots _))
    (one_entry refl (one_slot (left_easier 7 g) no_slots)
    (one_entry refl (one_slot (same_place whole) (one_slot (right_easier 1 g) no_slots))
    (one_entry refl (returned (empty ts))
    (one_entry refl (same_slots _)
    (one_entry refl (same_slots _)
    (one_entry refl (same_slots _)
    (one_entry refl (same_slots _)
    (one_entry refl (in_arm (eqb v 0))
    (one_entry refl (same_slots _)
    (one_entry refl (same_slots _)
    (one_entry refl (same_slots _)
    (one_entry refl (same_slots _)
    (one_entry refl (same_slots _)
    (one_entry refl (same_slots _)
    (one_entry refl (same_slots _)
    (one_entry refl (same_slots _)
    (one_entry refl (same_slots _)
    (one_entry refl (same_slots _)
    (one_entry refl (same_slots _)
    (one_entry refl (same_slots _)
    (no_entries))))))))))))))))))))))))))))))))
  where
    returned : (b : Bool) → Slots (only_if b (done (nth return_words (pred d) ∷ [])) (by (nth return_words (pred d) ∷ []) (right 0 c) (done []))).slots (only_if b (done (nth return_words (pred d) ∷ [])) (by (nth return_words (pred d) ∷ []) (right 0 c') (done []))).slots
    returned true = no_slots
    returned false = one_slot (right_easier 0 g) no_slots

    in_arm : (b : Bool) → Slots (and_then ([] then whole) (cond b (body c.more (first_kind (rest ts))) (and_then (('if' ∷ []) then whole) (body c.more (first_kind (rest (rest ts))))))).slots (and_then ([] then whole) (cond b (body c'.more (first_kind (rest ts))) (and_then (('if' ∷ []) then whole) (body c'.more (first_kind (rest (rest ts))))))).slots
    in_arm true = one_slot (same_place _) (one_slot (same_place _) no_slots)
    in_arm false = one_slot (same_place _) (one_slot (same_place _) (one_slot (same_place _) no_slots))

layout_easier : {c c' : Place} → Easier c c' → (a : Label) (ts : Forest) → Slots (layout c a ts).slots (layout c' a ts).slots
unfolding layout
layout_easier g a ts = entry_at a.kind (entries a.value a.detail ts g)

-- ---- pairs

-- of the print's no more stand open, and its places ask no more; or fewer stand open
abbrev Lead : ℕ → ℕ → List Slot → List Slot → Type 0
Lead p q xs ys = ((p ≤ q) × Slots xs ys) ⊎ (1 + p ≤ q)

later_lead : {p q : ℕ} {xs ys : List Slot} → Lead p q xs ys → Lead p q (later xs) (later ys)
later_lead (inl r) = inl (r.0, later_easier r.1)
later_lead (inr r) = inr r

module _ (p q : ℕ) (xs ys : List Slot) (a : Label) (f : Forest) where
  abbrev On : ℕ → Bool → Type 0
  On k b = (and_one b p ≤ k + q) × Lead (and_one b p) (k + q) (layout (inner b (place_of xs)) a f).slots (layout (within k (place_of ys)) a f).slots

  bare : (b : Bool) → needs (place_of xs) a f ≡ b → Lead p q xs ys → T (not (needs (place_of ys) a f)) → On zero b
  bare true e (inl r) h = absurd (T_not (needs (place_of ys) a f) h (needs_easier (place_easier r.1) a f (subst T (sym e) tt)))
  bare false e (inl r) h = let i = r.0 in (omega (arith, i), inl (omega (arith, i), layout_easier (place_easier r.1) a f))
  bare true e (inr r) h = (omega (arith, r), inl (omega (arith, r), layout_easier (whole_easier (place_of ys)) a f))
  bare false e (inr r) h = (omega (arith, r), inr (omega (arith, r)))

  paired : (b : Bool) (k : ℕ) → p ≤ q → On (suc k) b
  paired true k r = (omega (arith, r), inl (omega (arith, r), same_slots _))
  paired false k r = (omega (arith, r), inr (omega (arith, r)))

  lead_le : Lead p q xs ys → p ≤ q
  lead_le (inl r) = r.0
  lead_le (inr r) = omega (arith, r)

  row : (k : ℕ) → T (served k (place_of ys) a f) → Lead p q xs ys → On k (needs (place_of xs) a f)
  row zero h r = bare (needs (place_of xs) a f) refl r h
  row (suc k) h r = paired (needs (place_of xs) a f) k (lead_le r)

no_more_pairs : (p q : ℕ) (xs ys : List Slot) (m : Marked) → Met ys m → Lead p q xs ys → NoMore p q xs m
unfolding Met NoMore
no_more_pairs p q xs ys no_more h r = tt
no_more_pairs p q xs ys (stands k a kids ts) h r =
    let u = row p q xs ys a (unmarked kids) k h.0 r in
    (u.0, no_more_pairs (and_one (needs (place_of xs) a (unmarked kids)) p) (k + q) (layout (inner (needs (place_of xs) a (unmarked kids)) (place_of xs)) a (unmarked kids)).slots (layout (within k (place_of ys)) a (unmarked kids)).slots kids h.1 u.1, no_more_pairs p q (later xs) (later ys) ts h.2 (later_lead r))

-- in every reading of every source
pub source_pairs : (s : List ℕ) (tests tree : Bool) {p : Parts} → Text (source s) (roto tests) (goal tree) 0 p → NoMore 0 0 [] (marked s tree p)
source_pairs s tests tree {p} t = no_more_pairs 0 0 [] [] (marked s tree p) (source_fits s tests tree t) (inl (omega arith, no_slots))
