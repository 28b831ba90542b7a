-- Places: what a row has to be to stand at one without a pair; and the places of each kind's children.
use mathlib.Core.Path.{◌≡◌, refl, sym, subst}
use mathlib.Core.List.{List, [], ◌∷◌, ◌++◌}
use mathlib.Core.Bool.{Bool, true, false, not, ◌&&◌, ◌||◌, cond}
use mathlib.Core.Logic.{inl, inr}
use Prim.Native.Nat.{ℕ, zero, suc, ◌≤◌}
use lib.Dec.{T, eqb, ltb, ltb→lt, eqb→eq}
use native.Mathlib.Omega.{arith}
use Rattle.rows.specs.Kinds as kinds
use Rattle.grammar.specs.Words.{open_brace, close_brace, open_paren, close_paren, open_bracket, close_bracket, comma, dot, semicolon, ':', '=', '->'}
use Rattle.grammar.specs.Grammar.{one_of}
use Rattle.grammar.proofs.Bools.{or_cases}
use Rattle.canon.specs.Trees.{Label, Forest, none, tree}
use Rattle.canon.specs.Layout.{Place, whole, level, begins, empty, needs, Slot, Layout, ◌then◌, each, joined, headed, closing, imports, rest, list_in, and_then, by, done, only_if, layouts, layout}
use Rattle.canon.specs.Text.{place_of, later}
use Rattle.forests.specs.Planted.{Marked, no_more, stands, unmarked}
use Rattle.forests.specs.Met.{within, served, Met}
use Rattle.forests.proofs.Grown.{beside}

-- one tree: the pairs round it, its label, the trees under it
pub record Tree : Type 0 where
  pub pairs : ℕ
  pub label : Label
  pub kids : Marked

abbrev pub top : ℕ → Label → Marked → Tree
top k a m = record { pairs = k; label = a; kids = m }

-- it stands as it may at a place
pub record Fits (c : Place) (x : Tree) : Type 0 where
  pub serves : T (served x.pairs c x.label (unmarked x.kids))
  pub met : Met (layout (within x.pairs c) x.label (unmarked x.kids)).slots x.kids

-- each tree of a row
abbrev pub Each : (Tree → Type 0) → Marked → Type 0
Each Q no_more = Unit {0}
Each Q (stands k a m ts) = Q (top k a m) × Each Q ts

pub each_beside : (Q : Tree → Type 0) (xs ys : Marked) → Each Q xs → Each Q ys → Each Q (beside xs ys)
each_beside Q no_more ys h k = k
each_beside Q (stands n a m xs) ys h k = (h.0, each_beside Q xs ys h.1 k)

-- ---- when no pair is needed

-- a record, or a return form without an expr
abbrev pub recorded : Label → Forest → Bool
recorded a kids = eqb a.kind kinds.RECORD || (eqb a.kind kinds.RETURN && empty kids)

no_pair : (b p q r e f : Bool) → (T b → ⊥) → (T q → T p) → (T e → T r) → T (not f) → T (not (b || ((not p && q) || ((not r && e) || f))))
no_pair true p q r e f h i j k = absurd (h tt)
no_pair false true q true e f h i j k = k
no_pair false true q false true f h i j k = absurd (j tt)
no_pair false true q false false f h i j k = k
no_pair false false true r e f h i j k = absurd (i tt)
no_pair false false false true e f h i j k = k
no_pair false false false false true f h i j k = absurd (j tt)
no_pair false false false false false f h i j k = k

pub not_needs : (c : Place) (a : Label) (kids : Forest) → c.level ≤ level a → (T (eqb a.kind kinds.PATH) → T c.path) → (T (recorded a kids) → T c.records) → T (not (one_of (begins a) c.unless)) → T (not (needs c a kids))
not_needs c a kids h i j k =
    no_pair (ltb (level a) c.level) c.path (eqb a.kind kinds.PATH) c.records (recorded a kids) (one_of (begins a) c.unless) (λ t. let m = ltb→lt (level a) c.level t in omega (arith, m, h)) i j k

-- nothing is asked of a whole expr
pub whole_needs : (a : Label) (kids : Forest) → T (not (needs whole a kids))
whole_needs a kids = not_needs whole a kids (omega arith) (λ t. tt) (λ t. tt) tt

pub fits_whole : (k : ℕ) (a : Label) (m : Marked) → Met (layout whole a (unmarked m)).slots m → Fits whole (top k a m)
fits_whole zero a m h = record { serves = whole_needs a (unmarked m); met = h }
fits_whole (suc k) a m h = record { serves = tt; met = h }

-- a pair serves everywhere
pub fits_pair : (c : Place) (k : ℕ) (a : Label) (m : Marked) → Fits whole (top k a m) → Fits c (top (suc k) a m)
fits_pair c zero a m h = record { serves = tt; met = h.met }
fits_pair c (suc k) a m h = record { serves = tt; met = h.met }

-- ---- slots and what stands in them

pub met_tree : (xs : List Slot) (k : ℕ) (a : Label) (m ts : Marked) → Fits (place_of xs) (top k a m) → Met (later xs) ts → Met xs (stands k a m ts)
unfolding Met
met_tree xs k a m ts h t = (h.serves, h.met, t)

pub met_none : (xs : List Slot) → Met xs no_more
unfolding Met
met_none xs = tt

-- all the places ask nothing
abbrev pub Wholes : List Slot → Type 0
Wholes [] = Unit {0}
Wholes (x ∷ xs) = (x.place ≡ whole) × Wholes xs

pub met_wholes : (xs : List Slot) (m : Marked) → Wholes xs → Each (Fits whole) m → Met xs m
unfolding Met
met_wholes xs no_more w h = tt
met_wholes [] (stands k a m ts) w h = (h.0.serves, h.0.met, met_wholes [] ts tt h.1)
met_wholes (x ∷ xs) (stands k a m ts) w h =
    let f : Fits x.place (top k a m) = subst (λ (c : Place). Fits c (top k a m)) (sym w.0) h.0 in
    (f.serves, f.met, met_wholes xs ts w.1 h.1)

pub each_wholes : (w : List ℕ) (f : Forest) → Wholes (each w whole f)
each_wholes w none = tt
each_wholes w (tree a k t) = (refl, each_wholes w t)

pub joined_wholes : (v w : List ℕ) (f : Forest) → Wholes (joined v w whole f)
joined_wholes v w none = tt
joined_wholes v w (tree a k t) = (refl, each_wholes w t)

wholes_either : (b : Bool) (xs ys : List Slot) → Wholes xs → Wholes ys → Wholes (cond b xs ys)
wholes_either true xs ys h k = h
wholes_either false xs ys h k = k

layouts_either : (b : Bool) (x y : Layout) → Wholes x.slots → Wholes y.slots → Wholes (cond b x y).slots
layouts_either true x y h k = h
layouts_either false x y h k = k

headed_wholes : (r b : Bool) (f : Forest) → Wholes (headed r b f)
headed_wholes r b none = tt
headed_wholes r b (tree a k t) =
    let typed = (closing b ++ ('->' ∷ []) then whole) ∷ ([] then whole) ∷ [] in
    let block = (closing b then whole) ∷ [] in
    wholes_either (eqb a.kind kinds.TYPED_NAME) ((cond b (open_paren ∷ []) (comma ∷ []) then whole) ∷ headed r false t) (cond r typed block) (refl, headed_wholes r false t) (wholes_either r typed block (refl, (refl, tt)) (refl, tt))

imports_wholes : (a b : Bool) (f : Forest) → Wholes (imports a b f).slots
imports_wholes a b none = tt
imports_wholes a b (tree x k t) =
    layouts_either (eqb x.kind kinds.NAME) (and_then (cond a [] (dot ∷ []) then whole) (imports false false t)) (and_then (cond b (comma ∷ []) (dot ∷ open_brace ∷ []) then whole) (imports false true t)) (refl, imports_wholes false false t) (refl, imports_wholes false true t)

-- ---- kinds of which all children stand at places that ask nothing

abbrev pub Both : (ℕ → Type 0) → List ℕ → Type 0
Both C [] = Unit {0}
Both C (k ∷ ks) = C k × Both C ks

pub one_of_each : (C : ℕ → Type 0) (ks : List ℕ) → Both C ks → (k : ℕ) → T (one_of k ks) → C k
one_of_each C [] h k t = absurd t
one_of_each C (n ∷ ks) h k t = elim (or_cases (eqb k n) (one_of k ks) t) [ inl e ↦ subst C (sym (eqb→eq k n e)) h.0 | inr u ↦ one_of_each C ks h.1 k u ]

abbrev pub labelled : ℕ → ℕ → ℕ → List ℕ → Label
labelled k v d t = record { kind = k; value = v; detail = d; text = t }

-- level 7, no record, no word that `unless` can ask for: and a path, which may be asked for none
abbrev pub ordinary : List ℕ
ordinary =
    kinds.NAME ∷ kinds.NEVER ∷ kinds.UNIT ∷ kinds.OPTION ∷ kinds.PATH_TYPE ∷ kinds.RECORD_TYPE ∷ kinds.TYPED_NAME ∷ kinds.ANY ∷ kinds.VARIANT ∷ kinds.FIELD ∷ kinds.LET ∷ kinds.IMPORT ∷ kinds.CONST ∷ kinds.FN ∷ kinds.TEST ∷ kinds.TREE ∷ kinds.IMPORT_PATH ∷ kinds.FILTER ∷ kinds.F_STRING ∷ kinds.TEXT ∷
    kinds.PATH ∷ []

pub onlys : (b : Bool) (x y : Layout) → Wholes x.slots → Wholes y.slots → Wholes (only_if b x y).slots
onlys true x y h k = h
onlys false x y h k = k

module _ (c : Place) (v d : ℕ) (t : List ℕ) (f : Forest) where
  abbrev AllWhole : ℕ → Type 0
  AllWhole k = Wholes (layout c (labelled k v d t) f).slots

  pub record_wholes : AllWhole kinds.RECORD
  unfolding layout layouts
  record_wholes = onlys (eqb v 0) (list_in open_brace close_brace whole f) (by [] whole (list_in open_brace close_brace whole (rest f))) (joined_wholes (open_brace ∷ []) (comma ∷ []) f) (refl, joined_wholes (open_brace ∷ []) (comma ∷ []) (rest f))

  path_type : AllWhole kinds.PATH_TYPE
  unfolding layout layouts
  path_type = (refl, onlys (eqb v 0) (done []) (list_in open_bracket close_bracket whole (rest f)) tt (joined_wholes (open_bracket ∷ []) (comma ∷ []) (rest f)))

  variant : AllWhole kinds.VARIANT
  unfolding layout layouts
  variant = (refl, onlys (eqb v 0) (done []) (list_in open_paren close_paren whole (rest f)) tt (joined_wholes (open_paren ∷ []) (comma ∷ []) (rest f)))

  let_in : AllWhole kinds.LET
  unfolding layout layouts
  let_in = (refl, onlys (eqb v 0) (by ('=' ∷ []) whole (done (semicolon ∷ []))) (by (':' ∷ []) whole (by ('=' ∷ []) whole (done (semicolon ∷ [])))) (refl, tt) (refl, (refl, tt)))

  pub ordinary_wholes : (k : ℕ) → T (one_of k ordinary) → AllWhole k
  unfolding layout layouts
  ordinary_wholes = one_of_each AllWhole ordinary (tt, (tt, (tt, ((refl, tt), (path_type, (joined_wholes (open_brace ∷ []) (comma ∷ []) f, ((refl, (refl, tt)), (tt, (variant, ((refl, (refl, tt)), (let_in, ((refl, tt), ((refl, (refl, (refl, tt))), ((refl, headed_wholes (eqb v 1) true (rest f)), ((refl, (refl, tt)), (each_wholes [] f, (imports_wholes true false f, ((refl, headed_wholes false true (rest f)), (tt, (tt, (joined_wholes [] (dot ∷ []) f, tt)))))))))))))))))))))
