-- Where the table has no expr no row needs a pair: its place asks nothing, or nothing of such a row.
use mathlib.Core.Path.{◌∙◌, ◌≡◌, ap, refl, subst, sym}
use mathlib.Core.List.{List, [], ◌∷◌}
use mathlib.Core.Bool.{Bool, true, false, not, ◌&&◌, ◌||◌, cond}
use Prim.Native.Nat.{ℕ}
use lib.Dec.{T, eqb, eqb→eq, leb-suc-zero, ltb}
use Rattle.rows.specs.Kinds as kinds
use Rattle.grammar.specs.Words.{'if', comma, dot, four_words, open_brace}
use Rattle.grammar.specs.Grammar.{one_of}
use Rattle.grammar.proofs.Bools.{and_l, and_r}
use Rattle.canon.specs.Trees.{Label, Forest, none, tree}
use Rattle.canon.specs.Layout.{Entry, Layout, Place, Slot, ◌then◌, arm, arms, asks, begins, between, body, by, each, empty, first_kind, head, headed, imports, is_expr, is_four, joined, layout, layout_in, layouts, level, needs, only_if, rest, statements, whole}
use Rattle.canon.specs.Text.{later, place_of}
use Rattle.printing.specs.Pairs.{expr_at}
use Rattle.printing.proofs.Placed.{each_of}

-- a place that asks nothing needs no pair
abbrev no_words : List ℕ → Bool
no_words [] = true
no_words (c ∷ w) = false

abbrev asks_nothing : Place → Bool
asks_nothing c = eqb c.level 0 && (c.path && (c.records && no_words c.unless))

free_place : (n k b : ℕ) (p r x y : Bool) (w : List ℕ) → T (eqb k 0 && (p && (r && no_words w))) → (ltb n k || ((not p && x) || ((not r && y) || one_of b w))) ≡ false
free_place n k b true true x y [] t = ap (λ (i : ℕ). ltb n i || false) (eqb→eq k 0 (and_l (eqb k 0) true t)) ∙ ap (λ (o : Bool). o || false) (leb-suc-zero n)
free_place n k b true true x y (c ∷ w) t = absurd (and_r (eqb k 0) false t)
free_place n k b true false x y w t = absurd (and_r (eqb k 0) false t)
free_place n k b false r x y w t = absurd (and_r (eqb k 0) false t)

needs_none : (c : Place) (a : Label) (kids : Forest) → T (asks_nothing c) → needs c a kids ≡ false
needs_none c a kids t = free_place (level a) c.level (begins a) c.path c.records (eqb a.kind kinds.PATH) (eqb a.kind kinds.RECORD || (eqb a.kind kinds.RETURN && empty kids)) c.unless t

-- these trees, children of a row of kind o: each that is no expr of the table needs no pair
abbrev pub Spare : ℕ → Bool → List Slot → Forest → Type 0
Spare o i xs none = Unit {0}
Spare o i xs (tree a k t) = (expr_at o i (empty t) a.kind ≡ false → needs (place_of xs) a k ≡ false) × Spare o false (later xs) t

-- all are exprs; all places ask nothing; but for the first
all_spare : (o : ℕ) (i : Bool) (xs : List Slot) (f : Forest) → ((i b : Bool) (j : ℕ) → expr_at o i b j ≡ true) → Spare o i xs f
all_spare o i xs none h = tt
all_spare o i xs (tree a k t) h = ((λ e. absurd (subst T (sym (h i (empty t) a.kind) ∙ e) tt)), all_spare o false (later xs) t h)

abbrev free : List Slot → Bool
free [] = true
free (x ∷ xs) = asks_nothing x.place && free xs

free_spare : (o : ℕ) (i : Bool) (xs : List Slot) (f : Forest) → T (free xs) → Spare o i xs f
free_spare o i xs none h = tt
free_spare o i [] (tree a k t) h = ((λ e. needs_none whole a k tt), free_spare o false [] t tt)
free_spare o i (x ∷ xs) (tree a k t) h = ((λ e. needs_none x.place a k (and_l (asks_nothing x.place) (free xs) h)), free_spare o false xs t (and_r (asks_nothing x.place) (free xs) h))

first_spare : (o : ℕ) (xs : List Slot) (f : Forest) → ((b : Bool) (j : ℕ) → expr_at o true b j ≡ true) → T (free (later xs)) → Spare o true xs f
first_spare o xs none h u = tt
first_spare o xs (tree a k t) h u = ((λ e. absurd (subst T (sym (h (empty t) a.kind) ∙ e) tt)), free_spare o false (later xs) t u)

-- places of lists
each_free : (w : List ℕ) (f : Forest) → T (free (each w whole f))
each_free w none = tt
each_free w (tree a k t) = each_free w t

joined_free : (v w : List ℕ) (f : Forest) → T (free (joined v w whole f))
joined_free v w none = tt
joined_free v w (tree a k t) = each_free w t

either_free : (b : Bool) (y z : Layout) → T (free y.slots) → T (free z.slots) → T (free (only_if b y z).slots)
either_free true y z h k = h
either_free false y z h k = k

arms_free : (w : List ℕ) (f : Forest) → T (free (arms w f))
arms_free w none = tt
arms_free w (tree a k t) = arms_free [] t

slots_free : (b : Bool) (xs ys : List Slot) → T (free xs) → T (free ys) → T (free (cond b xs ys))
slots_free true xs ys h k = h
slots_free false xs ys h k = k

headed_free : (r b : Bool) (f : Forest) → T (free (headed r b f))
headed_free r b none = tt
headed_free r b (tree a k t) = slots_free (eqb a.kind kinds.TYPED_NAME) _ _ (headed_free r false t) (slots_free r _ _ tt tt)

layout_free : (b : Bool) (y z : Layout) → T (free y.slots) → T (free z.slots) → T (free (cond b y z).slots)
layout_free true y z h k = h
layout_free false y z h k = k

imports_free : (b g : Bool) (f : Forest) → T (free (imports b g f).slots)
imports_free b g none = tt
imports_free b g (tree a k t) = layout_free (eqb a.kind kinds.NAME) _ _ (imports_free false false t) (imports_free false true t)

-- a row of a kind
of_kind : ℕ → Label → Label
of_kind k a = record { kind = k; value = a.value; detail = a.detail; text = a.text }

as_kind : (c : Place) (a : Label) (kids : Forest) (k : ℕ) → eqb a.kind k ≡ true → needs c (of_kind k a) kids ≡ false → needs c a kids ≡ false
unfolding of_kind
as_kind c a kids k e h = subst (λ (j : ℕ). needs c (record { kind = j; value = a.value; detail = a.detail; text = a.text }) kids ≡ false) (sym (eqb→eq a.kind k (subst T (sym e) tt))) h

-- a last child that is a block
last_block : (b c : Bool) → (not (b && c) || false) ≡ false → c ≡ true
last_block true true e = refl
last_block true false e = absurd (subst T e tt)
last_block false c e = absurd (subst T e tt)

block_spare : (o : ℕ) (xs : List Slot) (f : Forest) → ((b : Bool) (j : ℕ) → expr_at o false b j ≡ false → (not (b && eqb j kinds.BLOCK) || false) ≡ false) → T (free (later xs)) → ((a : Label) (k t : Forest) → f ≡ tree a k t → eqb a.kind kinds.BLOCK ≡ true → needs (place_of xs) a k ≡ false) → Spare o false xs f
block_spare o xs none p h g = tt
block_spare o xs (tree a k t) p h g = ((λ e. g a k t refl (last_block (empty t) (eqb a.kind kinds.BLOCK) (p (empty t) a.kind e))), free_spare o false (later xs) t h)

for_spare : (c : Place) (f : Forest) (u v w : List ℕ) → Spare kinds.FOR true ((u then whole) ∷ (v then head) ∷ (w then whole) ∷ []) f
unfolding of_kind
for_spare c none u v w = tt
for_spare c (tree a k t) u v w = ((λ e. needs_none whole a k tt), block_spare kinds.FOR ((v then head) ∷ (w then whole) ∷ []) t (λ b j e. e) tt (λ a k t f e. as_kind head a k kinds.BLOCK e refl))

-- an arm's body
body_spare : (more : Bool) (f : Forest) → Spare kinds.ARM false (body more (first_kind f)).slots f
body_spare more none = tt
body_spare more (tree a k t) = block_spare kinds.ARM (body more a.kind).slots (tree a k t) (λ b j e. e) tt (λ b j u f e. whole_if a.kind b j (ap (λ (n : ℕ). eqb n kinds.BLOCK) (kind_same f) ∙ e))
  where
    kind_same : {b : Label} {j u : Forest} → tree a k t ≡ tree b j u → a.kind ≡ b.kind
    kind_same f = ap first_kind f

    whole_if : (n : ℕ) (b : Label) (j : Forest) → eqb n kinds.BLOCK ≡ true → needs (cond (eqb n kinds.BLOCK) whole (asks 0 true (open_brace ∷ []))) b j ≡ false
    whole_if n b j e = subst (λ (o : Bool). needs (cond o whole (asks 0 true (open_brace ∷ []))) b j ≡ false) (sym e) (needs_none whole b j tt)

arm_spare : (more : Bool) (v : ℕ) (f : Forest) → Spare kinds.ARM true (arm more v (rest f)).slots f
arm_spare more v none = tt
arm_spare more v (tree a k t) = ((λ e. needs_none whole a k tt), go (eqb v 0) t)
  where
    go : (b : Bool) (t : Forest) → Spare kinds.ARM false (cond b (body more (first_kind t)) (by ('if' ∷ []) whole (body more (first_kind (rest t))))).slots t
    go true t = body_spare more t
    go false none = tt
    go false (tree a k t) = ((λ e. needs_none whole a k tt), body_spare more t)

-- statements
statement_spare : (a : Label) (k : Forest) (b : Bool) → is_four a.kind ≡ b → (not b && is_expr a.kind) ≡ false → needs (cond b whole (asks 0 true four_words)) a k ≡ false
unfolding of_kind
statement_spare a k true e h = needs_none whole a k tt
statement_spare a k false e h = go (one_of a.kind (kinds.LET ∷ kinds.IMPORT ∷ [])) refl h
  where
    go : (b : Bool) → one_of a.kind (kinds.LET ∷ kinds.IMPORT ∷ []) ≡ b → not b ≡ false → needs (asks 0 true four_words) a k ≡ false
    go false o i = absurd (subst T i tt)
    go true o i = each_of (λ j. a.kind ≡ j → needs (asks 0 true four_words) a k ≡ false) (kinds.LET ∷ kinds.IMPORT ∷ []) a.kind (subst T (sym o) tt)
        (λ e. as_kind (asks 0 true four_words) a k kinds.LET (ap (λ (j : ℕ). eqb j kinds.LET) e) refl, (λ e. as_kind (asks 0 true four_words) a k kinds.IMPORT (ap (λ (j : ℕ). eqb j kinds.IMPORT) e) refl, tt)) refl

statements_spare : (v : ℕ) (w : List ℕ) (i : Bool) (f : Forest) → Spare kinds.BLOCK i (statements v w f).slots f
statements_spare v w i none = tt
statements_spare v w i (tree a k none) = ((λ e. statement_spare a k (is_four a.kind) refl e), tt)
statements_spare v w i (tree a k (tree b j t)) = ((λ e. statement_spare a k (is_four a.kind) refl e), statements_spare v (between a.kind) false (tree b j t))

-- each kind of row
abbrev AllSpare : List Entry → Forest → Type 0
AllSpare [] f = Unit {0}
AllSpare (x ∷ xs) f = Spare x.kind true x.layout.slots f × AllSpare xs f

spare_in : (xs : List Entry) (k : ℕ) (f : Forest) → AllSpare xs f → Spare k true (layout_in xs k).slots f
spare_in [] k f h = free_spare k true [] f tt
spare_in (x ∷ xs) k f h = go (eqb k x.kind) refl h.0 (spare_in xs k f h.1)
  where
    go : (b : Bool) → eqb k x.kind ≡ b → Spare x.kind true x.layout.slots f → Spare k true (layout_in xs k).slots f → Spare k true (cond b x.layout (layout_in xs k)).slots f
    go true e u v = subst (λ (j : ℕ). Spare j true x.layout.slots f) (sym (eqb→eq k x.kind (subst T (sym e) tt))) u
    go false e u v = v

all_kinds : (c : Place) (v d : ℕ) (f : Forest) → AllSpare (layouts c v d f) f
unfolding layouts
all_kinds c v d f = (
  free_spare kinds.PATH true _ f (joined_free [] (dot ∷ []) f),
  (
    free_spare kinds.NEVER true _ f tt,
    (
      free_spare kinds.UNIT true _ f tt,
      (
        free_spare kinds.OPTION true _ f tt,
        (
          free_spare kinds.PATH_TYPE true _ f (either_free (eqb v 0) _ _ tt (joined_free _ (comma ∷ []) (rest f))),
          (
            free_spare kinds.RECORD_TYPE true _ f (joined_free _ (comma ∷ []) f),
            (
              free_spare kinds.TYPED_NAME true _ f tt,
              (
                all_spare kinds.BINARY true _ f (λ i b j. refl),
                (
                  all_spare kinds.NOT true _ f (λ i b j. refl),
                  (
                    all_spare kinds.NEGATE true _ f (λ i b j. refl),
                    (
                      all_spare kinds.CALL true _ f (λ i b j. refl),
                      (
                        first_spare kinds.ACCESS _ f (λ b j. refl) tt,
                        (
                          all_spare kinds.QUESTION true _ f (λ i b j. refl),
                          (
                            all_spare kinds.ASSIGN true _ f (λ i b j. refl),
                            (
                              all_spare kinds.RETURN true _ f (λ i b j. refl),
                              (
                                first_spare kinds.IF _ f (λ b j. refl) (either_free (empty (rest (rest f))) _ _ tt tt),
                                (
                                  first_spare kinds.WHILE _ f (λ b j. refl) tt,
                                  (
                                    for_spare c f _ _ _,
                                    (
                                      first_spare kinds.MATCH _ f (λ b j. refl) (arms_free _ (rest f)),
                                      (
                                        arm_spare c.more v f,
                                        (
                                          free_spare kinds.VARIANT true _ f (either_free (eqb v 0) _ _ tt (joined_free _ (comma ∷ []) (rest f))),
                                          (
                                            statements_spare v _ true f,
                                            (
                                              free_spare kinds.RECORD true _ f (either_free (eqb v 0) _ _ (joined_free _ (comma ∷ []) f) (joined_free _ (comma ∷ []) (rest f))),
                                              (
                                                free_spare kinds.FIELD true _ f tt,
                                                (
                                                  free_spare kinds.LET true _ f (either_free (eqb v 0) _ _ tt tt),
                                                  (
                                                    free_spare kinds.IMPORT true _ f tt,
                                                    (
                                                      free_spare kinds.CONST true _ f tt,
                                                      (
                                                        free_spare kinds.FN true _ f (headed_free (eqb v 1) true (rest f)),
                                                        (
                                                          free_spare kinds.TEST true _ f tt,
                                                          (
                                                            free_spare kinds.TREE true _ f (each_free [] f),
                                                            (
                                                              free_spare kinds.IMPORT_PATH true _ f (imports_free true false f),
                                                              (
                                                                free_spare kinds.FILTER true _ f (headed_free false true (rest f)),
                                                                tt,
                                                              ),
                                                            ),
                                                          ),
                                                        ),
                                                      ),
                                                    ),
                                                  ),
                                                ),
                                              ),
                                            ),
                                          ),
                                        ),
                                      ),
                                    ),
                                  ),
                                ),
                              ),
                            ),
                          ),
                        ),
                      ),
                    ),
                  ),
                ),
              ),
            ),
          ),
        ),
      ),
    ),
  ),
)

pub layout_spare : (c : Place) (a : Label) (f : Forest) → Spare a.kind true (layout c a f).slots f
unfolding layout
layout_spare c a f = spare_in (layouts c a.value a.detail f) a.kind f (all_kinds c a.value a.detail f)

pub top_spare : (o : ℕ) (i : Bool) (f : Forest) → Spare o i [] f
top_spare o i f = free_spare o i [] f tt
