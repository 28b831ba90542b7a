-- The children of any row, phase by phase, as its layout has them.
use mathlib.Core.Path.{◌≡◌, refl, sym, ap, ◌∙◌}
use mathlib.Core.List.{List, [], ◌∷◌}
use mathlib.Core.Bool.{Bool, true, false, cond}
use Prim.Native.Nat.{ℕ}
use lib.Dec.{eqb, eqb→eq, ltb}
use Rattle.rows.specs.Kinds as kinds
use Rattle.grammar.specs.Grammar.{one_of}
use Rattle.canon.specs.Trees.{Label, Forest, none, tree, copied}
use Rattle.canon.specs.Layout.{Place, whole, needs, Layout, Entry, layouts, layout_in, layout, done}
use Rattle.canon.specs.Text.{Bit, copy, signs, paired, inner, fill}
use Rattle.places.specs.Under.{under, under_operand}
use Rattle.layouts.specs.Phases.{before_type, before_operand, before_part, before_item, before, next, end_of_type, end_of_operand, end_of_part, end_of_item, behind, one, going}
use Rattle.layouts.proofs.Steps.{row, step}
use Rattle.layouts.proofs.Forms.{path, never, unit, option, path_type, record_type, typed_name, binary, not_row, negate, call, access, question, assign, return_row, if_row, while_row, for_row, match_row, arm_row, variant, block, a_record, field, let_row, import_row, const_row, fn_row, test_row, the_tree, import_path, filter_row}

-- A table of layouts: what holds of each entry where the kind is its own, and of no entry else, holds of what is found.
Cases : List Entry → ℕ → (Layout → Type 0) → Type 0
Cases [] k P = P (done [])
Cases (x ∷ xs) k P = (k ≡ x.kind → P x.layout) × (eqb k x.kind ≡ false → Cases xs k P)

found : (xs : List Entry) (k : ℕ) (P : Layout → Type 0) → Cases xs k P → P (layout_in xs k)
unfolding Cases
found [] k P h = h
found (x ∷ xs) k P h = go (λ (e : eqb k x.kind ≡ false). found xs k P (h.1 e)) (eqb k x.kind) refl
  where
    go : (eqb k x.kind ≡ false → P (layout_in xs k)) → (b : Bool) → eqb k x.kind ≡ b → P (cond b x.layout (layout_in xs k))
    go later true e = h.0 (eqb→eq k x.kind (rw e tt))
    go later false e = later e

-- a row of no such kind has no words, and asks nothing

none_of : (a b c : Bool) (x y z w : List ℕ) → [] ≡ x → [] ≡ y → [] ≡ z → [] ≡ w → [] ≡ cond a x (cond b y (cond c z w))
none_of true b c x y z w h i j l = h
none_of false true c x y z w h i j l = i
none_of false false true x y z w h i j l = j
none_of false false false x y z w h i j l = l

-- the kinds that a table has
record Other (k : ℕ) : Type 0 where
  n2 : eqb k kinds.PATH ≡ false
  n3 : eqb k kinds.NEVER ≡ false
  n4 : eqb k kinds.UNIT ≡ false
  n5 : eqb k kinds.OPTION ≡ false
  n6 : eqb k kinds.PATH_TYPE ≡ false
  n7 : eqb k kinds.RECORD_TYPE ≡ false
  n8 : eqb k kinds.TYPED_NAME ≡ false
  n20 : eqb k kinds.BINARY ≡ false
  n21 : eqb k kinds.NOT ≡ false
  n22 : eqb k kinds.NEGATE ≡ false
  n23 : eqb k kinds.CALL ≡ false
  n24 : eqb k kinds.ACCESS ≡ false
  n25 : eqb k kinds.QUESTION ≡ false
  n26 : eqb k kinds.ASSIGN ≡ false
  n27 : eqb k kinds.RETURN ≡ false
  n28 : eqb k kinds.IF ≡ false
  n29 : eqb k kinds.WHILE ≡ false
  n30 : eqb k kinds.FOR ≡ false
  n31 : eqb k kinds.MATCH ≡ false
  n32 : eqb k kinds.ARM ≡ false
  n34 : eqb k kinds.VARIANT ≡ false
  n35 : eqb k kinds.BLOCK ≡ false
  n36 : eqb k kinds.RECORD ≡ false
  n37 : eqb k kinds.FIELD ≡ false
  n38 : eqb k kinds.LET ≡ false
  n39 : eqb k kinds.IMPORT ≡ false
  n40 : eqb k kinds.CONST ≡ false
  n41 : eqb k kinds.FN ≡ false
  n42 : eqb k kinds.TEST ≡ false
  n43 : eqb k kinds.TREE ≡ false
  n44 : eqb k kinds.IMPORT_PATH ≡ false
  n45 : eqb k kinds.FILTER ≡ false

no_words : (k v d p child : ℕ) → Other k → [] ≡ before k v d p child
unfolding before before_type before_operand before_part before_item
no_words k v d p child h = none_of (ltb k kinds.BINARY) (ltb k kinds.IF) (ltb k kinds.LET) (before_type k v p) (before_operand k d p) (before_part k v p) (before_item k v d p child) (rw (h.n2, h.n6, h.n7, h.n8) refl) (rw (h.n20, h.n21, h.n22, h.n23, h.n24, h.n26, h.n27) refl) (rw (h.n28, h.n29, h.n30, h.n31, h.n32, h.n34, h.n35, h.n36, h.n37) refl) (rw (h.n38, h.n39, h.n40, h.n41, h.n42, h.n44, h.n45) refl)

no_end : (k v d p : ℕ) (more : Bool) → Other k → [] ≡ behind k v d p more
unfolding behind end_of_type end_of_operand end_of_part end_of_item
no_end k v d p more h = none_of (ltb k kinds.BINARY) (ltb k kinds.IF) (ltb k kinds.LET) (end_of_type k v p) (end_of_operand k d p) (end_of_part k v p more) (end_of_item k p) (rw (h.n3, h.n4, h.n5, h.n6, h.n7) refl) (rw (h.n23, h.n25, h.n27) refl) (rw (h.n31, h.n32, h.n34, h.n35, h.n36) refl) (rw (h.n38, h.n39, h.n40, h.n44) refl)

no_place : (k v d : ℕ) (c : Place) (p child : ℕ) (more : Bool) → Other k → whole ≡ under k v d c p child more
unfolding under under_operand
no_place k v d c p child more h = rw (h.n28, h.n29, h.n30, h.n31, h.n32, h.n35, h.n20, h.n21, h.n22, h.n23, h.n25, h.n24, h.n26, h.n27) refl

other : (c : Place) (a : Label) (p : ℕ) (ts : Forest) → Other a.kind → fill [] [] ts ≡ going c a p ts
unfolding fill going
other c a p none h = ap signs (no_end a.kind a.value a.detail p c.more h)
other c a p (tree b kids ts) h = step c a p [] [] b kids ts (no_words a.kind a.value a.detail p b.kind h) (no_place a.kind a.value a.detail c p b.kind _ h) (other c a (next a.kind a.value p b.kind) ts h)

-- a row of a known kind
of_kind : (c : Place) (a : Label) (n : ℕ) (y : Layout) (ts : Forest) → a.kind ≡ n → fill y.slots y.last ts ≡ going c (row n a.value a.detail a.text) 0 ts → fill y.slots y.last ts ≡ going c a 0 ts
of_kind c a n y ts e h = h ∙ ap (λ (k : ℕ). going c (row k a.value a.detail a.text) 0 ts) (sym e)

-- "Words, then a child at a place; and the words behind the last": going on phase by phase writes them all.
pub phased : (c : Place) (a : Label) (ts : Forest) → fill (layout c a ts).slots (layout c a ts).last ts ≡ going c a 0 ts
unfolding layout layouts Cases
phased c a ts =
    found (layouts c a.value a.detail ts) a.kind (λ (y : Layout). fill y.slots y.last ts ≡ going c a 0 ts) (
      (λ (e : a.kind ≡ kinds.PATH). of_kind c a kinds.PATH _ ts e (path c a.value a.detail a.text ts)),
      λ (n2 : eqb a.kind kinds.PATH ≡ false). (
        (λ (e : a.kind ≡ kinds.NEVER). of_kind c a kinds.NEVER _ ts e (never c a.value a.detail a.text ts)),
        λ (n3 : eqb a.kind kinds.NEVER ≡ false). (
          (λ (e : a.kind ≡ kinds.UNIT). of_kind c a kinds.UNIT _ ts e (unit c a.value a.detail a.text ts)),
          λ (n4 : eqb a.kind kinds.UNIT ≡ false). (
            (λ (e : a.kind ≡ kinds.OPTION). of_kind c a kinds.OPTION _ ts e (option c a.value a.detail a.text ts)),
            λ (n5 : eqb a.kind kinds.OPTION ≡ false). (
              (λ (e : a.kind ≡ kinds.PATH_TYPE). of_kind c a kinds.PATH_TYPE _ ts e (path_type c a.value a.detail a.text ts)),
              λ (n6 : eqb a.kind kinds.PATH_TYPE ≡ false). (
                (λ (e : a.kind ≡ kinds.RECORD_TYPE). of_kind c a kinds.RECORD_TYPE _ ts e (record_type c a.value a.detail a.text ts)),
                λ (n7 : eqb a.kind kinds.RECORD_TYPE ≡ false). (
                  (λ (e : a.kind ≡ kinds.TYPED_NAME). of_kind c a kinds.TYPED_NAME _ ts e (typed_name c a.value a.detail a.text ts)),
                  λ (n8 : eqb a.kind kinds.TYPED_NAME ≡ false). (
                    (λ (e : a.kind ≡ kinds.BINARY). of_kind c a kinds.BINARY _ ts e (binary c a.value a.detail a.text ts)),
                    λ (n20 : eqb a.kind kinds.BINARY ≡ false). (
                      (λ (e : a.kind ≡ kinds.NOT). of_kind c a kinds.NOT _ ts e (not_row c a.value a.detail a.text ts)),
                      λ (n21 : eqb a.kind kinds.NOT ≡ false). (
                        (λ (e : a.kind ≡ kinds.NEGATE). of_kind c a kinds.NEGATE _ ts e (negate c a.value a.detail a.text ts)),
                        λ (n22 : eqb a.kind kinds.NEGATE ≡ false). (
                          (λ (e : a.kind ≡ kinds.CALL). of_kind c a kinds.CALL _ ts e (call c a.value a.detail a.text ts)),
                          λ (n23 : eqb a.kind kinds.CALL ≡ false). (
                            (λ (e : a.kind ≡ kinds.ACCESS). of_kind c a kinds.ACCESS _ ts e (access c a.value a.detail a.text ts)),
                            λ (n24 : eqb a.kind kinds.ACCESS ≡ false). (
                              (λ (e : a.kind ≡ kinds.QUESTION). of_kind c a kinds.QUESTION _ ts e (question c a.value a.detail a.text ts)),
                              λ (n25 : eqb a.kind kinds.QUESTION ≡ false). (
                                (λ (e : a.kind ≡ kinds.ASSIGN). of_kind c a kinds.ASSIGN _ ts e (assign c a.value a.detail a.text ts)),
                                λ (n26 : eqb a.kind kinds.ASSIGN ≡ false). (
                                  (λ (e : a.kind ≡ kinds.RETURN). of_kind c a kinds.RETURN _ ts e (return_row c a.value a.detail a.text ts)),
                                  λ (n27 : eqb a.kind kinds.RETURN ≡ false). (
                                    (λ (e : a.kind ≡ kinds.IF). of_kind c a kinds.IF _ ts e (if_row c a.value a.detail a.text ts)),
                                    λ (n28 : eqb a.kind kinds.IF ≡ false). (
                                      (λ (e : a.kind ≡ kinds.WHILE). of_kind c a kinds.WHILE _ ts e (while_row c a.value a.detail a.text ts)),
                                      λ (n29 : eqb a.kind kinds.WHILE ≡ false). (
                                        (λ (e : a.kind ≡ kinds.FOR). of_kind c a kinds.FOR _ ts e (for_row c a.value a.detail a.text ts)),
                                        λ (n30 : eqb a.kind kinds.FOR ≡ false). (
                                          (λ (e : a.kind ≡ kinds.MATCH). of_kind c a kinds.MATCH _ ts e (match_row c a.value a.detail a.text ts)),
                                          λ (n31 : eqb a.kind kinds.MATCH ≡ false). (
                                            (λ (e : a.kind ≡ kinds.ARM). of_kind c a kinds.ARM _ ts e (arm_row c a.value a.detail a.text ts)),
                                            λ (n32 : eqb a.kind kinds.ARM ≡ false). (
                                              (λ (e : a.kind ≡ kinds.VARIANT). of_kind c a kinds.VARIANT _ ts e (variant c a.value a.detail a.text ts)),
                                              λ (n34 : eqb a.kind kinds.VARIANT ≡ false). (
                                                (λ (e : a.kind ≡ kinds.BLOCK). of_kind c a kinds.BLOCK _ ts e (block c a.value a.detail a.text ts)),
                                                λ (n35 : eqb a.kind kinds.BLOCK ≡ false). (
                                                  (λ (e : a.kind ≡ kinds.RECORD). of_kind c a kinds.RECORD _ ts e (a_record c a.value a.detail a.text ts)),
                                                  λ (n36 : eqb a.kind kinds.RECORD ≡ false). (
                                                    (λ (e : a.kind ≡ kinds.FIELD). of_kind c a kinds.FIELD _ ts e (field c a.value a.detail a.text ts)),
                                                    λ (n37 : eqb a.kind kinds.FIELD ≡ false). (
                                                      (λ (e : a.kind ≡ kinds.LET). of_kind c a kinds.LET _ ts e (let_row c a.value a.detail a.text ts)),
                                                      λ (n38 : eqb a.kind kinds.LET ≡ false). (
                                                        (λ (e : a.kind ≡ kinds.IMPORT). of_kind c a kinds.IMPORT _ ts e (import_row c a.value a.detail a.text ts)),
                                                        λ (n39 : eqb a.kind kinds.IMPORT ≡ false). (
                                                          (λ (e : a.kind ≡ kinds.CONST). of_kind c a kinds.CONST _ ts e (const_row c a.value a.detail a.text ts)),
                                                          λ (n40 : eqb a.kind kinds.CONST ≡ false). (
                                                            (λ (e : a.kind ≡ kinds.FN). of_kind c a kinds.FN _ ts e (fn_row c a.value a.detail a.text ts)),
                                                            λ (n41 : eqb a.kind kinds.FN ≡ false). (
                                                              (λ (e : a.kind ≡ kinds.TEST). of_kind c a kinds.TEST _ ts e (test_row c a.value a.detail a.text ts)),
                                                              λ (n42 : eqb a.kind kinds.TEST ≡ false). (
                                                                (λ (e : a.kind ≡ kinds.TREE). of_kind c a kinds.TREE _ ts e (the_tree c a.value a.detail a.text ts)),
                                                                λ (n43 : eqb a.kind kinds.TREE ≡ false). (
                                                                  (λ (e : a.kind ≡ kinds.IMPORT_PATH). of_kind c a kinds.IMPORT_PATH _ ts e (import_path c a.value a.detail a.text ts)),
                                                                  λ (n44 : eqb a.kind kinds.IMPORT_PATH ≡ false). (
                                                                    (λ (e : a.kind ≡ kinds.FILTER). of_kind c a kinds.FILTER _ ts e (filter_row c a.value a.detail a.text ts)),
                                                                    λ (n45 : eqb a.kind kinds.FILTER ≡ false).
                                                                        other c a 0 ts (record { n2 = n2; n3 = n3; n4 = n4; n5 = n5; n6 = n6; n7 = n7; n8 = n8; n20 = n20; n21 = n21; n22 = n22; n23 = n23; n24 = n24; n25 = n25; n26 = n26; n27 = n27; n28 = n28; n29 = n29; n30 = n30; n31 = n31; n32 = n32; n34 = n34; n35 = n35; n36 = n36; n37 = n37; n38 = n38; n39 = n39; n40 = n40; n41 = n41; n42 = n42; n43 = n43; n44 = n44; n45 = n45 }),
                                                                  ),
                                                                ),
                                                              ),
                                                            ),
                                                          ),
                                                        ),
                                                      ),
                                                    ),
                                                  ),
                                                ),
                                              ),
                                            ),
                                          ),
                                        ),
                                      ),
                                    ),
                                  ),
                                ),
                              ),
                            ),
                          ),
                        ),
                      ),
                    ),
                  ),
                ),
              ),
            ),
          ),
        ),
      ),
    )

-- A row with what is in it, phase by phase.
pub one_going : (c : Place) (b : Label) (kids : Forest) → one c b kids ≡ paired (needs c b kids) (cond (one_of b.kind copied) (copy b.text ∷ []) (going (inner (needs c b kids) c) b 0 kids))
unfolding one
one_going c b kids = ap (λ (z : List Bit). paired (needs c b kids) (cond (one_of b.kind copied) (copy b.text ∷ []) z)) (phased (inner (needs c b kids) c) b kids)
