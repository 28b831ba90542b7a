-- Rows are trees: growing the rows of a reading gives the trees that it leaves.
use mathlib.Core.Path.{◌≡◌, refl, sym, ap, ◌∙◌, subst}
use mathlib.Core.List.{List, [], ◌∷◌, ◌++◌, append_assoc, append-nil}
use mathlib.Core.Bool.{Bool, true, false, cond}
use Prim.Native.Nat.{ℕ, suc, ◌+◌}
use lib.Dec.{eqb}
use lib.ListN.{length, length-append}
use native.Mathlib.Omega.{arith}
use Rattle.grammar.specs.Grammar.{Symbol, Token, Parts, end, leaf, node, mark, one_of}
use Rattle.grammar.specs.Kinds.{TREE, PARENS}
use Rattle.grammar.specs.Table.{rest_kinds}
use Rattle.grammar.specs.Rows.{Row, Item, own, child, count, sizes, children_of, row_of, Draft, blank, take_note, add_row, is_text, text_row, add_token, write, tree_row, rows_from, rows}
use Rattle.grammar.specs.Subtrees as subtrees
use Rattle.grammar.proofs.Frame.{write_phrase, write_rest}
use Rattle.grammar.proofs.Sizes.{row_size}
use Rattle.grammar.proofs.Subtrees.{Treed, row_children, rows_in_sizes, trees_length, write_trees}
use Rattle.canon.specs.Trees.{Label, Forest, none, tree, label, adopt, grown, tree_of}
use Rattle.forests.specs.Planted.{Marked, no_more, stands, unmarked, Twig, word, branch, items_of, trees_in, branches, Bough, bud, with_row, plant_note, with_word, with_text, plant_token, with_trees, plant, marked_from, marked, forest}
use Rattle.forests.specs.Told.{Told, told, trees, tells}
use Rattle.forests.specs.Told as forests

-- ---- the laws of `plant`: one for each shape of a reading's parts

-- a word; a piece of text with a byte
pub plant_word : (s : List ℕ) (x : Token) (p : Parts) (a : Bough) → is_text x ≡ false → plant s (leaf x p) a ≡ plant s p (with_word x a)
unfolding plant plant_token
plant_word s x p a e = rw e refl

pub plant_text : (s : List ℕ) (x : Token) (p : Parts) (a : Bough) → is_text x ≡ true → eqb x.value 0 ≡ false → plant s (leaf x p) a ≡ plant s p (with_text x a)
unfolding plant plant_token
plant_text s x p a e f = rw (e, f) refl

-- a phrase of its own; the rest of a phrase
pub plant_phrase : (s : List ℕ) (n : ℕ) (t : List Symbol) (p q : Parts) (a : Bough) → one_of n rest_kinds ≡ false → plant s (node n t p q) a ≡ plant s q (with_trees (eqb n PARENS) (plant s p bud) a)
unfolding plant
plant_phrase s n t p q a e = rw e refl

pub plant_rest : (s : List ℕ) (n : ℕ) (t : List Symbol) (p q : Parts) (a : Bough) → one_of n rest_kinds ≡ true → plant s (node n t p q) a ≡ plant s q (plant s p a)
unfolding plant
plant_rest s n t p q a e = rw e refl

-- a row over what the phrase has; a part that is there
pub plant_row : (s : List ℕ) (k : ℕ) (p : Parts) (a : Bough) → eqb k 0 ≡ false → plant s (mark k p) a ≡ plant s p (with_row s k a)
unfolding plant plant_note
plant_row s k p a e = rw e refl

pub plant_part : (s : List ℕ) (p : Parts) (a : Bough) → plant s (mark 0 p) a ≡ plant s p (record { twigs = a.twigs; part = 1 })
unfolding plant plant_note
plant_part s p a = refl

-- ---- lists of what a phrase has

pub items_append : (xs ys : List Twig) → items_of (xs ++ ys) ≡ items_of xs ++ items_of ys
items_append [] ys = refl
items_append (word x ∷ xs) ys = ap (λ (z : List Item). own x ∷ z) (items_append xs ys)
items_append (branch r k m ∷ xs) ys = ap (λ (z : List Item). child r ∷ z) (items_append xs ys)

pub items_branches : (b : Bool) (xs : List Twig) → items_of (branches b xs) ≡ children_of (items_of xs)
items_branches b [] = refl
items_branches b (word x ∷ xs) = items_branches b xs
items_branches b (branch r k m ∷ xs) = ap (λ (z : List Item). child r ∷ z) (items_branches b xs)

-- trees one behind the other
abbrev pub beside : Marked → Marked → Marked
beside no_more us = us
beside (stands k a m ts) us = stands k a m (beside ts us)

pub trees_append : (s : List ℕ) (xs ys : List Twig) → trees_in s (xs ++ ys) ≡ beside (trees_in s xs) (trees_in s ys)
trees_append s [] ys = refl
trees_append s (word x ∷ xs) ys = trees_append s xs ys
trees_append s (branch r k m ∷ xs) ys = ap (λ (z : Marked). stands k (label s r) m z) (trees_append s xs ys)

module _ (s : List ℕ) where
  -- ---- growing

  pub grown_append : (xs ys : List Row) (ts : Forest) → grown s (xs ++ ys) ts ≡ grown s ys (grown s xs ts)
  unfolding grown
  grown_append [] ys ts = refl
  grown_append (r ∷ xs) ys ts = grown_append xs ys (adopt (label s r) r.children none ts)

  -- the trees of a phrase on those before it, the last first; in front of others, the first first
  abbrev stacked : List Twig → Forest → Forest
  stacked [] ts = ts
  stacked (word x ∷ xs) ts = stacked xs ts
  stacked (branch r k m ∷ xs) ts = stacked xs (tree (label s r) (unmarked m) ts)

  abbrev onto : List Twig → Forest → Forest
  onto [] ts = ts
  onto (word x ∷ xs) ts = onto xs ts
  onto (branch r k m ∷ xs) ts = tree (label s r) (unmarked m) (onto xs ts)

  adopt_all : (a : Label) (xs : List Twig) (n : ℕ) (kids ts : Forest) → adopt a (count (items_of xs) + n) kids (stacked xs ts) ≡ adopt a n (onto xs kids) ts
  adopt_all a [] n kids ts = ap (λ (m : ℕ). adopt a m kids ts) {x = 0 + n} {y = n} (omega arith)
  adopt_all a (word x ∷ xs) n kids ts = adopt_all a xs n kids ts
  adopt_all a (branch r k m ∷ xs) n kids ts =
      let t = tree (label s r) (unmarked m) ts in
      ap (λ (i : ℕ). adopt a i kids (stacked xs t)) {x = suc (count (items_of xs)) + n} {y = count (items_of xs) + suc n} (omega arith) ∙ adopt_all a xs (suc n) kids t

  onto_none : (xs : List Twig) → onto xs none ≡ unmarked (trees_in s xs)
  unfolding unmarked
  onto_none [] = refl
  onto_none (word x ∷ xs) = onto_none xs
  onto_none (branch r k m ∷ xs) = ap (λ (z : Forest). tree (label s r) (unmarked m) z) (onto_none xs)

  -- a row over all that the phrase has
  adopt_phrase : (a : Label) (c : ℕ) (xs : List Twig) (ts : Forest) → c ≡ count (items_of xs) → adopt a c none (stacked xs ts) ≡ tree a (unmarked (trees_in s xs)) ts
  adopt_phrase a c xs ts e =
      ap (λ (m : ℕ). adopt a m none (stacked xs ts)) {x = c} {y = count (items_of xs) + 0} (omega (arith, e))
      ∙ adopt_all a xs 0 none ts
      ∙ ap (λ (z : Forest). tree a z ts) (onto_none xs)

  stacked_append : (xs ys : List Twig) (ts : Forest) → stacked (xs ++ ys) ts ≡ stacked ys (stacked xs ts)
  stacked_append [] ys ts = refl
  stacked_append (word x ∷ xs) ys ts = stacked_append xs ys ts
  stacked_append (branch r k m ∷ xs) ys ts = stacked_append xs ys (tree (label s r) (unmarked m) ts)

  stacked_branches : (b : Bool) (xs : List Twig) (ts : Forest) → stacked (branches b xs) ts ≡ stacked xs ts
  stacked_branches b [] ts = refl
  stacked_branches b (word x ∷ xs) ts = stacked_branches b xs ts
  stacked_branches b (branch r k m ∷ xs) ts = stacked_branches b xs (tree (label s r) (unmarked m) ts)

  -- what is told of trees one behind the other
  told_append : (xs ys : List Row) → told s (xs ++ ys) ≡ told s xs ++ told s ys
  told_append [] ys = refl
  told_append (r ∷ xs) ys = ap (λ (z : List Told). record { label = label s r; children = r.children; size = r.size } ∷ z) (told_append xs ys)

  tells_append : (xs ys : List Twig) → tells (unmarked (trees_in s (xs ++ ys))) ≡ tells (unmarked (trees_in s xs)) ++ tells (unmarked (trees_in s ys))
  unfolding unmarked tells
  tells_append [] ys = refl
  tells_append (word x ∷ xs) ys = tells_append xs ys
  tells_append (branch r k m ∷ xs) ys =
      let one : Told = record { label = label s r; children = trees (unmarked m); size = suc (forests.count (unmarked m)) } in
      ap (λ (z : List Told). tells (unmarked m) ++ (one ∷ z)) (tells_append xs ys) ∙ sym (append_assoc (tells (unmarked m)) (one ∷ tells (unmarked (trees_in s xs))) (tells (unmarked (trees_in s ys))))

  tells_branches : (b : Bool) (xs : List Twig) → unmarked (trees_in s (branches b xs)) ≡ unmarked (trees_in s xs)
  unfolding unmarked
  tells_branches b [] = refl
  tells_branches b (word x ∷ xs) = tells_branches b xs
  tells_branches b (branch r k m ∷ xs) = ap (λ (z : Forest). tree (label s r) (unmarked m) z) (tells_branches b xs)

  trees_count : (xs : List Twig) → trees (unmarked (trees_in s xs)) ≡ count (items_of xs)
  unfolding trees unmarked
  trees_count [] = refl
  trees_count (word x ∷ xs) = trees_count xs
  trees_count (branch r k m ∷ xs) = ap suc (trees_count xs)

  told_length : (xs : List Row) → length (told s xs) ≡ length xs
  told_length [] = refl
  told_length (r ∷ xs) = ap suc (told_length xs)

  pub tells_length : (f : Forest) → length (tells f) ≡ forests.count f
  unfolding tells forests.count
  tells_length none = refl
  tells_length (tree a kids ts) =
      let x : Told = record { label = a; children = trees kids; size = suc (forests.count kids) } in
      let h = tells_length kids in
      let k = tells_length ts in
      length-append (tells kids) (x ∷ tells ts) ∙ omega (arith, h, k)

  -- ---- a draft of rows and a bough of trees that say the same

  pub record Alike (a : Draft) (b : Bough) : Type 0 where
    pub items : items_of b.twigs ≡ a.items
    pub part : b.part ≡ a.part
    pub grows : (ts : Forest) → grown s a.rows ts ≡ stacked b.twigs ts
    pub tells_all : told s a.rows ≡ tells (unmarked (trees_in s b.twigs))
    pub treed : Treed a

  -- the rows written are as many as the trees have
  alike_sizes : {a : Draft} {b : Bough} → Alike a b → sizes a.items ≡ forests.count (unmarked (trees_in s b.twigs))
  alike_sizes {a} {b} h = rows_in_sizes a.items ∙ sym (trees_length h.treed) ∙ sym (told_length a.rows) ∙ ap length h.tells_all ∙ tells_length (unmarked (trees_in s b.twigs))

  -- one row over all
  over_all : {a : Draft} {b : Bough} → Alike a b → (r : Row) → r.children ≡ count a.items → r.size ≡ suc (sizes a.items)
      → ((ts : Forest) → grown s (a.rows ++ (r ∷ [])) ts ≡ tree (label s r) (unmarked (trees_in s b.twigs)) ts)
      × (told s (a.rows ++ (r ∷ [])) ≡ tells (tree (label s r) (unmarked (trees_in s b.twigs)) none))
  unfolding grown tells
  over_all {a} {b} h r c z = (grows, tells_over)
    where
      kids : Forest
      kids = unmarked (trees_in s b.twigs)

      among : r.children ≡ count (items_of b.twigs)
      among = c ∙ ap count (sym h.items)

      grows : (ts : Forest) → grown s (a.rows ++ (r ∷ [])) ts ≡ tree (label s r) kids ts
      grows ts = grown_append a.rows (r ∷ []) ts ∙ ap (λ (z : Forest). adopt (label s r) r.children none z) (h.grows ts) ∙ adopt_phrase (label s r) r.children b.twigs ts among

      one : ℕ → ℕ → Told
      one n m = record { label = label s r; children = n; size = m }

      tells_over : told s (a.rows ++ (r ∷ [])) ≡ tells kids ++ (one (trees kids) (suc (forests.count kids)) ∷ [])
      tells_over =
          told_append a.rows (r ∷ [])
          ∙ ap (λ (xs : List Told). xs ++ (one r.children r.size ∷ [])) h.tells_all
          ∙ ap (λ (n : ℕ). tells kids ++ (one n r.size ∷ [])) (among ∙ sym (trees_count b.twigs))
          ∙ ap (λ (n : ℕ). tells kids ++ (one (trees kids) n ∷ [])) (z ∙ ap suc (alike_sizes h))

  alike_note : (k : ℕ) {a : Draft} {b : Bough} → Alike a b → Treed (take_note k a) → Alike (take_note k a) (plant_note s k b)
  unfolding take_note plant_note unmarked
  alike_note k {a} {b} h t = go (eqb k 0) t
    where
      r : Row
      r = row_of k a.items a.part

      q : Row
      q = row_of k (items_of b.twigs) b.part

      same : q ≡ r
      same = ap (λ (xs : List Item). row_of k xs b.part) h.items ∙ ap (λ (n : ℕ). row_of k a.items n) h.part

      over : ((ts : Forest) → grown s (a.rows ++ (r ∷ [])) ts ≡ tree (label s r) (unmarked (trees_in s b.twigs)) ts) × (told s (a.rows ++ (r ∷ [])) ≡ tells (tree (label s r) (unmarked (trees_in s b.twigs)) none))
      over = over_all h r (row_children k a.items a.part) (row_size k a.items a.part)

      go : (c : Bool) → Treed (cond {A = Draft} c (record { rows = a.rows; items = a.items; part = 1 }) (add_row r a)) → Alike (cond {A = Draft} c (record { rows = a.rows; items = a.items; part = 1 }) (add_row r a)) (cond {A = Bough} c (record { twigs = b.twigs; part = 1 }) (with_row s k b))
      go true u = record { items = h.items; part = refl; grows = h.grows; tells_all = h.tells_all; treed = u }
      go false u = record {
        items = ap (λ (x : Row). child x ∷ []) same;
        part = refl;
        grows = λ ts. over.0 ts ∙ ap (λ (x : Row). tree (label s x) (unmarked (trees_in s b.twigs)) ts) (sym same);
        tells_all = over.1 ∙ ap (λ (x : Row). tells (tree (label s x) (unmarked (trees_in s b.twigs)) none)) (sym same);
        treed = u;
      }

  alike_token : (x : Token) {a : Draft} {b : Bough} → Alike a b → Treed (add_token x a) → Alike (add_token x a) (plant_token x b)
  unfolding add_token plant_token grown tells unmarked trees forests.count
  alike_token x {a} {b} h t = go (is_text x) (eqb x.value 0) t
    where
      w : Draft
      w = record { rows = a.rows; items = a.items ++ (own x ∷ []); part = a.part }

      v : Draft
      v = record { rows = a.rows ++ (text_row x ∷ []); items = a.items ++ (child (text_row x) ∷ []); part = a.part }

      a_word : Treed w → Alike w (with_word x b)
      a_word u = record {
        items = items_append b.twigs (word x ∷ []) ∙ ap (λ (xs : List Item). xs ++ (own x ∷ [])) h.items;
        part = h.part;
        grows = λ ts. h.grows ts ∙ sym (stacked_append b.twigs (word x ∷ []) ts);
        tells_all = h.tells_all ∙ sym (append-nil _) ∙ sym (tells_append b.twigs (word x ∷ []));
        treed = u;
      }

      a_text : Treed v → Alike v (with_text x b)
      a_text u = record {
        items = items_append b.twigs (branch (text_row x) 0 no_more ∷ []) ∙ ap (λ (xs : List Item). xs ++ (child (text_row x) ∷ [])) h.items;
        part = h.part;
        grows = λ ts. grown_append a.rows (text_row x ∷ []) ts ∙ ap (λ (z : Forest). tree (label s (text_row x)) none z) (h.grows ts) ∙ sym (stacked_append b.twigs (branch (text_row x) 0 no_more ∷ []) ts);
        tells_all = told_append a.rows (text_row x ∷ []) ∙ ap (λ (xs : List Told). xs ++ (record { label = label s (text_row x); children = 0; size = 1 } ∷ [])) h.tells_all ∙ sym (tells_append b.twigs (branch (text_row x) 0 no_more ∷ []));
        treed = u;
      }

      go : (c d : Bool) → Treed (cond {A = Draft} c (cond {A = Draft} d w v) w) → Alike (cond {A = Draft} c (cond {A = Draft} d w v) w) (cond {A = Bough} c (cond {A = Bough} d (with_word x b) (with_text x b)) (with_word x b))
      go true true u = a_word u
      go true false u = a_text u
      go false d u = a_word u

  abbrev joined : Draft → Draft → Draft
  joined a x = record { rows = a.rows ++ x.rows; items = a.items ++ children_of x.items; part = a.part }

  alike_phrase : (pair : Bool) {a x : Draft} {b y : Bough} → Alike a b → Alike x y → Treed (joined a x) → Alike (joined a x) (with_trees pair y b)
  alike_phrase pair {a} {x} {b} {y} h k t = record {
    items = items_append b.twigs (branches pair y.twigs) ∙ (λ i. h.items i ++ (items_branches pair y.twigs ∙ ap children_of k.items) i);
    part = h.part;
    grows = λ ts. grown_append a.rows x.rows ts ∙ ap (λ (z : Forest). grown s x.rows z) (h.grows ts) ∙ k.grows (stacked b.twigs ts) ∙ sym (stacked_branches pair y.twigs (stacked b.twigs ts)) ∙ sym (stacked_append b.twigs (branches pair y.twigs) ts);
    tells_all = told_append a.rows x.rows ∙ (λ i. h.tells_all i ++ (k.tells_all ∙ ap tells (sym (tells_branches pair y.twigs))) i) ∙ sym (tells_append b.twigs (branches pair y.twigs));
    treed = t;
  }

  alike_blank : Alike blank bud
  unfolding grown tells unmarked
  alike_blank = record { items = refl; part = refl; grows = λ ts. refl; tells_all = refl; treed = subtrees.none }

  -- the parts of a reading keep them alike
  pub alike : (p : Parts) {a : Draft} {b : Bough} → Alike a b → Alike (write p a) (plant s p b)
  unfolding write plant
  alike end h = h
  alike (leaf x p) {a} h = alike p (alike_token x h (write_trees (leaf x end) a h.treed))
  alike (mark k p) {a} h = alike p (alike_note k h (write_trees (mark k end) a h.treed))
  alike (node n t p q) {a} {b} h = go (one_of n rest_kinds) refl (alike q (alike p h)) (alike q (alike_phrase (eqb n PARENS) h (alike p alike_blank) (subst Treed (write_phrase TREE [] p end a refl) (write_trees (node TREE [] p end) a h.treed))))
    where
      go : (c : Bool) → one_of n rest_kinds ≡ c → Alike (write q (write p a)) (plant s q (plant s p b)) → Alike (write q (joined a (write p blank))) (plant s q (with_trees (eqb n PARENS) (plant s p bud) b)) → Alike (write (node n t p q) a) (plant s (node n t p q) b)
      go true e u v = subst (λ (x : Draft). Alike x (plant s (node n t p q) b)) (sym (write_rest n t p q a e)) (subst (Alike (write q (write p a))) (sym (plant_rest s n t p q b e)) u)
      go false e u v = subst (λ (x : Draft). Alike x (plant s (node n t p q) b)) (sym (write_phrase n t p q a e)) (subst (Alike (write q (joined a (write p blank)))) (sym (plant_phrase s n t p q b e)) v)

  -- ---- the theorem: the rows of a reading, grown, are its trees

  pub rows_grow : (len : ℕ) (p : Parts) → tree_of s (rows true len p) ≡ forest s true p
  unfolding rows rows_from marked marked_from unmarked
  rows_grow len p = (over_all (alike p alike_blank) (tree_row len (write p blank)) refl refl).0 none

  -- one expression leaves one tree
  pub expr_grows : (len : ℕ) (p : Parts) {r : Row} {k : ℕ} {kids : Marked} → (plant s p bud).twigs ≡ branch r k kids ∷ [] → tree_of s (rows false len p) ≡ forest s false p
  unfolding rows rows_from marked marked_from unmarked
  expr_grows len p e = (alike p alike_blank).grows none ∙ ap (λ (xs : List Twig). stacked xs none) e ∙ sym (ap (λ (xs : List Twig). unmarked (trees_in s xs)) e)

  -- what the table says of each row, spans set aside, is what the trees say
  pub rows_told : (whole : Bool) (len : ℕ) (p : Parts) → told s (rows whole len p) ≡ tells (forest s whole p)
  unfolding rows rows_from marked marked_from unmarked
  rows_told true len p = (over_all (alike p alike_blank) (tree_row len (write p blank)) refl refl).1
  rows_told false len p = (alike p alike_blank).tells_all
