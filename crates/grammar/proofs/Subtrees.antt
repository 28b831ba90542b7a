-- C-14: the rows of a reading are those of trees, children first; each has its subtree, of as many rows as its size says.
use mathlib.Core.Path.{◌≡◌, refl, sym, ap, ◌∙◌, subst}
use mathlib.Core.List.{List, [], ◌∷◌, ◌++◌, append_assoc, append-nil, head-eq_of_cons-eq, tail-eq_of_cons-eq}
use mathlib.Core.Bool.{Bool, true, false, cond}
use mathlib.Core.Logic.{◌⊎◌, inl, inr}
use Prim.Native.Nat.{ℕ, suc, ◌+◌}
use lib.Dec.{eqb}
use lib.ListN.{length, length-append}
use native.Mathlib.Omega.{arith}
use Rattle.grammar.specs.Grammar.{Token, Parts, end, leaf, node, mark, one_of}
use Rattle.grammar.specs.Table.{rest_kinds, literal_row}
use Rattle.grammar.specs.Rows.{Row, Item, own, child, starts, ends, count, sizes, sign_of, detail_for, children_of, literal_of_lem, row_of, Draft, blank, take_note, is_text, text_row, add_token, write, tree_row, rows_from, rows}
use Rattle.grammar.specs.Subtrees.{total, Trees, none, more, Subtree, EachRow}
use Rattle.grammar.proofs.Frame.{write_phrase, write_rest}
use Rattle.grammar.proofs.Sizes.{Sized, row_size}

pub total_append : (xs ys : List Row) → total (xs ++ ys) ≡ total xs + total ys
total_append [] ys = omega arith
total_append (r ∷ xs) ys = let h = total_append xs ys in omega (arith, h)

-- the sizes of the roots together are the number of rows
pub trees_length : {rs roots : List Row} → Trees rs roots → length rs ≡ total roots
trees_length none = refl
trees_length (more {rs = rs} {roots = roots} {below = below} {kids = kids} r t u c z a b) =
    let x = trees_length t in
    let y = trees_length u in
    let l : length (rs ++ (below ++ (r ∷ []))) ≡ length rs + (length below + 1) = length-append rs (below ++ (r ∷ [])) ∙ ap (λ (n : ℕ). length rs + n) (length-append below (r ∷ [])) in
    let s = total_append roots (r ∷ []) in
    ap length a ∙ omega (arith, x, y, l, s, z) ∙ sym (ap total b)

-- a row of two lists put together is one of the first or of the second
abbrev Cut : List Row → List Row → List Row → Row → List Row → Type 0
Cut xs ys before r after = ((rest : List Row) × (xs ≡ before ++ (r ∷ rest))) ⊎ ((front : List Row) × (ys ≡ front ++ (r ∷ after)) × (before ≡ xs ++ front))

cut : (xs ys before : List Row) (r : Row) (after : List Row) → xs ++ ys ≡ before ++ (r ∷ after) → Cut xs ys before r after
cut [] ys before r after e = inr (before, e, refl)
cut (x ∷ xs) ys [] r after e = inl (xs, ap (λ (y : Row). y ∷ xs) (head-eq_of_cons-eq e))
cut (x ∷ xs) ys (y ∷ before) r after e = go (head-eq_of_cons-eq e) (cut xs ys before r after (tail-eq_of_cons-eq e))
  where
    go : x ≡ y → Cut xs ys before r after → Cut (x ∷ xs) ys (y ∷ before) r after
    go k (inl h) = inl (h.0, λ i. k i ∷ h.1 i)
    go k (inr h) = inr (h.0, h.1, λ i. sym k i ∷ h.2 i)

-- more rows behind a table, or in front of it
behind : {rs : List Row} {i : ℕ} {r : Row} (ys : List Row) → Subtree rs i r → Subtree (rs ++ ys) i r
behind {r = r} ys s = record {
  before = s.before;
  below = s.below;
  after = s.after ++ ys;
  kids = s.kids;
  rows = ap (λ (xs : List Row). xs ++ ys) s.rows ∙ append_assoc s.before (s.below ++ (r ∷ s.after)) ys ∙ ap (λ (xs : List Row). s.before ++ xs) (append_assoc s.below (r ∷ s.after) ys);
  place = s.place;
  trees = s.trees;
  children = s.children;
  size = s.size;
  first = s.first;
}

in_front : {rs : List Row} {i : ℕ} {r : Row} (xs : List Row) → Subtree rs i r → Subtree (xs ++ rs) (length xs + i) r
in_front {r = r} xs s =
    let l = length-append xs s.before in
    let p = s.place in
    let f = s.first in
    record {
      before = xs ++ s.before;
      below = s.below;
      after = s.after;
      kids = s.kids;
      rows = ap (λ (ys : List Row). xs ++ ys) s.rows ∙ sym (append_assoc xs s.before (s.below ++ (r ∷ s.after)));
      place = omega (arith, l, p);
      trees = s.trees;
      children = s.children;
      size = s.size;
      first = omega (arith, l, f);
    }

-- a root has its subtree before it
root_row : {below kids : List Row} (r : Row) → Trees below kids → r.children ≡ length kids → r.size ≡ suc (total kids) → Subtree (below ++ (r ∷ [])) (length below) r
root_row {below = below} {kids = kids} r t c z = let l = trees_length t in record { before = []; below = below; after = []; kids = kids; rows = refl; place = omega arith; trees = t; children = c; size = z; first = omega (arith, l, z) }

not_none : (before : List Row) (r : Row) (after : List Row) → [] ≡ before ++ (r ∷ after) → ⊥
not_none before r after e = let k : 0 ≡ length before + suc (length after) = ap length e ∙ length-append before (r ∷ after) in omega (arith, k)

only_one : (x : Row) (front : List Row) (r : Row) (after : List Row) → x ∷ [] ≡ front ++ (r ∷ after) → (front ≡ []) × (x ≡ r)
only_one x [] r after e = (refl, head-eq_of_cons-eq e)
only_one x (y ∷ front) r after e = absurd (not_none front r after (tail-eq_of_cons-eq e))

-- every row has its subtree right before it
pub each_row : {rs roots : List Row} → Trees rs roots → EachRow rs
each_row none before r after e = absurd (not_none before r after e)
each_row (more {rs = rs} {below = below} {kids = kids} x t u c z a b) before r after e = subst (λ (ys : List Row). Subtree ys (length before) r) (sym a) (go (each_row t) (each_row u) (cut rs (below ++ (x ∷ [])) before r after (sym a ∙ e)))
  where
    under : EachRow below → (front : List Row) → Cut below (x ∷ []) front r after → Subtree (below ++ (x ∷ [])) (length front) r
    under g front (inl h) = behind (x ∷ []) (g front r h.0 h.1)
    under g front (inr h) =
        let o = only_one x h.0 r after h.1 in
        let l : length front ≡ length below = ap length h.2 ∙ length-append below h.0 ∙ ap (λ (ys : List Row). length below + length ys) o.0 ∙ omega arith in
        subst (λ (n : ℕ). Subtree (below ++ (x ∷ [])) n r) (sym l) (subst (Subtree (below ++ (x ∷ [])) (length below)) o.1 (root_row x u c z))

    go : EachRow rs → EachRow below → Cut rs (below ++ (x ∷ [])) before r after → Subtree (rs ++ (below ++ (x ∷ []))) (length before) r
    go f g (inl h) = behind (below ++ (x ∷ [])) (f before r h.0 h.1)
    go f g (inr h) = subst (λ (n : ℕ). Subtree (rs ++ (below ++ (x ∷ []))) n r) (sym (ap length h.2 ∙ length-append rs h.0)) (in_front rs (under g h.0 (cut below (x ∷ []) h.0 r after h.1)))

-- a row without children is its whole subtree
pub leaf_one : {rs : List Row} {i : ℕ} {r : Row} → Subtree rs i r → r.children ≡ 0 → r.size ≡ 1
leaf_one s c = s.size ∙ ap suc (no_kids s.kids (sym s.children ∙ c))
  where
    no_kids : (kids : List Row) → length kids ≡ 0 → total kids ≡ 0
    no_kids [] e = refl
    no_kids (k ∷ kids) e = absurd (omega (arith, e))

-- the rows that a phrase has
abbrev pub rows_in : List Item → List Row
rows_in [] = []
rows_in (own x ∷ xs) = rows_in xs
rows_in (child r ∷ xs) = r ∷ rows_in xs

pub rows_in_count : (xs : List Item) → count xs ≡ length (rows_in xs)
rows_in_count [] = refl
rows_in_count (own x ∷ xs) = rows_in_count xs
rows_in_count (child r ∷ xs) = ap suc (rows_in_count xs)

pub rows_in_sizes : (xs : List Item) → sizes xs ≡ total (rows_in xs)
rows_in_sizes [] = refl
rows_in_sizes (own x ∷ xs) = rows_in_sizes xs
rows_in_sizes (child r ∷ xs) = ap (λ (n : ℕ). r.size + n) (rows_in_sizes xs)

pub rows_in_append : (xs ys : List Item) → rows_in (xs ++ ys) ≡ rows_in xs ++ rows_in ys
rows_in_append [] ys = refl
rows_in_append (own x ∷ xs) ys = rows_in_append xs ys
rows_in_append (child r ∷ xs) ys = ap (λ (rs : List Row). r ∷ rs) (rows_in_append xs ys)

pub rows_in_children : (xs : List Item) → rows_in (children_of xs) ≡ rows_in xs
rows_in_children [] = refl
rows_in_children (own x ∷ xs) = rows_in_children xs
rows_in_children (child r ∷ xs) = ap (λ (rs : List Row). r ∷ rs) (rows_in_children xs)

-- a row has the children that its phrase has
literal_children : (xs : List Item) (c z : ℕ) → (literal_of_lem xs c z).children ≡ c
literal_children [] c z = refl
literal_children (own x ∷ xs) c z = refl
literal_children (child r ∷ xs) c z = refl

pub row_children : (k : ℕ) (xs : List Item) (part : ℕ) → (row_of k xs part).children ≡ count xs
unfolding row_of
row_children k xs part = go (literal_of_lem xs (count xs) (suc (sizes xs))) (record { kind = k; start = starts xs; end = ends xs; children = count xs; value = part; detail = detail_for k (sign_of xs); size = suc (sizes xs) }) (eqb k literal_row) (literal_children xs (count xs) (suc (sizes xs))) refl
  where
    go : (l r : Row) (b : Bool) → l.children ≡ count xs → r.children ≡ count xs → (cond b l r).children ≡ count xs
    go l r true h k = h
    go l r false h k = k

trees_append : {rs roots xs tops : List Row} → Trees rs roots → Trees xs tops → Trees (rs ++ xs) (roots ++ tops)
trees_append {rs} {roots} t none = subst (λ (ys : List Row). Trees ys (roots ++ [])) (sym (append-nil rs)) (subst (Trees rs) (sym (append-nil roots)) t)
trees_append {rs} {roots} t (more {rs = ys} {roots = others} {below = below} r u v c z a b) = more r (trees_append t u) v c z (ap (λ (xs : List Row). rs ++ xs) a ∙ sym (append_assoc rs ys (below ++ (r ∷ [])))) (ap (λ (xs : List Row). roots ++ xs) b ∙ sym (append_assoc roots others (r ∷ [])))

-- the rows written are trees whose roots are the rows that the phrase has
abbrev pub Treed : Draft → Type 0
Treed a = Trees a.rows (rows_in a.items)

over_all : {rs : List Row} (xs : List Item) (r : Row) → Trees rs (rows_in xs) → r.children ≡ count xs → r.size ≡ suc (sizes xs) → Trees (rs ++ (r ∷ [])) (r ∷ [])
over_all xs r t c z = more r none t (c ∙ rows_in_count xs) (z ∙ ap suc (rows_in_sizes xs)) refl refl

note_trees : (k : ℕ) (a : Draft) → Treed a → Treed (take_note k a)
unfolding take_note
note_trees k a t = go (eqb k 0)
  where
    go : (b : Bool) → Treed (cond {A = Draft} b (record { rows = a.rows; items = a.items; part = 1 }) (record { rows = a.rows ++ (row_of k a.items a.part ∷ []); items = child (row_of k a.items a.part) ∷ []; part = 0 }))
    go true = t
    go false = over_all a.items (row_of k a.items a.part) t (row_children k a.items a.part) (row_size k a.items a.part)

token_trees : (x : Token) (a : Draft) → Treed a → Treed (add_token x a)
unfolding add_token
token_trees x a t = go (is_text x) (eqb x.value 0)
  where
    word : Trees a.rows (rows_in (a.items ++ (own x ∷ [])))
    word = subst (Trees a.rows) (sym (rows_in_append a.items (own x ∷ []) ∙ append-nil (rows_in a.items))) t

    text : Trees (a.rows ++ (text_row x ∷ [])) (rows_in (a.items ++ (child (text_row x) ∷ [])))
    text = more (text_row x) t none refl refl refl (rows_in_append a.items (child (text_row x) ∷ []))

    go : (b d : Bool) → Treed (cond {A = Draft} b (cond {A = Draft} d (record { rows = a.rows; items = a.items ++ (own x ∷ []); part = a.part }) (record { rows = a.rows ++ (text_row x ∷ []); items = a.items ++ (child (text_row x) ∷ []); part = a.part })) (record { rows = a.rows; items = a.items ++ (own x ∷ []); part = a.part }))
    go true true = word
    go true false = text
    go false d = word

phrase_trees : (a b : Draft) → Treed a → Treed b → Treed (record { rows = a.rows ++ b.rows; items = a.items ++ children_of b.items; part = a.part })
phrase_trees a b t u = subst (Trees (a.rows ++ b.rows)) (sym (rows_in_append a.items (children_of b.items) ∙ ap (λ (rs : List Row). rows_in a.items ++ rs) (rows_in_children b.items))) (trees_append t u)

-- so are those of any parts
pub write_trees : (p : Parts) (a : Draft) → Treed a → Treed (write p a)
unfolding write
write_trees end a t = t
write_trees (leaf x p) a t = write_trees p (add_token x a) (token_trees x a t)
write_trees (mark k p) a t = write_trees p (take_note k a) (note_trees k a t)
write_trees (node n s p q) a t = go (write_trees q (write p a) (write_trees p a t)) (write_trees q (record { rows = a.rows ++ (write p blank).rows; items = a.items ++ children_of (write p blank).items; part = a.part }) (phrase_trees a (write p blank) t (write_trees p blank none))) (one_of n rest_kinds) refl
  where
    go : Treed (write q (write p a)) → Treed (write q (record { rows = a.rows ++ (write p blank).rows; items = a.items ++ children_of (write p blank).items; part = a.part })) → (b : Bool) → one_of n rest_kinds ≡ b → Treed (write (node n s p q) a)
    go x y true e = subst Treed (sym (write_rest n s p q a e)) x
    go x y false e = subst Treed (sym (write_phrase n s p q a e)) y

-- so what a reading has and what it wrote are the same rows
pub write_sized : (p : Parts) → Sized (write p blank)
write_sized p = rows_in_sizes (write p blank).items ∙ sym (trees_length (write_trees p blank none))

-- the rows of a reading are those of trees
pub rows_trees : (tree : Bool) (len : ℕ) (p : Parts) → (roots : List Row) × Trees (rows tree len p) roots
unfolding rows rows_from
rows_trees true len p = let a = write p blank in (tree_row len a ∷ [], over_all a.items (tree_row len a) (write_trees p blank none) refl refl)
rows_trees false len p = (rows_in (write p blank).items, write_trees p blank none)

-- the tree's row comes last
pub tree_last : (len : ℕ) (p : Parts) → rows true len p ≡ (write p blank).rows ++ (tree_row len (write p blank) ∷ [])
unfolding rows rows_from
tree_last len p = refl

-- and its size is the number of all rows
pub tree_count : (len : ℕ) (p : Parts) → (tree_row len (write p blank)).size ≡ length (rows true len p)
unfolding rows rows_from
tree_count len p = let a = write p blank in let h = write_sized p in let l = length-append a.rows (tree_row len a ∷ []) in omega (arith, h, l)
