-- Items that lie one behind the other between two places, and the rows of which they are.
use mathlib.Core.Path.{◌≡◌, refl, sym, ap, ◌∙◌, subst}
use mathlib.Core.List.{List, [], ◌∷◌, ◌++◌, append_assoc, append-nil}
use mathlib.Core.Bool.{Bool, true, false, cond}
use Prim.Native.Nat.{ℕ, suc, ◌+◌, ◌≤◌}
use lib.Dec.{T, eqb}
use native.Mathlib.Omega.{arith}
use Rattle.grammar.specs.Table.{literal_row}
use Rattle.grammar.specs.Rows.{Row, Item, own, child, start_of, end_of, starts, ends, count, sizes, sign_of, detail_for, children_of, literal_of_lem, row_of}
use Rattle.grammar.specs.Subtrees.{Trees}
use Rattle.grammar.specs.Subtrees as trees
use Rattle.grammar.proofs.Sizes.{row_size}
use Rattle.grammar.proofs.Subtrees.{rows_in, rows_in_count, rows_in_sizes, row_children}
use Rattle.spans.specs.Nested.{Inside, AllInside, nothing, also, Nested, none, more}

-- these are trees
pub nested_trees : {rs roots : List Row} → Nested rs roots → Trees rs roots
nested_trees none = trees.none
nested_trees (more r t u c z k a b) = trees.more r (nested_trees t) (nested_trees u) c z a b

pub nested_append : {rs roots xs tops : List Row} → Nested rs roots → Nested xs tops → Nested (rs ++ xs) (roots ++ tops)
nested_append {rs} {roots} t none = subst (λ (ys : List Row). Nested ys (roots ++ [])) (sym (append-nil rs)) (subst (Nested rs) (sym (append-nil roots)) t)
nested_append {rs} {roots} t (more {rs = ys} {roots = others} {below = below} r u v c z k a b) =
    more r (nested_append t u) v c z k (ap (λ (xs : List Row). rs ++ xs) a ∙ sym (append_assoc rs ys (below ++ (r ∷ [])))) (ap (λ (xs : List Row). roots ++ xs) b ∙ sym (append_assoc roots others (r ∷ [])))

-- from `lo` to `hi`, one behind the other
abbrev pub Within : ℕ → ℕ → List Item → Type 0
Within lo hi [] = lo ≤ hi
Within lo hi (x ∷ xs) = (lo ≤ start_of x) × (start_of x ≤ end_of x) × Within (end_of x) hi xs

pub within_le : (lo hi : ℕ) (xs : List Item) → Within lo hi xs → lo ≤ hi
within_le lo hi [] h = h
within_le lo hi (x ∷ xs) h = let k = within_le (end_of x) hi xs h.2 in omega (arith, h.0, h.1, k)

within_from : (lo mid hi : ℕ) (xs : List Item) → lo ≤ mid → Within mid hi xs → Within lo hi xs
within_from lo mid hi [] l h = omega (arith, l, h)
within_from lo mid hi (x ∷ xs) l h = (omega (arith, l, h.0), h.1, h.2)

pub within_to : (lo mid hi : ℕ) (xs : List Item) → mid ≤ hi → Within lo mid xs → Within lo hi xs
within_to lo mid hi [] l h = omega (arith, l, h)
within_to lo mid hi (x ∷ xs) l h = (h.0, h.1, within_to (end_of x) mid hi xs l h.2)

pub within_append : (lo mid hi : ℕ) (xs ys : List Item) → Within lo mid xs → Within mid hi ys → Within lo hi (xs ++ ys)
within_append lo mid hi [] ys h k = within_from lo mid hi ys h k
within_append lo mid hi (x ∷ xs) ys h k = (h.0, h.1, within_append (end_of x) mid hi xs ys h.2 k)

pub within_children : (lo hi : ℕ) (xs : List Item) → Within lo hi xs → Within lo hi (children_of xs)
within_children lo hi [] h = h
within_children lo hi (own x ∷ xs) h = within_from lo x.end hi (children_of xs) (omega (arith, h.0, h.1)) (within_children x.end hi xs h.2)
within_children lo hi (child r ∷ xs) h = (h.0, h.1, within_children r.end hi xs h.2)

-- where the items are some, they lie from the first one's start to the last one's end
abbrev pub some_item : List Item → Bool
some_item [] = false
some_item (x ∷ xs) = true

abbrev pub some_child : List Item → Bool
some_child [] = false
some_child (own x ∷ xs) = some_child xs
some_child (child r ∷ xs) = true

pub child_item : (xs : List Item) → T (some_child xs) → T (some_item xs)
child_item [] t = t
child_item (x ∷ xs) t = tt

ends_within : (lo hi : ℕ) (x : Item) (xs : List Item) → Within lo hi (x ∷ xs) → (end_of x ≤ ends (x ∷ xs)) × (ends (x ∷ xs) ≤ hi)
ends_within lo hi x [] h = (omega arith, h.2)
ends_within lo hi x (y ∷ xs) h = let k = ends_within (end_of x) hi y xs h.2 in (omega (arith, h.2.0, h.2.1, k.0), k.1)

-- rows from a place on, none of which reaches past another
rows_inside : (p : Row) (lo hi : ℕ) (xs : List Item) → p.start ≤ lo → hi ≤ p.end → Within lo hi xs → AllInside p (rows_in xs)
rows_inside p lo hi [] a e h = nothing
rows_inside p lo hi (own x ∷ xs) a e h = rows_inside p x.end hi xs (omega (arith, a, h.0, h.1)) e h.2
rows_inside p lo hi (child r ∷ xs) a e h =
    let k = within_le r.end hi xs h.2 in
    also {r = r} (record { start = omega (arith, a, h.0); end = omega (arith, e, k) }) (rows_inside p r.end hi xs (omega (arith, a, h.0, h.1)) e h.2)

-- the same items, up to the end of the last
tight : (lo hi : ℕ) (x : Item) (xs : List Item) → Within lo hi (x ∷ xs) → Within (start_of x) (ends (x ∷ xs)) (x ∷ xs)
tight lo hi x [] h = (omega arith, h.1, omega arith)
tight lo hi x (y ∷ xs) h = let k = tight (end_of x) hi y xs h.2 in (omega arith, h.1, (h.2.0, k.1, k.2))

-- a row over some items has their span
literal_span : (xs : List Item) (c z : ℕ) → ((literal_of_lem xs c z).start ≡ starts xs) × ((literal_of_lem xs c z).end ≡ ends xs)
literal_span [] c z = (refl, refl)
literal_span (own x ∷ xs) c z = (refl, refl)
literal_span (child r ∷ xs) c z = (refl, refl)

pub row_span : (k : ℕ) (xs : List Item) (part : ℕ) → ((row_of k xs part).start ≡ starts xs) × ((row_of k xs part).end ≡ ends xs)
unfolding row_of
row_span k xs part = go (literal_of_lem xs (count xs) (suc (sizes xs))) (record { kind = k; start = starts xs; end = ends xs; children = count xs; value = part; detail = detail_for k (sign_of xs); size = suc (sizes xs) }) (eqb k literal_row) (literal_span xs (count xs) (suc (sizes xs))) (refl, refl)
  where
    go : (l r : Row) (b : Bool) → (l.start ≡ starts xs) × (l.end ≡ ends xs) → (r.start ≡ starts xs) × (r.end ≡ ends xs) → ((cond b l r).start ≡ starts xs) × ((cond b l r).end ≡ ends xs)
    go l r true h k = h
    go l r false h k = k

module _ (lo hi : ℕ) (r : Row) where
  pub row_within : (xs : List Item) → T (some_item xs) → Within lo hi xs → r.start ≡ starts xs → r.end ≡ ends xs → Within lo hi (child r ∷ [])
  row_within [] t h a e = absurd t
  row_within (x ∷ xs) t h a e = let k = ends_within lo hi x xs h in (omega (arith, h.0, a), omega (arith, h.1, k.0, a, e), omega (arith, k.1, e))

  pub kids_inside : (xs : List Item) → Within lo hi xs → r.start ≡ starts xs → r.end ≡ ends xs → AllInside r (rows_in xs)
  kids_inside [] h a e = nothing
  kids_inside (x ∷ xs) h a e = rows_inside r (start_of x) (ends (x ∷ xs)) (x ∷ xs) (omega (arith, a)) (omega (arith, e)) (tight lo hi x xs h)

-- rows between two places lie in any row round them
pub all_inside : (p : Row) (lo hi : ℕ) (xs : List Item) → p.start ≤ lo → hi ≤ p.end → Within lo hi xs → AllInside p (rows_in xs)
all_inside = rows_inside

-- one row over all that a phrase has
pub nested_over : {rs : List Row} (xs : List Item) (r : Row) → Nested rs (rows_in xs) → r.children ≡ count xs → r.size ≡ suc (sizes xs) → AllInside r (rows_in xs) → Nested (rs ++ (r ∷ [])) (r ∷ [])
nested_over xs r t c z k = more r none t (c ∙ rows_in_count xs) (z ∙ ap suc (rows_in_sizes xs)) k refl refl

pub row_nested : {rs : List Row} (k : ℕ) (xs : List Item) (part lo hi : ℕ) → Nested rs (rows_in xs) → Within lo hi xs → Nested (rs ++ (row_of k xs part ∷ [])) (row_of k xs part ∷ [])
row_nested k xs part lo hi t h = let e = row_span k xs part in nested_over xs (row_of k xs part) t (row_children k xs part) (row_size k xs part) (kids_inside lo hi (row_of k xs part) xs h e.0 e.1)

inside_also : {p q : Row} {rs : List Row} → Inside p q → AllInside q rs → AllInside p rs
inside_also h nothing = nothing
inside_also h (also {r = r} k ks) = also {r = r} (record { start = omega (arith, h.start, k.start); end = omega (arith, h.end, k.end) }) (inside_also h ks)

inside_append : {p : Row} {xs ys : List Row} → AllInside p xs → AllInside p ys → AllInside p (xs ++ ys)
inside_append nothing k = k
inside_append (also h hs) k = also h (inside_append hs k)

inside_left : {p : Row} (xs ys : List Row) → AllInside p (xs ++ ys) → AllInside p xs
inside_left [] ys h = nothing
inside_left (x ∷ xs) ys (also h hs) = also h (inside_left xs ys hs)

inside_right : {p : Row} (xs ys : List Row) → AllInside p (xs ++ ys) → AllInside p ys
inside_right [] ys h = h
inside_right (x ∷ xs) ys (also h hs) = inside_right xs ys hs

inside_one : {p r : Row} → AllInside p (r ∷ []) → Inside p r
inside_one (also h hs) = h

-- a row that holds the roots of some trees holds all their rows
pub all_under : {p : Row} {rs roots : List Row} → Nested rs roots → AllInside p roots → AllInside p rs
all_under none h = nothing
all_under {p} (more {roots = roots} {kids = kids} r t u c z k a b) h =
    let tops : AllInside p (roots ++ (r ∷ [])) = subst (AllInside p) b h in
    let here : Inside p r = inside_one (inside_right roots (r ∷ []) tops) in
    subst (AllInside p) (sym a) (inside_append (all_under t (inside_left roots (r ∷ []) tops)) (inside_append (all_under u (inside_also here k)) (also here nothing)))
