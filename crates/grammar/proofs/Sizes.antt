-- C-14: the sizes of rows. A row's size counts the rows of its subtree, and the rows of a subtree stand together, its own last.
use mathlib.Core.Path.{◌≡◌, refl, ap}
use mathlib.Core.List.{List, [], ◌∷◌, ◌++◌}
use mathlib.Core.Bool.{Bool, true, false, cond}
use Prim.Native.Nat.{ℕ, suc, ◌+◌}
use lib.Dec.{eqb}
use lib.ListN.{length, length-append}
use native.Mathlib.Omega.{arith}
use Rattle.grammar.specs.Grammar.{Token}
use Rattle.grammar.specs.Table.{literal_row}
use Rattle.grammar.specs.Rows.{Row, Item, own, child, starts, ends, count, sizes, sign_of, detail_for, children_of, literal_of_lem, row_of, Draft, is_text, text_row, add_token}

pub sizes_append : (xs ys : List Item) → sizes (xs ++ ys) ≡ sizes xs + sizes ys
sizes_append [] ys = omega arith
sizes_append (own x ∷ xs) ys = sizes_append xs ys
sizes_append (child r ∷ xs) ys = let h = sizes_append xs ys in omega (arith, h)

pub sizes_children : (xs : List Item) → sizes (children_of xs) ≡ sizes xs
sizes_children [] = refl
sizes_children (own x ∷ xs) = sizes_children xs
sizes_children (child r ∷ xs) = ap (λ (n : ℕ). r.size + n) (sizes_children xs)

-- a row's size is one, and those of its children
literal_size : (xs : List Item) (c z : ℕ) → (literal_of_lem xs c z).size ≡ z
literal_size [] c z = refl
literal_size (own x ∷ xs) c z = refl
literal_size (child r ∷ xs) c z = refl

pub row_size : (k : ℕ) (xs : List Item) (part : ℕ) → (row_of k xs part).size ≡ suc (sizes xs)
unfolding row_of
row_size k xs part = go (literal_of_lem xs (count xs) (suc (sizes xs))) (record { kind = k; start = starts xs; end = ends xs; children = count xs; value = part; detail = detail_for k (sign_of xs); size = suc (sizes xs) }) (eqb k literal_row) (literal_size xs (count xs) (suc (sizes xs))) refl
  where
    go : (l r : Row) (b : Bool) → l.size ≡ suc (sizes xs) → r.size ≡ suc (sizes xs) → (cond b l r).size ≡ suc (sizes xs)
    go l r true h k = h
    go l r false h k = k

-- the rows of what a phrase has are all that it wrote
abbrev pub Sized : Draft → Type 0
Sized a = sizes a.items ≡ length a.rows

pub own_sized : (x : Token) (a : Draft) → Sized a → Sized (record { rows = a.rows; items = a.items ++ (own x ∷ []); part = a.part })
own_sized x a h = let o = sizes_append a.items (own x ∷ []) in omega (arith, o, h)

pub token_sized : (x : Token) (a : Draft) → Sized a → Sized (add_token x a)
unfolding add_token
token_sized x a h = go (sizes_append a.items (own x ∷ [])) (sizes_append a.items (child (text_row x) ∷ [])) (length-append a.rows (text_row x ∷ [])) (is_text x) (eqb x.value 0)
  where
    go : sizes (a.items ++ (own x ∷ [])) ≡ sizes a.items + 0 → sizes (a.items ++ (child (text_row x) ∷ [])) ≡ sizes a.items + 1 → length (a.rows ++ (text_row x ∷ [])) ≡ length a.rows + 1 → (b d : Bool) → Sized (cond {A = Draft} b (cond {A = Draft} d (record { rows = a.rows; items = a.items ++ (own x ∷ []); part = a.part }) (record { rows = a.rows ++ (text_row x ∷ []); items = a.items ++ (child (text_row x) ∷ []); part = a.part })) (record { rows = a.rows; items = a.items ++ (own x ∷ []); part = a.part }))
    go o c l true true = omega (arith, o, h)
    go o c l true false = omega (arith, c, l, h)
    go o c l false d = omega (arith, o, h)

pub phrase_sized : (a b : Draft) → Sized a → Sized b → Sized (record { rows = a.rows ++ b.rows; items = a.items ++ children_of b.items; part = a.part })
phrase_sized a b h k = let x = sizes_append a.items (children_of b.items) in let y = sizes_children b.items in let l = length-append a.rows b.rows in omega (arith, x, y, l, h, k)
