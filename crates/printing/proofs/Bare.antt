-- The rows of a reading without bytes are its rows without bytes: so two readings that differ in bytes alone have the same tree.
use mathlib.Core.Path.{◌≡◌, refl, sym, ap, subst, ◌∙◌}
use mathlib.Core.List.{List, [], ◌∷◌, ◌++◌}
use mathlib.Core.Bool.{Bool, true, false, cond}
use Prim.Native.Nat.{ℕ, suc, ◌+◌}
use lib.Dec.{eqb}
use Rattle.rows.specs.Kinds as kinds
use Rattle.grammar.specs.Grammar.{Token, Parts, end, leaf, node, mark, one_of}
use Rattle.grammar.specs.Table.{rest_kinds, literal_row}
use Rattle.grammar.specs.Rows.{Row, Item, own, child, Draft, starts, ends, count, children_of, sizes, sign_of, detail_for, literal_of_lem, row_of, add_row, take_note, is_text, text_row, add_token, enter, leave, write, blank, tree_row, rows_from, rows, first_row, phrase_row, is_path}
use Rattle.printing.specs.Alike.{Match, match_end, match_leaf, match_node, match_mark}
use Rattle.printing.specs.Bare.{bare_token, bare, bare_row, bare_rows, bare_items, bare_draft}

pub rows_two : (xs ys : List Row) → bare_rows (xs ++ ys) ≡ bare_rows xs ++ bare_rows ys
rows_two [] ys = refl
rows_two (x ∷ xs) ys = ap (λ (z : List Row). bare_row x ∷ z) (rows_two xs ys)

pub items_two : (xs ys : List Item) → bare_items (xs ++ ys) ≡ bare_items xs ++ bare_items ys
items_two [] ys = refl
items_two (own x ∷ xs) ys = ap (λ (z : List Item). own (bare_token x) ∷ z) (items_two xs ys)
items_two (child r ∷ xs) ys = ap (λ (z : List Item). child (bare_row r) ∷ z) (items_two xs ys)

starts_none : (xs : List Item) → starts (bare_items xs) ≡ 0
starts_none [] = refl
starts_none (own x ∷ xs) = refl
starts_none (child r ∷ xs) = refl

ends_none : (xs : List Item) → ends (bare_items xs) ≡ 0
ends_none [] = refl
ends_none (own x ∷ []) = refl
ends_none (child r ∷ []) = refl
ends_none (own x ∷ own y ∷ xs) = ends_none (own y ∷ xs)
ends_none (own x ∷ child y ∷ xs) = ends_none (child y ∷ xs)
ends_none (child r ∷ own y ∷ xs) = ends_none (own y ∷ xs)
ends_none (child r ∷ child y ∷ xs) = ends_none (child y ∷ xs)

pub count_same : (xs : List Item) → count (bare_items xs) ≡ count xs
count_same [] = refl
count_same (own x ∷ xs) = count_same xs
count_same (child r ∷ xs) = ap suc (count_same xs)

sign_same : (xs : List Item) → sign_of (bare_items xs) ≡ sign_of xs
sign_same [] = refl
sign_same (own x ∷ xs) = refl
sign_same (child r ∷ xs) = sign_same xs

children_same : (xs : List Item) → children_of (bare_items xs) ≡ bare_items (children_of xs)
children_same [] = refl
children_same (own x ∷ xs) = children_same xs
children_same (child r ∷ xs) = ap (λ (z : List Item). child (bare_row r) ∷ z) (children_same xs)

pub sizes_same : (xs : List Item) → sizes (bare_items xs) ≡ sizes xs
sizes_same [] = refl
sizes_same (own x ∷ xs) = sizes_same xs
sizes_same (child r ∷ xs) = ap (λ (n : ℕ). r.size + n) (sizes_same xs)

literal_same : (xs : List Item) (c z : ℕ) → literal_of_lem (bare_items xs) c z ≡ bare_row (literal_of_lem xs c z)
literal_same [] c z = refl
literal_same (own x ∷ xs) c z = rw (ends_none (own x ∷ xs)) refl
literal_same (child r ∷ xs) c z = rw (ends_none (child r ∷ xs)) refl

row_same : (k : ℕ) (xs : List Item) (part : ℕ) → row_of k (bare_items xs) part ≡ bare_row (row_of k xs part)
unfolding row_of
row_same k xs part = go (eqb k literal_row)
  where
    plain : List Item → Row
    plain ys = record { kind = k; start = starts ys; end = ends ys; children = count ys; value = part; detail = detail_for k (sign_of ys); size = suc (sizes ys) }

    go : (b : Bool) → cond b (literal_of_lem (bare_items xs) (count (bare_items xs)) (suc (sizes (bare_items xs)))) (plain (bare_items xs)) ≡ bare_row (cond b (literal_of_lem xs (count xs) (suc (sizes xs))) (plain xs))
    go true = ap (λ (n : ℕ). literal_of_lem (bare_items xs) n (suc (sizes (bare_items xs)))) (count_same xs) ∙ ap (λ (n : ℕ). literal_of_lem (bare_items xs) (count xs) (suc n)) (sizes_same xs) ∙ literal_same xs (count xs) (suc (sizes xs))
    go false = rw (starts_none xs, ends_none xs, count_same xs, sign_same xs, sizes_same xs) refl

note_same : (k : ℕ) (a : Draft) → take_note k (bare_draft a) ≡ bare_draft (take_note k a)
unfolding take_note
note_same k a = go (eqb k 0)
  where
    r : Row
    r = row_of k a.items a.part

    go : (b : Bool) → cond b (record { rows = bare_rows a.rows; items = bare_items a.items; part = 1 }) (add_row (row_of k (bare_items a.items) a.part) (bare_draft a)) ≡ bare_draft (cond b (record { rows = a.rows; items = a.items; part = 1 }) (add_row r a))
    go true = refl
    go false = rw (row_same k a.items a.part, rows_two a.rows (r ∷ [])) refl

token_same : (x : Token) (a : Draft) → add_token (bare_token x) (bare_draft a) ≡ bare_draft (add_token x a)
unfolding add_token
token_same x a = go (is_text x) (eqb x.value 0)
  where
    word : Draft → Token → Draft
    word d y = record { rows = d.rows; items = d.items ++ (own y ∷ []); part = d.part }

    piece : Draft → Token → Draft
    piece d y = record { rows = d.rows ++ (text_row y ∷ []); items = d.items ++ (child (text_row y) ∷ []); part = d.part }

    go : (b c : Bool) → cond b (cond c (word (bare_draft a) (bare_token x)) (piece (bare_draft a) (bare_token x))) (word (bare_draft a) (bare_token x)) ≡ bare_draft (cond b (cond c (word a x) (piece a x)) (word a x))
    go true true = rw (items_two a.items (own x ∷ [])) refl
    go true false = rw (items_two a.items (child (text_row x) ∷ []), rows_two a.rows (text_row x ∷ [])) refl
    go false c = rw (items_two a.items (own x ∷ [])) refl

enter_same : (b : Bool) (a : Draft) → enter b (bare_draft a) ≡ bare_draft (enter b a)
enter_same true a = refl
enter_same false a = refl

leave_same : (b : Bool) (a c : Draft) → leave b (bare_draft a) (bare_draft c) ≡ bare_draft (leave b a c)
leave_same true a c = refl
leave_same false a c = rw (items_two a.items (children_of c.items), children_same c.items) refl

pub write_bare : (p : Parts) (a : Draft) → write (bare p) (bare_draft a) ≡ bare_draft (write p a)
unfolding write bare
write_bare end a = refl
write_bare (leaf x p) a = ap (write (bare p)) (token_same x a) ∙ write_bare p (add_token x a)
write_bare (node n s p q) a =
    let b = one_of n rest_kinds in
    ap (λ (d : Draft). write (bare q) (leave b (bare_draft a) (write (bare p) d))) (enter_same b a)
    ∙ ap (λ (d : Draft). write (bare q) (leave b (bare_draft a) d)) (write_bare p (enter b a))
    ∙ ap (write (bare q)) (leave_same b a (write p (enter b a)))
    ∙ write_bare q (leave b a (write p (enter b a)))
write_bare (mark k p) a = ap (write (bare p)) (note_same k a) ∙ write_bare p (take_note k a)

-- whether a phrase is a path doesn't depend on its bytes
first_same : (xs : List Item) → (first_row (bare_items xs)).kind ≡ (first_row xs).kind
first_same [] = refl
first_same (own x ∷ xs) = first_same xs
first_same (child r ∷ xs) = refl

pub path_bare : (p : Parts) → is_path (bare p) ≡ is_path p
unfolding is_path phrase_row
path_bare p = ap (λ (d : Draft). eqb (first_row d.items).kind 2) (write_bare p blank) ∙ ap (λ (n : ℕ). eqb n 2) (first_same (write p blank).items)

-- the rows without bytes are those of the reading without bytes
from_bare : (tree : Bool) (len : ℕ) (a : Draft) → bare_rows (rows_from tree len a) ≡ rows_from tree 0 (bare_draft a)
unfolding rows_from
from_bare true len a = rows_two a.rows (tree_row len a ∷ []) ∙ ap (λ (n : ℕ). bare_rows a.rows ++ (record { kind = kinds.TREE; start = 0; end = 0; children = n; value = 0; detail = 0; size = suc (sizes a.items) } ∷ [])) (sym (count_same a.items))
    ∙ ap (λ (n : ℕ). bare_rows a.rows ++ (record { kind = kinds.TREE; start = 0; end = 0; children = count (bare_items a.items); value = 0; detail = 0; size = suc n } ∷ [])) (sym (sizes_same a.items))
from_bare false len a = refl

pub rows_bare : (tree : Bool) (len : ℕ) (p : Parts) → bare_rows (rows tree len p) ≡ rows tree 0 (bare p)
unfolding rows
rows_bare tree len p = from_bare tree len (write p blank) ∙ ap (rows_from tree 0) (sym (write_bare p blank))

-- so readings that differ in bytes alone have the same tree
pub same_tree : (tree : Bool) (len len' : ℕ) (p q : Parts) → bare p ≡ bare q → bare_rows (rows tree len p) ≡ bare_rows (rows tree len' q)
same_tree tree len len' p q e = rows_bare tree len p ∙ ap (rows tree 0) e ∙ sym (rows_bare tree len' q)

pub bare_match : {p q : Parts} → Match (λ x y. bare_token x ≡ bare_token y) p q → bare p ≡ bare q
unfolding bare
bare_match match_end = refl
bare_match (match_leaf e m) = cc (e, bare_match m)
bare_match (match_node m k) = cc (bare_match m, bare_match k)
bare_match (match_mark m) = cc (bare_match m)

pub path_match : {p q : Parts} → Match (λ x y. bare_token x ≡ bare_token y) p q → is_path p ≡ is_path q
path_match {p} {q} m = sym (path_bare p) ∙ ap is_path (bare_match m) ∙ path_bare q
