-- The rows of a reading. "A row is six numbers: kind, start, end, children, value, detail. Children come before their
-- parent, left to right." C-14: "a seventh number to each row: how many rows its whole subtree has, itself included." The kinds have names in rows/specs/Kinds.antt, the table says where each is made; here stands
-- what a row holds.
use Rattle.std.specs.Prelude.{List, [], ◌∷◌, ◌++◌, Bool, true, false, cond, ℕ, suc, ◌+◌, eqb}
use Rattle.rows.specs.Kinds as kinds
use Rattle.grammar.specs.Words.{'+=', '-=', '*=', '/=', '%=', binary_signs, return_words, filter_words, text_then_hole, last_text}
use Rattle.grammar.specs.Grammar.{Token, Parts, end, leaf, node, mark, one_of}
use Rattle.grammar.specs.Table.{rest_kinds, literal_row}

pub record Row : Type 0 where
  pub kind : ℕ
  pub start : ℕ
  pub end : ℕ
  pub children : ℕ
  pub value : ℕ
  pub detail : ℕ
  pub size : ℕ

-- A row's numbers, in order.
abbrev pub numbers : Row → List ℕ
numbers r = r.kind ∷ r.start ∷ r.end ∷ r.children ∷ r.value ∷ r.detail ∷ r.size ∷ []

abbrev pub flat : List Row → List ℕ
flat [] = []
flat (r ∷ rs) = numbers r ++ flat rs

-- What a phrase has so far: words of its own, and rows that have no parent yet.
pub data Item : Type 0 where
  own : Token → Item
  child : Row → Item

abbrev pub start_of : Item → ℕ
start_of (own x) = x.start
start_of (child r) = r.start

abbrev pub end_of : Item → ℕ
end_of (own x) = x.end
end_of (child r) = r.end

-- "A span runs from the first to the last byte of its tokens, but where a node begins or ends with a child, that child's
-- row gives that end."
abbrev pub starts : List Item → ℕ
starts [] = 0
starts (x ∷ xs) = start_of x

abbrev pub ends : List Item → ℕ
ends [] = 0
ends (x ∷ []) = end_of x
ends (x ∷ y ∷ xs) = ends (y ∷ xs)

abbrev pub count : List Item → ℕ
count [] = 0
count (own x ∷ xs) = count xs
count (child r ∷ xs) = suc (count xs)

abbrev pub children_of : List Item → List Item
children_of [] = []
children_of (own x ∷ xs) = children_of xs
children_of (child r ∷ xs) = child r ∷ children_of xs

-- The rows of the children's subtrees.
abbrev pub sizes : List Item → ℕ
sizes [] = 0
sizes (own x ∷ xs) = sizes xs
sizes (child r ∷ xs) = r.size + sizes xs

-- The first word of its own.
abbrev pub sign_of : List Item → ℕ
sign_of [] = 0
sign_of (own x ∷ xs) = x.word
sign_of (child r ∷ xs) = sign_of xs

-- The place of a word in a list, from 1; 0 where it isn't there.
abbrev pub place_in : ℕ → List ℕ → ℕ
place_in c [] = 0
place_in c (x ∷ xs) = let k = place_in c xs in cond (eqb c x) 1 (cond (eqb k 0) 0 (suc k))

-- "20 binary (detail 1 to 13: `|| && == != < <= > >= + - * / %`)", "26 assign (detail 0, then 1 to 5 as listed above)",
-- "27 return form (detail 1, 2, 3)", "45 filter, filtermap (detail 1, 2)". "Unnamed value and detail are 0."
abbrev pub detail_for : ℕ → ℕ → ℕ
detail_for k sign =
    let binary = place_in sign binary_signs in
    let assign = place_in sign ('+=' ∷ '-=' ∷ '*=' ∷ '/=' ∷ '%=' ∷ []) in
    let returns = place_in sign return_words in
    let filters = place_in sign filter_words in
    cond (eqb k kinds.BINARY) binary (cond (eqb k kinds.ASSIGN) assign (cond (eqb k kinds.RETURN) returns (cond (eqb k kinds.FILTER) filters 0)))

-- A literal's row is what its token says: "Rows 10 to 14 hold their value (`true` 1, first octet highest), but a float 0."
abbrev pub literal_of_lem : List Item → ℕ → ℕ → Row
literal_of_lem [] c z = record { kind = kinds.NONE; start = 0; end = 0; children = c; value = 0; detail = 0; size = z }
literal_of_lem (own x ∷ xs) c z = record { kind = x.kind; start = x.start; end = ends (own x ∷ xs); children = c; value = x.value; detail = x.detail; size = z }
literal_of_lem (child r ∷ xs) c z = record { kind = r.kind; start = r.start; end = ends (child r ∷ xs); children = c; value = r.value; detail = r.detail; size = z }

-- The row of kind k over what the phrase has; "`(1: ..)`: value 1 if that part is there, else 0". Its size is one, and those of
-- its children.
unfoldable pub row_of : ℕ → List Item → ℕ → Row
row_of k xs part =
    let c : ℕ = count xs in
    let z : ℕ = suc (sizes xs) in
    let l : Row = literal_of_lem xs c z in
    let r : Row = record { kind = k; start = starts xs; end = ends xs; children = c; value = part; detail = detail_for k (sign_of xs); size = z } in
    cond (eqb k literal_row) l r

-- The rows written; what the phrase that is being read has; 1 if the part of which its row's value tells is there.
pub record Draft : Type 0 where
  pub rows : List Row
  pub items : List Item
  pub part : ℕ

abbrev pub blank : Draft
blank = record { rows = []; items = []; part = 0 }

abbrev pub add_row : Row → Draft → Draft
add_row r a = record { rows = a.rows ++ (r ∷ []); items = child r ∷ []; part = 0 }

-- A note: the part is there; or a row, which is then all that the phrase has.
unfoldable pub take_note : ℕ → Draft → Draft
take_note k a =
    let n : Draft = record { rows = a.rows; items = a.items; part = 1 } in
    let r : Draft = add_row (row_of k a.items a.part) a in
    cond (eqb k 0) n r

-- A word; or a piece of text, which is a row if it has a byte (C-11: "47 for a text part, value its final byte count
-- (empty ones give none)").
abbrev pub is_text : Token → Bool
is_text x = one_of x.word (text_then_hole ∷ last_text ∷ [])

abbrev pub text_row : Token → Row
text_row x = record { kind = kinds.TEXT; start = x.start; end = x.end; children = 0; value = x.value; detail = 0; size = 1 }

unfoldable pub add_token : Token → Draft → Draft
add_token x a =
    let w : Draft = record { rows = a.rows; items = a.items ++ (own x ∷ []); part = a.part } in
    let t : Draft = record { rows = a.rows ++ (text_row x ∷ []); items = a.items ++ (child (text_row x) ∷ []); part = a.part } in
    cond (is_text x) (cond (eqb x.value 0) w t) w

-- A phrase in a phrase begins with nothing and leaves its rows without a parent: so "parentheses round an expr give no
-- row and widen no span". The rest of a phrase goes on with what the phrase has.
abbrev pub enter : Bool → Draft → Draft
enter true a = a
enter false a = record { rows = a.rows; items = []; part = 0 }

abbrev pub leave : Bool → Draft → Draft → Draft
leave true a b = b
leave false a b = record { rows = b.rows; items = a.items ++ children_of b.items; part = a.part }

unfoldable pub write : Parts → Draft → Draft
write end a = a
write (leaf x p) a = write p (add_token x a)
write (node n s p q) a = let b = one_of n rest_kinds in write q (leave b a (write p (enter b a)))
write (mark k p) a = write p (take_note k a)

-- "Tree spans the source": its row comes last.
abbrev pub tree_row : ℕ → Draft → Row
tree_row len a = record { kind = kinds.TREE; start = 0; end = len; children = count a.items; value = 0; detail = 0; size = suc (sizes a.items) }

-- The rows of a tree, or of one expression, of a source of `len` bytes.
unfoldable pub rows_from : Bool → ℕ → Draft → List Row
rows_from true len a = a.rows ++ (tree_row len a ∷ [])
rows_from false len a = a.rows

unfoldable pub rows : Bool → ℕ → Parts → List Row
unfolding write take_note add_token row_of rows_from
rows tree len p = rows_from tree len (write p blank)

-- The nodes of a reading: its phrases that have a row, and its pieces of text that have a byte.
abbrev pub mark_nodes : ℕ → ℕ
mark_nodes k = cond (eqb k 0) 0 1

abbrev pub token_nodes : Token → ℕ
token_nodes x = cond (is_text x) (cond (eqb x.value 0) 0 1) 0

unfoldable pub nodes : Parts → ℕ
nodes end = 0
nodes (leaf x p) = token_nodes x + nodes p
nodes (node n s p q) = nodes p + nodes q
nodes (mark k p) = mark_nodes k + nodes p

-- The row of a phrase: the one that it leaves.
abbrev pub first_row : List Item → Row
first_row [] = record { kind = kinds.NONE; start = 0; end = 0; children = 0; value = 0; detail = 0; size = 0 }
first_row (own x ∷ xs) = first_row xs
first_row (child r ∷ xs) = r

unfoldable pub phrase_row : Parts → Row
unfolding write take_note add_token row_of
phrase_row p = first_row (write p blank).items

-- A path, in any number of pairs of parentheses: its row is one.
unfoldable pub is_path : Parts → Bool
unfolding phrase_row
is_path p = eqb (phrase_row p).kind 2
