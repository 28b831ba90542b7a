-- What trees say of each row, in the table's order: all but its span.
use Rattle.std.specs.Prelude.{List, [], ◌∷◌, ◌++◌, ℕ, suc, ◌+◌}
use Rattle.grammar.specs.Rows.{Row}
use Rattle.canon.specs.Trees.{Label, Forest, none, tree, label}

pub record Told : Type 0 where
  pub label : Label
  pub children : ℕ
  pub size : ℕ

abbrev pub told : List ℕ → List Row → List Told
told s [] = []
told s (r ∷ rs) = record { label = label s r; children = r.children; size = r.size } ∷ told s rs

-- how many trees, and how many rows
unfoldable pub trees : Forest → ℕ
trees none = 0
trees (tree a kids ts) = suc (trees ts)

unfoldable pub count : Forest → ℕ
count none = 0
count (tree a kids ts) = suc (count kids) + count ts

-- "Children come before their parent, left to right."
unfoldable pub tells : Forest → List Told
tells none = []
tells (tree a kids ts) = tells kids ++ (record { label = a; children = trees kids; size = suc (count kids) } ∷ tells ts)

-- rows with spans set aside, and the texts of those that are copied
abbrev pub bare_told : List Told → List Row
bare_told [] = []
bare_told (x ∷ xs) = record { kind = x.label.kind; start = 0; end = 0; children = x.children; value = x.label.value; detail = x.label.detail; size = x.size } ∷ bare_told xs

abbrev pub texts_told : List Told → List (List ℕ)
texts_told [] = []
texts_told (x ∷ xs) = x.label.text ∷ texts_told xs

-- labels without their texts
abbrev pub textless : Label → Label
textless a = record { kind = a.kind; value = a.value; detail = a.detail; text = [] }

unfoldable pub shape : Forest → Forest
shape none = none
shape (tree a kids ts) = tree (textless a) (shape kids) (shape ts)
