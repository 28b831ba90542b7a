-- Spans set aside: the same tokens, readings and rows with no bytes.
use Rattle.std.specs.Prelude.{List, [], ◌∷◌}
use Rattle.grammar.specs.Grammar.{Token, Parts, end, leaf, node, mark}
use Rattle.grammar.specs.Rows.{Row, Item, own, child, Draft}

abbrev pub bare_token : Token → Token
bare_token x = record { word = x.word; start = 0; end = 0; holds = x.holds; kind = x.kind; value = x.value; detail = x.detail }

unfoldable pub bare : Parts → Parts
bare end = end
bare (leaf x p) = leaf (bare_token x) (bare p)
bare (node n a p q) = node n a (bare p) (bare q)
bare (mark k p) = mark k (bare p)

abbrev pub bare_row : Row → Row
bare_row r = record { kind = r.kind; start = 0; end = 0; children = r.children; value = r.value; detail = r.detail; size = r.size }

abbrev pub bare_rows : List Row → List Row
bare_rows [] = []
bare_rows (r ∷ rs) = bare_row r ∷ bare_rows rs

abbrev pub bare_items : List Item → List Item
bare_items [] = []
bare_items (own x ∷ xs) = own (bare_token x) ∷ bare_items xs
bare_items (child r ∷ xs) = child (bare_row r) ∷ bare_items xs

abbrev pub bare_draft : Draft → Draft
bare_draft a = record { rows = bare_rows a.rows; items = bare_items a.items; part = a.part }
