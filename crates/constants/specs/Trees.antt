-- The tree of an expression: its rows, as the table has them, with those under each.
use Rattle.std.specs.Prelude.{◌≡◌, List, [], ◌∷◌, ◌++◌, ℕ, zero, suc, ◌+◌, ◌*◌, get_or}
use Rattle.rows.specs.Rows.{width}
use Rattle.grammar.specs.Rows.{Row}

-- A row, the trees under it, the trees after it.
pub data Forest : Type 0 where
  none : Forest
  tree : Row → Forest → Forest → Forest

-- "Children come before their parent, left to right."
unfoldable pub rows_of : Forest → List Row
rows_of none = []
rows_of (tree r kids ts) = rows_of kids ++ (r ∷ rows_of ts)

-- how many trees, and how many rows
unfoldable pub trees : Forest → ℕ
trees none = 0
trees (tree r kids ts) = suc (trees ts)

unfoldable pub count : Forest → ℕ
count none = 0
count (tree r kids ts) = count ts + suc (count kids)

-- Each row's numbers say how many trees are under it, and "how many rows its whole subtree has, itself included" (C-14).
pub data Grown : Forest → Type 0 where
  grown_none : Grown none
  grown_tree : {r : Row} {kids ts : Forest} → r.children ≡ trees kids → r.size ≡ suc (count kids) → Grown kids → Grown ts → Grown (tree r kids ts)

-- ---- rows in a table: row i, from 0, has the numbers from i * width on

abbrev pub row_at : List ℕ → ℕ → Row
row_at t i =
    record { kind = get_or t (i * width) 0; start = get_or t (i * width + 1) 0; end = get_or t (i * width + 2) 0; children = get_or t (i * width + 3) 0; value = get_or t (i * width + 4) 0; detail = get_or t (i * width + 5) 0; size = get_or t (i * width + 6) 0 }

-- n rows from row i on
unfoldable pub rows_from : List ℕ → ℕ → ℕ → List Row
rows_from t i zero = []
rows_from t i (suc n) = row_at t i ∷ rows_from t (suc i) n
