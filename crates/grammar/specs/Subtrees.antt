-- C-14: "how many rows its whole subtree has, itself included". "Children come before their parent, left to right", so a
-- row's subtree is rows right before it, and the row.
use Rattle.std.specs.Prelude.{◌≡◌, List, [], ◌∷◌, ◌++◌, ℕ, suc, ◌+◌, length}
use Rattle.grammar.specs.Rows.{Row}

-- The sizes of rows together.
abbrev pub total : List Row → ℕ
total [] = 0
total (r ∷ rs) = r.size + total rs

-- The rows of some trees, one behind the other, and the trees' roots: none; or one tree more, whose root r stands behind
-- the trees of its children.
pub data Trees : List Row → List Row → Type 0 where
  none : Trees [] []
  more : {all tops rs roots below kids : List Row} (r : Row) → Trees rs roots → Trees below kids → r.children ≡ length kids → r.size ≡ suc (total kids) → all ≡ rs ++ (below ++ (r ∷ [])) → tops ≡ roots ++ (r ∷ []) → Trees all tops

-- Row i of the table is r, and right before it stand the trees of its children, `below`; i counts from 0.
pub record Subtree (rs : List Row) (i : ℕ) (r : Row) : Type 0 where
  pub before : List Row
  pub below : List Row
  pub after : List Row
  pub kids : List Row
  pub rows : rs ≡ before ++ (below ++ (r ∷ after))
  pub place : length before + length below ≡ i
  pub trees : Trees below kids
  pub children : r.children ≡ length kids
  pub size : r.size ≡ suc (total kids)
  -- the subtree of row i is the rows i + 1 - size to i
  pub first : length before + r.size ≡ suc i

-- Every row of a table has its subtree.
abbrev pub EachRow : List Row → Type 0
EachRow rs = (before : List Row) (r : Row) (after : List Row) → rs ≡ before ++ (r ∷ after) → Subtree rs (length before) r
