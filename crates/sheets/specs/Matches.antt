-- C-21: "the rows are the table our reader makes for that source and the indexes name its declarations in order."
use Rattle.std.specs.Prelude.{◌≡◌, List, [], ◌∷◌, ◌++◌, ◌≢◌, ℕ, suc, ◌+◌, ◌-◌, length}
use Rattle.rows.specs.Kinds as kinds
use Rattle.grammar.specs.Rows.{Row}
use Rattle.grammar.specs.Subtrees.{Trees}

-- "the first that differs, is missing or is too many", by its number from 0: of rows, and of indexes.
pub data Differ {A : Type 0} : List A → List A → ℕ → Type 0 where
  other : {x y : A} {xs ys : List A} → x ≢ y → Differ (x ∷ xs) (y ∷ ys) 0
  missing : {y : A} {ys : List A} → Differ [] (y ∷ ys) 0
  too_many : {x : A} {xs : List A} → Differ (x ∷ xs) [] 0
  later : {x y : A} {xs ys : List A} {n : ℕ} → x ≡ y → Differ xs ys n → Differ (x ∷ xs) (y ∷ ys) (suc n)

-- The numbers of the roots' rows of trees that stand one behind the other from row n on. A root comes last of its tree, and its size says how many
-- rows that has (C-14).
abbrev pub roots_from : ℕ → List Row → List ℕ
roots_from n [] = []
roots_from n (r ∷ rs) = (n + r.size - 1) ∷ roots_from (n + r.size) rs

-- "its declarations in order": the children of the row of kind 43, which comes last; their trees stand before it.
pub record Declares (rows : List Row) (indexes : List ℕ) : Type 0 where
  pub below : List Row
  pub top : Row
  pub children : List Row
  pub last : rows ≡ below ++ (top ∷ [])
  pub kind : top.kind ≡ kinds.TREE
  pub trees : Trees below children
  pub count : top.children ≡ length children
  pub named : indexes ≡ roots_from 0 children
