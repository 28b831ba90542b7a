-- The walk through the declarations of a table, from the last one back.
use Rattle.std.specs.Prelude.{◌≡◌, List, [], ◌++◌, ℕ, ◌+◌, ◌-◌, ◌*◌, ◌<◌, length, get_or, Option, Some, None}
use Rattle.rows.specs.Rows.{width}
use Rattle.grammar.specs.Rows.{Row, flat}
use Rattle.grammar.specs.Subtrees.{Trees}
use Rattle.sheets.specs.Matches.{roots_from, Declares}

-- a table begins with so many rows, and these are its declarations
pub record Tabled (t : List ℕ) (n : ℕ) : Type 0 where
  pub rows : List Row
  pub rest : List ℕ
  pub ids : List ℕ
  pub table : t ≡ flat rows ++ rest
  pub count : length rows ≡ n
  pub declares : Declares rows ids

-- `left` declarations are to come, and their trees end before row `row`; `rest` are the indexes of those gone through
pub record Walk (rs : List Row) (ids : List ℕ) (left row : ℕ) (rest : List ℕ) : Type 0 where
  pub front : List Row
  pub after : List Row
  pub roots : List Row
  pub trees : Trees front roots
  pub rows : rs ≡ front ++ after
  pub place : length front ≡ row
  pub count : length roots ≡ left
  pub named : ids ≡ roots_from 0 roots ++ rest

-- the walk through the declarations of a table, as it begins
pub record Begins {t : List ℕ} {n : ℕ} (d : Tabled t n) (row left : ℕ) : Type 0 where
  pub walk : Walk d.rows d.ids left row []
  pub count : left ≡ length d.ids

-- a walk through the declarations of these rows
pub record Walking (t : List ℕ) (row left : ℕ) : Type 0 where
  pub rows : ℕ
  pub tabled : Tabled t rows
  pub rest : List ℕ
  pub walk : Walk tabled.rows tabled.ids left row rest

-- a step back: the declaration's number, and its row
abbrev pub Steps : List ℕ → ℕ → ℕ → Option (ℕ × ℕ) → ℕ → ℕ → Type 0
Steps t row left None row' left' = left ≡ 0
Steps t row left (Some p) row' left' = (0 < left) × (p.0 ≡ left - 1) × (p.1 ≡ row - 1) × (left' ≡ left - 1) × (row' ≡ row - get_or t ((row - 1) * width + 6) 0)
