-- C-14, of what the entry points (a) and (b) promise: "a seventh number to each row: how many rows its whole subtree has,
-- itself included." `tree`: (a), else (b); `tests`: whether `test` is a declaration; `size`: how many numbers the lent table
-- has.
use Rattle.std.specs.Prelude.{◌≡◌, List, [], ◌∷◌, ◌++◌, Bool, true, ℕ, ◌-◌, ◌*◌, length, replicate}
use Rattle.chars.specs.declared.Answer.{Answer}
use Rattle.rows.specs.Kinds as kinds
use Rattle.rows.specs.Rows.{width}
use Rattle.grammar.specs.Rows.{Row, flat}
use Rattle.grammar.specs.Subtrees.{EachRow}
use Rattle.answers.specs.Entries.{Permitted}

-- The table begins with as many rows as the count says, each has its subtree right before it, and the tree's row, which
-- comes last, has all of them in its own.
pub record SizedTable (tree : Bool) (size : ℕ) (a : Answer) (t : List ℕ) : Type 0 where
  pub rows : List Row
  pub table : t ≡ flat rows ++ replicate (size - width * length rows) 0
  pub count : a.count ≡ length rows
  pub subtrees : EachRow rows
  pub whole : tree ≡ true → (front : List Row) × (r : Row) × (rows ≡ front ++ (r ∷ [])) × (r.kind ≡ kinds.TREE) × (r.size ≡ a.count)

-- So for every accepted source.
pub record RowSizes (tests tree : Bool) (s : List ℕ) (size : ℕ) : Type 0 where
  pub accepted_sized : {a : Answer} {t : List ℕ} → Permitted tests tree s size a t → a.number ≡ 0 → SizedTable tree size a t
