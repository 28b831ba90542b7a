-- C-15: "given a finished table without its zeros and a byte position, which leaf, last in table order, has a span that holds
-- that byte". The answer to any table and any position: there is one, and only one (proofs/Search.antt: `an_answer`,
-- `one_answer`).
use Rattle.std.specs.Prelude.{◌≡◌, ℕ, zero, suc, ◌-◌, List, true, false, ◌&&◌, cond}
use Rattle.chars.specs.declared.Answer.{Answer}
use Rattle.rows.specs.Rows.{room}
use Rattle.nodes.specs.declared.Node.{Node}
use Rattle.nodes.specs.Nodes.{node_at, holds, is_leaf, wrong_size}

-- "new 12, size wrong in a visited row, before new 13, no leaf there, both at 0, 0"
abbrev pub WRONG_SIZE : ℕ
WRONG_SIZE = 12

abbrev pub NO_LEAF : ℕ
NO_LEAF = 13

abbrev pub refusal : ℕ → Answer
refusal number = record { number = number; start = 0; end = 0; count = 0 }

-- "the leaf's span as place and its index from 0 as count"
abbrev pub found : ℕ → Node → Answer
found i r = record { number = 0; start = r.start; end = r.end; count = i }

-- What the search answers where the first n rows are left.
pub data Search (table : List ℕ) (position : ℕ) : ℕ → Answer → Type 0 where
  -- no row is left
  none : Search table position 0 (refusal NO_LEAF)
  -- "only the rows the search comes to are tested for that, before their span"
  wrong : {i : ℕ} → wrong_size (suc i) (node_at table i) ≡ true → Search table position (suc i) (refusal WRONG_SIZE)
  -- "it ends at the first leaf that holds the byte"
  leaf : {i : ℕ} → wrong_size (suc i) (node_at table i) ≡ false → holds position (node_at table i) ≡ true → is_leaf (node_at table i) ≡ true
      → Search table position (suc i) (found i (node_at table i))
  -- "from a row whose span holds the byte it goes to the row before"
  before : {i : ℕ} {a : Answer} → wrong_size (suc i) (node_at table i) ≡ false → holds position (node_at table i) ≡ true → is_leaf (node_at table i) ≡ false
      → Search table position i a → Search table position (suc i) a
  -- "from any other it skips that row's whole subtree by the seventh number"
  past : {i : ℕ} {a : Answer} → wrong_size (suc i) (node_at table i) ≡ false → holds position (node_at table i) ≡ false
      → Search table position (suc i - (node_at table i).size) a → Search table position (suc i) a

-- "The search starts at the last row".
abbrev pub Permitted : List ℕ → ℕ → Answer → Type 0
Permitted table position a = Search table position (room table) a

-- "a walk over all rows": the last of the first n rows that is a leaf and holds the byte.
unfoldable pub walk : List ℕ → ℕ → ℕ → Answer
walk table position zero = refusal NO_LEAF
walk table position (suc i) = let r : Node = node_at table i in let a : Answer = walk table position i in cond (is_leaf r && holds position r) (found i r) a

abbrev pub walked : List ℕ → ℕ → Answer
walked table position = walk table position (room table)
