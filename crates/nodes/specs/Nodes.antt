-- What C-15's search looks at of a row. A table is any list of numbers; row i, from 0, has those from i * width on.
use Rattle.std.specs.Prelude.{ℕ, ◌+◌, ◌*◌, List, Bool, ◌&&◌, ◌||◌, not, get_or, leb, ltb, eqb}
use Rattle.rows.specs.Rows.{width}
use Rattle.nodes.specs.declared.Node.{Node}

-- "A row is six u64 numbers: kind, start, end, children, value, detail." C-14: "a seventh number to each row".
abbrev pub START : ℕ
START = 1

abbrev pub END : ℕ
END = 2

abbrev pub CHILDREN : ℕ
CHILDREN = 3

abbrev pub SIZE : ℕ
SIZE = 6

abbrev pub number_at : List ℕ → ℕ → ℕ → ℕ
number_at table i k = get_or table (i * width + k) 0

unfoldable pub node_at : List ℕ → ℕ → Node
node_at table i = record { start = number_at table i START; end = number_at table i END; children = number_at table i CHILDREN; size = number_at table i SIZE }

-- "a span that holds that byte"; "On a span's end the byte is outside."
abbrev pub holds : ℕ → Node → Bool
holds position r = leb r.start position && ltb position r.end

-- "A leaf is a row without children."
abbrev pub is_leaf : Node → Bool
is_leaf r = eqb r.children 0

-- "a size is wrong if it is 0, reaches before the table's start, or isn't 1 at a leaf": r is the last of n rows
abbrev pub wrong_size : ℕ → Node → Bool
wrong_size n r = (eqb r.size 0 || ltb n r.size) || (is_leaf r && not (eqb r.size 1))
