-- C-21: "a file of three sections in this order, each after its count as a 32-bit little-endian number: source bytes, rows,
-- declaration rows by index, 32-bit likewise; rows are seven 64-bit little-endian numbers."
use Rattle.std.specs.Prelude.{◌≡◌, List, [], ◌∷◌, ◌++◌, ℕ, zero, suc, ◌*◌, ◌/◌, ◌%◌, ◌<◌, length}
use Rattle.grammar.specs.Rows.{Row, flat}

-- The bytes of a count or an index, and of a number of a row: 32 and 64 bits.
abbrev pub SHORT : ℕ
SHORT = 4

abbrev pub LONG : ℕ
LONG = 8

-- The w bytes of a number, little-endian; of numbers, one behind the other; and how many numbers w bytes can hold.
unfoldable pub bytes : ℕ → ℕ → List ℕ
bytes zero n = []
bytes (suc w) n = n % 256 ∷ bytes w (n / 256)

unfoldable pub words : ℕ → List ℕ → List ℕ
words w [] = []
words w (n ∷ ns) = bytes w n ++ words w ns

abbrev pub most : ℕ → ℕ
most zero = 1
most (suc w) = 256 * most w

pub data Fit (w : ℕ) : List ℕ → Type 0 where
  none : Fit w []
  more : {n : ℕ} {ns : List ℕ} → n < most w → Fit w ns → Fit w (n ∷ ns)

pub record File : Type 0 where
  pub source : List ℕ
  pub rows : List Row
  pub indexes : List ℕ

-- The three sections, each after its count.
unfoldable pub written : File → List ℕ
written f =
    bytes SHORT (length f.source) ++ f.source
    ++ bytes SHORT (length f.rows) ++ words LONG (flat f.rows)
    ++ bytes SHORT (length f.indexes) ++ words SHORT f.indexes

-- The bytes b are the file f: its sections fill them exactly, and its counts and numbers are such as their bytes can hold.
pub record Fills (b : List ℕ) (f : File) : Type 0 where
  pub sections : b ≡ written f
  pub counts : Fit SHORT (length f.source ∷ length f.rows ∷ length f.indexes ∷ [])
  pub rows : Fit LONG (flat f.rows)
  pub indexes : Fit SHORT f.indexes
