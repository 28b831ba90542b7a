-- Where trees stand in a table, and what the stack of the printer means. Not to be believed: only contracts inside the printer cite it; `write`'s says what it comes to.
use Rattle.std.specs.Prelude.{◌≡◌, List, [], ◌++◌, Bool, cond, ℕ, zero, suc, ◌+◌, ◌-◌, ◌*◌, ◌≤◌, ◌<◌, eqb, length, get_or}
use Rattle.std.proofs.Math.Seq.{slice}
use Rattle.rows.specs.Kinds as kinds
use Rattle.rows.specs.Rows.{width}
use Rattle.grammar.specs.Rows.{Row}
use Rattle.canon.specs.Trees.{Forest, none, tree, label}
use Rattle.canon.specs.Layout as canon
use Rattle.canon.specs.Text.{Bit, signs, inner, tokens}
use Rattle.canon.specs.Events.{closing}
use Rattle.forests.specs.Told.{trees, count}
use Rattle.sink.specs.declared.Sink.{Sink}
use Rattle.sink.specs.Told.{empty, state, telling, said}
use Rattle.layouts.specs.Phases.{one, going, behind}
use Rattle.layouts.specs.Packed.{place_in}
use Rattle.setter.specs.declared.Row as declared

-- Row i of a table, from 0.
abbrev pub row_at : List ℕ → ℕ → Row
row_at t i =
    record { kind = get_or t (i * width) 0; start = get_or t (i * width + 1) 0; end = get_or t (i * width + 2) 0; children = get_or t (i * width + 3) 0; value = get_or t (i * width + 4) 0; detail = get_or t (i * width + 5) 0; size = get_or t (i * width + 6) 0 }

abbrev pub as_row : declared.Row → Row
as_row r = record { kind = r.mark.kind; start = r.start; end = r.end; children = r.children; value = r.mark.value; detail = r.mark.detail; size = r.size }

-- Row j of a table stands over these trees.
pub record Over (t : List ℕ) (j : ℕ) (kids : Forest) : Type 0 where
  pub room : suc j * width ≤ length t
  pub children : (row_at t j).children ≡ trees kids
  pub size : (row_at t j).size ≡ suc (count kids)

-- Trees whose rows stand in the table from row i on: those under the first, its own, those of the trees after it.
unfoldable pub Sits : List ℕ → List ℕ → Forest → ℕ → Type 0
Sits s t none i = Unit {0}
Sits s t (tree a kids ts) i = Sits s t kids i × (label s (row_at t (i + count kids)) ≡ a) × Over t (i + count kids) kids × Sits s t ts (i + suc (count kids))

-- One tree, whose rows are the table's first n.
pub record Planted (s t : List ℕ) (n : ℕ) (f : Forest) : Type 0 where
  pub sits : Sits s t f 0
  pub single : trees f ≡ 1
  pub all : count f ≡ n

abbrev pub Grown : List ℕ → List ℕ → ℕ → Type 0
Grown s t n = (f : Forest) × Planted s t n f

-- From the row numbered c (from 1), the root of a tree, back to the root of the tree before it, n times; and that each of these is a row.
unfoldable pub back : List ℕ → ℕ → ℕ → ℕ
back t c zero = c
back t c (suc n) = back t (c - (row_at t (c - 1)).size) n

unfoldable pub Backs : List ℕ → ℕ → ℕ → Type 0
Backs t c zero = Unit {0}
Backs t c (suc n) = (1 ≤ c) × (c * width ≤ length t) × ((row_at t (c - 1)).size ≤ c) × Backs t (c - (row_at t (c - 1)).size) n

-- An entry of the stack: words alone; or a row's number from 1, with its place and the words before it. The tokens that it stands for, and its weight: each row
-- under it counts twice.
unfoldable pub Waits : List ℕ → List ℕ → ℕ → ℕ → List Bit → ℕ → Type 0
Waits s t zero x bs w = (bs ≡ said x) × (w ≡ 1)
Waits s t (suc j) x bs w = (kids : Forest) × (i : ℕ) × Sits s t kids i × (i + count kids ≡ j) × Over t j kids × (bs ≡ said x ++ one (place_in x) (label s (row_at t j)) kids) × (w ≡ 2 * suc (count kids))

-- n entries from entry m on, the last on top; their tokens, from the top on, and their weight.
unfoldable pub Held : List ℕ → List ℕ → List ℕ → ℕ → ℕ → List Bit → ℕ → Type 0
Held s t p m zero bs w = (bs ≡ []) × (w ≡ 0)
Held s t p m (suc n) bs w = (b : List Bit) × (v : ℕ) × (bs' : List Bit) × (w' : ℕ) × Waits s t (get_or p ((m + n) * 2) 0) (get_or p ((m + n) * 2 + 1) 0) b v × Held s t p m n bs' w' × (bs ≡ b ++ bs') × (w ≡ v + w')

-- The weight of the first n entries, by their rows' sizes.
unfoldable pub weigh : List ℕ → ℕ → ℕ
weigh t zero = 1
weigh t (suc j) = 2 * (row_at t j).size

unfoldable pub load : List ℕ → List ℕ → ℕ → ℕ
load t p zero = 0
load t p (suc n) = weigh t (get_or p (n * 2) 0) + load t p n

-- What was written to a plan from entry m on: it has its length, and the entries before stand.
pub record Kept (p p' : List ℕ) (m : ℕ) : Type 0 where
  pub long : length p' ≡ length p
  pub same : (k : ℕ) → k < m * 2 → get_or p' k 0 ≡ get_or p k 0

-- The roots of n trees, the last of which is the row numbered c, from entry m on, from the last one back.
abbrev pub Rooted : List ℕ → ℕ → ℕ → List ℕ → ℕ → Type 0
Rooted t c n p m = (q : ℕ) → q < n → get_or p ((m + q) * 2) 0 ≡ back t c q

-- The trees under a row, n of them, as entries from entry m on, when its layout has come to the phase z.
abbrev pub PlacedUnder : List ℕ → ℕ → ℕ → canon.Place → List ℕ → ℕ → ℕ → Type 0
PlacedUnder t j n c p m z = (s : List ℕ) (kids : Forest) (i : ℕ) → Sits s t kids i → i + count kids ≡ j → trees kids ≡ n → (bs : List Bit) × Held s t p m n bs (2 * count kids) × (bs ++ signs (behind (row_at t j).kind (row_at t j).value (row_at t j).detail z c.more) ≡ going c (label s (row_at t j)) 0 kids)

-- What is in a row, as entries from entry m up to z: the trees under it, and below them the words behind and its `)`.
abbrev pub Opened : List ℕ → ℕ → canon.Place → Bool → List ℕ → ℕ → ℕ → Type 0
Opened t j c pair p m z = (s : List ℕ) (kids : Forest) (i : ℕ) → Sits s t kids i → i + count kids ≡ j → Over t j kids → Held s t p m (z - m) (going (inner pair c) (label s (row_at t j)) 0 kids ++ closing pair) (suc (2 * count kids)) × (m ≤ z)

-- `)` as an entry, where there is a pair.
abbrev pub ClosedBy : Bool → List ℕ → ℕ → ℕ → Type 0
ClosedBy pair p m z = (s t : List ℕ) → (w : ℕ) × Held s t p m (z - m) (closing pair) w × (w ≤ 1) × (m ≤ z)

-- The text of a row that is copied.
abbrev pub text_at : List ℕ → Row → List ℕ
text_at s r = slice r.start (cond (eqb r.kind kinds.F_STRING) (r.end + 1) r.end) s

-- A turn: from entry m, which is on top, on; less waits then, and it is the same print.
abbrev pub Turned : List ℕ → List ℕ → List ℕ → List ℕ → ℕ → Sink → List ℕ → List ℕ → Sink → ℕ → Type 0
Turned s t p text m x p' text' x' m' = (bs : List Bit) (w : ℕ) → Held s t p 0 (suc m) bs w → w * 2 ≤ length p → (bs' : List Bit) × (w' : ℕ) × Held s t p' 0 m' bs' w' × (w' < w) × (telling (state text' x') bs' ≡ telling (state text x) bs)

-- What is written: the tokens of each tree that stands so.
abbrev pub Writes : List ℕ → List ℕ → ℕ → List ℕ → List ℕ → Sink → Type 0
Writes s t n text text' r = (f : Forest) → Planted s t n f → state text' r ≡ telling (state text empty) (tokens f)
