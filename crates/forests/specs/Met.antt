-- Trees with their pairs, against the places at which they stand: a row without a pair doesn't need one there.
use Rattle.std.specs.Prelude.{List, Bool, true, false, not, ℕ, zero, suc, T}
use Rattle.canon.specs.Trees.{Label, Forest}
use Rattle.canon.specs.Layout.{needs, Slot, layout}
use Rattle.canon.specs.Text.{inner, place_of, later}
-- in a pair a row is a whole expr; a row without a pair doesn't need one
pub use Rattle.printing.specs.Pairs.{within, served}
use Rattle.forests.specs.Planted.{Marked, no_more, stands, unmarked}

-- each tree of the row in its slot, and those under it in the slots of its layout
unfoldable pub Met : List Slot → Marked → Type 0
Met xs no_more = Unit {0}
Met xs (stands k a kids ts) = T (served k (place_of xs) a (unmarked kids)) × Met (layout (within k (place_of xs)) a (unmarked kids)).slots kids × Met (later xs) ts

-- The print's pairs, against those of a reading with the same trees: each row that has a pair in the print is in a pair there; but nothing is said of what
-- lies below a row that is in a pair there and bare in the print.
abbrev pub under : ℕ → Bool → Type 0 → Type 0
under zero true below = ⊥
under zero false below = below
under (suc k) true below = below
under (suc k) false below = Unit {0}

unfoldable pub Least : List Slot → Marked → Type 0
Least xs no_more = Unit {0}
Least xs (stands k a kids ts) = under k (needs (place_of xs) a (unmarked kids)) (Least (layout (inner (needs (place_of xs) a (unmarked kids)) (place_of xs)) a (unmarked kids)).slots kids) × Least (later xs) ts
