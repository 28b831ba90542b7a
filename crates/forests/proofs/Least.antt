-- No pair of the print is idle, and none could stand lower: in every reading with the same trees, a row that has a pair in the print is in a pair, down to
-- rows that are in a pair there and bare in the print.
use mathlib.Core.List.{List, []}
use mathlib.Core.Bool.{Bool, true, false, not}
use Prim.Native.Nat.{ℕ, zero, suc}
use lib.Dec.{T}
use Rattle.grammar.specs.Grammar.{Parts}
use Rattle.grammar.specs.Readings.{Text}
use Rattle.grammar.specs.Language.{roto, goal}
use Rattle.answers.specs.Source.{source}
use Rattle.canon.specs.Layout.{whole, needs, Slot, layout}
use Rattle.canon.specs.Text.{inner, place_of, later}
use Rattle.forests.specs.Planted.{Marked, no_more, stands, unmarked, marked}
use Rattle.forests.specs.Met.{Met, under, Least}
use Rattle.forests.proofs.Sources.{source_fits}

pub met_least : (xs : List Slot) (m : Marked) → Met xs m → Least xs m
unfolding Met Least
met_least xs no_more h = tt
met_least xs (stands zero a kids ts) h = (go (needs (place_of xs) a (unmarked kids)) h.0 (met_least (layout (place_of xs) a (unmarked kids)).slots kids h.1), met_least (later xs) ts h.2)
  where
    go : (b : Bool) → T (not b) → Least (layout (place_of xs) a (unmarked kids)).slots kids → under zero b (Least (layout (inner b (place_of xs)) a (unmarked kids)).slots kids)
    go true t l = absurd t
    go false t l = l
met_least xs (stands (suc k) a kids ts) h = (go (needs (place_of xs) a (unmarked kids)) (met_least (layout whole a (unmarked kids)).slots kids h.1), met_least (later xs) ts h.2)
  where
    go : (b : Bool) → Least (layout whole a (unmarked kids)).slots kids → under (suc k) b (Least (layout (inner b (place_of xs)) a (unmarked kids)).slots kids)
    go true l = l
    go false l = tt

-- so in every reading of every source
pub source_least : (s : List ℕ) (tests tree : Bool) {p : Parts} → Text (source s) (roto tests) (goal tree) 0 p → Least [] (marked s tree p)
source_least s tests tree {p} t = met_least [] (marked s tree p) (source_fits s tests tree t)
