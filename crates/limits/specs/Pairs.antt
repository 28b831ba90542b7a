-- T20.11, "brackets never become more": the pairs of parentheses of a print, against those of a reading with the same trees.
use Rattle.std.specs.Prelude.{Bool, cond, List, ℕ, ◌+◌, ◌≤◌}
use Rattle.canon.specs.Layout.{needs, Slot, layout}
use Rattle.canon.specs.Text.{inner, place_of, later}
use Rattle.forests.specs.Planted.{Marked, no_more, stands, unmarked}

-- one more where the print puts a pair
abbrev pub and_one : Bool → ℕ → ℕ
and_one b p = cond b (1 + p) p

-- Where p pairs of the print stand open round these trees, and q of the reading, round no tree and none below it stand more of the print's.
unfoldable pub NoMore : ℕ → ℕ → List Slot → Marked → Type 0
NoMore p q xs no_more = Unit {0}
NoMore p q xs (stands k a kids ts) =
    (and_one (needs (place_of xs) a (unmarked kids)) p ≤ k + q)
    × NoMore (and_one (needs (place_of xs) a (unmarked kids)) p) (k + q) (layout (inner (needs (place_of xs) a (unmarked kids)) (place_of xs)) a (unmarked kids)).slots kids
    × NoMore p q (later xs) ts
