-- "a pair of parentheses exactly where without that pair the text has no reading or another tree, round the smallest row that serves": every choice of
-- pairs, the tokens written with it, and what it is for a choice to have one pair less.
use Rattle.std.specs.Prelude.{◌≡◌, List, [], ◌∷◌, ◌++◌, Bool, true, false, cond, ℕ, zero, suc, T}
use Rattle.grammar.specs.Grammar.{one_of}
use Rattle.canon.specs.Trees.{Label, Forest, none, tree, copied}
use Rattle.canon.specs.Layout.{needs, empty, Slot, layout}
use Rattle.canon.specs.Text.{Bit, copy, signs, inner, place_of, words_of, later}
use Rattle.printing.specs.Pairs.{expr_at, in_pairs}
use Rattle.printing.specs.Groves.{needed}
use Rattle.forests.specs.Planted.{Marked, no_more, stands, unmarked}
use Rattle.forests.specs.Met.{within}

-- Trees with a number of pairs round each row, as the print would write them but for the pairs.
unfoldable pub written : List Slot → List ℕ → Marked → List Bit
written xs last no_more = signs last
written xs last (stands n a kids ts) =
    let y = layout (within n (place_of xs)) a (unmarked kids) in
    let own = written y.slots y.last kids in
    signs (words_of xs) ++ (in_pairs n (cond (one_of a.kind copied) (copy a.text ∷ []) own) ++ written (later xs) last ts)

-- A pair may stand where the table has an expr, and nowhere else: these are children of a row of kind k, from its first on or later.
abbrev pub may : Bool → ℕ → Bool
may expr zero = true
may expr (suc n) = expr

unfoldable pub OnExprs : ℕ → Bool → Marked → Type 0
OnExprs k first no_more = Unit {0}
OnExprs k first (stands n a kids ts) = T (may (expr_at k first (empty (unmarked ts)) a.kind) n) × OnExprs a.kind true kids × OnExprs k false ts

-- the print's own choice
unfoldable pub print_pairs : List Slot → Forest → Marked
print_pairs xs none = no_more
print_pairs xs (tree a kids ts) =
    let b = needs (place_of xs) a kids in
    stands (needed b) a (print_pairs (layout (inner b (place_of xs)) a kids).slots kids) (print_pairs (later xs) ts)

-- One row has a pair less; what pairs stand below it is left open, the others stay.
pub data Less : Marked → Marked → Type 0 where
  less_here : {n : ℕ} {a : Label} {kids kids' ts : Marked} → unmarked kids ≡ unmarked kids' → Less (stands (suc n) a kids ts) (stands n a kids' ts)
  less_below : {n : ℕ} {a : Label} {kids kids' ts : Marked} → Less kids kids' → Less (stands n a kids ts) (stands n a kids' ts)
  less_after : {n : ℕ} {a : Label} {kids ts ts' : Marked} → Less ts ts' → Less (stands n a kids ts) (stands n a kids ts')
