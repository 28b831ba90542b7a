-- `!((a))` and `(!a)`: two pairs that may stand, and one where the table has no expr; `(a)=b` needs none, and its left side may have one.
use mathlib.Core.Path.{◌≡◌, refl}
use mathlib.Core.List.{List, [], ◌∷◌}
use mathlib.Core.Bool.{true}
use Prim.Native.Nat.{ℕ}
use Rattle.rows.specs.Kinds as kinds
use Rattle.grammar.specs.Words.{'!', '=', close_paren, open_paren}
use Rattle.canon.specs.Trees.{Label}
use Rattle.canon.specs.Layout.{layout, layouts}
use Rattle.canon.specs.Text.{copy, sign}
use Rattle.forests.specs.Planted.{Marked, no_more, stands, unmarked}
use Rattle.forests.specs.Met.{Met}
use Rattle.exact.specs.Written.{OnExprs, written}

abbrev row : ℕ → List ℕ → Label
row k t = record { kind = k; value = 0; detail = 0; text = t }

-- the name `a`, as an expr in n pairs
abbrev a_in : ℕ → Marked → Marked
a_in n ts = stands n (row kinds.PATH []) (stands 0 (row kinds.NAME (97 ∷ [])) no_more no_more) ts

abbrev not_a : ℕ → ℕ → Marked
not_a j n = stands j (row kinds.NOT []) (a_in n no_more) no_more

abbrev a_is_a : ℕ → Marked
a_is_a n = stands 0 (row kinds.ASSIGN []) (a_in n (a_in 0 no_more)) no_more

two_pairs : written [] [] (not_a 0 2) ≡ sign '!' ∷ sign open_paren ∷ sign open_paren ∷ copy (97 ∷ []) ∷ sign close_paren ∷ sign close_paren ∷ []
unfolding written layout layouts unmarked
two_pairs = refl

two_may : OnExprs kinds.NONE true (not_a 0 2)
unfolding OnExprs unmarked
two_may = (tt, (tt, (tt, tt, tt), tt), tt)

two_met : Met [] (not_a 0 2)
unfolding Met layout layouts unmarked
two_met = (tt, (tt, (tt, tt, tt), tt), tt)

none_there : OnExprs kinds.NONE true (not_a 1 0) → ⊥
unfolding OnExprs unmarked
none_there u = u.0

left_side : written [] [] (a_is_a 1) ≡ sign open_paren ∷ copy (97 ∷ []) ∷ sign close_paren ∷ sign '=' ∷ copy (97 ∷ []) ∷ []
unfolding written layout layouts unmarked
left_side = refl
