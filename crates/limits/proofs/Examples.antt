-- The test on tokens at its edges.
use mathlib.Core.Path.{◌≡◌, refl}
use mathlib.Core.List.{[], ◌∷◌}
use mathlib.Core.Bool.{true, false}
use Rattle.grammar.specs.Words.{open_paren, close_paren, '!', '-'}
use Rattle.chars.specs.Chars.{byte_at}
use Rattle.canon.specs.Text.{sign, copy}
use Rattle.limits.specs.Within.{Tally, nothing_yet, within}

abbrev at_32 : Tally
at_32 = record { brackets = 32; prefixes = 32 }

-- the 33rd bracket or prefix may not stand; behind any other token a prefix may, behind a `)` a bracket
edges : (within at_32 (sign open_paren ∷ []) ≡ false)
    × (within at_32 (sign '-' ∷ []) ≡ false)
    × (within at_32 (copy (97 ∷ []) ∷ sign '!' ∷ []) ≡ true)
    × (within at_32 (sign close_paren ∷ sign open_paren ∷ sign close_paren ∷ []) ≡ true)
unfolding within byte_at
edges = (refl, refl, refl, refl)

-- `f"{a}"` takes room for six brackets, a name for none
strings : (within nothing_yet (copy (102 ∷ 34 ∷ 123 ∷ 97 ∷ 125 ∷ 34 ∷ []) ∷ []) ≡ true)
    × (within at_32 (copy (102 ∷ 34 ∷ 123 ∷ 97 ∷ 125 ∷ 34 ∷ []) ∷ []) ≡ false)
    × (within at_32 (copy (102 ∷ 97 ∷ []) ∷ []) ≡ true)
unfolding within byte_at
strings = (refl, refl, refl)
