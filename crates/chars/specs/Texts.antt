-- Texts as lists of bytes, so that a definition can quote document 01.
use Rattle.std.specs.Prelude.{ℕ, List, Bool, true, false, ◌&&◌, eqb}
use Prim.Native.String.{String, [], ◌∷◌}
use Prim.Native.Char.{code}
use mathlib.Core.List as list

-- the bytes of a quoted text (of characters below 128)
unfoldable pub bytes : String → List ℕ
bytes [] = list.[]
bytes (c ∷ t) = list.◌∷◌ (code c) (bytes t)

-- whether two texts have the same bytes
unfoldable pub same : List ℕ → List ℕ → Bool
same list.[] list.[] = true
same list.[] (list.◌∷◌ y ys) = false
same (list.◌∷◌ x xs) list.[] = false
same (list.◌∷◌ x xs) (list.◌∷◌ y ys) = eqb x y && same xs ys
