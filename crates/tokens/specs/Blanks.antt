-- "Skipped: bytes 9 to 13 and 32; `//` through its newline or the end."
use Rattle.std.specs.Prelude.{ℕ, suc, ◌+◌, List, [], ◌∷◌, Bool, true, false, ◌&&◌, cond, length, drop, eqb, ltb}
use Rattle.chars.specs.declared.Class.TheVariants.{Line}
use Rattle.chars.specs.Chars.{byte_at, is_blank, is_class}
use Rattle.chars.specs.Runs.{past_run}

-- how many bytes at the front of a list are skipped, inside a comment or not
unfoldable pub skipped : Bool → List ℕ → ℕ
skipped inside [] = 0
skipped true (b ∷ l) = suc (skipped (is_class Line b) l)
skipped false (b ∷ l) =
    elim (is_blank b) [
      | true ↦ suc (skipped false l)
      | false ↦ elim (eqb b 47 && eqb (byte_at l 0) 47) [ true ↦ suc (skipped true l) | false ↦ 0 ]
    ]

unfoldable pub skip_all : List ℕ → ℕ → ℕ
skip_all s at = at + skipped false (drop at s)

-- past the newline of the line that a place is in, or at the end
unfoldable pub past_comment : List ℕ → ℕ → ℕ
past_comment s at = let e : ℕ = past_run (is_class Line) s at in cond (ltb e (length s)) (e + 1) e
