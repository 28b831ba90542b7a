-- The scan for a piece's end as the code does it, byte by byte. Only private functions cite this, and nobody needs to believe it: the law
-- `modes_part` of proofs/Items.antt says that it gives `part_at`.
use Rattle.std.specs.Prelude.{Some, None, ℕ, ◌+◌, ◌-◌, List, [], ◌∷◌, Bool, true, false, ◌||◌, cond, eqb}
use Rattle.texts.specs.declared.Mode.{Mode}
use Rattle.texts.specs.declared.Mode.TheVariants.{Text, Escape, Letter, Code, Brace, Hole, Last, Torn}
use Rattle.texts.specs.Results.{Scanned}
use Rattle.texts.specs.declared.Part.{Part}
use Rattle.texts.specs.declared.Part.TheVariants.{Before, Ends}
use Rattle.texts.specs.Signs.{backslash, quote, open_brace, close_brace, small_u, capital_u}

-- how the text stands behind one more byte
unfoldable pub mode_after : Mode → ℕ → Mode
mode_after Text b = cond (eqb b backslash) Escape (cond (eqb b open_brace) Brace (cond (eqb b quote) Last Text))
mode_after Escape b = cond (eqb b small_u || eqb b capital_u) Letter Text
mode_after Letter b = cond (eqb b open_brace) Code Torn
mode_after Code b = cond (eqb b close_brace) Text Code
mode_after Brace b = cond (eqb b open_brace) Text Hole
mode_after Hole b = Hole
mode_after Last b = Last
mode_after Torn b = Torn

abbrev pub scans : Mode → Bool
scans Text = true
scans Escape = true
scans Letter = true
scans Code = true
scans Brace = true
scans Hole = false
scans Last = false
scans Torn = false

-- what ended before a place: a piece up to the `{` of a hole, or up to the quote
abbrev pub ended_at : Mode → ℕ → Scanned
ended_at Text at = None
ended_at Escape at = None
ended_at Letter at = None
ended_at Code at = None
ended_at Brace at = None
ended_at Hole at = Some (Before (at - 2))
ended_at Last at = Some (Ends (at - 1))
ended_at Torn at = None

unfoldable pub modes_from : Mode → ℕ → List ℕ → Scanned
modes_from m at [] = ended_at m at
modes_from m at (b ∷ l) = elim (scans m) [ true ↦ modes_from (mode_after m b) (at + 1) l | false ↦ ended_at m at ]
