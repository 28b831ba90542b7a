-- The count of a text piece as the code does it, one code point at a time. Only a private function cites this, and nobody needs to believe
-- it: by proofs/Halved.antt it gives `text_of`.
use Rattle.std.specs.Prelude.{ℕ, ◌+◌, false, ◌&&◌, cond, eqb}
use Rattle.strings.specs.Utf8.{width_of}
use Rattle.texts.specs.declared.Halves.{Halves}
use Rattle.texts.specs.Signs.{open_brace, close_brace}

-- behind one more code point
unfoldable pub with_code : Halves → ℕ → Halves
with_code h c =
    cond (h.opened && eqb c open_brace) (record { size = h.size; opened = false; closed = h.closed })
    (cond (h.closed && eqb c close_brace) (record { size = h.size; opened = false; closed = false })
    (record { size = h.size + width_of c; opened = eqb c open_brace; closed = eqb c close_brace }))
