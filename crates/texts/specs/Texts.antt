-- C-11: what a piece of an f-string's text is worth: "A text piece is unescaped first and pairs of braces are halved after, as in the Rust".
use Rattle.std.specs.Prelude.{Some, None, ℕ, List, [], ◌∷◌, true, false, ◌&&◌, eqb, length}
use Rattle.std.proofs.Math.Option.{Option, none, some}
use Rattle.strings.specs.Results.{Size}
use Rattle.strings.specs.Strings.{codes_of}
use Rattle.strings.specs.Utf8.{encode}
use Rattle.texts.specs.Signs.{open_brace, close_brace}

-- the Rust's `replace` of two of a kind by one: from left to right, and what was halved isn't looked at again
unfoldable pub halved : ℕ → List ℕ → List ℕ
halved brace [] = []
halved brace (x ∷ []) = x ∷ []
halved brace (x ∷ y ∷ l) = elim (eqb x brace && eqb y brace) [ true ↦ brace ∷ halved brace l | false ↦ x ∷ halved brace (y ∷ l) ]

-- `s.replace("{{", "{").replace("}}", "}")`; "a lone `}` in text is kept"
abbrev pub halved_both : List ℕ → List ℕ
halved_both codes = halved close_brace (halved open_brace codes)

abbrev pub final_of : Option (List ℕ) → Option (List ℕ)
final_of (some codes) = some (encode (halved_both codes))
final_of none = none

-- the final bytes of a text piece; none where it is "against the string rule"
abbrev pub final_bytes : List ℕ → Option (List ℕ)
final_bytes text = final_of (codes_of text)

abbrev pub counted : Option (List ℕ) → Size
counted (some bytes) = Some (length bytes)
counted none = None

-- "its final byte count"
unfoldable pub text_of : List ℕ → Size
text_of text = counted (final_bytes text)
