-- C-11, "by the rules of `f_string_part`": where a piece of an f-string's text ends. Text is made of items, one behind the other:
-- `\u{..}` and `\U{..}`, a backslash with any other byte, `{{`, and any byte but `\`, `{` and `"` by itself.
use Rattle.std.specs.Prelude.{Some, None, ℕ, ◌-◌, List, [], ◌∷◌, true, false, ◌||◌, eqb, length, drop}
use Rattle.std.proofs.Math.Option.{Option, none, some}
use Rattle.texts.specs.Results.{Scanned}
use Rattle.texts.specs.declared.Part.{Part}
use Rattle.texts.specs.declared.Part.TheVariants.{Before, Ends}
use Rattle.texts.specs.Signs.{backslash, quote, open_brace, close_brace, small_u, capital_u}

-- what stands behind a `{` at the front; none: no `{` is there
unfoldable pub past_open : List ℕ → Option (List ℕ)
past_open [] = none
past_open (b ∷ l) = elim (eqb b open_brace) [ true ↦ some l | false ↦ none ]

-- what stands behind the next `}`
unfoldable pub past_close : List ℕ → Option (List ℕ)
past_close [] = none
past_close (b ∷ l) = elim (eqb b close_brace) [ true ↦ some l | false ↦ past_close l ]

-- "We need a `{` after `\u` and `\U`"
unfoldable pub past_code : List ℕ → Option (List ℕ)
past_code l = elim (past_open l) [ none ↦ none | some inside ↦ past_close inside ]

-- what stands behind the rest of an escape, whose backslash was read
unfoldable pub past_escape : List ℕ → Option (List ℕ)
past_escape [] = none
past_escape (b ∷ l) = elim (eqb b small_u || eqb b capital_u) [ true ↦ past_code l | false ↦ some l ]

-- what stands behind the item at the front; none: no item is there
unfoldable pub past_item : List ℕ → Option (List ℕ)
past_item [] = none
past_item (b ∷ l) =
    elim (eqb b backslash) [
      | true ↦ past_escape l
      | false ↦ elim (eqb b open_brace) [ true ↦ past_open l | false ↦ elim (eqb b quote) [ true ↦ none | false ↦ some l ] ]
    ]

-- what stands behind all the items; the first list only counts them, and a source is long enough for that (proofs/Counted.antt)
unfoldable pub past_items : List ℕ → List ℕ → List ℕ
past_items [] l = l
past_items (x ∷ count) l = elim (past_item l) [ none ↦ l | some rest ↦ past_items count rest ]

-- The piece that ends at a place, by what stands from there on: "Check for the end of the string, which is an unescaped quote"; a hole's `{`
-- and a byte, "We bump to _before_ the curly"; with anything else `f_string_part` gives no piece.
unfoldable pub end_at : ℕ → List ℕ → Scanned
end_at e [] = None
end_at e (b ∷ []) = elim (eqb b quote) [ true ↦ Some (Ends e) | false ↦ None ]
end_at e (b ∷ c ∷ l) = elim (eqb b quote) [ true ↦ Some (Ends e) | false ↦ elim (eqb b open_brace) [ true ↦ Some (Before e) | false ↦ None ] ]

-- The piece of text from a place on: it ends where the items end.
unfoldable pub part_at : List ℕ → ℕ → Scanned
part_at s at = let rest : List ℕ = past_items s (drop at s) in end_at (length s - length rest) rest
