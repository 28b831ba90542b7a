-- Where pieces of text end and how many bytes they have in the end: a table of each, by computation.
use Rattle.std.specs.Prelude.{Some, None}
use mathlib.Core.Path.{◌≡◌, refl}
use mathlib.Core.List.{List, [], ◌∷◌, map}
use mathlib.Core.Option.{some}
use Prim.Native.Nat.{ℕ}
use Prim.Native.String.{String}
use Rattle.chars.specs.Chars.{byte_at}
use Rattle.chars.specs.Texts.{bytes}
use Rattle.numbers.specs.Digits.{digit_of, value_from, all_below, plain, number_from, number_of}
use Rattle.numbers.specs.Texts.{ahead, until_byte}
use Rattle.strings.specs.Results.{Size}
use Rattle.strings.specs.Escapes.{simple_of, ascii_of, scalar_of, unicode_of, plain_escape, escape_of, piece_of}
use Rattle.strings.specs.Strings.{codes_from}
use Rattle.strings.specs.Utf8.{utf8, encode}
use Rattle.texts.specs.Results.{Scanned}
use Rattle.texts.specs.declared.Part.{Part}
use Rattle.texts.specs.declared.Part.TheVariants.{Before, Ends}
use Rattle.texts.specs.Parts.{past_open, past_close, past_code, past_escape, past_item, past_items, end_at, part_at}
use Rattle.texts.specs.Texts.{halved, final_bytes, text_of}

record Ended : Type 0 where
  source : String
  from : ℕ
  part : Scanned

record Sized : Type 0 where
  text : String
  size : Size

abbrev ended : List Ended
ended =
    record { source = "f\"peer {x} down\""; from = 2; part = Some (Before 7) }
    ∷ record { source = "f\"peer {x} down\""; from = 10; part = Some (Ends 15) }
    ∷ record { source = "\""; from = 0; part = Some (Ends 0) }
    ∷ record { source = "a\\u{41}b\""; from = 0; part = Some (Ends 8) }
    ∷ record { source = "\\U{\"{}\""; from = 0; part = Some (Ends 6) }
    ∷ record { source = "\\\"a\""; from = 0; part = Some (Ends 3) }
    ∷ record { source = "\\{x\""; from = 0; part = Some (Ends 3) }
    ∷ record { source = "{{\""; from = 0; part = Some (Ends 2) }
    ∷ record { source = "{{{x}}\""; from = 0; part = Some (Before 2) }
    ∷ record { source = "a}b\""; from = 0; part = Some (Ends 3) }
    ∷ record { source = "{\""; from = 0; part = Some (Before 0) }
    ∷ record { source = "a{"; from = 0; part = None }
    ∷ record { source = "\\u\""; from = 0; part = None }
    ∷ record { source = "\\U41\""; from = 0; part = None }
    ∷ record { source = "\\u{41\""; from = 0; part = None }
    ∷ record { source = "a\\"; from = 0; part = None }
    ∷ record { source = "a"; from = 0; part = None }
    ∷ record { source = "\""; from = 2; part = None }
    ∷ []

abbrev sized : List Sized
sized =
    record { text = ""; size = Some 0 }
    ∷ record { text = "a}b"; size = Some 3 }
    ∷ record { text = "}}}"; size = Some 2 }
    ∷ record { text = "{{{{"; size = Some 2 }
    ∷ record { text = "\\x7b\\x7b"; size = Some 1 }
    ∷ record { text = "\\x7b\\x7d"; size = Some 2 }
    ∷ record { text = "{{\\x7b"; size = Some 2 }
    ∷ record { text = "\\u{7d}}"; size = Some 1 }
    ∷ record { text = "\\u{e9}"; size = Some 2 }
    ∷ record { text = "a\\qb"; size = None }
    ∷ record { text = "\\U{41}"; size = None }
    ∷ []

pieces_end : map (λ (e : Ended). part_at (bytes e.source) e.from) ended ≡ map (λ (e : Ended). e.part) ended
unfolding bytes past_open past_close past_code past_escape past_item past_items end_at part_at
pieces_end = refl

pieces_count : map (λ (t : Sized). text_of (bytes t.text)) sized ≡ map (λ (t : Sized). t.size) sized
unfolding bytes byte_at digit_of value_from all_below plain number_from number_of ahead until_byte simple_of ascii_of scalar_of unicode_of plain_escape escape_of piece_of codes_from utf8 encode halved text_of
pieces_count = refl

braces_stay : final_bytes (bytes "a{{b}}c}") ≡ some (bytes "a{b}c}")
unfolding bytes byte_at escape_of piece_of codes_from utf8 encode halved
braces_stay = refl
