-- Worked pairs 2 to 9 of document 01, 4, 5 and 8 as document 02 changes them (C-12, C-16), as far as they concern values, and the examples of
-- RFC 4291 section 2.2: one table under one statement, by computation.
use Rattle.std.specs.Prelude.{Some, None}
use mathlib.Core.Path.{◌≡◌, refl}
use mathlib.Core.List.{List, [], ◌∷◌}
use mathlib.Core.Option.{some}
use Prim.Native.Nat.{ℕ}
use Prim.Native.String.{String}
use Rattle.chars.specs.Chars.{byte_at, is_class}
use Rattle.chars.specs.Runs.{span, past_span, past_run, behind_last}
use Rattle.chars.specs.Texts.{bytes, same}
use Rattle.numbers.specs.Digits.{digit_of, value_from, all_below, plain, number_from, number_of}
use Rattle.numbers.specs.Numbers.{place_in, suffix_of, ceiling_of, as_integer, integer_with, integer_of, as_of}
use Rattle.addresses.specs.Groups.{short_of, group_of, parts, values_of}
use Rattle.addresses.specs.Addresses.{exactly, octets_of, quad_of, gap, side_of, filled, groups_in, front_of, groups_with, groups_of, wide_of}
use Rattle.strings.specs.Escapes.{piece_of}
use Rattle.strings.specs.Strings.{codes_from, measure_of, is_quoted, size_of}
use Rattle.strings.specs.Utf8.{utf8, encode}
use Rattle.values.specs.Results.{Worth}
use Rattle.values.specs.Literals.{literal_of}

record Pair : Type 0 where
  code : ℕ
  text : String
  row : Worth

record Written : Type 0 where
  text : String
  groups : List ℕ

abbrev Rows : List Pair → Type 0
Rows [] = Unit {0}
Rows (p ∷ ps) = (literal_of p.code (bytes p.text) ≡ p.row) × Rows ps

abbrev Means : List Written → Type 0
Means [] = Unit {0}
Means (w ∷ ws) = (groups_of (bytes w.text) ≡ some w.groups) × Means ws

abbrev pairs : List Pair
pairs =
    record { code = 5; text = "AS4294967295"; row = Some (record { kind = 13; value = 4294967295; detail = 0 }) }
    ∷ record { code = 5; text = "AS4294967296"; row = None }
    ∷ record { code = 7; text = "18446744073709551615u64"; row = Some (record { kind = 10; value = 18446744073709551615; detail = 8 }) }
    ∷ record { code = 7; text = "300u8"; row = None }
    ∷ record { code = 2; text = "1.2.3."; row = None }
    ∷ record { code = 1; text = "::1"; row = Some (record { kind = 15; value = 0; detail = 1 }) }
    ∷ record { code = 1; text = "::ffff:1.2.3.4"; row = Some (record { kind = 15; value = 0; detail = 281470698652420 }) }
    ∷ record { code = 9; text = "\"a\""; row = Some (record { kind = 16; value = 0; detail = 0 }) }
    ∷ []

abbrev addresses : List Written
addresses =
    record { text = "ABCD:EF01:2345:6789:ABCD:EF01:2345:6789"; groups = 0xABCD ∷ 0xEF01 ∷ 0x2345 ∷ 0x6789 ∷ 0xABCD ∷ 0xEF01 ∷ 0x2345 ∷ 0x6789 ∷ [] }
    ∷ record { text = "2001:DB8:0:0:8:800:200C:417A"; groups = 0x2001 ∷ 0xDB8 ∷ 0 ∷ 0 ∷ 8 ∷ 0x800 ∷ 0x200C ∷ 0x417A ∷ [] }
    ∷ record { text = "2001:DB8::8:800:200C:417A"; groups = 0x2001 ∷ 0xDB8 ∷ 0 ∷ 0 ∷ 8 ∷ 0x800 ∷ 0x200C ∷ 0x417A ∷ [] }
    ∷ record { text = "FF01:0:0:0:0:0:0:101"; groups = 0xFF01 ∷ 0 ∷ 0 ∷ 0 ∷ 0 ∷ 0 ∷ 0 ∷ 0x101 ∷ [] }
    ∷ record { text = "FF01::101"; groups = 0xFF01 ∷ 0 ∷ 0 ∷ 0 ∷ 0 ∷ 0 ∷ 0 ∷ 0x101 ∷ [] }
    ∷ record { text = "0:0:0:0:0:0:0:1"; groups = 0 ∷ 0 ∷ 0 ∷ 0 ∷ 0 ∷ 0 ∷ 0 ∷ 1 ∷ [] }
    ∷ record { text = "::1"; groups = 0 ∷ 0 ∷ 0 ∷ 0 ∷ 0 ∷ 0 ∷ 0 ∷ 1 ∷ [] }
    ∷ record { text = "0:0:0:0:0:0:0:0"; groups = 0 ∷ 0 ∷ 0 ∷ 0 ∷ 0 ∷ 0 ∷ 0 ∷ 0 ∷ [] }
    ∷ record { text = "::"; groups = 0 ∷ 0 ∷ 0 ∷ 0 ∷ 0 ∷ 0 ∷ 0 ∷ 0 ∷ [] }
    ∷ record { text = "0:0:0:0:0:0:13.1.68.3"; groups = 0 ∷ 0 ∷ 0 ∷ 0 ∷ 0 ∷ 0 ∷ 0x0D01 ∷ 0x4403 ∷ [] }
    ∷ record { text = "0:0:0:0:0:FFFF:129.144.52.38"; groups = 0 ∷ 0 ∷ 0 ∷ 0 ∷ 0 ∷ 0xFFFF ∷ 0x8190 ∷ 0x3426 ∷ [] }
    ∷ record { text = "::13.1.68.3"; groups = 0 ∷ 0 ∷ 0 ∷ 0 ∷ 0 ∷ 0 ∷ 0x0D01 ∷ 0x4403 ∷ [] }
    ∷ record { text = "::FFFF:129.144.52.38"; groups = 0 ∷ 0 ∷ 0 ∷ 0 ∷ 0 ∷ 0xFFFF ∷ 0x8190 ∷ 0x3426 ∷ [] }
    ∷ []

pub examples : Rows pairs × Means addresses
unfolding literal_of byte_at is_class span past_span past_run behind_last bytes same digit_of value_from all_below plain number_from number_of place_in suffix_of ceiling_of as_integer integer_with integer_of as_of short_of group_of parts values_of exactly octets_of quad_of gap side_of filled groups_in front_of groups_with groups_of wide_of piece_of codes_from measure_of is_quoted size_of utf8 encode
examples = (
  (refl, (refl, (refl, (refl, (refl, (refl, (refl, (refl, tt)))))))),
  (refl, (refl, (refl, (refl, (refl, (refl, (refl, (refl, (refl, (refl, (refl, (refl, (refl, tt))))))))))))),
)
