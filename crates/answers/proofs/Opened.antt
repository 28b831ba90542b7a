-- What a computation goes through, layer by layer: to unfold one of these is to unfold all that it names.
use Rattle.chars.specs.Chars.{byte_at, is_class}
use Rattle.chars.specs.Runs.{span, past_span, past_run, behind_last}
use Rattle.chars.specs.Texts.{bytes, same}
use Rattle.tokens.specs.Words.{two_signs, one_signs, keywords, word_in, two_sign, one_sign, name_word, code_of}
use Rattle.tokens.specs.Blanks.{skipped, skip_all}
use Rattle.tokens.specs.Rules.{when_fit, sign_fit, then_fit, pair_at, colons_at, fraction_at, dotted_at, three_at, decimal_group, or_to, ipv6_at, period_at, ipv4_at, two_at, one_at, as_at, hex_at, number_at, quote_at, name_at, taken, refused, or_else, token_at}
use Rattle.tokens.specs.Tokens.{step_at, whole_of}
use Rattle.numbers.specs.Digits.{digit_of, value_from, all_below, plain, number_from, number_of}
use Rattle.numbers.specs.Texts.{ahead, until_byte}
use Rattle.numbers.specs.Numbers.{place_in, suffix_of, ceiling_of, as_integer, integer_with, integer_of, float_with, point_at, float_of, hex_of, as_of}
use Rattle.addresses.specs.Groups.{short_of, group_of, parts, values_of}
use Rattle.addresses.specs.Addresses.{exactly, octets_of, quad_of, gap, side_of, filled, groups_in, front_of, groups_with, groups_of, wide_of}
use Rattle.strings.specs.Escapes.{simple_of, ascii_of, scalar_of, unicode_of, plain_escape, escape_of, piece_of}
use Rattle.strings.specs.Strings.{codes_from, measure_of, is_quoted, size_of, wholly, char_of}
use Rattle.strings.specs.Utf8.{utf8, encode}
use Rattle.texts.specs.Parts.{past_open, past_close, past_code, past_escape, past_item, past_items, end_at, part_at}
use Rattle.texts.specs.Texts.{halved, text_of}
use Rattle.values.specs.Literals.{bool_of, literal_of}
use Rattle.grammar.specs.Limits.{after, inside, kept}
use Rattle.grammar.specs.Rows.{row_of, take_note, add_token, write, rows_from, rows, phrase_row, is_path}
use Rattle.grammar.specs.Language.{roto}
use Rattle.grammar.specs.Compute.{run, answer}
use Rattle.answers.specs.Compute.{outcome}

unfoldable pub lexer : Unit {0}
unfolding byte_at is_class span past_span past_run behind_last bytes same two_signs one_signs keywords word_in two_sign one_sign name_word code_of skipped skip_all when_fit sign_fit then_fit pair_at colons_at fraction_at dotted_at three_at decimal_group or_to ipv6_at period_at ipv4_at two_at one_at as_at hex_at number_at quote_at name_at taken refused or_else token_at step_at whole_of
lexer = tt

unfoldable pub values : Unit {0}
unfolding digit_of value_from all_below plain number_from number_of ahead until_byte place_in suffix_of ceiling_of as_integer integer_with integer_of float_with point_at float_of hex_of as_of short_of group_of parts values_of exactly octets_of quad_of gap side_of filled groups_in front_of groups_with groups_of wide_of simple_of ascii_of scalar_of unicode_of plain_escape escape_of piece_of codes_from measure_of is_quoted size_of wholly char_of utf8 encode bool_of literal_of past_open past_close past_code past_escape past_item past_items end_at part_at halved text_of
values = tt

unfoldable pub reader : Unit {0}
unfolding after inside kept row_of take_note add_token write rows_from rows phrase_row is_path roto run answer outcome
reader = tt
