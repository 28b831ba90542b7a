-- "At most 32 in a row of prefix `!`, `-`, `return`, `accept`, `reject`": how many stand in a row at each token of a reading.
use Rattle.std.specs.Prelude.{◌≡◌, List, Bool, ℕ, suc}
use Rattle.grammar.specs.Grammar.{Ask, plain, has_value, opens_bracket, closes_bracket, is_prefix, is_head, is_else_if, Symbol, Token, Stream, Parts, Language}
use Rattle.grammar.specs.Limits.{Counts}
use Rattle.grammar.specs.Readings.{ReadingBy, reads_end, reads_token, reads_phrase, reads_unless, reads_note, reads_side, reads_text}

-- In a row behind a token: one more behind a prefix, none behind any other.
abbrev pub row_after : Ask → ℕ → ℕ
row_after plain c = 0
row_after has_value c = 0
row_after opens_bracket c = 0
row_after closes_bracket c = 0
row_after is_prefix c = suc c
row_after is_head c = 0
row_after is_else_if c = 0

-- A prefix is asked with as many as stand in a row before it.
abbrev pub Asked : Ask → Counts → ℕ → Type 0
Asked plain d c = Unit {0}
Asked has_value d c = Unit {0}
Asked opens_bracket d c = Unit {0}
Asked closes_bracket d c = Unit {0}
Asked is_prefix d c = d.prefixes ≡ c
Asked is_head d c = Unit {0}
Asked is_else_if d c = Unit {0}

module _ {S : Stream} {l : Language} {G : Ask → Counts → Token → Bool} where
  -- In a row behind what was read, where c stand in a row before it: its tokens from first to last.
  unfoldable pub row_behind : {d : Counts} {s : List Symbol} {i r : S.Place} {p : Parts} → ℕ → ReadingBy S l G d s i r p → ℕ
  row_behind c reads_end = c
  row_behind c (reads_token {g = g} e m k u) = row_behind (row_after g c) u
  row_behind c (reads_phrase t u v) = row_behind (row_behind c u) v
  row_behind c (reads_unless m u) = row_behind c u
  row_behind c (reads_note u) = row_behind c u
  row_behind c (reads_side t u m v) = row_behind (row_behind c u) v
  row_behind c (reads_text e k u) = row_behind 0 u

  -- Each prefix of a reading is asked so.
  unfoldable pub InARow : {d : Counts} {s : List Symbol} {i r : S.Place} {p : Parts} → ℕ → ReadingBy S l G d s i r p → Type 0
  unfolding row_behind
  InARow c reads_end = Unit {0}
  InARow c (reads_token {d = d} {g = g} e m k u) = Asked g d c × InARow (row_after g c) u
  InARow c (reads_phrase t u v) = InARow c u × InARow (row_behind c u) v
  InARow c (reads_unless m u) = InARow c u
  InARow c (reads_note u) = InARow c u
  InARow c (reads_side t u m v) = InARow c u × InARow (row_behind c u) v
  InARow c (reads_text e k u) = InARow 0 u
