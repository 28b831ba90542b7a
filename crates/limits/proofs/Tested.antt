-- The tests of a reading's heads.
use mathlib.Core.List.{List}
use mathlib.Core.Bool.{Bool, true, false, ◌&&◌}
use lib.Dec.{T, ltb}
use Rattle.grammar.specs.Grammar.{Ask, plain, has_value, opens_bracket, closes_bracket, is_prefix, is_head, is_else_if, Symbol, Token, Stream, Parts}
use Rattle.grammar.specs.Limits.{Counts, kept, limit}
use Rattle.grammar.specs.Readings.{ReadingBy, reads_end, reads_token, reads_phrase, reads_unless, reads_note, reads_side, reads_text}
use Rattle.printing.proofs.Lists.{l}

abbrev pub headless : Ask → Bool
headless plain = true
headless has_value = true
headless opens_bracket = true
headless closes_bracket = true
headless is_prefix = true
headless is_head = false
headless is_else_if = false

abbrev pub Tested : Ask → Counts → Type 0
Tested plain d = Unit {0}
Tested has_value d = Unit {0}
Tested opens_bracket d = Unit {0}
Tested closes_bracket d = Unit {0}
Tested is_prefix d = Unit {0}
Tested is_head d = T (ltb d.heads limit)
Tested is_else_if d = T (ltb d.heads limit && ltb d.else_ifs limit)

-- each head of a reading keeps to its limits
module _ {S : Stream} {G : Ask → Counts → Token → Bool} where
  unfoldable pub AllHeads : {d : Counts} {t : List Symbol} {i r : S.Place} {p : Parts} → ReadingBy S l G d t i r p → Type 0
  AllHeads reads_end = Unit {0}
  AllHeads (reads_token {d = d} {g = g} e m k u) = Tested g d × AllHeads u
  AllHeads (reads_phrase y u v) = AllHeads u × AllHeads v
  AllHeads (reads_unless m u) = AllHeads u
  AllHeads (reads_note u) = AllHeads u
  AllHeads (reads_side y u k v) = AllHeads u × AllHeads v
  AllHeads (reads_text e k u) = AllHeads u

-- so in a reading that passes no limit
kept_tested : (g : Ask) (d : Counts) (x : Token) → T (kept g d x) → Tested g d
unfolding kept
kept_tested plain d x k = tt
kept_tested has_value d x k = tt
kept_tested opens_bracket d x k = tt
kept_tested closes_bracket d x k = tt
kept_tested is_prefix d x k = tt
kept_tested is_head d x k = k
kept_tested is_else_if d x k = k

pub kept_heads : {S : Stream} {d : Counts} {t : List Symbol} {i r : S.Place} {p : Parts} (u : ReadingBy S l kept d t i r p) → AllHeads u
unfolding AllHeads
kept_heads reads_end = tt
kept_heads (reads_token {d = d} {g = g} {x = x} e m k u) = (kept_tested g d x k, kept_heads u)
kept_heads (reads_phrase y u v) = (kept_heads u, kept_heads v)
kept_heads (reads_unless m u) = kept_heads u
kept_heads (reads_note u) = kept_heads u
kept_heads (reads_side y u k v) = (kept_heads u, kept_heads v)
kept_heads (reads_text e k u) = kept_heads u
