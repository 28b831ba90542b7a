-- Where a reader stands, and what it answers there.
use Rattle.std.specs.Prelude.{Some, None, Ok, Err, cond, List, ℕ, ◌+◌, ◌-◌, eqb, ltb, length}
use Rattle.std.proofs.Math.Seq.{slice}
use Rattle.rows.specs.Kinds as kinds
use Rattle.tokens.specs.declared.Refusal.{Refusal}
use Rattle.tokens.specs.Results.{Step}
use Rattle.tokens.specs.Tokens.{step_at}
use Rattle.grammar.specs.Words.{the_end, f_quote, text_then_hole, last_text, no_token}
use Rattle.rows.specs.declared.Row.{Row}
use Rattle.rows.specs.Rows.{put_row}
use Rattle.strings.specs.Results.{Size}
use Rattle.texts.specs.Results.{Scanned}
use Rattle.texts.specs.declared.Part.{Part}
use Rattle.texts.specs.declared.Part.TheVariants.{Before, Ends}
use Rattle.texts.specs.Texts.{text_of}
use Rattle.parser.specs.declared.Here.{Here}
use Rattle.parser.specs.declared.Node.{Node}
use Rattle.parser.specs.Results.{Read}

-- one more, of what never comes near so many: 300,000 rows
abbrev pub up_to : ℕ → ℕ → ℕ
up_to most n = cond (ltb n most) (n + 1) n

abbrev pub bumped : ℕ → ℕ
bumped n = up_to 300000 n

-- The word of a step: a token's; `f"`, the lexer's refusal 5, is a token (C-11); the end of the source; what is no token.
unfoldable pub refused_word : ℕ → ℕ
refused_word n = cond (eqb n 11) the_end (cond (eqb n 5) f_quote no_token)

unfoldable pub step_word : Step → ℕ
step_word (Ok (w, a, next)) = w
step_word (Err r) = refused_word r.number

unfoldable pub step_start : Step → ℕ
step_start (Ok (w, a, next)) = a
step_start (Err r) = r.start

unfoldable pub step_end : Step → ℕ
step_end (Ok (w, a, next)) = next.at
step_end (Err r) = r.end

-- the place behind a step from a place: behind a token, and else one further on
unfoldable pub step_next : ℕ → Step → ℕ
step_next place (Ok (w, a, next)) = next.at
step_next place (Err r) = cond (eqb r.number 5) r.end (place + 1)

-- What a reader stands at: its word, where it starts and ends, the place behind it.
abbrev pub word_of : Here → ℕ
word_of h = step_word h.step

abbrev pub start_of : Here → ℕ
start_of h = step_start h.step

abbrev pub end_of : Here → ℕ
end_of h = step_end h.step

abbrev pub next_of : Here → ℕ
next_of h = step_next h.place h.step

-- What a reader sees at a place.
unfoldable pub here_at : List ℕ → ℕ → ℕ → Here
here_at s place rows = record { step = step_at s place; place = place; rows = rows }

-- behind the token that the reader stands at
abbrev pub passed : List ℕ → Here → Here
passed s h = here_at s (next_of h) h.rows

-- with one row more
abbrev pub later : Here → Here
later h = record { step = h.step; place = h.place; rows = bumped h.rows }

-- "6: token not usable here", "11: source ends too early"; where there is no token, the lexer's number
unfoldable pub step_unused : Step → Refusal
step_unused (Ok (w, a, next)) = record { number = 6; start = a; end = next.at }
step_unused (Err r) = cond (eqb r.number 5) (record { number = 6; start = r.start; end = r.end }) r

abbrev pub unused_at : Here → Refusal
unused_at h = step_unused h.step

-- "9: nested too deep", "7: literal without a value", "8: assignment sign where one could stand, left side no path"
abbrev pub refusal_at : ℕ → ℕ → ℕ → Refusal
refusal_at n a e = record { number = n; start = a; end = e }

-- the node of a token, of a list that ends at a token, and of a row
abbrev pub token_node : Here → Node
token_node h = record { kind = kinds.NONE; start = start_of h; end = end_of h; children = 0 }

abbrev pub list_node : Here → ℕ → ℕ → Node
list_node h a c = record { kind = kinds.NONE; start = a; end = end_of h; children = c }

-- a row without value and detail
abbrev pub plain_row : ℕ → ℕ → ℕ → ℕ → Row
plain_row k a e c = record { kind = k; start = a; end = e; children = c; value = 0; detail = 0 }

abbrev pub node_of : Row → Node
node_of r = record { kind = r.kind; start = r.start; end = r.end; children = 0 }

-- C-14: the rows from so many on, and one more
abbrev pub size_from : Here → ℕ → ℕ
size_from h since = bumped h.rows - since

-- the table with a row at its place, the last of those from so many on
abbrev pub put_over : List ℕ → Here → Row → ℕ → List ℕ
put_over t h r since = put_row t h.rows r (size_from h since)

-- past a token: any; one of this word; one under a limit, of which n are left; a bracket that opens
abbrev pub past : List ℕ → Here → Read
past s h = Ok (token_node h, passed s h)

abbrev pub unused : Here → Read
unused h = Err (unused_at h)

unfoldable pub took_by : Step → Read → Read → Read
took_by (Ok (w, a, next)) x y = x
took_by (Err r) x y = y

abbrev pub took : List ℕ → Here → Read
took s h = took_by h.step (past s h) (unused h)

unfoldable pub expected : List ℕ → Here → ℕ → Read
expected s h w = cond (eqb (word_of h) w) (took s h) (unused h)

unfoldable pub under : List ℕ → Here → ℕ → Read
under s h n = took_by h.step (cond (eqb n 0) (Err (refusal_at 9 (start_of h) (end_of h))) (past s h)) (unused h)

unfoldable pub opening : List ℕ → Here → ℕ → ℕ → Read
opening s h w n = cond (eqb (word_of h) w) (under s h n) (unused h)

-- past the bracket that closes a list
unfoldable pub closing : List ℕ → Here → ℕ → ℕ → ℕ → Read
closing s h w a c = cond (eqb (word_of h) w) (took_by h.step (Ok (list_node h a c, passed s h)) (unused h)) (unused h)

-- C-11: past the piece of text from a to e, where n rows are written; then place j is looked at. Its node: its word, its span,
-- and 1 if it has a row.
abbrev pub part_row : ℕ → ℕ → ℕ → Row
part_row a e n = record { kind = kinds.TEXT; start = a; end = e; children = 0; value = n; detail = 0 }

abbrev pub part_node : ℕ → ℕ → ℕ → ℕ → Node
part_node w a e n = record { kind = w; start = a; end = e; children = n }

unfoldable pub piece_read : List ℕ → ℕ → ℕ → ℕ → ℕ → ℕ → Size → Read
piece_read s n a w e j (Some c) = cond (eqb c 0) (Ok (part_node w a e 0, here_at s j n)) (Ok (part_node w a e 1, here_at s j (bumped n)))
piece_read s n a w e j None = Err (refusal_at 7 a e)

unfoldable pub piece_table : List ℕ → ℕ → ℕ → ℕ → Size → List ℕ
piece_table t n a e (Some c) = cond (eqb c 0) t (put_row t n (part_row a e c) 1)
piece_table t n a e None = t

unfoldable pub part_read : List ℕ → ℕ → ℕ → Scanned → Read
part_read s n a (Some (Before e)) = piece_read s n a text_then_hole e e (text_of (slice a e s))
part_read s n a (Some (Ends e)) = piece_read s n a last_text e (e + 1) (text_of (slice a e s))
part_read s n a None = Err (refusal_at 11 (length s) (length s))

unfoldable pub part_table : List ℕ → List ℕ → ℕ → ℕ → Scanned → List ℕ
part_table s t n a (Some (Before e)) = piece_table t n a e (text_of (slice a e s))
part_table s t n a (Some (Ends e)) = piece_table t n a e (text_of (slice a e s))
part_table s t n a None = t
