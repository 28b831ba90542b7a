-- What the entry points answer.
use Rattle.std.specs.Prelude.{Ok, Err, Bool, ◌&&◌, cond, ℕ, ◌*◌, List, [], length, eqb, leb}
use Rattle.std.proofs.Math.Seq.{slice}
use Rattle.chars.specs.declared.Answer.{Answer}
use Rattle.tokens.specs.Tokens.{refusal, counted}
use Rattle.rows.specs.Rows.{width, zeroed}
use Rattle.parser.specs.Results.{Read}
use Rattle.answers.specs.Entries.{room}

-- "zeros fill the rest" behind so many rows, where there is room for them; else zeros throughout
abbrev pub kept_rows : List ℕ → ℕ → List ℕ
kept_rows t n = zeroed t (cond (leb n (room (length t))) (n * width) 0)

-- the answer to a source of so many bytes that was read so, and what is left in a table of so many numbers
abbrev pub answered : ℕ → ℕ → Read → Answer
answered len size (Ok (m, h)) = counted len h.rows (room size)
answered len size (Err r) = refusal r

abbrev pub left_by : List ℕ → Read → List ℕ
left_by t (Ok (m, h)) = kept_rows t h.rows
left_by t (Err r) = zeroed t 0

-- the same where the rows are left as they were put, in a table of any size
abbrev pub stored_answer : ℕ → Read → Answer
stored_answer len (Ok (m, h)) = record { number = 0; start = 0; end = len; count = h.rows }
stored_answer len (Err r) = refusal r

abbrev pub stored_rows : List ℕ → Read → List ℕ
stored_rows t (Ok (m, h)) = t
stored_rows t (Err r) = zeroed t 0

-- "a row of kind 1" whose span fits
unfoldable pub name_fits : List ℕ → ℕ → ℕ → ℕ → Bool
name_fits s kind start end = eqb kind 1 && (leb start end && leb end (length s))

-- "(d) gives the part of the source that a row of kind 1 spans, and the empty part at the front for any other row or a
-- span that doesn't fit."
unfoldable pub name_text : List ℕ → ℕ → ℕ → ℕ → List ℕ
name_text s kind start end = cond (name_fits s kind start end) (slice start end s) []

-- how far behind the source's first byte that part lies
unfoldable pub name_start : List ℕ → ℕ → ℕ → ℕ → ℕ
name_start s kind start end = cond (name_fits s kind start end) start 0
