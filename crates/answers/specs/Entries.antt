-- The complete answers of (a), source to tree, and (b), source to one expression: number, place and count, and the final
-- content of the lent table.
use Rattle.std.specs.Prelude.{Ok, Err, ◌≡◌, List, ◌++◌, Bool, cond, ℕ, ◌-◌, ◌*◌, ◌/◌, leb, length, replicate}
use Rattle.tokens.specs.declared.Refusal.{Refusal}
use Rattle.chars.specs.declared.Answer.{Answer}
use Rattle.tokens.specs.Tokens.{whole_of, refusal, counted}
use Rattle.rows.specs.Rows.{width}
use Rattle.grammar.specs.Rows.{flat}
use Rattle.grammar.specs.Answers.{accepted, refused, Answers}
use Rattle.grammar.specs.Answers as grammar
use Rattle.answers.specs.Source.{source}

-- C-14: "Room becomes the lent length divided by 7", rounded down.
abbrev pub room : ℕ → ℕ
room size = size / width

-- "An answer is number, place and a count: the rows for 0, those needed for 10, else 0."
abbrev pub answer_for : ℕ → ℕ → grammar.Answer → Answer
answer_for len size (accepted rs) = counted len (length rs) (room size)
answer_for len size (refused r) = record { number = r.number; start = r.start; end = r.end; count = 0 }

-- "Accepted: the answer stands first in the lent table and zeros fill the rest. Refused: zeros throughout."
abbrev pub table_for : ℕ → grammar.Answer → List ℕ
table_for size (accepted rs) = cond (leb (length rs) (room size)) (flat rs ++ replicate (size - width * length rs) 0) (replicate size 0)
table_for size (refused r) = replicate size 0

-- What may be answered to the source s, and what then stands in a lent table of `size` numbers: "1, 2, 3 are tested first",
-- then what the grammar says from the first byte on, and 10 "exactly when nothing else refuses and the count exceeds the
-- room". `tree`: (a), else (b); `tests`: whether `test` is a declaration.
pub data Permitted (tests tree : Bool) (s : List ℕ) (size : ℕ) : Answer → List ℕ → Type 0 where
  early : {r : Refusal} → whole_of s ≡ Err r → Permitted tests tree s size (refusal r) (replicate size 0)
  read : {g : grammar.Answer} → whole_of s ≡ (Ok tt) → Answers (source s) tests tree (length s) 0 g → Permitted tests tree s size (answer_for (length s) size g) (table_for size g)
