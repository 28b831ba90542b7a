-- The rows of a source, put into any table one after the other, and the answer. C-21: "Build no second tree": what putting a row into
-- a table to compare with does is said by `put_row` (rows/specs/Rows.antt).
use Rattle.std.specs.Prelude.{Ok, Err, ◌≡◌, List, Bool, true, ℕ, length, replicate}
use Rattle.chars.specs.declared.Answer.{Answer}
use Rattle.tokens.specs.declared.Refusal.{Refusal}
use Rattle.tokens.specs.Tokens.{whole_of, refusal}
use Rattle.grammar.specs.Rows.{Row}
use Rattle.grammar.specs.Answers.{accepted, refused, Answers}
use Rattle.grammar.specs.Refusals as grammar
use Rattle.answers.specs.Source.{source}
use Rattle.answers.specs.Entries.{answer_for}
use Rattle.parser.specs.Going.{store}

-- What may be answered to the source s, and what then stands in the lent table t: zeros where it is refused, by 1, 2, 3 or the grammar; else t with all
-- rows put into it, from row 0 on.
pub data Puts (tests : Bool) (s t : List ℕ) : Answer → List ℕ → Type 0 where
  early : {r : Refusal} → whole_of s ≡ Err r → Puts tests s t (refusal r) (replicate (length t) 0)
  refuses : {r : grammar.Refusal} → whole_of s ≡ (Ok tt) → Answers (source s) tests true (length s) 0 (refused r) → Puts tests s t (answer_for (length s) (length t) (refused r)) (replicate (length t) 0)
  puts : {rs : List Row} → whole_of s ≡ (Ok tt) → Answers (source s) tests true (length s) 0 (accepted rs) → Puts tests s t (record { number = 0; start = 0; end = length s; count = length rs }) (store t 0 rs)
