-- What the entry point's steps come to. Not to be believed: only contracts inside the printer cite it; `Prints` (roundtrip/specs/Prints.antt) is what is promised.
use Rattle.std.specs.Prelude.{Ok, ◌≡◌, List, ◌++◌, true, cond, ◌≢◌, ℕ, zero, suc, ◌+◌, ◌*◌, ◌≤◌, eqb, leb, length, get_or}
use Rattle.chars.specs.declared.Answer.{Answer}
use Rattle.tokens.specs.Tokens.{whole_of}
use Rattle.rows.specs.Kinds as kinds
use Rattle.grammar.specs.Grammar.{Parts}
use Rattle.grammar.specs.Rows.{flat}
use Rattle.answers.specs.Entries.{Permitted}
use Rattle.answers.specs.Demands.{Reading, rows_of}
use Rattle.canon.specs.Trees.{tree_of}
use Rattle.canon.specs.Text.{tokens}
use Rattle.roundtrip.specs.ReadsBack.{print_of}
use Rattle.roundtrip.specs.Prints.{Judged, tests_in}
use Rattle.sink.specs.declared.Sink.{Sink}
use Rattle.sink.specs.Few.{few}
use Rattle.sink.specs.Told.{capped}
use Rattle.setter.specs.declared.entries.Printed.{Printed}

-- The n rows of a source with the reading p stand first in the table t.
pub record Rowed (s t : List ℕ) (n : ℕ) (p : Parts) : Type 0 where
  pub reading : Reading true true s p
  pub whole : whole_of s ≡ (Ok tt)
  pub count : n ≡ length (rows_of true s p)
  pub behind : List ℕ
  pub table : t ≡ flat (rows_of true s p) ++ behind

abbrev pub Standing : List ℕ → List ℕ → ℕ → Type 0
Standing s t n = (p : Parts) × Rowed s t n p

-- the print isn't too long; what reading it says
abbrev pub Short : List ℕ → List ℕ → ℕ → Type 0
Short s t n = (p : Parts) → Rowed s t n p → length (print_of s p) ≤ 65535

abbrev pub BackFor : List ℕ → List ℕ → ℕ → Answer → Type 0
BackFor s t n x = (p : Parts) → Rowed s t n p → (u : List ℕ) × Permitted true true (print_of s p) 0 x u

-- 9, as reading it says; else it has a reading
abbrev pub LimitFor : List ℕ → List ℕ → ℕ → Answer → Type 0
LimitFor s t n x = (p : Parts) → Rowed s t n p → (x.number ≡ 9 → (u : List ℕ) × Permitted true true (print_of s p) 0 x u) × (x.number ≢ 9 → (q : Parts) × Reading true true (print_of s p) q)

-- how many of the first n rows are tests
unfoldable pub tests_at : List ℕ → ℕ → ℕ
tests_at t zero = 0
tests_at t (suc n) = tests_at t n + cond (eqb (get_or t (n * 7) 0) kinds.TEST) 1 0

-- what the sink says once the print was written
abbrev pub Spoken : List ℕ → List ℕ → ℕ → Sink → Type 0
Spoken s t n k = (p : Parts) → Rowed s t n p → (k.at ≡ capped (length (print_of s p))) × (leb k.row 32 ≡ few 0 (tokens (tree_of s (rows_of true s p))))

abbrev pub JudgedFor : List ℕ → List ℕ → ℕ → ℕ → Answer → Type 0
JudgedFor s t n size x = (p : Parts) → Rowed s t n p → (u : List ℕ) × Judged (length s) (print_of s p) size x u

abbrev pub answer_of : Printed → Answer
answer_of r = record { number = r.number; start = r.start; end = r.end; count = r.count }

-- what stands in the text where the print is kept
abbrev pub Set : List ℕ → List ℕ → ℕ → ℕ → List ℕ → Printed → Type 0
Set s t n size text r = (p : Parts) → Rowed s t n p → (u : List ℕ) × Judged (length s) (print_of s p) size (answer_of r) u × (r.number ≡ 0 → (text ≡ u) × (r.tests ≡ tests_in (rows_of true s p)))
