-- C-20: the complete answer of the printer, and what then stands in the lent tables. "Refusals: 1 where the print would be over 65,535 bytes,
-- before 9 where it would pass another limit (at the token of the print), before 10 for the text buffer."
use Rattle.std.specs.Prelude.{◌≡◌, List, [], ◌∷◌, ◌++◌, Bool, true, cond, ◌≢◌, ℕ, suc, ◌-◌, ◌/◌, ◌≤◌, ◌<◌, eqb, length, replicate}
use Rattle.chars.specs.declared.Answer.{Answer}
use Rattle.rows.specs.Kinds as kinds
use Rattle.grammar.specs.Grammar.{Parts}
use Rattle.grammar.specs.Rows.{Row}
use Rattle.answers.specs.Entries.{Permitted}
use Rattle.answers.specs.Demands.{Reading, rows_of}
use Rattle.roundtrip.specs.ReadsBack.{print_of}

-- What is said of the print w of an accepted source of n bytes, and what then stands in a lent text of `size` bytes. "Another limit": reading w is refused
-- with 9, at that token's bytes in w; where w has a reading, it passes none. The count is the text's bytes.
pub data Judged (n : ℕ) (w : List ℕ) (size : ℕ) : Answer → List ℕ → Type 0 where
  too_long : 65535 < length w → Judged n w size (record { number = 1; start = 65535; end = 65535; count = 0 }) (replicate size 0)
  past_limit : {x : Answer} {t : List ℕ} → length w ≤ 65535 → Permitted true true w 0 x t → x.number ≡ 9 → Judged n w size x (replicate size 0)
  no_room : {q : Parts} → length w ≤ 65535 → Reading true true w q → size < length w → Judged n w size (record { number = 10; start = 0; end = 0; count = length w }) (replicate size 0)
  fits : {q : Parts} → length w ≤ 65535 → Reading true true w q → length w ≤ size → Judged n w size (record { number = 0; start = 0; end = n; count = length w }) (w ++ replicate (size - length w) 0)

-- C-22: how many rows are tests
unfoldable pub tests_in : List Row → ℕ
tests_in [] = 0
tests_in (r ∷ rs) = let n = tests_in rs in cond (eqb r.kind kinds.TEST) (suc n) n

-- The plan, in which rows wait to be written, has so many numbers for each row.
abbrev pub plan_width : ℕ
plan_width = 4

-- What may be answered to the source s, with how many tests; and what then stands in a lent table of `size` numbers for the rows, in a plan of `size'` numbers
-- and in a text of `size''` bytes. The source is read by the grammar in which `test` is a declaration, and its refusals come first, 10 for rows and plan among
-- them. Accepted: the rows of the source, a plan of zeros, the print and zeros behind it. Refused: zeros throughout.
pub data Prints (s : List ℕ) (size size' size'' : ℕ) : Answer → ℕ → List ℕ → List ℕ → List ℕ → Type 0 where
  refuses : {x : Answer} {t : List ℕ} → Permitted true true s size x t → x.number ≢ 0 → Prints s size size' size'' x 0 (replicate size 0) (replicate size' 0) (replicate size'' 0)
  no_plan : {x : Answer} {t : List ℕ} → Permitted true true s size x t → x.number ≡ 0 → size' / plan_width < x.count → Prints s size size' size'' (record { number = 10; start = 0; end = 0; count = x.count }) 0 (replicate size 0) (replicate size' 0) (replicate size'' 0)
  refuses_print : {x y : Answer} {t u : List ℕ} {p : Parts} → Permitted true true s size x t → x.number ≡ 0 → x.count ≤ size' / plan_width → Reading true true s p → Judged (length s) (print_of s p) size'' y u → y.number ≢ 0 → Prints s size size' size'' y 0 (replicate size 0) (replicate size' 0) (replicate size'' 0)
  prints : {x y : Answer} {t u : List ℕ} {p : Parts} → Permitted true true s size x t → x.number ≡ 0 → x.count ≤ size' / plan_width → Reading true true s p → Judged (length s) (print_of s p) size'' y u → y.number ≡ 0 → Prints s size size' size'' y (tests_in (rows_of true s p)) t (replicate size' 0) u
