-- The decimal that a float literal writes: "one whole number over a power of ten".
use Rattle.std.specs.Prelude.{ℕ, zero, suc, ◌+◌, ◌^◌, List, [], ◌∷◌, ◌++◌, map, Bool, true, ◌&&◌, cond, length, leb}
use Rattle.std.proofs.Math.Seq.{slice}
use Rattle.chars.specs.declared.Class.TheVariants.{Figure}
use Rattle.chars.specs.Chars.{is_class}
use Rattle.chars.specs.Runs.{past_run}
use Rattle.tokens.specs.Rules.{fraction_at}
use Rattle.numbers.specs.Digits.{digit_of, plain, value_of}

-- the digits that stand from a place on, in a run of "digits or `_`": "underscores dropped"
unfoldable pub digits_at : List ℕ → ℕ → List ℕ
digits_at text at = map digit_of (plain true (slice at (past_run (is_class Figure) text at) text))

-- the end of the first run: where the point stands, if there is one
abbrev pub point_of : List ℕ → ℕ
point_of text = past_run (is_class Figure) text 0

unfoldable pub before : List ℕ → List ℕ
before text = digits_at text 0

-- "with `.` and a digit next, that fraction too"
unfoldable pub after : List ℕ → List ℕ
after text = cond (fraction_at text (point_of text)) (digits_at text (point_of text + 1)) []

abbrev pub digits : List ℕ → List ℕ
digits text = before text ++ after text

-- the whole number, and the power of ten that it stands over
abbrev pub numerator : List ℕ → ℕ
numerator text = value_of 10 (digits text)

abbrev pub denominator : List ℕ → ℕ
denominator text = 10 ^ length (after text)

-- "from the first that isn't 0 to the last written"
unfoldable pub from_first : List ℕ → List ℕ
from_first [] = []
from_first (zero ∷ ds) = from_first ds
from_first (suc d ∷ ds) = suc d ∷ ds

-- "up to 19 digits from the first that isn't 0 to the last written, and up to 19 digits after the point"
unfoldable pub few : List ℕ → Bool
few text = leb (length (from_first (digits text))) 19 && leb (length (after text)) 19
