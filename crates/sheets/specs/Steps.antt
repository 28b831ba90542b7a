-- What the functions inside the check and the writer promise to each other.
use Rattle.std.specs.Prelude.{◌≡◌, List, [], ◌∷◌, ◌++◌, true, cond, ◌≢◌, ℕ, ◌+◌, ◌-◌, ◌*◌, ◌/◌, ◌≤◌, ltb, length, take, drop, Option, Some, None}
use Rattle.chars.specs.declared.Answer.{Answer}
use Rattle.rows.specs.Rows.{width}
use Rattle.grammar.specs.Rows.{Row, flat}
use Rattle.answers.specs.Entries.{Permitted}
use Rattle.entry.specs.Puts.{Puts}
use Rattle.sheets.specs.Files.{SHORT, LONG}
use Rattle.sheets.specs.Places.{number_at, numbers_at, rows_from, source_count, rows_place, row_count, indexes_place, index_count, filled, source_of}
use Rattle.sheets.specs.Matches.{Differ}
use Rattle.sheets.specs.Checks.{WRONG_ROW, differing, Makes, room_for}

-- a refusal that has no place
abbrev pub placeless : ℕ → ℕ → Answer
placeless number count = record { number = number; start = 0; end = 0; count = count }

-- what a section of a list of bytes has behind its count, of so many bytes each, and what is behind the section
pub record Section (b : List ℕ) (unit : ℕ) (part behind : List ℕ) : Type 0 where
  pub inside : SHORT + number_at SHORT b 0 * unit ≤ length b
  pub part_is : part ≡ take (number_at SHORT b 0 * unit) (drop SHORT b)
  pub behind_is : behind ≡ drop (SHORT + number_at SHORT b 0 * unit) b

-- a file that its sections fill: its source, its rows' numbers and its indexes, as bytes
pub record Parsed (b source rows indexes : List ℕ) : Type 0 where
  pub full : length b ≡ filled b
  pub source_is : source ≡ source_of b (source_count b)
  pub rows_is : rows ≡ take (row_count b * (width * LONG)) (drop (rows_place (source_count b)) b)
  pub indexes_is : indexes ≡ take (index_count b * SHORT) (drop (indexes_place (source_count b) (row_count b)) b)

abbrev pub rows_in : List ℕ → List Row
rows_in b = rows_from (numbers_at LONG b 0 (length b / (width * LONG) * width))

abbrev pub indexes_in : List ℕ → List ℕ
indexes_in b = numbers_at SHORT b 0 (length b / SHORT)

-- no row differs
abbrev pub NONE : ℕ
NONE = 18446744073709551615

-- the first numbers of a table, as one to compare with: the number behind them is still to be noted
abbrev pub opened : List ℕ → ℕ → List ℕ
opened t behind = take behind t ++ cond (ltb behind (length t)) (NONE ∷ []) []

pub record Against (s t : List ℕ) (behind : ℕ) (a : Answer) (t' : List ℕ) : Type 0 where
  pub part : List ℕ
  pub puts : Puts true s (opened t behind) a part
  pub all : t' ≡ part ++ drop (behind + 1) t

-- a source, and the rows that are to be its
pub data Compared (s : List ℕ) (own : List Row) (size : ℕ) : Answer → List ℕ → Type 0 where
  refused : {a : Answer} {t : List ℕ} (t' : List ℕ) → Permitted true true s (size - 1) a t → a.number ≢ 0 → Compared s own size a t'
  wrong : {rs : List Row} {n : ℕ} (t' : List ℕ) → Makes true s rs → length rs ≤ room_for size → Differ own rs n → Compared s own size (differing WRONG_ROW n) t'
  right : (t' : List ℕ) → Makes true s own → length own ≤ room_for size → Compared s own size (record { number = 0; start = 0; end = length s; count = length own }) (flat own ++ t')

abbrev pub First : List ℕ → List ℕ → Option ℕ → Type 0
First xs ys None = xs ≡ ys
First xs ys (Some n) = Differ xs ys n
