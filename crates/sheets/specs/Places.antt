-- A file by places, as the check reads it (proofs/Filled.antt ties this to Files.antt).
use Rattle.std.specs.Prelude.{List, [], ◌∷◌, ℕ, zero, suc, ◌+◌, ◌*◌, get_or, take, drop}
use Rattle.rows.specs.Rows.{width}
use Rattle.grammar.specs.Rows.{Row}
use Rattle.sheets.specs.Files.{SHORT, LONG, File}

-- The number in w bytes from a place on; k such numbers.
unfoldable pub number_at : ℕ → List ℕ → ℕ → ℕ
number_at zero b at = 0
number_at (suc w) b at = get_or b at 0 + 256 * number_at w b (at + 1)

unfoldable pub numbers_at : ℕ → List ℕ → ℕ → ℕ → List ℕ
numbers_at w b at zero = []
numbers_at w b at (suc k) = number_at w b at ∷ numbers_at w b (at + w) k

-- Rows of seven numbers each.
abbrev pub rows_from : List ℕ → List Row
rows_from (k ∷ s ∷ e ∷ c ∷ v ∷ d ∷ z ∷ ns) = record { kind = k; start = s; end = e; children = c; value = v; detail = d; size = z } ∷ rows_from ns
rows_from [] = []
rows_from (k ∷ []) = []
rows_from (k ∷ s ∷ []) = []
rows_from (k ∷ s ∷ e ∷ []) = []
rows_from (k ∷ s ∷ e ∷ c ∷ []) = []
rows_from (k ∷ s ∷ e ∷ c ∷ v ∷ []) = []
rows_from (k ∷ s ∷ e ∷ c ∷ v ∷ d ∷ []) = []

-- The three counts, where their sections begin, and what the sections have to fill.
abbrev pub source_count : List ℕ → ℕ
source_count b = number_at SHORT b 0

abbrev pub rows_place : ℕ → ℕ
rows_place source = SHORT + source + SHORT

abbrev pub row_count : List ℕ → ℕ
row_count b = number_at SHORT b (SHORT + source_count b)

abbrev pub indexes_place : ℕ → ℕ → ℕ
indexes_place source rows = rows_place source + rows * width * LONG + SHORT

abbrev pub index_count : List ℕ → ℕ
index_count b = number_at SHORT b (rows_place (source_count b) + row_count b * width * LONG)

abbrev pub filled : List ℕ → ℕ
filled b = indexes_place (source_count b) (row_count b) + index_count b * SHORT

abbrev pub source_of : List ℕ → ℕ → List ℕ
source_of b source = take source (drop SHORT b)

abbrev pub rows_of : List ℕ → ℕ → ℕ → List Row
rows_of b source rows = rows_from (numbers_at LONG b (rows_place source) (rows * width))

abbrev pub indexes_of : List ℕ → ℕ → ℕ → ℕ → List ℕ
indexes_of b source rows indexes = numbers_at SHORT b (indexes_place source rows) indexes

abbrev pub file_of : List ℕ → File
file_of b = record { source = source_of b (source_count b); rows = rows_of b (source_count b) (row_count b); indexes = indexes_of b (source_count b) (row_count b) (index_count b) }
