-- The lent table: "A row is six u64 numbers: kind, start, end, children, value, detail." C-14: "a seventh number to each row".
use Rattle.std.specs.Prelude.{ℕ, zero, suc, ◌+◌, ◌-◌, ◌*◌, ◌/◌, ◌%◌, List, [], ◌∷◌, Bool, ◌&&◌, not, cond, length, set, get_or, ltb, eqb}
use Rattle.rows.specs.declared.Row.{Row}

-- The numbers of a row.
abbrev pub width : ℕ
width = 7

-- C-14: "Room becomes the lent length divided by 7", rounded down
abbrev pub room : List ℕ → ℕ
room table = length table / width

-- the numbers of a row from a place on, its size last
abbrev pub written : List ℕ → ℕ → Row → ℕ → List ℕ
written table i r z =
    set (set (set (set (set (set (set table i r.kind) (i + 1) r.start) (i + 2) r.end) (i + 3) r.children) (i + 4) r.value) (i + 5) r.detail) (i + 6) z

-- whether they stand there
abbrev pub standing : List ℕ → ℕ → Row → ℕ → Bool
standing table i r z =
    eqb (get_or table i 0) r.kind && (eqb (get_or table (i + 1) 0) r.start && (eqb (get_or table (i + 2) 0) r.end && (eqb (get_or table (i + 3) 0) r.children && (eqb (get_or table (i + 4) 0) r.value && (eqb (get_or table (i + 5) 0) r.detail && eqb (get_or table (i + 6) 0) z)))))

-- C-21: a table to compare with has one number behind its rows: the first row that differs from what was put.
abbrev pub comparing : List ℕ → Bool
comparing table = eqb (length table % width) 1

-- row n of the table is this one
unfoldable pub same_at : List ℕ → ℕ → Row → ℕ → Bool
same_at table n r z = ltb n (room table) && standing table (n * width) r z

-- the last number is n, where it was more
unfoldable pub lowered : List ℕ → ℕ → List ℕ
lowered table n = cond (ltb n (get_or table (length table - 1) 0)) (set table (length table - 1) n) table

-- the last number is n, where row n differs and no row before it did
unfoldable pub noted : List ℕ → ℕ → Row → ℕ → List ℕ
noted table n r z = cond (ltb n (get_or table (length table - 1) 0) && not (same_at table n r z)) (set table (length table - 1) n) table

-- the table with row n at its place, where there is room for it; a table to compare with keeps its rows
unfoldable pub put_row : List ℕ → ℕ → Row → ℕ → List ℕ
put_row table n r z = cond (comparing table) (noted table n r z) (cond (ltb n (room table)) (written table (n * width) r z) table)

-- "zeros fill the rest": all numbers from a place on
unfoldable pub zeroed : List ℕ → ℕ → List ℕ
zeroed [] from = []
zeroed (x ∷ table) zero = 0 ∷ zeroed table zero
zeroed (x ∷ table) (suc from) = x ∷ zeroed table from
