-- A file by its sections is the file by places: the sections fill it exactly where its length is that which the counts ask for.
use mathlib.Core.Path.{◌≡◌, refl, sym, ap, subst, ◌∙◌}
use mathlib.Core.List.{List, [], ◌∷◌, ◌++◌}
use Prim.Native.Nat.{ℕ, ◌+◌, ◌-◌, ◌*◌, ◌≤◌, ◌<◌}
use native.Mathlib.Omega.{arith}
use lib.ListN.{length, take, drop, length-append, length-drop}
use lib.Seq.{length-take-le, take_all, take-add, drop_at, take-append-le, drop-append-le, take-length}
use Rattle.rows.specs.Rows.{width}
use Rattle.grammar.specs.Rows.{Row, flat}
use Rattle.entry.proofs.Stored.{flat_length}
use Rattle.sheets.specs.Files.{SHORT, LONG, bytes, words, most, Fit, none, more, File, written, Fills}
use Rattle.sheets.specs.Places.{number_at, numbers_at, rows_from, source_count, rows_place, row_count, indexes_place, index_count, filled, source_of, rows_of, indexes_of, file_of}
use Rattle.sheets.proofs.Widths.{bytes_length, words_length, number_front, numbers_front, read_back, numbers_back, Bytes, number_fits, numbers_fit, write_back, words_back, numbers_length}

-- rows from numbers, and back
pub rows_flat : (rs : List Row) → rows_from (flat rs) ≡ rs
rows_flat [] = refl
rows_flat (r ∷ rs) = ap (λ (l : List Row). r ∷ l) (rows_flat rs)

pub flat_rows : (n : ℕ) (ns : List ℕ) → length ns ≡ n * width → flat (rows_from ns) ≡ ns
flat_rows n [] e = refl
flat_rows n (k ∷ s ∷ a ∷ c ∷ v ∷ d ∷ z ∷ ns) e = ap (λ (l : List ℕ). k ∷ s ∷ a ∷ c ∷ v ∷ d ∷ z ∷ l) (flat_rows (n - 1) ns (omega arith))
flat_rows n (k ∷ []) e = absurd (omega arith)
flat_rows n (k ∷ s ∷ []) e = absurd (omega arith)
flat_rows n (k ∷ s ∷ a ∷ []) e = absurd (omega arith)
flat_rows n (k ∷ s ∷ a ∷ c ∷ []) e = absurd (omega arith)
flat_rows n (k ∷ s ∷ a ∷ c ∷ v ∷ []) e = absurd (omega arith)
flat_rows n (k ∷ s ∷ a ∷ c ∷ v ∷ d ∷ []) e = absurd (omega arith)

pub rows_count : (n : ℕ) (ns : List ℕ) → length ns ≡ n * width → length (rows_from ns) ≡ n
rows_count n ns e = let a = flat_length (rows_from ns) in let b : length (flat (rows_from ns)) ≡ length ns = ap length (flat_rows n ns e) in omega (arith, a, b, e)

-- where the length is what the counts ask for, the sections fill the file
module _ (b : List ℕ) (each : Bytes b) (full : length b ≡ filled b) where
  pub filled_source : length (source_of b (source_count b)) ≡ source_count b
  filled_source = let l = length-drop SHORT b in length-take-le (source_count b) (drop SHORT b) (omega (arith, l, full))

  pub filled_rows : length (rows_of b (source_count b) (row_count b)) ≡ row_count b
  filled_rows = rows_count (row_count b) (numbers_at LONG b (rows_place (source_count b)) (row_count b * width)) (numbers_length LONG b (rows_place (source_count b)) (row_count b * width))

  pub filled_indexes : length (indexes_of b (source_count b) (row_count b) (index_count b)) ≡ index_count b
  filled_indexes = numbers_length SHORT b (indexes_place (source_count b) (row_count b)) (index_count b)

  join : (at n : ℕ) {p q : List ℕ} → p ≡ take at b → q ≡ take n (drop at b) → p ++ q ≡ take (at + n) b
  join at n x y = (λ i. x i ++ y i) ∙ sym (take-add at n b)

  whole : written (file_of b) ≡ b
  unfolding written
  whole =
      join (indexes_place (source_count b) (row_count b)) (index_count b * SHORT)
      (join (rows_place (source_count b) + row_count b * width * LONG) SHORT
      (join (rows_place (source_count b)) (row_count b * width * LONG)
      (join (SHORT + source_count b) SHORT
      (join SHORT (source_count b)
      (ap (bytes SHORT) filled_source ∙ write_back b each SHORT 0 (omega (arith, full)))
      refl)
      (ap (bytes SHORT) filled_rows ∙ write_back b each SHORT (SHORT + source_count b) (omega (arith, full))))
      (ap (words LONG) (flat_rows (row_count b) _ (numbers_length LONG b (rows_place (source_count b)) (row_count b * width))) ∙ words_back b each LONG (rows_place (source_count b)) (row_count b * width) (omega (arith, full))))
      (ap (bytes SHORT) filled_indexes ∙ write_back b each SHORT (rows_place (source_count b) + row_count b * width * LONG) (omega (arith, full))))
      (words_back b each SHORT (indexes_place (source_count b) (row_count b)) (index_count b) (omega (arith, full)))
      ∙ take_all (filled b) b (omega (arith, full))

  count_fits : {n : ℕ} (at : ℕ) → n ≡ number_at SHORT b at → at + SHORT ≤ length b → n < most SHORT
  count_fits at e h = subst (λ (n : ℕ). n < most SHORT) (sym e) (number_fits b each SHORT at h)

  pub filled_fills : Fills b (file_of b)
  filled_fills = record {
    sections = sym whole;
    counts = more (count_fits 0 filled_source (omega (arith, full))) (more (count_fits (SHORT + source_count b) filled_rows (omega (arith, full))) (more (count_fits (rows_place (source_count b) + row_count b * width * LONG) filled_indexes (omega (arith, full))) none));
    rows = subst (Fit LONG) (sym (flat_rows (row_count b) _ (numbers_length LONG b (rows_place (source_count b)) (row_count b * width)))) (numbers_fit b each LONG (rows_place (source_count b)) (row_count b * width) (omega (arith, full)));
    indexes = numbers_fit b each SHORT (indexes_place (source_count b) (row_count b)) (index_count b) (omega (arith, full));
  }

-- a part of the front of a list
part_front : (at n : ℕ) (l q : List ℕ) → at + n ≤ length l → take n (drop at (l ++ q)) ≡ take n (drop at l)
part_front at n l q h = let d = length-drop at l in ap (take n) (drop-append-le at l q (omega arith)) ∙ take-append-le n (drop at l) q (omega (arith, d, h))

-- where the sections fill the file, its length is what the counts ask for, and they are its sections by places
module _ (f : File) (fits : Fit SHORT (length f.source ∷ length f.rows ∷ length f.indexes ∷ [])) (rows_fit : Fit LONG (flat f.rows)) (indexes-fit : Fit SHORT f.indexes) where
  abbrev a : ℕ
  a = length f.source

  abbrev n : ℕ
  n = length f.rows

  abbrev k : ℕ
  k = length f.indexes

  abbrev p₂ : List ℕ
  p₂ = bytes SHORT a ++ f.source

  abbrev p₃ : List ℕ
  p₃ = p₂ ++ bytes SHORT n

  abbrev p₄ : List ℕ
  p₄ = p₃ ++ words LONG (flat f.rows)

  abbrev p₅ : List ℕ
  p₅ = p₄ ++ bytes SHORT k

  abbrev p₆ : List ℕ
  p₆ = p₅ ++ words SHORT f.indexes

  l₂ : length p₂ ≡ SHORT + a
  l₂ = let x = length-append (bytes SHORT a) f.source in let y = bytes_length SHORT a in omega (arith, x, y)

  l₃ : length p₃ ≡ rows_place a
  l₃ = let x = length-append p₂ (bytes SHORT n) in let y = bytes_length SHORT n in omega (arith, x, y, l₂)

  l₄ : length p₄ ≡ rows_place a + n * width * LONG
  l₄ = let x = length-append p₃ (words LONG (flat f.rows)) in let y = words_length LONG (flat f.rows) in let z = flat_length f.rows in omega (arith, x, y, z, l₃)

  l₅ : length p₅ ≡ indexes_place a n
  l₅ = let x = length-append p₄ (bytes SHORT k) in let y = bytes_length SHORT k in omega (arith, x, y, l₄)

  l₆ : length p₆ ≡ indexes_place a n + k * SHORT
  l₆ = let x = length-append p₅ (words SHORT f.indexes) in let y = words_length SHORT f.indexes in omega (arith, x, y, l₅)

  small : {x : ℕ} {xs : List ℕ} → Fit SHORT (x ∷ xs) → x < most SHORT
  small (more h z) = h

  rest : {x : ℕ} {xs : List ℕ} → Fit SHORT (x ∷ xs) → Fit SHORT xs
  rest (more h z) = z

  first : source_count p₆ ≡ a
  first =
      number_front SHORT p₅ _ 0 (omega (arith, l₅))
      ∙ number_front SHORT p₄ _ 0 (omega (arith, l₄))
      ∙ number_front SHORT p₃ _ 0 (omega (arith, l₃))
      ∙ number_front SHORT p₂ _ 0 (omega (arith, l₂))
      ∙ number_front SHORT (bytes SHORT a) f.source 0 (let y = bytes_length SHORT a in omega (arith, y))
      ∙ read_back SHORT a [] 0 refl (small fits)

  second : number_at SHORT p₆ (SHORT + a) ≡ n
  second =
      number_front SHORT p₅ _ (SHORT + a) (omega (arith, l₅))
      ∙ number_front SHORT p₄ _ (SHORT + a) (omega (arith, l₄))
      ∙ number_front SHORT p₃ _ (SHORT + a) (omega (arith, l₃))
      ∙ read_back SHORT n p₂ (SHORT + a) l₂ (small (rest fits))

  third : number_at SHORT p₆ (rows_place a + n * width * LONG) ≡ k
  third = number_front SHORT p₅ _ (rows_place a + n * width * LONG) (omega (arith, l₅)) ∙ read_back SHORT k p₄ (rows_place a + n * width * LONG) l₄ (small (rest (rest fits)))

  the_source : source_of p₆ a ≡ f.source
  the_source =
      part_front SHORT a p₅ _ (omega (arith, l₅))
      ∙ part_front SHORT a p₄ _ (omega (arith, l₄))
      ∙ part_front SHORT a p₃ _ (omega (arith, l₃))
      ∙ part_front SHORT a p₂ _ (omega (arith, l₂))
      ∙ ap (take a) (drop_at (bytes SHORT a) f.source SHORT (bytes_length SHORT a))
      ∙ take-length f.source

  the_rows : rows_of p₆ a n ≡ f.rows
  the_rows =
      let e : n * width ≡ length (flat f.rows) = sym (flat_length f.rows) in
      ap rows_from (numbers_front LONG p₅ _ (rows_place a) (n * width) (omega (arith, l₅)) ∙ numbers_front LONG p₄ _ (rows_place a) (n * width) (omega (arith, l₄)) ∙ ap (numbers_at LONG p₄ (rows_place a)) e ∙ numbers_back LONG (flat f.rows) p₃ (rows_place a) l₃ rows_fit)
      ∙ rows_flat f.rows

  the_indexes : indexes_of p₆ a n k ≡ f.indexes
  the_indexes = numbers_back SHORT f.indexes p₅ (indexes_place a n) l₅ indexes-fit

  by_places : (b : List ℕ) → b ≡ p₆ → (length b ≡ filled b) × (file_of b ≡ f)
  by_places b e =
      let x : source_count b ≡ a = ap source_count e ∙ first in
      let y : row_count b ≡ n = (λ i. number_at SHORT (e i) (SHORT + x i)) ∙ second in
      let z : index_count b ≡ k = (λ i. number_at SHORT (e i) (rows_place (x i) + y i * width * LONG)) ∙ third in
      let l : length b ≡ length p₆ = ap length e in
      (omega (arith, x, y, z, l, l₆), λ i. record { source = ((λ j. source_of (e j) (x j)) ∙ the_source) i; rows = ((λ j. rows_of (e j) (x j) (y j)) ∙ the_rows) i; indexes = ((λ j. indexes_of (e j) (x j) (y j) (z j)) ∙ the_indexes) i })

pub fills_filled : (b : List ℕ) (f : File) → Fills b f → (length b ≡ filled b) × (file_of b ≡ f)
unfolding written
fills_filled b f h = by_places f h.counts h.rows h.indexes b h.sections
