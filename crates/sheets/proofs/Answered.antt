-- C-21 permits one answer to any file, and only one; accepted are the files of readings, and those that the writer makes.
use Rattle.std.specs.Prelude.{Ok}
use mathlib.Core.Path.{◌≡◌, refl, sym, ap, subst, ◌∙◌}
use mathlib.Core.List.{List, [], ◌++◌}
use mathlib.Core.Bool.{Bool, true, false, cond}
use mathlib.Core.Logic.{◌≢◌, ◌⊎◌, inl, inr}
use Prim.Native.Nat.{ℕ, ◌-◌, ◌*◌, ◌/◌, ◌≤◌}
use native.Mathlib.Omega.{arith}
use lib.Dec.{eqb, leb→le}
use lib.ListN.{length, take, replicate}
use lib.Seq.{take_at}
use borrow.Author.Tests.{le-leb, eqb-true, eqb-false}
use Rattle.chars.specs.declared.Answer.{Answer}
use Rattle.tokens.specs.Tokens.{whole_of, counted}
use Rattle.rows.specs.Kinds as kinds
use Rattle.rows.specs.Rows.{width}
use Rattle.grammar.specs.Grammar.{Parts}
use Rattle.grammar.specs.Readings.{Text}
use Rattle.grammar.specs.Language.{roto, goal}
use Rattle.grammar.specs.Rows.{Row, flat, blank, write, tree_row, rows}
use Rattle.grammar.specs.Subtrees.{none}
use Rattle.grammar.specs.Answers.{accepted, refused, Answers, accepts}
use Rattle.grammar.specs.Answers as grammar
use Rattle.grammar.proofs.Demand.{one_answer, accepted_reading}
use Rattle.grammar.proofs.Tests.{accepted_old}
use Rattle.grammar.proofs.Subtrees.{rows_in, rows_in_count, write_trees, tree_last}
use Rattle.answers.specs.Source.{source}
use Rattle.answers.specs.Demands.{rows_of}
use Rattle.answers.specs.Entries.{Permitted, early, read}
use Rattle.answers.proofs.Determined.{whole_number, one_permitted, accepted_reads}
use Rattle.answers.proofs.Bytes.{a_permitted, rows_fit}
use Rattle.entry.proofs.Fine.{fine_short}
use Rattle.sheets.specs.declared.Checked.{Checked}
use Rattle.sheets.specs.Files.{File, written, Fills}
use Rattle.sheets.specs.Matches.{Differ, roots_from, Declares}
use Rattle.sheets.specs.Checks as checks
use Rattle.sheets.specs.Checks.{WRONG_ROW, WRONG_INDEX, unfilled, differing, refusing, accepting, Makes, room_for, Checks}
use Rattle.sheets.specs.Writes as writer
use Rattle.sheets.specs.Writes.{file_for, sized, Writes}
use Rattle.sheets.specs.Places.{filled, file_of}
use Rattle.sheets.specs.Theorems.{OfReading, AcceptedIff, WriterChecks}
use Rattle.sheets.proofs.Widths.{Bytes}
use Rattle.sheets.proofs.Filled.{filled_fills, fills_filled}
use Rattle.sheets.proofs.Differences.{one_difference, no_difference, difference, same_row_or_not, same_number_or_not}
use Rattle.sheets.proofs.Named.{one_declared}

pub one_file : {b : List ℕ} {f g : File} → Fills b f → Fills b g → f ≡ g
one_file {b} {f} {g} x y = sym (fills_filled b f x).1 ∙ (fills_filled b g y).1

-- the declarations of a reading
pub reading_declares : (tests : Bool) (s : List ℕ) (p : Parts) → (ids : List ℕ) × Declares (rows true (length s) p) ids
reading_declares tests s p = (roots_from 0 (rows_in (write p blank).items), record { below = (write p blank).rows; top = tree_row (length s) (write p blank); children = rows_in (write p blank).items; last = tree_last (length s) p; kind = refl; trees = write_trees p blank none; count = rows_in_count (write p blank).items; named = refl })

abbrev rows_within : grammar.Answer → List Row
rows_within (accepted rs) = rs
rows_within (refused r) = []

module _ {tests : Bool} {s : List ℕ} {rs : List Row} (m : Makes tests s rs) where
  pub one_made : {ys : List Row} → Makes tests s ys → rs ≡ ys
  one_made n = ap rows_within (one_answer (source s) tests true (length s) m.read n.read)

  pub made_reading : (p : Parts) × Text (source s) (roto tests) (goal true) 0 p × (rs ≡ rows true (length s) p)
  made_reading = accepted_reading (source s) tests true (length s) m.read refl

  pub made_declares : (ids : List ℕ) × Declares rs ids
  made_declares = let r = made_reading in let d = reading_declares tests s r.0 in (d.0, subst (λ (l : List Row). Declares l d.0) (sym r.2) d.1)

  pub made_few : length rs ≤ 98304
  made_few = let r = made_reading in subst (λ (l : List Row). length l ≤ 98304) (sym r.2) (rows_fit tests true s r.1 (fine_short s m.fine))

  -- where there is room for them, (a) accepts
  pub made_zero : {size : ℕ} {a : Answer} {t : List ℕ} → length rs ≤ size / width → Permitted tests true s size a t → a.number ≡ 0
  made_zero {size} {a} h p =
      ap (λ (x : Answer). x.number) (one_permitted tests true s size p (read m.fine m.read)).0
      ∙ ap (λ (b : Bool). (cond {A = Answer} b (record { number = 0; start = 0; end = length s; count = length rs }) (record { number = 10; start = 0; end = 0; count = length rs })).number) (le-leb (length rs) (size / width) h)

pub fine_of : {tests : Bool} {s : List ℕ} {size : ℕ} {a : Answer} {t : List ℕ} → Permitted tests true s size a t → a.number ≡ 0 → whole_of s ≡ (Ok tt)
fine_of {s = s} (early {r = r} e) q = let h = (whole_number s r e).0 in absurd (omega (arith, h, q))
fine_of (read e x) q = e

-- The answer to a file that is filled, by its sections.
data View (tests : Bool) (b : List ℕ) (size : ℕ) (f : File) : Checked → List ℕ → Type 0 where
  refuses : {a : Answer} {t : List ℕ} → Permitted tests true f.source (size - 1) a t → a.number ≢ 0 → View tests b size f (refusing a) (replicate size 0)
  row : {rs : List Row} {n : ℕ} → Makes tests f.source rs → length rs ≤ room_for size → Differ f.rows rs n → View tests b size f (refusing (differing WRONG_ROW n)) (replicate size 0)
  index : {ids : List ℕ} {n : ℕ} → Makes tests f.source f.rows → length f.rows ≤ room_for size → Declares f.rows ids → Differ f.indexes ids n → View tests b size f (refusing (differing WRONG_INDEX n)) (replicate size 0)
  accepts' : Makes tests f.source f.rows → length f.rows ≤ room_for size → Declares f.rows f.indexes → View tests b size f (accepting b f.rows) (flat f.rows ++ replicate (size - width * length f.rows) 0)

-- the rows differ, so they aren't those of the source
not_row : {tests : Bool} (f : File) {rs : List Row} {n : ℕ} → Makes tests f.source rs → Makes tests f.source f.rows → Differ f.rows rs n → ⊥
not_row f m k d = no_difference d (one_made k m)

module _ {tests : Bool} {b : List ℕ} {size : ℕ} {f : File} where
  viewed : {c : Checked} {t : List ℕ} → Fills b f → Checks tests b size c t → View tests b size f c t
  viewed g (checks.none h) = absurd (h f g)
  viewed {c} {t} h (checks.refuses g p n) = subst (λ (x : File). View tests b size x c t) (one_file g h) (refuses p n)
  viewed {c} {t} h (checks.row g m l d) = subst (λ (x : File). View tests b size x c t) (one_file g h) (row m l d)
  viewed {c} {t} h (checks.index g m l e d) = subst (λ (x : File). View tests b size x c t) (one_file g h) (index m l e d)
  viewed {c} {t} h (checks.accepts g m l e) = subst (λ (x : File). View tests b size x c t) (one_file g h) (accepts' m l e)

  one_view : {c c' : Checked} {t t' : List ℕ} → View tests b size f c t → View tests b size f c' t' → (c ≡ c') × (t ≡ t')
  one_view (refuses p n) (refuses q k) = (ap refusing (one_permitted tests true f.source (size - 1) p q).0, refl)
  one_view (refuses p n) (row m l d) = absurd (n (made_zero m l p))
  one_view (refuses p n) (index m l e d) = absurd (n (made_zero m l p))
  one_view (refuses p n) (accepts' m l e) = absurd (n (made_zero m l p))
  one_view (row m l d) (refuses p n) = absurd (n (made_zero m l p))
  one_view (row m l d) (row {n = n} m' l' d') = (ap (λ (i : ℕ). refusing (differing WRONG_ROW i)) (one_difference d (subst (λ (rs : List Row). Differ f.rows rs n) (one_made m' m) d')), refl)
  one_view (row m l d) (index m' l' e d') = absurd (not_row f m m' d)
  one_view (row m l d) (accepts' m' l' e) = absurd (not_row f m m' d)
  one_view (index m l e d) (refuses p n) = absurd (n (made_zero m l p))
  one_view (index m l e d) (row m' l' d') = absurd (not_row f m' m d')
  one_view (index m l e d) (index {n = n} m' l' e' d') = (ap (λ (i : ℕ). refusing (differing WRONG_INDEX i)) (one_difference d (subst (λ (ids : List ℕ). Differ f.indexes ids n) (one_declared e' e) d')), refl)
  one_view (index m l e d) (accepts' m' l' e') = absurd (no_difference d (one_declared e' e))
  one_view (accepts' m l e) (refuses p n) = absurd (n (made_zero m l p))
  one_view (accepts' m l e) (row m' l' d') = absurd (not_row f m' m d')
  one_view (accepts' m l e) (index m' l' e' d') = absurd (no_difference d' (one_declared e e'))
  one_view (accepts' m l e) (accepts' m' l' e') = (refl, refl)

module _ (tests : Bool) (b : List ℕ) (size : ℕ) where
  -- two answers coincide, and so do the tables
  pub one_check : {c c' : Checked} {t t' : List ℕ} → Checks tests b size c t → Checks tests b size c' t' → (c ≡ c') × (t ≡ t')
  one_check (checks.none h) (checks.none h') = (refl, refl)
  one_check (checks.none h) (checks.refuses {f = f} g p n) = absurd (h f g)
  one_check (checks.none h) (checks.row {f = f} g m l d) = absurd (h f g)
  one_check (checks.none h) (checks.index {f = f} g m l e d) = absurd (h f g)
  one_check (checks.none h) (checks.accepts {f = f} g m l e) = absurd (h f g)
  one_check (checks.refuses {f = f} g p n) y = one_view {f = f} (refuses p n) (viewed g y)
  one_check (checks.row {f = f} g m l d) y = one_view {f = f} (row m l d) (viewed g y)
  one_check (checks.index {f = f} g m l e d) y = one_view {f = f} (index m l e d) (viewed g y)
  one_check (checks.accepts {f = f} g m l e) y = one_view {f = f} (accepts' m l e) (viewed g y)

  -- there is an answer to any bytes
  pub a_check : Bytes b → (c : Checked) × (t : List ℕ) × Checks tests b size c t
  a_check each = full (eqb (length b) (filled b)) refl
    where
      f : File
      f = file_of b

      there : Fills b f → Makes tests f.source f.rows → length f.rows ≤ room_for size → (ids : List ℕ) → Declares f.rows ids → (f.indexes ≡ ids) ⊎ ((n : ℕ) × Differ f.indexes ids n) → (c : Checked) × (t : List ℕ) × Checks tests b size c t
      there g m l ids e (inl q) = (_, _, checks.accepts g m l (subst (Declares f.rows) (sym q) e))
      there g m l ids e (inr d) = (_, _, checks.index g m l e d.1)

      made : Fills b f → (rs : List Row) → Makes tests f.source rs → length rs ≤ room_for size → (f.rows ≡ rs) ⊎ ((n : ℕ) × Differ f.rows rs n) → (c : Checked) × (t : List ℕ) × Checks tests b size c t
      made g rs m l (inl q) = let m' = subst (Makes tests f.source) (sym q) m in let d = made_declares m' in there g m' (subst (λ (x : List Row). length x ≤ room_for size) (sym q) l) d.0 d.1 (difference same_number_or_not f.indexes d.0)
      made g rs m l (inr d) = (_, _, checks.row g m l d.1)

      answered : Fills b f → (a : Answer) (t : List ℕ) → Permitted tests true f.source (size - 1) a t → (z : Bool) → eqb a.number 0 ≡ z → (c : Checked) × (t : List ℕ) × Checks tests b size c t
      answered g a t p false e = (_, _, checks.refuses g p (eqb-false a.number 0 e))
      answered g a t p true e =
          let r = accepted_reads tests true f.source (size - 1) p (eqb-true a.number 0 e) in
          let rs : List Row = rows true (length f.source) r.parts in
          made g rs (record { fine = fine_of p (eqb-true a.number 0 e); read = accepts r.text }) (leb→le (length rs) (room_for size) r.fits) (difference same_row_or_not f.rows rs)

      full : (z : Bool) → eqb (length b) (filled b) ≡ z → (c : Checked) × (t : List ℕ) × Checks tests b size c t
      full false e = (_, _, checks.none λ f h. eqb-false (length b) (filled b) e (fills_filled b f h).0)
      full true e = let g = filled_fills b each (eqb-true (length b) (filled b) e) in let p = a_permitted tests true f.source (size - 1) in answered g p.0 p.1 p.2 (eqb p.0.number 0) refl

module _ (tests : Bool) (b : List ℕ) (size : ℕ) where
  -- a file that is accepted
  pub record Accepted (c : Checked) : Type 0 where
    pub file : File
    pub fills : Fills b file
    pub made : Makes tests file.source file.rows
    pub room : length file.rows ≤ room_for size
    pub declares : Declares file.rows file.indexes
    pub count : c.count ≡ length file.rows

  pub accepted_file : {c : Checked} {t : List ℕ} → Checks tests b size c t → c.number ≡ 0 → Accepted c
  accepted_file (checks.none h) q = absurd (omega (arith, q))
  accepted_file (checks.refuses g p n) q = absurd (n q)
  accepted_file (checks.row g m l d) q = absurd (omega (arith, q))
  accepted_file (checks.index g m l e d) q = absurd (omega (arith, q))
  accepted_file (checks.accepts {f = f} g m l e) q = record { file = f; fills = g; made = m; room = l; declares = e; count = refl }

  pub accepted_iff : AcceptedIff tests b size
  accepted_iff = record { only = only; all = all }
    where
      only : {c : Checked} {t : List ℕ} → Checks tests b size c t → c.number ≡ 0 → OfReading tests b
      only x q =
          let a = accepted_file x q in
          let r = made_reading a.made in
          record {
            source = a.file.source;
            parts = r.0;
            indexes = a.file.indexes;
            fine = a.made.fine;
            reading = r.1;
            declares = subst (λ (l : List Row). Declares l a.file.indexes) r.2 a.declares;
            fills = subst (λ (l : List Row). Fills b (file_for a.file.source l a.file.indexes)) r.2 a.fills;
          }

      all : {c : Checked} {t : List ℕ} → Checks tests b size c t → (o : OfReading tests b) → length (rows_of true o.source o.parts) ≤ room_for size → c.number ≡ 0
      all x o h = ap (λ (c : Checked). c.number) (one_check tests b size x (checks.accepts o.fills (record { fine = o.fine; read = accepts o.reading }) h o.declares)).0

-- two answers of the writer coincide, and so do the tables and the files
module _ (tests : Bool) (s : List ℕ) (size room : ℕ) where
  same_file : {rs rs' : List Row} {ids ids' : List ℕ} → Makes tests s rs → Makes tests s rs' → Declares rs ids → Declares rs' ids' → file_for s rs ids ≡ file_for s rs' ids'
  same_file {ids = ids} m m' d d' = let q = one_made m m' in λ i. file_for s (q i) (one_declared (subst (λ (l : List Row). Declares l ids) q d) d' i)

  pub one_write : {a a' : Answer} {t t' u u' : List ℕ} → Writes tests s size room a t u → Writes tests s size room a' t' u' → (a ≡ a') × (t ≡ t') × (u ≡ u')
  one_write (writer.refuses p n) (writer.refuses q k) = let e = one_permitted tests true s size p q in (e.0, e.1, refl)
  one_write (writer.refuses p n) (writer.over m l d h) = absurd (n (made_zero m l p))
  one_write (writer.refuses p n) (writer.writes m l d g h) = absurd (n (made_zero m l p))
  one_write (writer.over m l d h) (writer.refuses p n) = absurd (n (made_zero m l p))
  one_write (writer.over m l d h) (writer.over m' l' d' h') = (ap (λ (f : File). record { number = 10; start = 0; end = 0; count = length (written f) }) (same_file m m' d d'), refl, refl)
  one_write (writer.over m l d h) (writer.writes m' l' d' g h') = let e = ap (λ (f : File). length (written f)) (same_file m m' d d') in absurd (omega (arith, e, h, h'))
  one_write (writer.writes m l d g h) (writer.refuses p n) = absurd (n (made_zero m l p))
  one_write (writer.writes m l d g h) (writer.over m' l' d' h') = let e = ap (λ (f : File). length (written f)) (same_file m m' d d') in absurd (omega (arith, e, h, h'))
  one_write (writer.writes m l d g h) (writer.writes m' l' d' g' h') =
      let q = same_file m m' d d' in (
        ap (λ (f : File). record { number = 0; start = 0; end = length s; count = length (written f) }) q,
        ap (λ (f : File). flat f.rows ++ replicate (size - width * length f.rows) 0) q,
        ap (λ (f : File). written f ++ replicate (room - length (written f)) 0) q,
      )

-- the rows of a source by either grammar are its rows by the old one
made_old : (tests : Bool) {s : List ℕ} {rs : List Row} → Makes tests s rs → Makes true s rs
made_old true m = m
made_old false {s} m = record { fine = m.fine; read = accepted_old (source s) true (length s) m.read }

-- the writer's files are accepted, and an accepted file is one of them
pub writer_checks : (tests : Bool) → WriterChecks tests
writer_checks tests = record { ours = ours; back = back }
  where
    its_file : {b : List ℕ} {s : List ℕ} {rs : List Row} {ids : List ℕ} {size : ℕ} {c : Checked} {t : List ℕ} → Fills b (file_for s rs ids) → Makes tests s rs → Declares rs ids → Checks true b size c t → 98304 ≤ room_for size → c.number ≡ 0
    its_file {b} {size = size} g m d x h = let few = made_few m in ap (λ (c : Checked). c.number) (one_check true b size x (checks.accepts g (made_old tests m) (omega (arith, few, h)) d)).0

    ours : {s : List ℕ} {size room size' : ℕ} {a : Answer} {c : Checked} {t file t' : List ℕ} → Writes tests s size room a t file → a.number ≡ 0 → Checks true (take a.count file) size' c t' → 98304 ≤ room_for size' → c.number ≡ 0
    ours (writer.refuses p n) q x h = absurd (n q)
    ours (writer.over m l d k) q x h = absurd (omega (arith, q))
    ours {s} {room = room} {size' = size'} {c = c} {t' = t'} (writer.writes {rs = rs} {ids = ids} m l d g k) q x h = its_file g m d (subst (λ (b : List ℕ). Checks true b size' c t') (take_at (written (file_for s rs ids)) (replicate (room - sized s rs ids) 0) (sized s rs ids) refl) x) h

    back : {b : List ℕ} {size : ℕ} {c : Checked} {t : List ℕ} → Checks tests b size c t → c.number ≡ 0 → (s : List ℕ) × ((size' room : ℕ) (a : Answer) (t' file : List ℕ) → Writes tests s size' room a t' file → c.count ≤ size' / width → length b ≤ room → (a.number ≡ 0) × (file ≡ b ++ replicate (room - length b) 0))
    back {b} {size} {c} x q =
        let y : Accepted tests b size c = accepted_file tests b size x q in
        let f : File = y.file in
        let n = y.count in
        let l = ap length y.fills.sections in (
          f.source,
          λ size' room a t' file w h k.
              let e = one_write tests f.source size' room w (writer.writes y.made (omega (arith, n, h)) y.declares (subst (λ (z : List ℕ). Fills z f) y.fills.sections y.fills) (omega (arith, l, k))) in
              (ap (λ (z : Answer). z.number) e.0, e.2 ∙ ap (λ (z : List ℕ). z ++ replicate (room - length z) 0) (sym y.fills.sections)),
        )
