-- A source read against the rows that are to be its.
use mathlib.Core.Path.{◌≡◌, refl, sym, ap, subst, ◌∙◌}
use mathlib.Core.List.{List, [], ◌∷◌, ◌++◌, append_assoc, append-nil}
use mathlib.Core.Bool.{Bool, true, false, cond}
use mathlib.Core.Logic.{◌≢◌, ◌⊎◌, inl, inr}
use Prim.Native.Nat.{ℕ, suc, ◌+◌, ◌-◌, ◌*◌, ◌≤◌, ◌<◌}
use Rattle.std.specs.Prelude.{min}
use native.Mathlib.Omega.{arith}
use lib.Dec.{ltb, leb}
use lib.ListN.{length, get_or, set, take, drop, replicate, length-append, length-drop, drop_of_length-le}
use lib.Seq.{take_at, take-suc-set, drop-set-lt, get_or_at, append_snoc}
use borrow.Author.Tests.{lt-ltb, le-ltb, lt-leb, leb-true, leb-false}
use Rattle.chars.specs.declared.Answer.{Answer}
use Rattle.tokens.specs.Tokens.{whole_of, refusal, counted}
use Rattle.rows.specs.Rows.{width}
use Rattle.grammar.specs.Rows.{Row, flat}
use Rattle.grammar.specs.Answers.{accepted, refused, Answers, accepts}
use Rattle.grammar.specs.Answers as grammar
use Rattle.grammar.proofs.Demand.{one_answer}
use Rattle.answers.specs.Source.{source}
use Rattle.answers.specs.Entries.{answer_for, table_for, Permitted, early, read}
use Rattle.answers.proofs.Determined.{whole_number, accepted_reads}
use Rattle.parser.specs.Going.{store}
use Rattle.entry.specs.Puts as put
use Rattle.entry.specs.Puts.{Puts}
use Rattle.sheets.specs.Places.{numbers_at, rows_from}
use Rattle.sheets.specs.Matches.{Differ}
use Rattle.sheets.specs.Checks.{WRONG_ROW, differing, Makes, room_for}
use Rattle.sheets.specs.Steps as steps
use Rattle.sheets.specs.Steps.{NONE, opened, Against, Compared, wrong, right}
use Rattle.sheets.proofs.Widths.{numbers_length, numbers_add}
use Rattle.sheets.proofs.Filled.{rows_flat, flat_rows, rows_count}
use Rattle.sheets.proofs.Noted.{flat_append, Outcome, all_same, differs, noted_first}
use Rattle.sheets.proofs.Differences.{behind_all, front_difference}
use Rattle.sheets.proofs.Named.{walk_start}
use Rattle.sheets.proofs.Answered.{made_declares, made_few}

-- what is handed on as a table to compare with, and what was behind it
module _ (s t : List ℕ) (behind : ℕ) {a : Answer} {part t' : List ℕ} where
  pub against_in : behind < length t → Puts true s (take (behind + 1) (set t behind NONE)) a part → t' ≡ part ++ drop (behind + 1) (set t behind NONE) → Against s t behind a t'
  against_in h p e =
      let n : behind + 1 ≡ suc behind = omega arith in
      let o : take (behind + 1) (set t behind NONE) ≡ opened t behind = ap (λ (k : ℕ). take k (set t behind NONE)) n ∙ take-suc-set t behind NONE h ∙ ap (λ (b : Bool). take behind t ++ cond b (NONE ∷ []) []) (sym (lt-ltb behind (length t) h)) in
      record { part = part; puts = subst (λ (u : List ℕ). Puts true s u a part) o p; all = e ∙ ap (λ (l : List ℕ). part ++ l) (drop-set-lt (behind + 1) t behind NONE (omega arith)) }

  pub against_out : length t ≤ behind → Puts true s (take behind t) a part → t' ≡ part ++ drop behind t → Against s t behind a t'
  against_out h p e =
      let o : take behind t ≡ opened t behind = sym (append-nil (take behind t)) ∙ ap (λ (b : Bool). take behind t ++ cond b (NONE ∷ []) []) (sym (le-ltb behind (length t) h)) in
      record { part = part; puts = subst (λ (u : List ℕ). Puts true s u a part) o p; all = e ∙ ap (λ (l : List ℕ). part ++ l) (drop_of_length-le t {i = behind} h ∙ sym (drop_of_length-le t {i = behind + 1} (omega arith))) }

-- a source that isn't refused has rows, and they were put
pub record Made (s u : List ℕ) (a : Answer) (part : List ℕ) : Type 0 where
  pub rows : List Row
  pub makes : Makes true s rows
  pub answer : a ≡ record { number = 0; start = 0; end = length s; count = length rows }
  pub table : part ≡ store u 0 rows

pub made : {s u : List ℕ} {a : Answer} {part : List ℕ} → Puts true s u a part → a.number ≡ 0 → Made s u a part
made {s} (put.early {r = r} e) q = let h = (whole_number s r e).0 in absurd (omega (arith, h, q))
made {s} {u} (put.refuses {r = r} e x) q =
    let k = accepted_reads true true s (length u) (read {g = refused r} e x) q in
    let z : refused r ≡ accepted _ = one_answer (source s) true true (length s) x (accepts k.text) in
    absurd (let y : ◌≡◌ {A = ℕ} 0 1 = ap sort z in omega (arith, y))
  where
    sort : grammar.Answer → ℕ
    sort (accepted _) = 1
    sort (refused _) = 0
made (put.puts {rs = rs} e x) q = record { rows = rs; makes = record { fine = e; read = x }; answer = refl; table = refl }

-- 1 to 9 and 11
refused_source : {s u : List ℕ} {a : Answer} {part : List ℕ} (own : List Row) (size : ℕ) (t' : List ℕ) → Puts true s u a part → a.number ≢ 0 → Compared s own size a t'
refused_source own size t' (put.early e) n = steps.refused t' (early e) n
refused_source {u = u} own size t' (put.refuses {r = r} e x) n = steps.refused t' (read {g = refused r} e x) n
refused_source own size t' (put.puts e x) n = absurd (n refl)

min_is : (x y : ℕ) → (min x y ≤ x) × (min x y ≤ y) × ((min x y ≡ x) ⊎ (min x y ≡ y))
min_is x y = go (leb x y) refl
  where
    go : (b : Bool) → leb x y ≡ b → (min x y ≤ x) × (min x y ≤ y) × ((min x y ≡ x) ⊎ (min x y ≡ y))
    go true e = let h = leb-true x y e in (omega arith, omega arith, inl (omega (arith, h)))
    go false e = let h = leb-false x y e in (omega arith, omega arith, inr (omega (arith, h)))

module _ (file t : List ℕ) (rows most k : ℕ) (s t₁ t₂ : List ℕ) (a : Answer) (fits : most ≡ room_for (length t)) (chosen : k ≡ min rows most) (loaded : t₁ ≡ numbers_at 8 file 0 (k * 7) ++ drop (k * 7) t) (read_by_lem : Against s t₁ (k * 7) a t₂) where
  abbrev own : List Row
  own = rows_from (numbers_at 8 file 0 (rows * 7))

  least : (k ≤ rows) × (k ≤ most) × ((k ≡ rows) ⊎ (k ≡ most))
  least = subst (λ (x : ℕ). (x ≤ rows) × (x ≤ most) × ((x ≡ rows) ⊎ (x ≡ most))) (sym chosen) (min_is rows most)

  abbrev front : List Row
  front = rows_from (numbers_at 8 file 0 (k * 7))

  abbrev rest : List Row
  rest = rows_from (numbers_at 8 file (0 + k * 7 * 8) ((rows - k) * 7))

  few : k ≤ rows
  few = least.0

  room : k ≤ most
  room = least.1

  pub source_refused : a.number ≢ 0 → Compared s own (length t) a t₂
  source_refused n = refused_source own (length t) t₂ read_by_lem.puts n

  module _ (good : a.number ≡ 0) where
    abbrev m : Made s (opened t₁ (k * 7)) a read_by_lem.part
    m = made read_by_lem.puts good

    abbrev rs : List Row
    rs = m.rows

    count : a.count ≡ length rs
    count = ap (λ (x : Answer). x.count) m.answer

    some : 1 ≤ length rs
    some = (walk_start (made_declares m.makes).1).3

    pub no_room : most < a.count → Compared s own (length t) (record { number = 10; start = 0; end = 0; count = a.count }) t₂
    no_room h =
        let p : Permitted true true s (length t - 1) (counted (length s) (length rs) (room_for (length t))) (table_for (length t - 1) (accepted rs)) = read m.makes.fine m.makes.read in
        let e : counted (length s) (length rs) (room_for (length t)) ≡ record { number = 10; start = 0; end = 0; count = a.count } = ap (λ (b : Bool). cond {A = Answer} b (record { number = 0; start = 0; end = length s; count = length rs }) (record { number = 10; start = 0; end = 0; count = length rs })) (lt-leb (length rs) (room_for (length t)) (omega (arith, h, count, fits))) ∙ ap (λ (n : ℕ). record { number = 10; start = 0; end = 0; count = n }) (sym count) in
        steps.refused t₂ (subst (λ (x : Answer). Permitted true true s (length t - 1) x (table_for (length t - 1) (accepted rs))) e p) λ z. absurd (omega (arith, z))

    module _ (enough : a.count ≤ most) where
      pub word_there : k * 7 < length t
      word_there = omega (arith, enough, count, some, fits, room)

      l_front : length (flat front) ≡ k * 7
      l_front = ap length flat_front ∙ numbers_length 8 file 0 (k * 7)
        where
          flat_front : flat front ≡ numbers_at 8 file 0 (k * 7)
          flat_front = flat_rows k (numbers_at 8 file 0 (k * 7)) (numbers_length 8 file 0 (k * 7))

      to_compare : opened t₁ (k * 7) ≡ flat front ++ (NONE ∷ [])
      to_compare =
          let xs : List ℕ = numbers_at 8 file 0 (k * 7) in
          let n = numbers_length 8 file 0 (k * 7) in
          let d = length-drop (k * 7) t in
          let l : length t₁ ≡ length xs + length (drop (k * 7) t) = ap length loaded ∙ length-append xs (drop (k * 7) t) in
          let w = word_there in
          ap (λ (u : List ℕ). u ++ cond (ltb (k * 7) (length t₁)) (NONE ∷ []) []) (ap (take (k * 7)) loaded ∙ take_at xs (drop (k * 7) t) (k * 7) n ∙ sym (flat_rows k xs n))
          ∙ ap (λ (b : Bool). flat front ++ cond b (NONE ∷ []) []) (lt-ltb (k * 7) (length t₁) (omega (arith, l, n, d, w)))

      note : (d : ℕ) × (store (flat front ++ (NONE ∷ [])) 0 rs ≡ flat front ++ (d ∷ [])) × Outcome 0 NONE front rs d
      note = let f = made_few m.makes in noted_first [] front rs NONE (omega (arith, f))

      table_is : t₂ ≡ flat front ++ (note.0 ∷ drop (k * 7 + 1) t₁)
      table_is = read_by_lem.all ∙ ap (λ (u : List ℕ). u ++ drop (k * 7 + 1) t₁) (m.table ∙ ap (λ (u : List ℕ). store u 0 rs) to_compare ∙ note.1) ∙ append_snoc (flat front) note.0 (drop (k * 7 + 1) t₁)

      noted_is : get_or t₂ (k * 7) 0 ≡ note.0
      noted_is = ap (λ (u : List ℕ). get_or u (k * 7) 0) table_is ∙ get_or_at (flat front) note.0 (drop (k * 7 + 1) t₁) 0 (k * 7) l_front

      own_is : own ≡ front ++ rest
      own_is =
          let xs : List ℕ = numbers_at 8 file 0 (k * 7) in
          let ys : List ℕ = numbers_at 8 file (0 + k * 7 * 8) ((rows - k) * 7) in
          let n : rows * 7 ≡ k * 7 + (rows - k) * 7 = omega (arith, few) in
          let f = flat_rows k xs (numbers_length 8 file 0 (k * 7)) in
          let g = flat_rows (rows - k) ys (numbers_length 8 file (0 + k * 7 * 8) ((rows - k) * 7)) in
          ap (λ (j : ℕ). rows_from (numbers_at 8 file 0 j)) n
          ∙ ap rows_from (numbers_add 8 file 0 (k * 7) ((rows - k) * 7) ∙ (λ j. sym f j ++ sym g j) ∙ sym (flat_append front rest))
          ∙ rows_flat (front ++ rest)

      front_count : length front ≡ k
      front_count = rows_count k (numbers_at 8 file 0 (k * 7)) (numbers_length 8 file 0 (k * 7))

      rest_count : length rest ≡ rows - k
      rest_count = rows_count (rows - k) (numbers_at 8 file (0 + k * 7 * 8) ((rows - k) * 7)) (numbers_length 8 file (0 + k * 7 * 8) ((rows - k) * 7))

      own_count : length own ≡ rows
      own_count = let l = length-append front rest in ap length own_is ∙ omega (arith, l, front_count, rest_count, few)

      reaches : (k ≡ rows) ⊎ (k ≡ most) → (rest ≡ []) ⊎ (length rs ≤ length front)
      reaches (inl e) = inl (empty rest (omega (arith, rest_count, e)))
        where
          empty : (l : List Row) → length l ≡ 0 → l ≡ []
          empty [] e = refl
          empty (x ∷ l) e = absurd (omega (arith, e))
      reaches (inr e) = inr (omega (arith, front_count, e, enough, count))

      rs_fit : length rs ≤ room_for (length t)
      rs_fit = omega (arith, enough, count, fits)

      pub row_differs : get_or t₂ (k * 7) 0 < a.count → Compared s own (length t) (differing WRONG_ROW (get_or t₂ (k * 7) 0)) t₂
      row_differs h = subst (λ (i : ℕ). Compared s own (length t) (differing WRONG_ROW i) t₂) (sym noted_is) (go note.2 (omega (arith, h, noted_is, count)))
        where
          go : {d : ℕ} → Outcome 0 NONE front rs d → d < length rs → Compared s own (length t) (differing WRONG_ROW d) t₂
          go (all_same zs q) l = let f = made_few m.makes in absurd (omega (arith, f, l))
          go (differs {j = j} l q) g =
              let z : j ≡ 0 + j = omega arith in
              subst (λ (i : ℕ). Compared s own (length t) (differing WRONG_ROW i) t₂) z (wrong t₂ m.makes rs_fit (subst (λ (x : List Row). Differ x rs j) (sym own_is) (front_difference front rs rest q l (reaches least.2))))

      module _ (far : a.count ≤ get_or t₂ (k * 7) 0) where
        all_there : (zs : List Row) × (own ≡ rs ++ zs)
        all_there = go note.2 (omega (arith, far, noted_is, count))
          where
            go : {d : ℕ} → Outcome 0 NONE front rs d → length rs ≤ d → (zs : List Row) × (own ≡ rs ++ zs)
            go (all_same zs q) l = (zs ++ rest, own_is ∙ ap (λ (x : List Row). x ++ rest) q ∙ append_assoc rs zs rest)
            go (differs l q) g = absurd (omega (arith, l, g))

        behind_count : length rs + length all_there.0 ≡ rows
        behind_count = sym (length-append rs all_there.0) ∙ sym (ap length all_there.1) ∙ own_count

        pub rows_many : a.count < rows → Compared s own (length t) (differing WRONG_ROW a.count) t₂
        rows_many h = subst (λ (i : ℕ). Compared s own (length t) (differing WRONG_ROW i) t₂) (sym count) (wrong t₂ m.makes rs_fit (go all_there.0 all_there.1 (omega (arith, behind_count, h, count))))
          where
            go : (zs : List Row) → own ≡ rs ++ zs → 0 < length zs → Differ own rs (length rs)
            go [] e l = absurd (omega (arith, l))
            go (x ∷ zs) e l = subst (λ (y : List Row). Differ y rs (length rs)) (sym e) (behind_all rs x zs)

        pub rows_right : rows ≤ a.count → Compared s own (length t) a t₂
        rows_right h = go all_there.0 all_there.1 (omega (arith, behind_count, h, count))
          where
            whole : own ≡ rs → Compared s own (length t) a t₂
            whole e =
                let r : rest ≡ [] = nothing rest (let z = enough_loaded least.2 in omega (arith, rest_count, z)) in
                let f : front ≡ own = sym (own_is ∙ ap (λ (x : List Row). front ++ x) r ∙ append-nil front) in
                subst (λ (x : Answer). Compared s own (length t) x t₂) (ap (λ (n : List Row). record { number = 0; start = 0; end = length s; count = length n }) e ∙ sym m.answer)
                (subst (Compared s own (length t) (record { number = 0; start = 0; end = length s; count = length own })) (ap (λ (x : List Row). flat x ++ (note.0 ∷ drop (k * 7 + 1) t₁)) (sym f) ∙ sym table_is)
                (right (note.0 ∷ drop (k * 7 + 1) t₁) (subst (Makes true s) (sym e) m.makes) (subst (λ (x : List Row). length x ≤ room_for (length t)) (sym e) rs_fit)))
              where
                enough_loaded : (k ≡ rows) ⊎ (k ≡ most) → rows ≤ k
                enough_loaded (inl q) = omega (arith, q)
                enough_loaded (inr q) = omega (arith, q, h, enough)

                nothing : (l : List Row) → length l ≡ 0 → l ≡ []
                nothing [] e = refl
                nothing (x ∷ l) e = absurd (omega (arith, e))

            go : (zs : List Row) → own ≡ rs ++ zs → length zs ≤ 0 → Compared s own (length t) a t₂
            go [] e l = whole (e ∙ append-nil rs)
            go (x ∷ zs) e l = absurd (omega (arith, l))

pub ap_compared : {s : List ℕ} {own : List Row} {size : ℕ} {a b : Answer} {t : List ℕ} → b ≡ a → Compared s own size a t → Compared s own size b t
ap_compared {s} {own} {size} {a} {b} {t} e h = subst (λ (x : Answer). Compared s own size x t) (sym e) h

-- two answers of `put_rows` coincide, and so do the tables
sort : grammar.Answer → ℕ
sort (accepted _) = 1
sort (refused _) = 0

table_in : List ℕ → grammar.Answer → List ℕ
table_in u (accepted rs) = store u 0 rs
table_in u (refused r) = replicate (length u) 0

answer_in : ℕ → ℕ → grammar.Answer → Answer
answer_in len size (accepted rs) = record { number = 0; start = 0; end = len; count = length rs }
answer_in len size (refused r) = answer_for len size (refused r)

pub one_puts : (tests : Bool) (s u : List ℕ) {a b : Answer} {t v : List ℕ} → Puts tests s u a t → Puts tests s u b v → (a ≡ b) × (t ≡ v)
unfolding sort table_in answer_in
one_puts tests s u (put.early {r = r} e) (put.early {r = r'} e') = let q : r ≡ r' = cc in (ap refusal q, refl)
one_puts tests s u (put.early e) (put.refuses e' x) = let z : ◌≡◌ {A = ℕ} 0 1 = cc in absurd (omega arith)
one_puts tests s u (put.early e) (put.puts e' x) = let z : ◌≡◌ {A = ℕ} 0 1 = cc in absurd (omega arith)
one_puts tests s u (put.refuses e x) (put.early e') = let z : ◌≡◌ {A = ℕ} 0 1 = cc in absurd (omega arith)
one_puts tests s u (put.refuses {r = r} e x) (put.refuses {r = r'} e' x') = let q : refused r ≡ refused r' = one_answer (source s) tests true (length s) x x' in (ap (answer_in (length s) (length u)) q, refl)
one_puts tests s u (put.refuses {r = r} e x) (put.puts {rs = rs} e' x') = let q : refused r ≡ accepted rs = one_answer (source s) tests true (length s) x x' in let z : ◌≡◌ {A = ℕ} 0 1 = ap sort q in absurd (omega (arith, z))
one_puts tests s u (put.puts e x) (put.early e') = let z : ◌≡◌ {A = ℕ} 0 1 = cc in absurd (omega arith)
one_puts tests s u (put.puts {rs = rs} e x) (put.refuses {r = r} e' x') = let q : refused r ≡ accepted rs = one_answer (source s) tests true (length s) x' x in let z : ◌≡◌ {A = ℕ} 0 1 = ap sort q in absurd (omega (arith, z))
one_puts tests s u (put.puts {rs = rs} e x) (put.puts {rs = rs'} e' x') = let q : accepted rs ≡ accepted rs' = one_answer (source s) tests true (length s) x x' in (ap (answer_in (length s) (length u)) q, ap (table_in u) q)
