-- C-22: a source that the new grammar reads has no test, so its print has none, and the new grammar reads that too.
use mathlib.Core.Path.{◌≡◌, refl, sym, ap, subst, ◌∙◌}
use mathlib.Core.Logic.{inl, inr}
use mathlib.Core.List.{List, [], ◌∷◌, ◌++◌, append-nil}
use mathlib.Core.Bool.{Bool, true, false, not, ◌&&◌, ◌||◌, cond}
use mathlib.Core.Option.{some}
use Prim.Native.Nat.{ℕ}
use native.Mathlib.Omega.{arith}
use lib.Dec.{T, eqb, eqb→eq}
use lib.ListN.{length}
use borrow.Author.Tests.{eqb-true}
use Rattle.rows.specs.Kinds as kinds
use Rattle.grammar.specs.Words.{'test', literals}
use Rattle.grammar.specs.Grammar.{Ask, In, Symbol, same, token, phrase, unless, note, left_side, text, Token, Look, found, over, wrong, Stream, Parts, mark, end, one_of, alternatives}
use Rattle.grammar.specs.Table.{word, a, row, literal, rest_kinds, literal_row}
use Rattle.grammar.specs.Kinds.{DECLARATION, NAME, BLOCK, LITERAL}
use Rattle.grammar.specs.Limits.{Counts}
use Rattle.grammar.specs.Choice.{see, chosen}
use Rattle.grammar.specs.Runs.{viewed, view, Run}
use Rattle.grammar.specs.Readings.{word_of_lem, peek, ReadingBy, reads_end, reads_token, reads_phrase, reads_unless, reads_note, reads_side, reads_text}
use Rattle.grammar.specs.Rows.{Row, Item, own, child, Draft, blank, row_of, add_row, take_note, text_row, is_text, add_token, enter, leave, write, tree_row, rows}
use Rattle.grammar.specs.Language.{roto}
use Rattle.grammar.proofs.Bools.{and_l, and_r, both, or_cases}
use Rattle.grammar.proofs.Pass.{each_passes, passes_at}
use Rattle.grammar.proofs.Frame.{on, write_on, plain_word, write_token}
use Rattle.grammar.proofs.Subtrees.{tree_last}
use Rattle.grammar.proofs.Demand.{run_reads, text_runs}
use Rattle.grammar.proofs.Tests.{alike_but, alike_declaration, reading_old}
use Rattle.answers.specs.Source.{source}
use Rattle.answers.specs.Demands.{Reading, rows_of}
use Rattle.printing.specs.Bare.{bare_rows}
use Rattle.printing.proofs.Placed.{apart}
use Rattle.printing.proofs.Back.{alt_at}
use Rattle.forests.proofs.Stands.{literal_kinds}
use Rattle.forests.proofs.Sources.{looks_known}
use Rattle.roundtrip.specs.ReadsBack.{print_of}
use Rattle.roundtrip.proofs.ReadsBack.{reads_back, read_again}

-- no row of these is a test
abbrev testless : List Row → Bool
testless [] = true
testless (r ∷ rs) = not (eqb r.kind kinds.TEST) && testless rs

testless_two : (xs ys : List Row) → T (testless xs) → T (testless ys) → T (testless (xs ++ ys))
testless_two [] ys h k = k
testless_two (x ∷ xs) ys h k = both (not (eqb x.kind kinds.TEST)) (testless (xs ++ ys)) (and_l (not (eqb x.kind kinds.TEST)) (testless xs) h) (testless_two xs ys (and_r (not (eqb x.kind kinds.TEST)) (testless xs) h) k)

testless_front : (xs ys : List Row) → T (testless (xs ++ ys)) → T (testless xs)
testless_front [] ys h = tt
testless_front (x ∷ xs) ys h = both (not (eqb x.kind kinds.TEST)) (testless xs) (and_l (not (eqb x.kind kinds.TEST)) (testless (xs ++ ys)) h) (testless_front xs ys (and_r (not (eqb x.kind kinds.TEST)) (testless (xs ++ ys)) h))

testless_back : (xs ys : List Row) → T (testless (xs ++ ys)) → T (testless ys)
testless_back [] ys h = h
testless_back (x ∷ xs) ys h = testless_back xs ys (and_r (not (eqb x.kind kinds.TEST)) (testless (xs ++ ys)) h)

bare_testless : (rs : List Row) → testless (bare_rows rs) ≡ testless rs
bare_testless [] = refl
bare_testless (r ∷ rs) = ap (λ (b : Bool). not (eqb r.kind kinds.TEST) && b) (bare_testless rs)

-- one more row
one_more : (a : Draft) (r : Row) → T (testless a.rows) → T (not (eqb r.kind kinds.TEST)) → T (testless (a.rows ++ (r ∷ [])))
one_more a r h k = testless_two a.rows (r ∷ []) h (both (not (eqb r.kind kinds.TEST)) true k tt)

left_testless : (b : Bool) (a c : Draft) → T (testless c.rows) → T (testless (leave b a c).rows)
left_testless true a c h = h
left_testless false a c h = h

left_back : (b : Bool) (a c : Draft) → T (testless (leave b a c).rows) → T (testless c.rows)
left_back true a c h = h
left_back false a c h = h

entered : (b : Bool) (a : Draft) → T (testless a.rows) → T (testless (enter b a).rows)
entered true a h = h
entered false a h = h

-- ---- the new grammar writes no test

abbrev quiet_note : ℕ → Bool
quiet_note k = not (eqb k literal_row) && not (eqb k kinds.TEST)

abbrev quiet_notes : List Symbol → Bool
quiet_notes [] = true
quiet_notes (token g w ∷ t) = quiet_notes t
quiet_notes (phrase o n ∷ t) = quiet_notes t
quiet_notes (unless w ∷ t) = quiet_notes t
quiet_notes (note k ∷ t) = quiet_note k && quiet_notes t
quiet_notes (left_side n m ∷ t) = quiet_notes t
quiet_notes (text n ∷ t) = quiet_notes t

quiet_if : (b : Bool) (n : ℕ) (t : List Symbol) → T (quiet_notes t) → T (quiet_notes (cond b (phrase same n ∷ t) t))
quiet_if true n t h = h
quiet_if false n t h = h

abbrev calm : ℕ → List Symbol → Bool
calm n b = quiet_notes b || eqb n LITERAL

all_calm : T (each_passes calm (roto false).rules)
unfolding roto
all_calm = tt

abbrev literal_symbols : List Symbol
literal_symbols = literal literals ∷ row literal_row ∷ []

is_literal : {n : ℕ} {b : List Symbol} → n ≡ LITERAL → In b (alternatives (roto false) n) → b ≡ literal_symbols
unfolding roto
is_literal {n} {b} e o = alt_at (λ (c : List Symbol). c ≡ literal_symbols) (subst (λ (m : ℕ). In b (alternatives (roto false) m)) e o) (refl, tt)

row_kind : (k : ℕ) (xs : List Item) (part : ℕ) → T (not (eqb k literal_row)) → (row_of k xs part).kind ≡ k
unfolding row_of
row_kind k xs part h = go (eqb k literal_row) refl h
  where
    go : (b : Bool) → eqb k literal_row ≡ b → T (not b) → (row_of k xs part).kind ≡ k
    go true e t = absurd t
    go false e t = rw e refl

note_quiet : (k : ℕ) (a : Draft) → T (quiet_note k) → T (testless a.rows) → T (testless (take_note k a).rows)
unfolding take_note
note_quiet k a h u = go (eqb k 0)
  where
    r : Row
    r = row_of k a.items a.part

    other : T (not (eqb r.kind kinds.TEST))
    other = subst (λ (n : ℕ). T (not (eqb n kinds.TEST))) (sym (row_kind k a.items a.part (and_l (not (eqb k literal_row)) (not (eqb k kinds.TEST)) h))) (and_r (not (eqb k literal_row)) (not (eqb k kinds.TEST)) h)

    go : (b : Bool) → T (testless (cond {A = Draft} b (record { rows = a.rows; items = a.items; part = 1 }) (add_row r a)).rows)
    go true = u
    go false = one_more a r u other

token_quiet : (x : Token) (a : Draft) → T (testless a.rows) → T (testless (add_token x a).rows)
unfolding add_token
token_quiet x a u = go (is_text x) (eqb x.value 0)
  where
    as_word : Draft
    as_word = record { rows = a.rows; items = a.items ++ (own x ∷ []); part = a.part }

    as_text : Draft
    as_text = record { rows = a.rows ++ (text_row x ∷ []); items = a.items ++ (child (text_row x) ∷ []); part = a.part }

    go : (b c : Bool) → T (testless (cond {A = Draft} b (cond {A = Draft} c as_word as_text) as_word).rows)
    go true true = u
    go true false = one_more a (text_row x) u tt
    go false c = u

module _ (s : List ℕ) {G : Ask → Counts → Token → Bool} where
  literal_quiet : {d : Counts} {i r : ℕ} {p : Parts} (a : Draft) → ReadingBy (source s) (roto false) G d literal_symbols i r p → T (testless a.rows) → T (testless (write p (enter false a)).rows)
  unfolding write take_note row_of
  literal_quiet a (reads_token {x = x} {i = i} {j = j} e m k (reads_note reads_end)) u =
      subst (λ (b : Draft). T (testless b.rows)) (sym (write_token x (mark literal_row end) (enter false a) (plain_word x literals tt m))) (testless_two a.rows (_ ∷ []) u (both (not (eqb x.kind kinds.TEST)) true (no_or x.kind (apart literal_kinds (kinds.TEST ∷ []) x.kind tt (looks_known s i j x e))) tt))
    where
      no_or : (c : ℕ) → T (not (one_of c (kinds.TEST ∷ []))) → T (not (eqb c kinds.TEST))
      no_or c h = by (eqb c kinds.TEST) h
        where
          by : (b : Bool) → T (not (b || false)) → T (not b)
          by true t = t
          by false t = tt

  inner_quiet : {d : Counts} {i r : ℕ} (n : ℕ) (c : List Symbol) (p : Parts) → In c (alternatives (roto false) n) → ReadingBy (source s) (roto false) G d c i r p → ((b : Draft) → T (quiet_notes c) → T (testless b.rows) → T (testless (write p b).rows)) → (a : Draft) → T (testless a.rows) → T (testless (write p (enter (one_of n rest_kinds) a)).rows)
  inner_quiet {d} {i} {r} n c p o t f a u = elim (or_cases (quiet_notes c) (eqb n LITERAL) (passes_at calm (roto false).rules n all_calm o)) [
    | inl h ↦ f (enter (one_of n rest_kinds) a) h (entered (one_of n rest_kinds) a u)
    | inr h ↦ (
        let e = eqb→eq n LITERAL h in
        subst (λ (b : Bool). T (testless (write p (enter b a)).rows)) (sym (ap (λ (k : ℕ). one_of k rest_kinds) e)) (literal_quiet a (subst (λ (z : List Symbol). ReadingBy (source s) (roto false) G d z i r p) (is_literal e o) t) u)
        )
  ]

  quiet : {d : Counts} {b : List Symbol} {i r : ℕ} {p : Parts} (a : Draft) → ReadingBy (source s) (roto false) G d b i r p → T (quiet_notes b) → T (testless a.rows) → T (testless (write p a).rows)
  unfolding write
  quiet a reads_end h u = u
  quiet a (reads_token {x = x} e m k t) h u = quiet (add_token x a) t h (token_quiet x a u)
  quiet a (reads_phrase {n = n} {a = c} {p = p} o t v) h u =
      let b = one_of n rest_kinds in
      quiet (leave b a (write p (enter b a))) v h (left_testless b a (write p (enter b a)) (inner_quiet n c p o t (λ b' h' u'. quiet b' t h' u') a u))
  quiet a (reads_unless m t) h u = quiet a t h u
  quiet a (reads_note {k = k} {s = z} t) h u = quiet (take_note k a) t (and_r (quiet_note k) (quiet_notes z) h) (note_quiet k a (and_l (quiet_note k) (quiet_notes z) h) u)
  quiet a (reads_side {n = n} {n₁ = n₁} {a = c} {s = z} {p = p} o t m v) h u =
      let b = one_of n rest_kinds in
      quiet (leave b a (write p (enter b a))) v (quiet_if ((roto false).is_path p) n₁ z h) (left_testless b a (write p (enter b a)) (inner_quiet n c p o t (λ b' h' u'. quiet b' t h' u') a u))
  quiet a (reads_text {n = n} {s = z} {x = x} e k t) h u = quiet (add_token x a) t (quiet_if (eqb x.word (roto false).hole) n z h) (token_quiet x a u)

-- ---- a reading by the old grammar that writes no test is one by the new

abbrev test_symbols : List Symbol
test_symbols = word 'test' ∷ a NAME ∷ a BLOCK ∷ row kinds.TEST ∷ []

test_chosen : (n : ℕ) → chosen (roto true) DECLARATION (see (roto true) 'test' n) ≡ some test_symbols
unfolding roto
test_chosen n = refl

-- what is written stays
stays : (p : Parts) (b : Draft) → T (testless (write p b).rows) → T (testless b.rows)
stays p b h =
    let c : Draft = record { rows = []; items = b.items; part = b.part } in
    let e : on b.rows c ≡ b = ap (λ (rs : List Row). record { rows = rs; items = b.items; part = b.part }) (append-nil b.rows) in
    testless_front b.rows (write p c).rows (subst (λ (o : Draft). T (testless o.rows)) (ap (write p) (sym e) ∙ write_on p b.rows c) h)

module _ (S : Stream) where
  test_picked : (i : S.Place) → peek S (roto true) i ≡ 'test' → chosen (roto true) DECLARATION (view S (roto true) i) ≡ some test_symbols
  test_picked i e = go (S.look i) e
    where
      go : (k : Look S.Place) → word_of_lem S (roto true) k ≡ 'test' → chosen (roto true) DECLARATION (viewed S (roto true) k) ≡ some test_symbols
      go (found x j) w = subst (λ (n : ℕ). chosen (roto true) DECLARATION (see (roto true) n (peek S (roto true) j)) ≡ some test_symbols) (sym w) (test_chosen (peek S (roto true) j))
      go over w = absurd (omega (arith, w))
      go (wrong n c d) w = absurd (omega (arith, w))

  -- a test has a row
  has_row : {d : Counts} {i r : S.Place} {p : Parts} (b : Draft) → Run S (roto true) d test_symbols i r p → T (testless (write p b).rows) → ⊥
  unfolding write take_note row_of
  has_row b (reads_token {x = x} e m k (reads_phrase {p = p₁} o t (reads_phrase {p = p₂} o' t' (reads_note reads_end)))) h =
      let b₀ : Draft = add_token x b in
      let b₁ : Draft = leave false b₀ (write p₁ (enter false b₀)) in
      let b₂ : Draft = leave false b₁ (write p₂ (enter false b₁)) in
      testless_back b₂.rows (row_of kinds.TEST b₂.items b₂.part ∷ []) h

  picked_new : {d : Counts} {i r : S.Place} (n : ℕ) (c : List Symbol) (p : Parts) (b : Draft) → chosen (roto true) n (view S (roto true) i) ≡ some c → Run S (roto true) d c i r p → T (testless (write p b).rows) → chosen (roto false) n (view S (roto false) i) ≡ some c
  picked_new {d} {i} {r} n c p b o t h = by (eqb n DECLARATION) refl
    where
      at : n ≡ DECLARATION → (z : Bool) → eqb (peek S (roto true) i) 'test' ≡ z → chosen (roto false) DECLARATION (view S (roto false) i) ≡ some c
      at e true w =
          let f : some c ≡ some test_symbols = sym o ∙ ap (λ (k : ℕ). chosen (roto true) k (view S (roto true) i)) e ∙ test_picked i (eqb-true (peek S (roto true) i) 'test' w) in
          let g : c ≡ test_symbols = cc in
          absurd (has_row b (subst (λ (z : List Symbol). Run S (roto true) d z i r p) g t) h)
      at e false w = sym (alike_declaration S false i (λ k. w)) ∙ ap (λ (k : ℕ). chosen (roto true) k (view S (roto true) i)) (sym e) ∙ o

      by : (z : Bool) → eqb n DECLARATION ≡ z → chosen (roto false) n (view S (roto false) i) ≡ some c
      by true e = let f = eqb-true n DECLARATION e in subst (λ (k : ℕ). chosen (roto false) k (view S (roto false) i) ≡ some c) (sym f) (at f (eqb (peek S (roto true) i) 'test') refl)
      by false e = sym (alike_but S false n e i) ∙ o

  run_new : {d : Counts} {t : List Symbol} {i r : S.Place} {p : Parts} (b : Draft) → Run S (roto true) d t i r p → T (testless (write p b).rows) → Run S (roto false) d t i r p
  unfolding roto write
  run_new b reads_end h = reads_end
  run_new b (reads_token {x = x} e m k t) h = reads_token e m k (run_new (add_token x b) t h)
  run_new b (reads_phrase {n = n} {a = c} {p = p} {q = q} o t u) h =
      let z = one_of n rest_kinds in
      let b₁ : Draft = leave z b (write p (enter z b)) in
      let k = left_back z b (write p (enter z b)) (stays q b₁ h) in
      reads_phrase (picked_new n c p (enter z b) o t k) (run_new (enter z b) t k) (run_new b₁ u h)
  run_new b (reads_unless m t) h = reads_unless m (run_new b t h)
  run_new b (reads_note {k = k} t) h = reads_note (run_new (take_note k b) t h)
  run_new b (reads_side {n = n} {a = c} {p = p} {q = q} o t m u) h =
      let z = one_of n rest_kinds in
      let b₁ : Draft = leave z b (write p (enter z b)) in
      let k = left_back z b (write p (enter z b)) (stays q b₁ h) in
      reads_side (picked_new n c p (enter z b) o t k) (run_new (enter z b) t k) m (run_new b₁ u h)
  run_new b (reads_text {x = x} e k t) h = reads_text e k (run_new (add_token x b) t h)

-- ---- the print

-- what the new grammar reads, the old one reads
pub old_reading : (tests : Bool) (s : List ℕ) {p : Parts} → Reading tests true s p → Reading true true s p
old_reading true s r = r
old_reading false s r = record { stop = r.stop; reads = reading_old (source s) r.reads; whole = r.whole }

rows_testless : (s : List ℕ) {p : Parts} → Reading false true s p → T (testless (rows_of true s p))
rows_testless s {p} r = subst (λ (rs : List Row). T (testless rs)) (sym (tree_last (length s) p)) (one_more (write p blank) (tree_row (length s) (write p blank)) (quiet s blank r.reads tt tt) tt)

pub print_new : (s : List ℕ) (p : Parts) {q : Parts} → Reading false true s p → Reading true true (print_of s p) q → Reading false true (print_of s p) q
print_new s p {q} r u =
    let w : List ℕ = print_of s p in
    let e = (read_again s p (reads_back s p (old_reading false s r)) u).0 in
    let f : testless (rows_of true w q) ≡ testless (rows_of true s p) = sym (bare_testless (rows_of true w q)) ∙ ap testless e ∙ bare_testless (rows_of true s p) in
    let h : T (testless (rows_of true w q)) = subst T (sym f) (rows_testless s r) in
    let g = testless_front (write q blank).rows (tree_row (length w) (write q blank) ∷ []) (subst (λ (rs : List Row). T (testless rs)) (tree_last (length w) q) h) in
    run_reads (source w) false true (run_new (source w) blank (text_runs (source w) true true u) g) u.whole
