-- What is followed without a tally: a literal, whose row its token gives; a whole source.
use Rattle.std.specs.Prelude.{Some, None, Ok, Err}
use Rattle.rows.specs.Kinds as kinds
use Rattle.tokens.specs.Words.{code_of}
use mathlib.Core.Path.{◌≡◌, refl, sym, ap, subst, ◌∙◌}
use mathlib.Core.List.{List, [], ◌∷◌}
use mathlib.Core.Bool.{Bool, true, false, not, ◌||◌}
use mathlib.Core.Logic.{◌≢◌}
use Prim.Native.Nat.{ℕ, suc, ◌+◌, ◌≤◌, ◌<◌}
use lib.Dec.{T, eqb, ltb, ltb→lt, eqb→eq}
use lib.ListN.{length, length-append}
use lib.Seq.{slice}
use native.Mathlib.Omega.{arith}
use Rattle.tokens.specs.declared.Refusal.{Refusal}
use Rattle.tokens.specs.declared.Cursor.{Cursor}
use Rattle.tokens.proofs.Steps.{taken_good}
use Rattle.rows.specs.declared.Row.{Row}
use Rattle.rows.specs.Rows.{put_row}
use Rattle.values.specs.Results.{Worth}
use Rattle.values.specs.Literals.{literal_of, literal_at}
use Rattle.values.proofs.Literals.{text_fits}
use Rattle.grammar.specs.Words.{literals, 'const', 'fn', 'import', 'test', filter_words}
use Rattle.grammar.specs.Grammar.{same, Token, one_of}
use Rattle.grammar.specs.Limits.{Counts, zeros, inside, kept}
use Rattle.grammar.specs.Table.{a}
use Rattle.grammar.specs.Kinds.{records, TREE, DECLARATIONS, DECLARATION, EXPR, LITERAL}
use Rattle.grammar.specs.Rows.{Item, own, count, sizes, Draft, blank, take_note, row_of, literal_of_lem, tree_row, rows_from}
use Rattle.grammar.specs.Rows as grammar
use Rattle.grammar.specs.Refusals.{Why, want, amiss, said}
use Rattle.grammar.specs.Refusals as refusals
use Rattle.grammar.specs.Language.{roto, goal}
use Rattle.grammar.specs.Readings.{peek}
use Rattle.grammar.specs.Answers.{refused}
use Rattle.grammar.specs.Answers as answers
use Rattle.grammar.specs.Phrases as phrases
use Rattle.grammar.proofs.Bools.{F→eq}
use Rattle.grammar.proofs.Frame.{with_own}
use Rattle.grammar.proofs.Summary.{sum, sum_of}
use Rattle.grammar.proofs.Open.{Open, with_phrase, start, take, notes, within, reads, tail, pop, fails, finish}
use Rattle.grammar.proofs.Entry.{read_accepted, read_left, refused_stops}
use Rattle.grammar.proofs.Tests.{Alike, alike_but, alike_low, alike_declaration, read_by, refused_by, test_refused}
use Rattle.answers.specs.Source.{source, holds, token_for}
use Rattle.parser.specs.declared.Here.{Here}
use Rattle.parser.specs.declared.Node.{Node}
use Rattle.parser.specs.Results.{Read}
use Rattle.parser.proofs.Laws.{bump_more, word_taken, start_taken, end_taken, next_taken}
use Rattle.parser.specs.Places.{word_of, start_of, end_of, next_of, bumped, here_at, unused, passed, later, refusal_at, node_of, size_from, put_over, plain_row}
use Rattle.parser.specs.Going.{language, token_of, Stands, as_row, store, Tally, bare, lone, many, Holds, with_node, count_of, Phrase, Going, Answers}
use Rattle.parser.proofs.Standing.{here_place, here_rows, peeks, says, is_over, not_over, solid_word, is_token, goes_past, more_rows, next_small}
use Rattle.parser.proofs.Tables.{store_row, store_length}
use Rattle.parser.proofs.Going.{at, begins, goes_added, adds_phrase, refuses_past, done, stopped, whole_of, stopped_of, few_rows, kept_length}
use Rattle.parser.proofs.Picks.{picks_at, picks_else, begins_any}
use Rattle.promises.specs.Firsts.{declaration_firsts, firsts_by}
use Rattle.promises.specs.Promises.{the, FinishedIs, Finished}
use Rattle.promises.proofs.Alternatives.{literal_is, literal_any, tree_is, tree_any, declarations_is, declarations_on, declarations_off}
use Rattle.promises.proofs.Answered.{kept_either}
use Rattle.promises.proofs.Leaves.{row_is as written}

-- a literal: its row is what its token says
abbrev span_row : ℕ → ℕ → ℕ → ℕ → ℕ → Row
span_row k a e v d = record { kind = k; start = a; end = e; children = 0; value = v; detail = d }

abbrev literal_row : Here → ℕ → ℕ → ℕ → Row
literal_row h k v d = span_row k (start_of h) (end_of h) v d

module _ (s : List ℕ) (d : Counts) (h : Here) (t : List ℕ) (g : Stands s h) (o : T (one_of (word_of h) literals)) {x : Worth} (p : x ≡ literal_of (code_of (word_of h)) (slice (start_of h) (end_of h) s)) where
  abbrev Literally : Phrase
  Literally = the s d LITERAL h t

  literal_none : {r : Read} → x ≡ None → r ≡ Err (refusal_at 7 (start_of h) (end_of h)) → Answers Literally 1 r t
  unfolding kept
  literal_none n e = stopped e (refuses_past (begins_any literal_any g) tt o (subst (λ (y : Worth). T (not (holds y))) (sym n ∙ p) tt))

  module _ {k v e : ℕ} (q : x ≡ Some (record { kind = k; value = v; detail = e })) where
    row_is : as_row (literal_of_lem (own (token_of s h) ∷ []) 0 1) ≡ literal_row h k v e
    row_is = ap (λ (y : Worth). as_row (literal_of_lem (own (token_for (word_of h) (start_of h) (end_of h) y) ∷ []) 0 1)) (sym p ∙ q)

    literal_read : {z : Here} {r : Read} {t' : List ℕ} → z ≡ passed s h → (r ≡ Ok (node_of (literal_row h k v e), later z)) × (t' ≡ put_over t z (literal_row h k v e) h.rows) → Answers Literally 1 r t'
    unfolding inside kept take_note row_of store
    literal_read j w =
        let n = solid_word (word_of h) literals tt o in
        let b = goes_past g n.0 n.1 refl in
        let c = is_token g n.0 n.1 in
        let x : Token = token_of s h in
        let few = b.0.few in
        let small = next_small b.0 in
        let short = g.short in
        let next = b.2 in
        let same_rows = b.3 in
        let more : bumped (passed s h).rows ≡ (passed s h).rows + 1 = sym (bump_more 300000 (passed s h).rows (omega arith)) in
        let had = g.few in
        let one : size_from (passed s h) h.rows ≡ 1 = omega (arith, more, same_rows) in
        let opened = pop (source s) language (notes (source s) language (take (source s) language c.0 tt o (subst (λ (y : Worth). T (holds y)) (sym q ∙ p) tt) (start (source s) language literal_is (picks_else s g literal_any (λ z. z))))) in
        done (w.0 ∙ ap (λ (z : Here). Ok (node_of (literal_row h k v e), later z)) j) (record {
          draft = take_note 100 (with_own x blank);
          read = finish (source s) language (subst (λ (z : ℕ). Open (source s) language d same LITERAL h.place [] z (take_note 100 (with_own x blank))) (sym b.1) opened);
          stands = more_rows b.0 refl (omega (arith, more, had, same_rows, next));
          leaves = (literal_of_lem (own x ∷ []) 0 1, refl, ap (λ (z : Row). z.kind) row_is, refl, refl);
          rows = omega (arith, more, same_rows);
          stored = w.1 ∙ ap (λ (z : Here). put_over t z (literal_row h k v e) h.rows) j ∙ ap (put_row t (passed s h).rows (literal_row h k v e)) one ∙ ap (λ (z : ℕ). put_row t z (literal_row h k v e) 1) same_rows ∙ ap (λ (z : Row). put_row t h.rows z 1) (sym row_is);
          counted = omega (arith, more, same_rows);
          spares = omega (arith, more, same_rows, next);
        })

-- the same from the token that the literal's step gives
module _ (s : List ℕ) (d : Counts) (h : Here) (t : List ℕ) (g : Stands s h) (o : T (one_of (word_of h) literals)) {w a : ℕ} {next : Cursor} (i : h.step ≡ Ok (w, a, next)) {n : ℕ} {x : Worth} (c : n ≡ code_of w) (p : x ≡ literal_at n a next.at s) where
  -- a token lies inside its source
  inside_source : (a ≤ next.at) × (next.at ≤ length s)
  unfolding here_at
  inside_source = let f = taken_good s h.place (sym (ap (λ (z : Here). z.step) g.seen) ∙ i) in (omega arith, f.2)

  token_value : x ≡ literal_of (code_of (word_of h)) (slice (start_of h) (end_of h) s)
  token_value = p ∙ sym (text_fits n s a next.at inside_source.0 inside_source.1) ∙ ap (λ (y : ℕ). literal_of y (slice a next.at s)) (c ∙ ap code_of (word_taken i)) ∙ ap (λ (y : ℕ). literal_of (code_of (word_of h)) (slice y next.at s)) (sym (start_taken i)) ∙ ap (λ (y : ℕ). literal_of (code_of (word_of h)) (slice (start_of h) y s)) (sym (end_taken i))

  pub token_none : {r : Read} → x ≡ None → r ≡ Err (refusal_at 7 a next.at) → Answers (the s d LITERAL h t) 1 r t
  token_none q e = literal_none s d h t g o token_value q (e ∙ ap (λ (y : ℕ). Err (refusal_at 7 y next.at)) (sym (start_taken i)) ∙ ap (λ (y : ℕ). Err (refusal_at 7 (start_of h) y)) (sym (end_taken i)))

  pub token_read : {k v e : ℕ} {z : Here} {r : Read} {t' : List ℕ} → x ≡ Some (record { kind = k; value = v; detail = e }) → z ≡ here_at s next.at h.rows → (r ≡ Ok (node_of (span_row k a next.at v e), later z)) × (t' ≡ put_over t z (span_row k a next.at v e) h.rows) → Answers (the s d LITERAL h t) 1 r t'
  token_read {k} {v} {e} {z} q j u =
      let m : span_row k a next.at v e ≡ literal_row h k v e = ap (λ (y : ℕ). span_row k y next.at v e) (sym (start_taken i)) ∙ ap (λ (y : ℕ). span_row k (start_of h) y v e) (sym (end_taken i)) in
      literal_read s d h t g o token_value q (j ∙ ap (λ (y : ℕ). here_at s y h.rows) (sym (next_taken h.place i))) (written z t h.rows m u)

-- either way the table keeps its length
pub finished_kept : {tests tree : Bool} {s t : List ℕ} {r : Read} {t' : List ℕ} → length s ≤ 65535 → Finished tests tree s t r t' → length t' ≡ length t
finished_kept {tests} {tree} {s} {t} {r} {t'} h u = go r (u.short h)
  where
    go : (r : Read) → FinishedIs tests tree s t r t' → length t' ≡ length t
    go (Ok (m, z)) x = ap length x.3 ∙ store_length t 0 x.0
    go (Err e) x = x.1

-- a source that is too long
pub finished_long : (tests tree : Bool) (s t : List ℕ) {r : Read} → 65535 < length s → r ≡ Err (refusal_at 1 65535 65535) → Finished tests tree s t r t
finished_long tests tree s t h e = record { short = λ q. absurd (omega (arith, h, q)); long = λ q. (e, refl) }

-- where a reader begins
module _ (s : List ℕ) (short : length s ≤ 65535) {i : Here} (b : i ≡ here_at s 0 0) where
  first_place : i.place ≡ 0
  first_place = ap (λ (x : Here). x.place) b ∙ here_place s 0 0

  first_rows : i.rows ≡ 0
  first_rows = ap (λ (x : Here). x.rows) b ∙ here_rows s 0 0

  pub first_stands : Stands s i
  first_stands = let p = first_place in let r = first_rows in record { short = short; seen = b ∙ ap (λ (x : ℕ). here_at s x 0) (sym p) ∙ ap (here_at s i.place) (sym r); placed = omega (arith, p); few = omega (arith, r) }

-- a source from its first byte on, by either grammar
module _ (tests tree : Bool) (s t : List ℕ) (short : length s ≤ 65535) {i : Here} (b : i ≡ here_at s 0 0) where
  finished_is : {r q : Read} {t' : List ℕ} → r ≡ q → FinishedIs tests tree s t q t' → Finished tests tree s t r t'
  finished_is {t' = t'} e x = record { short = λ h. subst (λ (y : Read). FinishedIs tests tree s t y t') (sym e) x; long = λ h. absurd (let z = ltb→lt 65535 (length s) h in omega (arith, z, short)) }

  from_first : {x : answers.Answer} → answers.Answers (source s) tests tree (length s) i.place x → answers.Answers (source s) tests tree (length s) 0 x
  from_first {x} = subst (λ (p : ℕ). answers.Answers (source s) tests tree (length s) p x) (first_place s short b)

  finished_stops : {r : Read} {e : Refusal} {t' : List ℕ} {z : ℕ} {y : Why} → phrases.Refused (source s) (roto tests) zeros same (goal tree) i.place z y → said (length s) ((source s).look z) y ≡ record { number = e.number; start = e.start; end = e.end } → length t' ≡ length t → r ≡ Err e → Finished tests tree s t r t'
  finished_stops f w k q = finished_is q (from_first (subst (λ (x : refusals.Refusal). answers.Answers (source s) tests tree (length s) i.place (refused x)) w (refused_stops (source s) tests tree (length s) f)), k)

  module _ {h : Here} {x : Draft} (u : phrases.Read (source s) (roto tests) zeros same (goal tree) i.place h.place x) (g : Stands s h) where
    finished_left : {r : Read} {t' : List ℕ} → word_of h ≢ 0 → r ≡ unused h → length t' ≡ length t → Finished tests tree s t r t'
    finished_left n q k = finished_is q (from_first (subst (λ (x : refusals.Refusal). answers.Answers (source s) tests tree (length s) i.place (refused x)) (says g (want []) (λ len x. refl, λ len q. refl)) (read_left (source s) tests tree (length s) u (not_over g n))), k)

    finished_read : {r : Read} {m : Node} {z : Here} {t' : List ℕ} → word_of h ≡ 0 → r ≡ Ok (m, z) → z.rows ≡ length (rows_from tree (length s) x) → t' ≡ store t 0 (rows_from tree (length s) x) → Finished tests tree s t r t'
    finished_read n q c k = finished_is q (rows_from tree (length s) x, from_first (read_accepted (source s) tests tree (length s) u (is_over g n)), c, k)

-- one expression
module _ (tests : Bool) (s t : List ℕ) (short : length s ≤ 65535) {i : Here} (b : i ≡ here_at s 0 0) {r : Read} {t' : List ℕ} (u : Answers (the s zeros (EXPR records) i t) 1 r t') where
  expr_alike : Alike (source s) tests (EXPR records) i.place
  expr_alike = alike_low (source s) tests (EXPR records) tt i.place

  pub expression_refused : {e : Refusal} → r ≡ Err e → Finished tests false s t r t'
  expression_refused e = let w = stopped_of u e in finished_stops tests false s t short b (refused_by (source s) tt tests expr_alike w.stops) w.says w.kept e

  module _ {m : Node} {h : Here} (e : r ≡ Ok (m, h)) where
    expr_read : phrases.Read (source s) (roto tests) zeros same (EXPR records) i.place h.place (whole_of u e).draft
    expr_read = read_by (source s) tt tests expr_alike (whole_of u e).read

    pub expression_left : {r' : Read} → word_of h ≢ 0 → r' ≡ unused h → Finished tests false s t r' t'
    expression_left n q = finished_left tests false s t short b expr_read (whole_of u e).stands n q (kept_either u)

    pub expression_read : word_of h ≡ 0 → Finished tests false s t (Ok (m, h)) t'
    unfolding rows_from
    expression_read n = let w = whole_of u e in let z = first_rows s short b in finished_read tests false s t short b expr_read w.stands n refl (let q = w.rows in omega (arith, z, q)) (w.stored ∙ ap (λ (k : ℕ). store t k w.draft.rows) z)

-- the number of rows that a tally knows
holds_count : (y : Tally) (xs : List Item) → Holds y xs → count xs ≡ count_of y
holds_count bare xs e = ap count e
holds_count (lone k a e) xs h = ap count h.1
holds_count (many a e c w) xs h = go xs h
  where
    go : (xs : List Item) → sum_of xs ≡ sum a e c w → count xs ≡ c
    go [] q = let z : ◌≡◌ {A = ℕ} 0 1 = cc in absurd (omega arith)
    go (x ∷ xs) q = cc

one_node : (y : Tally) (m : Node) → count_of (with_node y m) ≡ count_of y + 1
one_node bare m = refl
one_node (lone k a e) m = refl
one_node (many a e c w) m = refl

-- The declarations of a tree that are left, by a grammar.
abbrev Begun : Bool → List ℕ → ℕ → ℕ → Draft → Type 0
Begun tests s i j x = Open (source s) (roto tests) zeros same TREE i (at zeros (a DECLARATIONS ∷ []) ∷ []) j x

-- A tree that was begun, by the old grammar and by the one that is asked for: so many declarations of it were read.
pub record Declaring (tests : Bool) (f : Phrase) (c : ℕ) (h : Here) (t : List ℕ) : Type 0 where
  pub tally : Tally
  pub spare : ℕ
  pub count : count_of tally ≡ c
  pub going : Going f (at zeros (a DECLARATIONS ∷ []) ∷ []) h t tally 0 spare
  pub opened : Begun tests f.text f.from.place h.place going.draft

-- from where the loop over them began
abbrev pub Declares : Bool → List ℕ → ℕ → Here → List ℕ → ℕ → Here → List ℕ → Type 0
Declares tests s c₀ h₀ t₀ c h t = (i : Here) (t' : List ℕ) → Declaring tests (the s zeros TREE i t') c₀ h₀ t₀ → Declaring tests (the s zeros TREE i t') c h t

-- A word by which either grammar begins a declaration is one by which the old one does; another of those is `test`.
first_old : (tests : Bool) (w : ℕ) → T (one_of w (firsts_by tests)) → T (one_of w declaration_firsts)
first_old true w o = o
first_old false w o = go (eqb w 'const') (eqb w 'fn') (eqb w 'import') (eqb w 'test') (one_of w filter_words) o
  where
    go : (a b c d e : Bool) → T (a || (b || (c || e))) → T (a || (b || (c || (d || e))))
    go true b c d e o = tt
    go false true c d e o = tt
    go false false true d e o = tt
    go false false false true e o = tt
    go false false false false e o = o

only_test : (tests : Bool) (w : ℕ) → T (one_of w declaration_firsts) → (T (one_of w (firsts_by tests)) → ⊥) → (tests ≡ false) × (w ≡ 'test')
only_test true w o h = absurd (h o)
only_test false w o h = (refl, eqb→eq w 'test' (go (eqb w 'const') (eqb w 'fn') (eqb w 'import') (eqb w 'test') (one_of w filter_words) o h))
  where
    go : (a b c d e : Bool) → T (a || (b || (c || (d || e)))) → (T (a || (b || (c || e))) → ⊥) → T d
    go true b c d e o h = absurd (h tt)
    go false true c d e o h = absurd (h tt)
    go false false true d e o h = absurd (h tt)
    go false false false true e o h = tt
    go false false false false e o h = absurd (h o)

module _ (tests : Bool) (s : List ℕ) {h : Here} (g : Stands s h) where
  -- by either grammar declarations are gone into where one begins, and one more is read
  enters : {i : ℕ} {x : Draft} → T (one_of (word_of h) declaration_firsts) → Begun tests s i h.place x → Open (source s) (roto tests) zeros same TREE i (at zeros declarations_is ∷ at zeros [] ∷ []) h.place x
  unfolding inside
  enters o x = within (source s) (roto tests) declarations_is refl (sym (alike_but (source s) tests DECLARATIONS refl h.place) ∙ picks_at s g declarations_on o) x

  adds_one : {i j : ℕ} {x b : Draft} → T (one_of (word_of h) declaration_firsts) → phrases.Read (source s) (roto tests) zeros same DECLARATION h.place j b → Begun tests s i h.place x → Begun tests s i j (with_phrase b x)
  adds_one o u x = tail (source s) (roto tests) (reads (source s) (roto tests) refl u (enters o x))

  -- where it begins one, the declaration is the old grammar's; at a `test` the new one has none
  alike_first : T (one_of (word_of h) (firsts_by tests)) → Alike (source s) tests DECLARATION h.place
  alike_first o = alike_declaration (source s) tests h.place (λ e. F→eq (eqb (peek (source s) language h.place) 'test') (λ q. subst (λ (w : ℕ). T (one_of w (firsts_by false))) (sym (peeks g) ∙ eqb→eq (peek (source s) language h.place) 'test' q) (subst (λ (x : Bool). T (one_of (word_of h) (firsts_by x))) e o)))

  no_first : (tests ≡ false) × (word_of h ≡ 'test') → phrases.Refused (source s) (roto tests) zeros same DECLARATION h.place h.place (amiss DECLARATION)
  no_first (e, w) = subst (λ (x : Bool). phrases.Refused (source s) (roto x) zeros same DECLARATION h.place h.place (amiss DECLARATION)) (sym e) (test_refused (source s) (peeks g ∙ w))

module _ (tests : Bool) (s t₀ : List ℕ) (short : length s ≤ 65535) {i : Here} (b : i ≡ here_at s 0 0) where
  pub tree_begins : Declaring tests (the s zeros TREE i t₀) 0 i t₀
  unfolding begins inside
  tree_begins =
      let g = first_stands s short b in
      let p = picks_else s g tree_any (λ z. z) in
      record { tally = bare; spare = 0; count = refl; going = begins (the s zeros TREE i t₀) tree_is g p; opened = start (source s) (roto tests) tree_is (sym (alike_but (source s) tests TREE refl i.place) ∙ p) }

  module _ {c : ℕ} {h : Here} {t : List ℕ} (x : Declaring tests (the s zeros TREE i t₀) c h t) where
    pub tree_few : (c < 300000) × (next_of h ≤ 65536)
    tree_few = let q = few_rows x.going in let y = x.count in (omega arith, omega arith)

    pub tree_refused : {r : Read} {e : Refusal} {t' : List ℕ} → T (one_of (word_of h) (firsts_by tests)) → Answers (the s zeros DECLARATION h t) 1 r t' → r ≡ Err e → Finished tests true s t₀ r t'
    tree_refused o u e =
        let g = x.going.stands in
        let w = stopped_of u e in
        finished_stops tests true s t₀ short b (fails (source s) (roto tests) (refused_by (source s) tt tests (alike_first tests s g o) w.stops) (enters tests s g (first_old tests (word_of h) o) x.opened)) w.says (w.kept ∙ kept_length x.going) e

    tree_over : (T (one_of (word_of h) declaration_firsts) → ⊥) → phrases.Read (source s) (roto tests) zeros same TREE i.place h.place x.going.draft
    unfolding inside
    tree_over o = finish (source s) (roto tests) (pop (source s) (roto tests) (pop (source s) (roto tests) (within (source s) (roto tests) [] refl (sym (alike_but (source s) tests DECLARATIONS refl h.place) ∙ picks_else s x.going.stands declarations_off o) x.opened)))

    pub tree_left : {r : Read} → (T (one_of (word_of h) (firsts_by tests)) → ⊥) → word_of h ≢ 0 → r ≡ unused h → Finished tests true s t₀ r t
    tree_left {r} o n q = go (one_of (word_of h) declaration_firsts) refl
      where
        go : (b : Bool) → one_of (word_of h) declaration_firsts ≡ b → Finished tests true s t₀ r t
        go false e = finished_left tests true s t₀ short b (tree_over (λ z. subst T e z)) x.going.stands n q (kept_length x.going)
        go true e =
            let g = x.going.stands in
            let f = subst T (sym e) tt in
            finished_stops tests true s t₀ short b (fails (source s) (roto tests) (no_first tests s g (only_test tests (word_of h) f o)) (enters tests s g f x.opened)) (says g (amiss DECLARATION) (λ len y. refl, λ len y. refl)) (kept_length x.going) q

    pub tree_read : {y : Row} {r : Read} {t' : List ℕ} → word_of h ≡ 0 → y ≡ plain_row kinds.TREE 0 (length s) c → (r ≡ Ok (node_of y, later h)) × (t' ≡ put_over t h y 0) → Finished tests true s t₀ r t'
    unfolding rows_from
    tree_read n e p =
        let g = x.going in
        let d : Draft = g.draft in
        let z = first_rows s short b in
        let r = g.rows in
        let few = few_rows g in
        let more = sym (bump_more 300000 h.rows few.0) in
        let len = length-append d.rows (tree_row (length s) d ∷ []) in
        let k : grammar.count d.items ≡ c = holds_count x.tally d.items g.holds ∙ x.count in
        let at_start : t ≡ store t₀ 0 d.rows = g.stored ∙ ap (λ (q : ℕ). store t₀ q d.rows) z in
        let rows : h.rows ≡ 0 + length d.rows = omega (arith, z, r) in
        let all : size_from h 0 ≡ suc (sizes d.items) = let w = g.sized in omega (arith, more, rows, w) in
        finished_read tests true s t₀ short b (tree_over (subst (λ (w : ℕ). T (one_of w declaration_firsts)) n)) g.stands n p.0 (omega (arith, more, r, z, len)) (p.1 ∙ ap (λ (q : Row). put_over t h q 0) e ∙ ap (λ (q : List ℕ). put_over q h (plain_row kinds.TREE 0 (length s) c) 0) at_start ∙ ap (put_row (store t₀ 0 d.rows) h.rows (plain_row kinds.TREE 0 (length s) c)) all ∙ ap (λ (q : ℕ). put_row (store t₀ 0 d.rows) q (plain_row kinds.TREE 0 (length s) c) (suc (sizes d.items))) rows ∙ ap (λ (q : ℕ). put_row (store t₀ 0 d.rows) (0 + length d.rows) (plain_row kinds.TREE 0 (length s) q) (suc (sizes d.items))) (sym k) ∙ sym (store_row t₀ 0 d.rows (tree_row (length s) d)))

-- one declaration more
pub tree_more : {tests : Bool} {s : List ℕ} {i : Here} {t₀ : List ℕ} {c : ℕ} {h : Here} {t : List ℕ} {r : Read} {m : Node} {z : Here} {t' : List ℕ} → Declaring tests (the s zeros TREE i t₀) c h t → T (one_of (word_of h) (firsts_by tests)) → Answers (the s zeros DECLARATION h t) 1 r t' → r ≡ Ok (m, z) → Declaring tests (the s zeros TREE i t₀) (c + 1) z t'
unfolding goes_added
tree_more {tests} {s} {h = h} {m = m} x o u e =
    let g = x.going.stands in
    let f = first_old tests (word_of h) o in
    let w = whole_of u e in
    record {
      tally = with_node x.tally m;
      spare = x.spare + 1;
      count = one_node x.tally m ∙ ap (λ (n : ℕ). n + 1) x.count;
      going = goes_added x.going (adds_phrase x.going w) (adds_one true s g f w.read x.going.opened) w.stands;
      opened = adds_one tests s g f (read_by (source s) tt tests (alike_first tests s g o) w.read) x.opened;
    }
