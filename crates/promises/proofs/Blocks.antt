-- Blocks: their statements one by one, how each ended, and the `}` that closes them.
use Rattle.std.specs.Prelude.{Ok, Err}
use mathlib.Core.Path.{◌≡◌, refl, sym, ap, subst, ◌∙◌}
use mathlib.Core.List.{List, [], ◌∷◌}
use mathlib.Core.Bool.{Bool, true, false}
use mathlib.Core.Option.{Option, some}
use mathlib.Core.Logic.{inl, inr, ◌≢◌}
use Prim.Native.Nat.{ℕ, zero, suc, ◌+◌, ◌-◌, ◌≤◌, ◌<◌}
use lib.Dec.{T, eqb, eqb→eq, eqb_refl}
use lib.ListN.{length}
use native.Mathlib.Omega.{arith}
use Rattle.rows.specs.Kinds as kinds
use Rattle.tokens.specs.declared.Refusal.{Refusal}
use Rattle.rows.specs.declared.Row.{Row}
use Rattle.grammar.specs.Words.{open_brace, close_brace, semicolon, '=', 'import', 'let', four_words}
use Rattle.grammar.specs.Grammar.{plain, opens_bracket, closes_bracket, Symbol, one_of}
use Rattle.grammar.specs.Limits.{Counts, after, inside, kept}
use Rattle.grammar.specs.Table.{word, a, row, closes, literal_row, rest_kinds}
use Rattle.grammar.specs.Kinds.{records, BLOCK, STATEMENTS, STATEMENT, AFTER_FOUR, AFTER_EXPR, LET, LET_TYPE, NAME, FOUR, EXPR}
use Rattle.grammar.proofs.Bools.{or_cases}
use Rattle.grammar.proofs.Summary.{or_word}
use Rattle.grammar.proofs.Open.{Left}
use Rattle.parser.specs.declared.Here.{Here}
use Rattle.parser.specs.declared.Limits.{Limits}
use Rattle.parser.specs.declared.Node.{Node}
use Rattle.parser.specs.Results.{Read}
use Rattle.parser.specs.Results.{StmtRead}
use Rattle.parser.specs.declared.Stmt.{Stmt}
use Rattle.parser.specs.Places.{word_of, start_of, end_of, next_of, passed, later, node_of, put_over, past, unused, unused_at, expected, opening, took}
use Rattle.parser.specs.Counted.{counts, opened, plain as plainly}
use Rattle.parser.specs.Going.{Stands, lone, many, with_token, row_over, Phrase, Going, Stopped, Answers}
use Rattle.parser.proofs.Standing.{next_small, past_word, is_word, the_word, is_taken}
use Rattle.parser.proofs.Going.{at, takes, out, last, alone, none_of, parts, writes, reads_one, ends, refuses_word, refuses_in, whole_of, stopped_of, done, stopped, relays, fewer}
use Rattle.parser.proofs.Picks.{On, begins_any, into_on, into_off, refuses_off}
use Rattle.parser.proofs.Sides.{none_yet}
use Rattle.parser.proofs.Steps.{opening_done, counts_plain, counts_same, counts_opened, alike_counts, expects, misses, opens_on, opens_off}
use Rattle.promises.specs.Firsts.{expr_firsts, statement_firsts, ended_by}
use Rattle.promises.specs.Promises.{the, Anyhow, Partly, Closed, Perhaps, Typing, Stated, Ended, StatementIs, OneStatement, Statement, BeyondStatement, Beyond}
use Rattle.promises.proofs.Alternatives.{plain_first, block_any, statements_on, statements_off, statement_four_on, statement_expr_on, statement_off, after_four_more_on, after_four_off, after_expr_off, let_any}
use Rattle.promises.proofs.Answered.{further, of_text, put_behind}
use Rattle.promises.proofs.Partly.{partly_of, partly, partly_stops, stops_answer}

-- past a `;` that is there
is_past : (s : List ℕ) (z : Here) → word_of z ≡ semicolon → took s z ≡ past s z
is_past s z b = is_taken z.step (semicolon ∷ []) tt (is_word b) (past s z) (unused z)

-- a row over a list behind the `}` that closes it
module _ {f : Phrase} {d : Counts} {ks : List Left} {h : Here} {t : List ℕ} {x e c v k : ℕ} {w : Option ℕ} {ss : List Symbol} {n : ℕ} where
  pub closes_row : {q : Row} {r : Read} {t' : List ℕ} → Going f (at d (closes close_brace ∷ row n ∷ ss) ∷ ks) h t (many x e c w) v k → eqb n 0 ≡ false → eqb n literal_row ≡ false → q ≡ row_over n (with_token (many x e c w) h) v → Closed f.text h t close_brace q f.from.rows r t' → Partly f r t' (λ m h'. Going f (at (after closes_bracket d) ss ∷ ks) h' t' (lone m.kind m.start m.end) 0 k)
  unfolding kept
  closes_row {q} {r} {t'} g z l i u = go (eqb (word_of h) close_brace) refl
    where
      G : Node → Here → Type 0
      G m h' = Going f (at (after closes_bracket d) ss ∷ ks) h' t' (lone m.kind m.start m.end) 0 k

      closed : word_of h ≡ close_brace → Partly f r t' G
      closed m =
          let b = u.closed m in
          partly b.0 (writes (fewer (k + 1) (omega arith) (takes g tt (is_word m) tt refl)) z l i refl (put_behind f.text h t q f.from.rows b.1))

      missed : word_of h ≢ close_brace → Partly f r t' G
      missed m = let b = u.other m in partly_stops b.0 (subst (λ (y : List ℕ). Stopped f (unused_at h) y) (sym b.1) (refuses_word g (λ y. m (the_word y))))

      go : (b : Bool) → eqb (word_of h) close_brace ≡ b → Partly f r t' G
      go true y = closed (eqb→eq (word_of h) close_brace (subst T (sym y) tt))
      go false y = missed (λ m. subst T (ap (λ (b : ℕ). eqb (word_of h) b) m ∙ y) (eqb_refl (word_of h)))

-- the same of another name for the source and for where the rows began
pub closed_by : {x s : List ℕ} {n since : ℕ} {h : Here} {t : List ℕ} {w : ℕ} {q : Row} {r : Read} {t' : List ℕ} → x ≡ s → n ≡ since → Closed s h t w q since r t' → Closed x h t w q n r t'
closed_by {x} {s} {n} {since} {h} {t} {w} {q} {r} {t'} e i u = subst (λ (y : List ℕ). Closed y h t w q n r t') (sym e) (subst (λ (k : ℕ). Closed s h t w q k r t') (sym i) u)

-- a part that leaves one row and nothing else of its phrase
pub leaves_row : {f : Phrase} {d : Counts} {k : ℕ} {t : List ℕ} (r : Read) → 1 ≤ k → Partly f r t (λ m h. Going f (at d [] ∷ []) h t (lone m.kind m.start m.end) 0 k) → Answers f 1 r t
leaves_row (Ok (m, h)) q u = record { is = ends (out (fewer 1 q u.is)) refl refl refl }
leaves_row (Err e) q u = record { is = u.is }

-- a block
module _ (s : List ℕ) (l : Limits) (h : Here) (t : List ℕ) {r : Read} (g : Stands s h) (o : r ≡ opening s h open_brace l.brackets) where
  pub block_refused : {e : Refusal} → r ≡ Err e → Answers (the s (counts l) BLOCK h t) 1 r t
  block_refused q = stopped q (opens_off open_brace l (begins_any block_any g) tt (alike_counts l) o q)

  module _ {m : Node} {z : Here} (q : r ≡ Ok (m, z)) where
    block_opens : Going (the s (counts l) BLOCK h t) (at (after opens_bracket (counts l)) (a STATEMENTS ∷ closes close_brace ∷ row kinds.BLOCK ∷ []) ∷ []) z t (many m.start m.end 0 (some open_brace)) 0 4
    block_opens = opens_on open_brace l (begins_any block_any g) tt (alike_counts l) o q

    -- the statements are asked for further on
    pub block_inside : Stands s z × (next_of h < next_of z)
    block_inside = let x = block_opens.spares in let y = block_opens.counted in (block_opens.stands, omega (arith, x, y))

    pub block_read : {l' : Limits} {r' : Read} {t' : List ℕ} → l' ≡ opened l → Stated s z t l' m.start r' t' → Answers (the s (counts l) BLOCK h t) 1 r' t'
    block_read {r' = r'} p u = leaves_row r' (omega arith) (u _ _ [] _ _ _ refl (counts_opened l (opening_done s h open_brace l.brackets o q).1 ∙ ap counts (sym p)) block_opens)

-- Statements that were read: c of them, and by n how the last ended: 0 with its `;`, 1 as one of the four without. Another
-- may follow.
abbrev state_left : ℕ → List Symbol
state_left zero = a STATEMENTS ∷ []
state_left (suc n) = a AFTER_FOUR ∷ []

pub record Stating (f : Phrase) (d : Counts) (ks : List Left) (x c k n : ℕ) (h : Here) (t : List ℕ) : Type 0 where
  pub end : ℕ
  pub sign : Option ℕ
  pub one : n ≤ 1
  pub unended : 0 ≢ n → word_of h ≢ 47
  pub going : Going f (at d (state_left n) ∷ ks) h t (many x end c sign) 0 k

pub states_none : {f : Phrase} {d : Counts} {ks : List Left} {h : Here} {t : List ℕ} {x e k : ℕ} {w : Option ℕ} {ss : List Symbol} → Going f (at d (a STATEMENTS ∷ ss) ∷ ks) h t (many x e 0 w) 0 k → Stating f d (at d ss ∷ ks) x 0 k 0 h t
states_none {e = e} {w = w} g = record { end = e; sign = w; one = omega arith; unended = λ q. absurd (q refl); going = alone g }

module _ {f : Phrase} {d : Counts} {ks : List Left} {x c k : ℕ} {h : Here} {t : List ℕ} where
  -- another begins
  begins_next : (n : ℕ) (g : Stating f d ks x c k n h t) → T (one_of (word_of h) statement_firsts) → Going f (at d (a STATEMENT ∷ []) ∷ ks) h t (many x g.end c g.sign) 0 k
  unfolding inside
  begins_next zero g m = last (into_on statements_on refl m g.going)
  begins_next (suc zero) g m = last (into_on after_four_more_on refl m g.going)
  begins_next (suc (suc n)) g m = absurd (let q = g.one in omega (arith, q))

  -- none does: the value says whether the last is the block's
  states_all : (n : ℕ) (g : Stating f d ks x c k n h t) → (T (one_of (word_of h) statement_firsts) → ⊥) → Going f ks h t (many x g.end c g.sign) n k
  unfolding inside
  states_all zero g m = out (out (into_off statements_off refl m g.going))
  states_all (suc zero) g m = out (out (parts (into_off after_four_off refl neither g.going)))
    where
      neither : T (one_of (word_of h) (semicolon ∷ statement_firsts)) → ⊥
      neither q = elim (or_cases (eqb (word_of h) semicolon) (one_of (word_of h) statement_firsts) q) [ inl e ↦ g.unended (λ z. let y : ◌≡◌ {A = ℕ} 0 1 = z in omega (arith, y)) (eqb→eq (word_of h) semicolon e) | inr e ↦ m e ]
  states_all (suc (suc n)) g m = absurd (let q = g.one in omega (arith, q))

  -- it is the last: an expr without `;`
  states_last : (g : Ended f d ks x c k AFTER_EXPR h t) → word_of h ≢ semicolon → Going f ks h t (many x g.end (c + 1) g.sign) 1 k
  unfolding inside
  states_last g n = out (out (parts (into_off after_expr_off refl (λ m. n (the_word m)) g.going)))

-- what a statement's answer says, and the answer that says it
module _ {f : Phrase} {d : Counts} {ks : List Left} {x c k : ℕ} {r q : StmtRead} {t : List ℕ} where
  stated : r ≡ q → OneStatement f d ks x c k r t → StatementIs f d ks x c k q t
  stated e u = subst (λ (j : StmtRead). StatementIs f d ks x c k j t) e u.is

  states : r ≡ q → StatementIs f d ks x c k q t → OneStatement f d ks x c k r t
  states e u = record { is = subst (λ (j : StmtRead). StatementIs f d ks x c k j t) (sym e) u }

module _ {r : Read} {v : StmtRead} (i : v ≡ ended_by r) where
  ended_done : {m : Node} {z : Here} → r ≡ Ok (m, z) → v ≡ Ok (Stmt.Ended z)
  unfolding ended_by
  ended_done e = i ∙ ap ended_by e

  ended_refused : {e : Refusal} → r ≡ Err e → v ≡ Err e
  unfolding ended_by
  ended_refused e = i ∙ ap ended_by e

-- the statements of a block, from where the loop began
abbrev pub Goes : List ℕ → Limits → ℕ → ℕ → Here → List ℕ → ℕ → ℕ → Here → List ℕ → Type 0
Goes s l c₀ n₀ h₀ t₀ c n h t = (f : Phrase) (d : Counts) (ks : List Left) (x k : ℕ) → f.text ≡ s → d ≡ counts l → Stating f d ks x c₀ k n₀ h₀ t₀ → Stating f d ks x c k n h t

module _ (s : List ℕ) (l : Limits) {c₀ n₀ : ℕ} {h₀ : Here} {t₀ : List ℕ} {c n : ℕ} {h : Here} {t : List ℕ} (g : Goes s l c₀ n₀ h₀ t₀ c n h t) where
  module _ (b : T (one_of (word_of h) statement_firsts)) {r : StmtRead} {t' : List ℕ} (u : Statement s h t l r t') {z : Here} where
    -- one more
    pub goes_ended : r ≡ Ok (Stmt.Ended z) → Goes s l c₀ n₀ h₀ t₀ (c + 1) 0 z t'
    goes_ended e f d ks x k p q v =
        let y = g f d ks x k p q v in
        let w : Ended f d ks x c k STATEMENTS z t' = stated e (u f d ks x y.end c k y.sign p q (begins_next n y b)) in
        record { end = w.end; sign = w.sign; one = omega arith; unended = λ o. absurd (o refl); going = w.going }

    pub goes_four : r ≡ Ok (Stmt.Four z) → Goes s l c₀ n₀ h₀ t₀ (c + 1) 1 z t'
    goes_four e f d ks x k p q v =
        let y = g f d ks x k p q v in
        let w : Ended f d ks x c k AFTER_FOUR z t' × (word_of z ≢ semicolon) = stated e (u f d ks x y.end c k y.sign p q (begins_next n y b)) in
        record { end = w.0.end; sign = w.0.sign; one = omega arith; unended = λ o. w.1; going = w.0.going }

-- a round of that loop: each statement has a token at least
pub record Round (s : List ℕ) (l : Limits) (c₀ n₀ : ℕ) (h₀ : Here) (t₀ : List ℕ) (c n : ℕ) (h : Here) (t : List ℕ) : Type 0 where
  pub goes : Goes s l c₀ n₀ h₀ t₀ c n h t
  pub stands : Stands s h
  pub next : c + next_of h₀ ≤ c₀ + next_of h
  pub kept : length t ≡ length t₀

pub round_first : {s : List ℕ} {l : Limits} {c n : ℕ} {h : Here} {t : List ℕ} → Stands s h → Round s l c n h t c n h t
round_first g = record { goes = λ f d ks x k p q v. v; stands = g; next = omega arith; kept = refl }

pub beyond_of : (s : List ℕ) (h : Here) {r : Read} {m : Node} {z : Here} → Beyond s h r → r ≡ Ok (m, z) → Stands s z × (next_of h < next_of z)
beyond_of s h u e = subst (Beyond s h) e u

module _ {s : List ℕ} {l : Limits} {c₀ n₀ : ℕ} {h₀ : Here} {t₀ : List ℕ} {c n : ℕ} {h : Here} {t : List ℕ} (g : Round s l c₀ n₀ h₀ t₀ c n h t) where
  pub round_few : c ≤ c₀ + 65536
  round_few = let a = g.next in let b = next_small g.stands in let d = g.stands.short in omega (arith, a, b, d)

  module _ {r : StmtRead} {t' : List ℕ} {z : Here} (b : T (one_of (word_of h) statement_firsts)) (u : Statement s h t l r t') (v : BeyondStatement s h r) (k : length t' ≡ length t) where
    pub round_ended : r ≡ Ok (Stmt.Ended z) → Round s l c₀ n₀ h₀ t₀ (c + 1) 0 z t'
    round_ended e = let w : Stands s z × (next_of h < next_of z) = subst (BeyondStatement s h) e v in record { goes = goes_ended s l g.goes b u e; stands = w.0; next = let x = g.next in let y = w.1 in omega (arith, x, y); kept = k ∙ g.kept }

    pub round_four : r ≡ Ok (Stmt.Four z) → Round s l c₀ n₀ h₀ t₀ (c + 1) 1 z t'
    round_four e = let w : Stands s z × (next_of h < next_of z) = subst (BeyondStatement s h) e v in record { goes = goes_four s l g.goes b u e; stands = w.0; next = let x = g.next in let y = w.1 in omega (arith, x, y); kept = k ∙ g.kept }

-- behind it less is left to read
left_less : (s : List ℕ) (h z : Here) → Stands s z × (next_of h < next_of z) → length s + 1 - next_of z < length s + 1 - next_of h
left_less s h z w = let x = w.1 in let y = next_small w.0 in omega (arith, x, y)

module _ (s : List ℕ) (h : Here) {r : StmtRead} {z : Here} (v : BeyondStatement s h r) where
  pub ended_less : r ≡ Ok (Stmt.Ended z) → length s + 1 - next_of z < length s + 1 - next_of h
  ended_less e = left_less s h z (subst (BeyondStatement s h) e v)

  pub four_less : r ≡ Ok (Stmt.Four z) → length s + 1 - next_of z < length s + 1 - next_of h
  four_less e = left_less s h z (subst (BeyondStatement s h) e v)

-- the row of a block
abbrev pub block_row : ℕ → ℕ → ℕ → ℕ → Row
block_row x e c v = record { kind = kinds.BLOCK; start = x; end = e; children = c; value = v; detail = 0 }

closes_block : {f : Phrase} {s : List ℕ} {since : ℕ} {d : Counts} {ks : List Left} {h : Here} {t : List ℕ} {x e c v k : ℕ} {w : Option ℕ} {q : Row} {r : Read} {t' : List ℕ} → f.text ≡ s → f.from.rows ≡ since → Going f (at d (closes close_brace ∷ row kinds.BLOCK ∷ []) ∷ ks) h t (many x e c w) v k → q ≡ block_row x (end_of h) c v → Closed s h t close_brace q since r t' → Partly f r t' (λ m h'. Going f (at (after closes_bracket d) [] ∷ ks) h' t' (lone m.kind m.start m.end) 0 k)
closes_block p n g i u = closes_row g refl refl i (closed_by p n u)

module _ (s : List ℕ) (l : Limits) {start : ℕ} {h₀ : Here} {t₀ : List ℕ} {c n : ℕ} {h : Here} {t : List ℕ} (g : Goes s l 0 0 h₀ t₀ c n h t) where
  module _ (b : T (one_of (word_of h) statement_firsts)) {r : StmtRead} {t' : List ℕ} (u : Statement s h t l r t') where
    pub stmts_fails : {e : Refusal} {r' : Read} → r ≡ Err e → r' ≡ Err e → Stated s h₀ t₀ l start r' t'
    stmts_fails q o f d ks e k w p i v =
        let y = g f d _ start k p i (states_none v) in
        partly_stops o (stated q (u f d _ start y.end c k y.sign p i (begins_next n y b)))

    pub stmts_last : {z : Here} {q : Row} {r' : Read} {t'' : List ℕ} → r ≡ Ok (Stmt.Last z) → q ≡ block_row start (end_of z) (c + 1) 1 → Closed s z t' close_brace q h₀.rows r' t'' → Stated s h₀ t₀ l start r' t''
    stmts_last {z} o j x f d ks e k w p i v =
        let y = g f d _ start k p i (states_none v) in
        let m : Ended f d (at d (closes close_brace ∷ row kinds.BLOCK ∷ []) ∷ ks) start c k AFTER_EXPR z t' × (word_of z ≢ semicolon) = stated o (u f d _ start y.end c k y.sign p i (begins_next n y b)) in
        closes_block p (none_yet v) (states_last m.0 m.1) j x

  pub stmts_end : {q : Row} {r : Read} {t' : List ℕ} → (T (one_of (word_of h) statement_firsts) → ⊥) → q ≡ block_row start (end_of h) c n → Closed s h t close_brace q h₀.rows r t' → Stated s h₀ t₀ l start r t'
  stmts_end b j x f d ks e k w p i v = closes_block p (none_yet v) (states_all n (g f d _ start k p i (states_none v)) b) j x

-- a statement that is a phrase with its `;`
module _ (s : List ℕ) (l : Limits) (h : Here) (t : List ℕ) {n i : ℕ} {t' : List ℕ} where
  pub whole_statement : (r : Read) {v : StmtRead} → On STATEMENT (some (a n ∷ a STATEMENTS ∷ [])) (i ∷ []) → one_of n rest_kinds ≡ false → word_of h ≡ i → Answers (the s (counts l) n h t) 1 r t' → v ≡ ended_by r → Statement s h t l v t'
  unfolding inside
  whole_statement (Ok (m, z)) o y b u j f d ks x e c k w p q g = states (ended_done j refl) (record { end = m.end; sign = w; going = fewer k (omega arith) (last (reads_one (into_on o refl (is_word b) g) y refl (whole_of (of_text f p q u) refl))) })
  whole_statement (Err i) o y b u j f d ks x e c k w p q g = states (ended_refused j refl) (refuses_in (into_on o refl (is_word b) g) refl (stopped_of (of_text f p q u) refl))

-- a reader that has answered stands further on
pub beyond : {s : List ℕ} {d : Counts} {n j : ℕ} {h : Here} {t : List ℕ} (r : Read) {t' : List ℕ} → Answers (the s d n h t) j r t' → Beyond s h r
beyond (Ok (m, z)) u = let w = further u refl in (w.stands, w.next)
beyond (Err e) u = tt

-- behind two phrases
pub beyond_both : {s : List ℕ} {d d' : Counts} {n n' j j' : ℕ} {h z : Here} {t t' : List ℕ} {r : Read} {m : Node} (r' : Read) {t'' : List ℕ} → Answers (the s d n h t) j r t' → r ≡ Ok (m, z) → Answers (the s d' n' z t') j' r' t'' → Beyond s h r'
beyond_both (Ok (m, z)) u e v = let x = further u e in let y = further v refl in (y.stands, let a = x.next in let b = y.next in omega arith)
beyond_both (Err e) u x v = tt

-- A statement that may take a `;` was read up to there.
abbrev Behind : ℕ → List ℕ → Here → List ℕ → Limits → ℕ → Here → List ℕ → Type 0
Behind n s h t l end' z t' =
    (f : Phrase) (d : Counts) (ks : List Left) (x e c k : ℕ) (w : Option ℕ) → f.text ≡ s → d ≡ counts l
    → Going f (at d (a STATEMENT ∷ []) ∷ ks) h t (many x e c w) 0 k
    → Going f (at d (a n ∷ []) ∷ ks) z t' (many x end' (c + 1) w) 0 k

module _ (s : List ℕ) (l : Limits) (h : Here) (t : List ℕ) {r : Read} {t' : List ℕ} where
  -- one of the four
  module _ (b : T (one_of (word_of h) four_words)) (u : Answers (the s (counts l) FOUR h t) 1 r t') where
    pub four_refused : {e : Refusal} {v : StmtRead} → r ≡ Err e → v ≡ ended_by r → Statement s h t l v t'
    unfolding inside
    four_refused i j f d ks x e c k w p q g = states (ended_refused j i) (refuses_in (into_on statement_four_on refl b g) refl (stopped_of (of_text f p q u) i))

    pub behind_four : {m : Node} {z : Here} → r ≡ Ok (m, z) → Behind AFTER_FOUR s h t l m.end z t'
    unfolding inside
    behind_four i f d ks x e c k w p q g = fewer k (omega arith) (last (reads_one (into_on statement_four_on refl b g) refl refl (whole_of (of_text f p q u) i)))

  -- another expr
  module _ (b : T (one_of (word_of h) expr_firsts)) (n : T (one_of (word_of h) four_words) → ⊥) (u : Answers (the s (counts l) (EXPR records) h t) 1 r t') where
    pub expr_refused : {e : Refusal} {v : StmtRead} → r ≡ Err e → v ≡ ended_by r → Statement s h t l v t'
    unfolding inside
    expr_refused i j f d ks x e c k w p q g = states (ended_refused j i) (refuses_in (none_of n (into_on statement_expr_on refl (plain_first (word_of h) b n) g)) refl (stopped_of (of_text f p q u) i))

    pub behind_expr : {m : Node} {z : Here} → r ≡ Ok (m, z) → Behind AFTER_EXPR s h t l m.end z t'
    unfolding inside
    behind_expr i f d ks x e c k w p q g = fewer k (omega arith) (last (reads_one (none_of n (into_on statement_expr_on refl (plain_first (word_of h) b n) g)) refl refl (whole_of (of_text f p q u) i)))

-- no statement begins there
pub no_statement : (s : List ℕ) (l : Limits) (h : Here) (t : List ℕ) {r : Read} {v : StmtRead} → word_of h ≢ 'import' → word_of h ≢ 'let' → (T (one_of (word_of h) expr_firsts) → ⊥) → r ≡ unused h → v ≡ ended_by r → Statement s h t l v t
no_statement s l h t v o b i j f d ks x e c k w p q g = states (ended_refused j i) (refuses_off statement_off none_is g)
  where
    none_is : T (one_of (word_of h) statement_firsts) → ⊥
    none_is y = elim (or_cases (eqb (word_of h) 'import') (one_of (word_of h) ('let' ∷ expr_firsts)) y) [ inl j ↦ v (eqb→eq (word_of h) 'import' j) | inr y' ↦ elim (or_cases (eqb (word_of h) 'let') (one_of (word_of h) expr_firsts) y') [ inl j ↦ o (eqb→eq (word_of h) 'let' j) | inr j ↦ b j ] ]

-- how it ends: without `;`; with it
module _ (s : List ℕ) (l : Limits) (h : Here) (t : List ℕ) {end : ℕ} {z : Here} {t' : List ℕ} {r : StmtRead} where
  pub ends_four : Behind AFTER_FOUR s h t l end z t' → word_of z ≢ semicolon → r ≡ Ok (Stmt.Four z) → Statement s h t l r t'
  ends_four u o i f d ks x e c k w p q g = states i (record { end = end; sign = w; going = u f d ks x e c k w p q g }, o)

  pub ends_last : Behind AFTER_EXPR s h t l end z t' → word_of z ≢ semicolon → r ≡ Ok (Stmt.Last z) → Statement s h t l r t'
  ends_last u o i f d ks x e c k w p q g = states i (record { end = end; sign = w; going = u f d ks x e c k w p q g }, o)

  pub ends_with : (n : ℕ) → Behind n s h t l end z t' → On n (some (word semicolon ∷ a STATEMENTS ∷ [])) (semicolon ∷ []) → one_of n rest_kinds ≡ true → l.signs ≡ 32 → word_of z ≡ semicolon → {q : Read} → q ≡ took s z → r ≡ ended_by q → Statement s h t l r t'
  unfolding inside kept
  ends_with n u o y v b i j f d ks x e c k w p q g =
      let same_counts : after plain d ≡ d = ap (after plain) q ∙ counts_same l v ∙ sym q in
      let x₁ = last (takes (into_on o y (is_word b) (u f d ks x e c k w p q g)) tt (is_word b) tt refl) in
      let x₂ = subst (λ (j : Counts). Going f (at j (a STATEMENTS ∷ []) ∷ ks) (passed f.text z) t' (many x (end_of z) (c + 1) (or_word w (word_of z))) 0 k) same_counts (fewer k (omega arith) x₁) in
      states (ended_done j (i ∙ ap (λ (j : List ℕ). took j z) (sym p) ∙ is_past f.text z b)) (record { end = end_of z; sign = or_word w (word_of z); going = x₂ })

-- it stands further on
pub beyond_ended : (s : List ℕ) (h : Here) (r : Read) {v : StmtRead} → Beyond s h r → v ≡ ended_by r → BeyondStatement s h v
beyond_ended s h (Ok (m, z)) u e = subst (BeyondStatement s h) (sym (ended_done e refl)) u
beyond_ended s h (Err x) u e = subst (BeyondStatement s h) (sym (ended_refused e refl)) tt

module _ (s : List ℕ) {d : Counts} {h : Here} {t : List ℕ} {n j : ℕ} {q : Read} {t' : List ℕ} {m : Node} {z : Here} (u : Answers (the s d n h t) j q t') (i : q ≡ Ok (m, z)) where
  pub beyond_without : Stands s z × (next_of h < next_of z)
  beyond_without = let w = further u i in (w.stands, w.next)

  pub beyond_with : {r : Read} {v : StmtRead} → word_of z ≡ semicolon → r ≡ took s z → v ≡ ended_by r → BeyondStatement s h v
  beyond_with b e k =
      let w = further u i in
      let p = past_word (semicolon ∷ []) w.stands tt (is_word b) refl in
      subst (BeyondStatement s h) (sym (ended_done k (e ∙ is_past s z b))) (p.0, let v = w.next in let x = p.1 in omega (arith, v, x))

-- `let name [: type] = expr ;`
abbrev pub let_row : ℕ → ℕ → ℕ → Row
let_row x e n = record { kind = kinds.LET; start = x; end = e; children = n + 2; value = n; detail = 0 }

module _ (s : List ℕ) (l : Limits) (h : Here) (t : List ℕ) (g : Stands s h) (b : word_of h ≡ 'let') {h₁ : Here} (e : h₁ ≡ passed s h) where
  abbrev Let : Phrase
  Let = the s (counts l) LET h t

  -- asked for behind `let`
  pub let_name : Stands s h₁ × (next_of h < next_of h₁)
  let_name = let p = past_word ('let' ∷ []) g tt (is_word b) e in (p.0, p.1)

  let_going : Going Let (at (counts (plainly l)) (a NAME ∷ a LET_TYPE ∷ word '=' ∷ a (EXPR records) ∷ word semicolon ∷ row kinds.LET ∷ []) ∷ []) h₁ t (many (start_of h) (end_of h) 0 (some 'let')) 0 4
  unfolding kept
  let_going = subst (λ (w : ℕ). Going Let (at (counts (plainly l)) (a NAME ∷ a LET_TYPE ∷ word '=' ∷ a (EXPR records) ∷ word semicolon ∷ row kinds.LET ∷ []) ∷ []) h₁ t (many (start_of h) (end_of h) 0 (some w)) 0 4) b (subst (λ (d : Counts). Going Let (at d (a NAME ∷ a LET_TYPE ∷ word '=' ∷ a (EXPR records) ∷ word semicolon ∷ row kinds.LET ∷ []) ∷ []) h₁ t (many (start_of h) (end_of h) 0 (some (word_of h))) 0 4) (counts_plain l) (takes (begins_any let_any g) tt (is_word b) tt e))

  module _ {r₁ : Read} {t₁ : List ℕ} (u₁ : Anyhow s NAME h₁ t 3 r₁ t₁) where
    pub let_nameless : {x : Refusal} → r₁ ≡ Err x → Answers Let 1 r₁ t₁
    unfolding inside
    let_nameless i = relays let_going refl (u₁ (counts (plainly l))) i

    module _ {m₁ : Node} {h₂ : Here} (i₁ : r₁ ≡ Ok (m₁, h₂)) where
      let_named : Going Let (at (counts (plainly l)) (a LET_TYPE ∷ word '=' ∷ a (EXPR records) ∷ word semicolon ∷ row kinds.LET ∷ []) ∷ []) h₂ t₁ (many (start_of h) m₁.end 1 (some 'let')) 0 7
      unfolding inside
      let_named = reads_one let_going refl refl (whole_of (u₁ (counts (plainly l))) i₁)

      pub let_type : Stands s h₂
      let_type = let_named.stands

      module _ {l' : Limits} (q : l' ≡ plainly l) {r₂ : Read} {t₂ : List ℕ} (u₂ : Typing s h₂ t₁ l' 46 r₂ t₂) where
        typed : Partly Let r₂ t₂ (λ m z. Perhaps Let (at (counts (plainly l)) (word '=' ∷ a (EXPR records) ∷ word semicolon ∷ row kinds.LET ∷ []) ∷ []) (start_of h) 1 7 m.children z t₂)
        typed = u₂ Let (counts (plainly l)) _ [] LET_TYPE (start_of h) m₁.end 1 7 (some 'let') refl (ap counts (sym q)) (inr (refl, refl)) let_named

        pub let_untyped : {x : Refusal} → r₂ ≡ Err x → Answers Let 1 r₂ t₂
        let_untyped i = stops_answer typed i

        module _ {m₂ : Node} {h₃ : Here} (i₂ : r₂ ≡ Ok (m₂, h₃)) where
          pub let_types : m₂.children ≤ 1
          let_types = (partly_of typed i₂).one

          module _ {r₃ : Read} (u₃ : r₃ ≡ expected s h₃ '=') where
            pub let_signless : {x : Refusal} → r₃ ≡ Err x → Answers Let 1 r₃ t₂
            let_signless i = stopped i (misses '=' (partly_of typed i₂).going tt u₃ i)

            module _ {m₃ : Node} {h₄ : Here} (i₃ : r₃ ≡ Ok (m₃, h₄)) where
              let_signed : Going Let (at (after plain (counts (plainly l))) (a (EXPR records) ∷ word semicolon ∷ row kinds.LET ∷ []) ∷ []) h₄ t₂ (many (start_of h) m₃.end (1 + m₂.children) (or_word (partly_of typed i₂).sign '=')) m₂.children 11
              let_signed = expects '=' (partly_of typed i₂).going tt u₃ i₃

              -- asked for behind `=`
              pub let_expr : Stands s h₄ × (next_of h < next_of h₄)
              let_expr = let p = let_signed.spares in let c = let_signed.counted in (let_signed.stands, omega (arith, p, c))

              module _ {r₄ : Read} {t₄ : List ℕ} (u₄ : Answers (the s (counts l') (EXPR records) h₄ t₂) 1 r₄ t₄) where
                valued : Answers (the s (after plain (counts (plainly l))) (EXPR records) h₄ t₂) 1 r₄ t₄
                valued = subst (λ (d : Counts). Answers (the s d (EXPR records) h₄ t₂) 1 r₄ t₄) (ap counts q ∙ sym (counts_plain (plainly l))) u₄

                pub let_valueless : {x : Refusal} → r₄ ≡ Err x → Answers Let 1 r₄ t₄
                unfolding inside
                let_valueless i = relays let_signed refl valued i

                module _ {m₄ : Node} {h₅ : Here} (i₄ : r₄ ≡ Ok (m₄, h₅)) where
                  let_valued : Going Let (at (after plain (counts (plainly l))) (word semicolon ∷ row kinds.LET ∷ []) ∷ []) h₅ t₄ (many (start_of h) m₄.end (1 + m₂.children + 1) (or_word (partly_of typed i₂).sign '=')) m₂.children 12
                  unfolding inside
                  let_valued = reads_one let_signed refl refl (whole_of valued i₄)

                  module _ {r₅ : Read} (u₅ : r₅ ≡ expected s h₅ semicolon) where
                    pub let_unended : {x : Refusal} → r₅ ≡ Err x → Answers Let 1 r₅ t₄
                    let_unended i = stopped i (misses semicolon let_valued tt u₅ i)

                    pub let_read : {m₅ : Node} {h₆ : Here} {y : Row} {r : Read} {t' : List ℕ} → r₅ ≡ Ok (m₅, h₆) → y ≡ let_row (start_of h) m₅.end m₂.children → r ≡ Ok (node_of y, later h₆) → t' ≡ put_over t₄ h₆ y h.rows → Answers Let 1 r t'
                    let_read {m₅} i j o p =
                        let n : 1 + m₂.children + 1 ≡ m₂.children + 2 = omega arith in
                        done o (ends (fewer 1 (omega arith) (out (writes {k = 15} (expects semicolon let_valued tt u₅ i) refl refl (j ∙ ap (λ (c : ℕ). record { kind = kinds.LET; start = start_of h; end = m₅.end; children = c; value = m₂.children; detail = 0 }) (sym n)) refl p))) refl refl refl)
