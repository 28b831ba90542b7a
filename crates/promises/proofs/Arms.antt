-- The arms of a match. ARMS and ARM are phrases of their own, each with the arms behind it inside: what one leaves, the other
-- leaves too, so that they can be read one behind the other.
use Rattle.std.specs.Prelude.{Ok, Err}
use mathlib.Core.Path.{◌≡◌, refl, sym, ap, subst, ◌∙◌}
use mathlib.Core.List.{List, [], ◌∷◌, ◌++◌, append_assoc, append-nil}
use mathlib.Core.Bool.{Bool, true, false, cond}
use mathlib.Core.Option.{Option, none}
use mathlib.Core.Logic.{inl, inr, ◌≢◌}
use Prim.Native.Nat.{ℕ, ◌+◌, ◌≤◌, ◌<◌}
use lib.Dec.{T, eqb, eqb→eq, eqb_refl}
use lib.ListN.{length}
use native.Mathlib.Omega.{arith}
use Rattle.rows.specs.Kinds as kinds
use Rattle.tokens.specs.declared.Refusal.{Refusal}
use Rattle.rows.specs.declared.Row.{Row}
use Rattle.grammar.specs.Words.{open_brace, close_brace, comma, '=>', names}
use Rattle.grammar.specs.Grammar.{plain, Scope, same, body, Stream, Symbol, phrase, Parts, end, node, Language, one_of}
use Rattle.grammar.specs.Limits.{Counts, after, inside, kept}
use Rattle.grammar.specs.Readings.{reads_phrase, reads_end}
use Rattle.grammar.specs.Runs.{Picks, Run}
use Rattle.grammar.specs.Refusals.{Why, Stops, stops_in, stops_none, stops_after}
use Rattle.grammar.specs.Rows.{Row as Written, Item, Draft, children_of, write, blank}
use Rattle.grammar.specs.Table.{a, behind, closes, word, row, part, rest_kinds}
use Rattle.grammar.specs.Kinds.{records, BLOCK, ARMS, ARM, ARM_BODY, ARM_COMMA, ARM_NEXT, GUARD, PATTERN, EXPR}
use Rattle.grammar.specs.Phrases.{Read as Phrase-read, Refused as Phrase-refused}
use Rattle.grammar.proofs.Bools.{F→eq}
use Rattle.grammar.proofs.Summary.{or_word}
use Rattle.grammar.proofs.Frame.{write_phrase}
use Rattle.grammar.proofs.Open.{Left, Open, with_phrase, start, finish, pop, reads, Runs, Fails, tail}
use Rattle.answers.specs.Source.{source}
use Rattle.parser.specs.Results.{ArmRead}
use Rattle.parser.specs.declared.Arm.{Arm}
use Rattle.parser.specs.declared.Here.{Here}
use Rattle.parser.specs.declared.Limits.{Limits}
use Rattle.parser.specs.declared.Node.{Node}
use Rattle.parser.specs.Results.{Read}
use Rattle.parser.specs.Places.{word_of, end_of, next_of, passed, later, unused, node_of, put_over, plain_row, expected}
use Rattle.parser.specs.Counted.{counts, plain as plainly}
use Rattle.parser.specs.Going.{language, Stands, Tally, many, lone, with_node, Phrase, Going, Stopped, Answers}
use Rattle.parser.proofs.Standing.{next_small, is_word, the_word}
use Rattle.parser.proofs.Tables.{store_length}
use Rattle.parser.proofs.Tallies.{children_append, children_twice}
use Rattle.parser.proofs.Going.{at, takes, out, last, none_of, parts, writes, read_in, next_phrase, reads_one, ends, refuses_in, whole_of, stopped_of, stopped, fewer, as_many, adds, goes_added}
use Rattle.parser.proofs.Picks.{picks_at, picks_else, begins_on, begins_any, into_on, into_off, refuses_off}
use Rattle.parser.proofs.Steps.{counts_same, expects, misses}
use Rattle.parser.proofs.Sides.{Around, encloses_word, encloses_out, encloses_ends}
use Rattle.promises.specs.Firsts.{part_of, expr_firsts, last_arm, arm_end}
use Rattle.promises.specs.Promises.{the, Partly, Perhaps, Closed, Guarded, Matched, Armed, ArmIs, OneArm, Bodied}
use Rattle.promises.proofs.Alternatives.{brace_less, arms_on, arms_off, arm_any, arm_block_on, arm_expr_on, arm_off, arm_next_on, arm_next_off, arm_comma_on, arm_comma_off, guard_on, guard_off}
use Rattle.promises.proofs.Partly.{partly, partly_of, partly_stops, partly_stopped}
use Rattle.promises.proofs.Answered.{Further, partly_as, done_is}
use Rattle.promises.proofs.Blocks.{closes_row, closed_by, leaves_row}
use Rattle.promises.proofs.Heads.{reads_it, refuses_it, reads_partly, counts_behind}

-- what a phrase leaves that stands last in another, which stands alone in a third
through : (c b a : Draft) → with_phrase (with_phrase (with_phrase c b) blank) a ≡ with_phrase c (with_phrase b a)
through c b a =
    let is : children_of (children_of (b.items ++ children_of c.items)) ≡ children_of b.items ++ children_of c.items = children_twice (b.items ++ children_of c.items) ∙ children_append b.items (children_of c.items) ∙ ap (λ (x : List Item). children_of b.items ++ x) (children_twice c.items) in
    ap (λ (x : List Item). record { rows = a.rows ++ (b.rows ++ c.rows); items = a.items ++ x; part = a.part }) is
    ∙ ap (λ (x : List Written). record { rows = x; items = a.items ++ (children_of b.items ++ children_of c.items); part = a.part }) (sym (append_assoc a.rows b.rows c.rows))
    ∙ ap (λ (x : List Item). record { rows = (a.rows ++ b.rows) ++ c.rows; items = x; part = a.part }) (sym (append_assoc a.items (children_of b.items) (children_of c.items)))

module _ (S : Stream) (l : Language) {d₀ d : Counts} {o₀ : Scope} {n₀ n n' : ℕ} {i j j' : S.Place} {ks : List Left} {a b : Draft} where
  -- a phrase of kind n, alone of kind n', which ends with one of kind n: that one stands for the first
  follows : one_of n rest_kinds ≡ false → one_of n' rest_kinds ≡ false → Picks S l n j (phrase same n' ∷ []) → Open S l d same n' j (at d (phrase same n ∷ []) ∷ []) j' b → Open S l d₀ o₀ n₀ i (at d (phrase same n ∷ []) ∷ ks) j a → Open S l d₀ o₀ n₀ i (at d (phrase same n ∷ []) ∷ ks) j' (with_phrase b a)
  unfolding inside write
  follows p p' e u x = record {
    close = λ z y r. close z y r.2 r.3;
    halt = λ z y f. elim f [ inl q ↦ x.halt z y (inl (stops_in e (u.halt z y (inl q)))) | inr q ↦ halt z y q.2 q.3 ];
  }
    where
      behind_it : {m : S.Place} {c : Draft} → Phrase-read S l d same n j' m c → Open S l d₀ o₀ n₀ i ks m (with_phrase c (with_phrase b a))
      behind_it {m} {c} v = subst (λ (y : Draft). Open S l d₀ o₀ n₀ i ks m y) (through c b a) (pop S l (reads S l p (finish S l (pop S l (reads S l p' (finish S l (pop S l (reads S l p v u))) (start S l (phrase same n' ∷ []) e)))) x))

      close : {m : S.Place} {q : Parts} (z : S.Place) (y : Draft) → Run S l d (phrase same n ∷ []) j' m q → Runs S l ks m z (write q (with_phrase b a)) y → Phrase-read S l d₀ o₀ n₀ i z y
      close {m} z y (reads_phrase {a = s} {p = v} g t reads_end) r = (behind_it (record { alternative = s; parts = v; picks = g; run = t; draft = refl })).close z y (subst (λ (k : Draft). Runs S l ks m z k y) (write_phrase n s v end (with_phrase b a) p) r)

      halt : {m : S.Place} {q : Parts} (z : S.Place) (y : Why) → Run S l d (phrase same n ∷ []) j' m q → Fails S l ks m z y → Phrase-refused S l d₀ o₀ n₀ i z y
      halt z y (reads_phrase {a = s} {p = v} g t reads_end) r = (behind_it (record { alternative = s; parts = v; picks = g; run = t; draft = refl })).halt z y r

module _ (s : List ℕ) {d₀ d d' : Counts} {n₀ n i j : ℕ} {ss : List Symbol} {o : Scope} {ks : List Left} {a : Draft} where
  -- a phrase in it, apart from what comes behind, as its reader is asked for it
  asks_alone : one_of n rest_kinds ≡ false → inside o d ≡ d' → Open (source s) language d₀ same n₀ i (at d (phrase o n ∷ ss) ∷ ks) j a → Open (source s) language d₀ same n₀ i (at d' (phrase same n ∷ []) ∷ at d ss ∷ ks) j a
  unfolding inside write
  asks_alone p e x = record {
    close = λ z y r. close z y r.2 r.3;
    halt = λ z y f. elim f [ inl q ↦ x.halt z y (inl (stops_here q)) | inr q ↦ halt z y q.2 q.3 ];
  }
    where
      stops_here : {z : ℕ} {y : Why} → Stops (source s) language d' (phrase same n ∷ []) j z y → Stops (source s) language d (phrase o n ∷ ss) j z y
      stops_here (stops_none q) = stops_none q
      stops_here {z} {y} (stops_in {a = c} q g) = stops_in q (subst (λ (u : Counts). Stops (source s) language u c j z y) (sym e) g)
      stops_here {z = z} {y = y} (stops_after {m = m} _ _ x25) = elim x25 [ ]

      behind_it : {m : ℕ} {c : Draft} → Phrase-read (source s) language d' same n j m c → Open (source s) language d₀ same n₀ i (at d ss ∷ ks) m (with_phrase c a)
      behind_it v = reads (source s) language p (read_in s e v) x

      close : {m : ℕ} {q : Parts} (z : ℕ) (y : Draft) → Run (source s) language d' (phrase same n ∷ []) j m q → Runs (source s) language (at d ss ∷ ks) m z (write q a) y → Phrase-read (source s) language d₀ same n₀ i z y
      close {m} z y (reads_phrase {a = c} {p = v} g t reads_end) r = (behind_it (record { alternative = c; parts = v; picks = g; run = t; draft = refl })).close z y (subst (λ (k : Draft). Runs (source s) language (at d ss ∷ ks) m z k y) (write_phrase n c v end a p) r)

      halt : {m : ℕ} {q : Parts} (z : ℕ) (y : Why) → Run (source s) language d' (phrase same n ∷ []) j m q → Fails (source s) language (at d ss ∷ ks) m z y → Phrase-refused (source s) language d₀ same n₀ i z y
      halt z y (reads_phrase {a = c} {p = v} g t reads_end) r = (behind_it (record { alternative = c; parts = v; picks = g; run = t; draft = refl })).halt z y r

module _ {f : Phrase} {d : Counts} {ks : List Left} {h : Here} {t : List ℕ} {y : Tally} {v k : ℕ} where
  pub stands_alone : {d' : Counts} {ss : List Symbol} {o : Scope} {n : ℕ} → one_of n rest_kinds ≡ false → inside o d ≡ d' → Going f (at d (phrase o n ∷ ss) ∷ ks) h t y v k → Going f (at d' (phrase same n ∷ []) ∷ at d ss ∷ ks) h t y v k
  stands_alone p e g = record { draft = g.draft; opened = asks_alone f.text p e g.opened; stands = g.stands; holds = g.holds; part = g.part; rows = g.rows; stored = g.stored; sized = g.sized; began = g.began; counted = g.counted; spares = g.spares }

  -- no arm more
  pub arms_none : {ss : List Symbol} → (T (one_of (word_of h) names) → ⊥) → Going f (at d (a ARMS ∷ ss) ∷ ks) h t y v k → Going f (at d ss ∷ ks) h t y v k
  unfolding inside
  arms_none {ss} n g =
      let x : Draft = g.draft in
      let nil : with_phrase blank x ≡ x = ap (λ (r : List Written). record { rows = r; items = x.items ++ []; part = x.part }) (append-nil x.rows) ∙ ap (λ (i : List Item). record { rows = x.rows; items = i; part = x.part }) (append-nil x.items) in
      let S = source f.text in
      record { draft = x; opened = subst (λ (z : Draft). Open S language f.counts same f.kind f.from.place (at d ss ∷ ks) h.place z) nil (reads S language refl (finish S language (pop S language (start S language [] (picks_else f.text g.stands arms_off n)))) g.opened); stands = g.stands; holds = g.holds; part = g.part; rows = g.rows; stored = g.stored; sized = g.sized; began = g.began; counted = g.counted; spares = g.spares }

  module _ (w : T (one_of (word_of h) names)) {h' : Here} {t' : List ℕ} {m : Node} {j : ℕ} where
    -- an arm, and others may follow
    pub arm_more : Going f (at d (a ARMS ∷ []) ∷ ks) h t y v k → Around (next_phrase f d ARM h t) (at d (a ARMS ∷ []) ∷ []) h' t' m j → Going f (at d (a ARMS ∷ []) ∷ ks) h' t' (with_node y m) v (k + j)
    arm_more g u = goes_added g (adds {b = u.draft} {m = m} g u.leaves u.rows u.stored u.sized u.counted u.spares) (follows (source f.text) language refl refl (picks_at f.text g.stands arms_on w) u.opened g.opened) u.stands

    -- an arm, and none may follow
    pub arm_last : {ss : List Symbol} → Going f (at d (a ARMS ∷ ss) ∷ ks) h t y v k → Around (next_phrase f d ARM h t) [] h' t' m j → Going f (at d ss ∷ ks) h' t' (with_node y m) v (k + j)
    unfolding inside
    arm_last g u = fewer (k + j) (omega arith) (reads_one g refl refl (ends {m = m} (out (reads_one (begins_on arms_on g.stands w) refl refl (encloses_ends u))) refl refl refl))

-- a match behind some of its arms
pub record Arming (f : Phrase) (d : Counts) (ks : List Left) (x c : ℕ) (h : Here) (t : List ℕ) : Type 0 where
  pub end : ℕ
  pub sign : Option ℕ
  pub going : Going f (at d (a ARMS ∷ []) ∷ ks) h t (many x end c sign) 0 1

-- from where the loop began
pub record Gone (s : List ℕ) (l : Limits) (c₀ : ℕ) (h₀ : Here) (t₀ : List ℕ) (c : ℕ) (h : Here) (t : List ℕ) : Type 0 where
  pub arming : (f : Phrase) (ks : List Left) (x : ℕ) → f.text ≡ s → Arming f (counts l) ks x c₀ h₀ t₀ → Arming f (counts l) ks x c h t
  pub stands : Stands s h₀ → Stands s h
  pub next : next_of h₀ ≤ next_of h
  pub counted : c + h₀.rows ≤ c₀ + h.rows
  pub kept : length t ≡ length t₀

pub gone_start : {s : List ℕ} {l : Limits} {c : ℕ} {h : Here} {t : List ℕ} → Gone s l c h t c h t
gone_start = record { arming = λ f ks x q g. g; stands = λ g. g; next = omega arith; counted = omega arith; kept = refl }

-- the numbers stay small
pub gone_few : {s : List ℕ} {l : Limits} {c : ℕ} {h₀ h : Here} {t₀ t : List ℕ} → Gone s l 1 h₀ t₀ c h t → Stands s h₀ → (c < 300000) × (next_of h ≤ length s + 1) × (length s ≤ 65535) × (next_of h₀ ≤ next_of h)
gone_few b g =
    let x = b.stands g in
    let c = b.counted in
    let f = x.few in
    let n = next_small x in
    let o = x.short in
    let i = b.next in
    (omega (arith, c, f, n, o), n, o, i)

-- how far an arm has come
pub arm_further : {f : Phrase} {ks : List Left} {h : Here} {t : List ℕ} → Armed f ks h t → Further f.text f.from f.table h t
arm_further {f} b = let u = b.around in let c = u.counted in let p = u.spares in record { stands = u.stands; next = omega (arith, c, p); rows = omega (arith, c); kept = ap length u.stored ∙ store_length f.table f.from.rows u.draft.rows }

-- what an arm's answer says, and the answer that says it
module _ {f : Phrase} {r q : ArmRead} {t : List ℕ} where
  pub armed : OneArm f r t → r ≡ q → ArmIs f q t
  armed u e = subst (λ (j : ArmRead). ArmIs f j t) e u.is

  arm_is : r ≡ q → ArmIs f q t → OneArm f r t
  arm_is e u = record { is = subst (λ (j : ArmRead). ArmIs f j t) (sym e) u }

arm_stops : {f : Phrase} {r : Read} {v : ArmRead} {t : List ℕ} {x : Refusal} → v ≡ last_arm r → r ≡ Err x → Stopped f x t → OneArm f v t
unfolding last_arm
arm_stops i e u = arm_is (i ∙ ap last_arm e) u

-- what an arm promises
abbrev pub ArmOf : List ℕ → Counts → Here → List ℕ → ArmRead → List ℕ → Type 0
ArmOf s d h t r t' = OneArm (the s d ARM h t) r t'

arm_of : {x s : List ℕ} {d : Counts} {h : Here} {t : List ℕ} {r : ArmRead} {t' : List ℕ} → x ≡ s → ArmOf s d h t r t' → ArmOf x d h t r t'
arm_of {d = d} {h = h} {t = t} {r = r} {t' = t'} q u = subst (λ (y : List ℕ). ArmOf y d h t r t') (sym q) u

module _ {s : List ℕ} {l : Limits} {c₀ c : ℕ} {h₀ h : Here} {t₀ t : List ℕ} (b : Gone s l c₀ h₀ t₀ c h t) (w : T (one_of (word_of h) names)) {r : ArmRead} {t' : List ℕ} (u : ArmOf s (counts l) h t r t') where
  pub gone_on : {z : Here} → r ≡ Ok (Arm.Followed z) → Gone s l c₀ h₀ t₀ (c + 1) z t'
  gone_on {z} e =
      let y : Further s h t z t' = arm_further (armed u e) in
      let p = b.next in
      let o = b.counted in
      let i = y.next in
      let j = y.rows in
      record {
        arming = λ f ks x q g. (let k : Armed (the f.text (counts l) ARM h t) (at (counts l) (a ARMS ∷ []) ∷ []) z t' = armed (arm_of q u) e in record { end = k.node.end; sign = (b.arming f ks x q g).sign; going = fewer 1 (omega arith) (arm_more w (b.arming f ks x q g).going k.around) });
        stands = λ g. y.stands;
        next = omega (arith, p, i);
        counted = omega (arith, o, j);
        kept = y.kept ∙ b.kept;
      }

-- a match
module _ {s : List ℕ} {l : Limits} {start c : ℕ} {h₀ h : Here} {t₀ t : List ℕ} (b : Gone s l 1 h₀ t₀ c h t) where
  armed_so : {f : Phrase} {d : Counts} {e : ℕ} {w : Option ℕ} → f.text ≡ s → inside body d ≡ counts l → Going f (at d (behind ARMS ∷ closes close_brace ∷ row kinds.MATCH ∷ []) ∷ []) h₀ t₀ (many start e 1 w) 0 1 → Arming f (counts l) (at d (closes close_brace ∷ row kinds.MATCH ∷ []) ∷ []) start c h t
  armed_so {f} {d} q z g = b.arming f (at d (closes close_brace ∷ row kinds.MATCH ∷ []) ∷ []) start q (record { end = _; sign = _; going = stands_alone refl z g })

  pub arms_end : {since : ℕ} {v : Row} {r : Read} {t' : List ℕ} → (T (one_of (word_of h) names) → ⊥) → v ≡ plain_row kinds.MATCH start (end_of h) c → Closed s h t close_brace v since r t' → Matched s h₀ t₀ l start since r t'
  arms_end {r = r} n o k f d e w q i z g = leaves_row r (omega arith) (closes_row (out (arms_none n (armed_so q z g).going)) refl refl o (closed_by q i k))

  module _ (w : T (one_of (word_of h) names)) {r : ArmRead} {t' : List ℕ} (u : ArmOf s (counts l) h t r t') where
    pub arms_fail : (since : ℕ) {x : Refusal} {r' : Read} → r ≡ Err x → r' ≡ Err x → Matched s h₀ t₀ l start since r' t'
    unfolding inside
    arms_fail since x o f d e i q j z g = let y = (armed_so q z g).going in stopped o (refuses_in y refl (refuses_in (begins_on arms_on y.stands w) refl (armed (arm_of q u) x)))

    pub arms_last : {since : ℕ} {z : Here} {v : Row} {r₁ : Read} {t₁ : List ℕ} → r ≡ Ok (Arm.Last z) → v ≡ plain_row kinds.MATCH start (end_of z) (c + 1) → Closed s z t' close_brace v since r₁ t₁ → Matched s h₀ t₀ l start since r₁ t₁
    arms_last {z = j} {v = v} {r₁ = r₁} {t₁ = t₁} x o k f d e i q n z g =
        let m : Armed (the f.text (counts l) ARM h t) [] j t' = armed (arm_of q u) x in
        leaves_row r₁ (omega arith) (closes_row (fewer 1 (omega arith) (out (arm_last w (armed_so q z g).going m.around))) refl refl o (closed_by q n k))

-- perhaps `if expr`
pub guard_none : (l : Limits) {s : List ℕ} {h : Here} {t : List ℕ} {r : Read} → word_of h ≢ 69 → r ≡ Ok (part_of 0, h) → Guarded s h t l r t
guard_none l {h = h} {t = t} n j f d ss ks x e c k w q z g = partly j (record { end = e; sign = w; one = omega arith; going = subst (λ (i : ℕ). Going f (at d ss ∷ ks) h t (many x e i w) 0 k) (omega arith) (out (into_off guard_off refl (λ m. n (the_word m)) g)) })

guard_word : {f : Phrase} {s : List ℕ} {h h₁ : Here} {t : List ℕ} {d : Counts} {ss : List Symbol} {ks : List Left} {x e c k : ℕ} {w : Option ℕ} → word_of h ≡ 69 → h₁ ≡ passed s h → f.text ≡ s → Going f (at d (a GUARD ∷ ss) ∷ ks) h t (many x e c w) 0 k → Going f (at (after plain d) (a (EXPR records) ∷ part ∷ []) ∷ at d ss ∷ ks) h₁ t (many x (end_of h) c (or_word w (word_of h))) 0 (k + 4)
unfolding inside kept
guard_word {h = h} {h₁ = h₁} i j q g = takes (into_on guard_on refl (is_word i) g) tt (is_word i) tt (subst (λ (y : List ℕ). h₁ ≡ passed y h) (sym q) j)

module _ (l : Limits) {s : List ℕ} {h h₁ : Here} {t : List ℕ} {l₁ : Limits} (i : word_of h ≡ 69) (j : h₁ ≡ passed s h) (p : l₁ ≡ plainly l) {r : Read} {t₁ : List ℕ} (u : Answers (the s (counts l₁) (EXPR records) h₁ t) 1 r t₁) where
  pub guard_fails : {y : Refusal} → r ≡ Err y → Guarded s h t l r t₁
  unfolding inside
  guard_fails y f d ss ks x e c k w q z g = partly_stops y (refuses_it q (counts_behind l z p) u (guard_word i j q g) y)

  pub guard_ends : {m : Node} {z : Here} {r₁ : Read} → r ≡ Ok (m, z) → r₁ ≡ Ok (part_of 1, z) → Guarded s h t l r₁ t₁
  unfolding inside
  guard_ends {m} v y f d ss ks x e c k w q z g = partly y (record { end = m.end; sign = or_word w (word_of h); one = omega arith; going = fewer k (omega arith) (out (parts (reads_it q (counts_behind l z p) u (guard_word i j q g) refl v))) })

-- the body of an arm
module _ (l : Limits) {s : List ℕ} {h : Here} {t : List ℕ} {r : Read} {t' : List ℕ} where
  pub body_block : word_of h ≡ open_brace → Answers (the s (counts l) BLOCK h t) 1 r t' → Bodied s h t l r t'
  unfolding inside
  body_block i u f d ks y v k q z g = partly_as (reads_partly q z u (into_on arm_block_on refl (is_word i) g) refl) (λ m h' x. (λ o. x, λ o. absurd (o i)))

  pub body_expr : word_of h ≢ open_brace → T (one_of (word_of h) expr_firsts) → Answers (the s (counts l) (EXPR records) h t) 1 r t' → Bodied s h t l r t'
  unfolding inside
  body_expr n i u f d ks y v k q z g = partly_as (reads_partly q z u (none_of (λ m. n (the_word m)) (into_on arm_expr_on refl (brace_less (word_of h) i n) g)) refl) (λ m h' x. (λ o. absurd (n o), λ o. x))

pub body_fails : (l : Limits) {s : List ℕ} {h : Here} {t : List ℕ} {r : Read} → (T (one_of (word_of h) expr_firsts) → ⊥) → r ≡ unused h → Bodied s h t l r t
body_fails l n e f d ks y v k q z g = partly_stops e (refuses_off arm_off n g)

-- one arm
around_of : {f : Phrase} {ks : List Left} {h : Here} {t : List ℕ} {a b c v k : ℕ} → Going f ks h t (lone a b c) v k → Around f ks h t (record { kind = a; start = b; end = c; children = 0 }) k
around_of g = record { draft = g.draft; opened = g.opened; stands = g.stands; leaves = (g.holds.0, ap children_of g.holds.1, g.holds.2, g.holds.3, g.holds.4); rows = g.rows; stored = g.stored; sized = g.sized; counted = g.counted; spares = g.spares }

-- behind its comma
around_last : {f : Phrase} {ks : List Left} {h : Here} {t : List ℕ} {m : Node} {k n : ℕ} {o : Scope} {d d' d'' : Counts} → d ≡ d'' → Around f (at d (phrase o n ∷ []) ∷ at d' [] ∷ ks) h t m (k + 4) → Around f (at d'' (phrase o n ∷ []) ∷ ks) h t m k
around_last {f} {ks} {h} {t} {n = n} {o = o} e g = record { draft = g.draft; opened = subst (λ (x : Counts). Open (source f.text) language f.counts same f.kind f.from.place (at x (phrase o n ∷ []) ∷ ks) h.place g.draft) e (tail (source f.text) language g.opened); stands = g.stands; leaves = g.leaves; rows = g.rows; stored = g.stored; sized = g.sized; counted = g.counted; spares = let x = g.spares in omega (arith, x) }

-- behind a block a comma may stand; behind an expr it must, where another arm follows
module _ {f : Phrase} {h : Here} {t : List ℕ} {j x e v : ℕ} (begin : ℕ) {r : ArmRead} (u : r ≡ arm_end f.text h begin) where
  comma_block : begin ≡ open_brace → Going f (at f.counts (a ARM_COMMA ∷ a ARMS ∷ []) ∷ at f.counts [] ∷ []) h t (lone j x e) v 1 → OneArm f r t
  unfolding inside kept
  comma_block b g = subst (λ (k : ArmRead). OneArm f k t) (sym (u ∙ ap (arm_end f.text h) b)) (go (eqb (word_of h) comma) refl)
    where
      go : (y : Bool) → eqb (word_of h) comma ≡ y → OneArm f (cond y (Ok (Arm.Followed (passed f.text h))) (Ok (Arm.Followed h))) t
      go true y = let m = is_word (eqb→eq (word_of h) comma (subst T (sym y) tt)) in record { is = record { node = _; around = around_last refl (encloses_out (encloses_word (around_of (into_on arm_comma_on refl m g)) tt m tt refl)) } }
      go false y = record { is = record { node = _; around = around_of (last (out (into_off arm_comma_off refl (λ m. subst T (ap (eqb (word_of h)) (the_word m) ∙ y) (eqb_refl (word_of h))) g))) } }

  comma_expr : after plain f.counts ≡ f.counts → begin ≢ open_brace → Going f (at f.counts (a ARM_NEXT ∷ []) ∷ at f.counts [] ∷ []) h t (lone j x e) v 1 → OneArm f r t
  unfolding inside kept
  comma_expr o b g = subst (λ (k : ArmRead). OneArm f k t) (sym (u ∙ ap (λ (y : Bool). cond (eqb (word_of h) comma) (Ok (Arm.Followed (passed f.text h))) (cond y (Ok (Arm.Followed h)) (Ok (Arm.Last h)))) (F→eq (eqb begin open_brace) (λ y. b (eqb→eq begin open_brace y))))) (go (eqb (word_of h) comma) refl)
    where
      go : (y : Bool) → eqb (word_of h) comma ≡ y → OneArm f (cond y (Ok (Arm.Followed (passed f.text h))) (Ok (Arm.Last h))) t
      go true y = let m = is_word (eqb→eq (word_of h) comma (subst T (sym y) tt)) in record { is = record { node = _; around = around_last o (encloses_word (around_of (into_on arm_next_on refl m (last g))) tt m tt refl) } }
      go false y = record { is = record { node = _; around = around_of (out (out (into_off arm_next_off refl (λ m. subst T (ap (eqb (word_of h)) (the_word m) ∙ y) (eqb_refl (word_of h))) (last g)))) } }

-- an arm: its pattern, perhaps a guard, `=>`, its body, its row, perhaps a comma
module _ (l : Limits) {s : List ℕ} {h : Here} {t : List ℕ} (g : Stands s h) {r₁ : Read} {t₁ : List ℕ} (u₁ : Answers (the s (counts l) PATTERN h t) 1 r₁ t₁) where
  pub arm_pattern_fails : {x : Refusal} {v : ArmRead} → r₁ ≡ Err x → v ≡ last_arm r₁ → ArmOf s (counts l) h t v t₁
  unfolding inside
  arm_pattern_fails x i = arm_stops i x (refuses_in (begins_any arm_any g) refl (stopped_of u₁ x))

  module _ {m₁ : Node} {h₁ : Here} (e₁ : r₁ ≡ Ok (m₁, h₁)) {r₂ : Read} {t₂ : List ℕ} (u₂ : Guarded s h₁ t₁ l r₂ t₂) where
    arm_guard : Partly (the s (counts l) ARM h t) r₂ t₂ (λ m z. Perhaps (the s (counts l) ARM h t) (at (counts l) (word '=>' ∷ a ARM_BODY ∷ []) ∷ []) m₁.start 1 1 m.children z t₂)
    unfolding inside
    arm_guard = u₂ (the s (counts l) ARM h t) (counts l) (word '=>' ∷ a ARM_BODY ∷ []) [] m₁.start m₁.end 1 1 none refl refl (as_many (reads_one (begins_any arm_any g) refl refl (whole_of u₁ e₁)))

    pub arm_guard_fails : {x : Refusal} {v : ArmRead} → r₂ ≡ Err x → v ≡ last_arm r₂ → ArmOf s (counts l) h t v t₂
    arm_guard_fails x i = arm_stops i x (partly_stopped arm_guard x)

    module _ {m₂ : Node} {h₂ : Here} (e₂ : r₂ ≡ Ok (m₂, h₂)) where
      -- the guard is one row at most; how far the arm has come
      pub arm_guarded : Perhaps (the s (counts l) ARM h t) (at (counts l) (word '=>' ∷ a ARM_BODY ∷ []) ∷ []) m₁.start 1 1 m₂.children h₂ t₂
      arm_guarded = partly_of arm_guard e₂

      module _ {r₃ : Read} (u₃ : r₃ ≡ expected s h₂ 21) where
        pub arm_arrow_fails : {x : Refusal} {v : ArmRead} → r₃ ≡ Err x → v ≡ last_arm r₃ → ArmOf s (counts l) h t v t₂
        arm_arrow_fails x i = arm_stops i x (misses 21 arm_guarded.going tt u₃ x)

        pub arm_arrow : {m₃ : Node} {h₃ : Here} → r₃ ≡ Ok (m₃, h₃) → Going (the s (counts l) ARM h t) (at (after plain (counts l)) (a ARM_BODY ∷ []) ∷ []) h₃ t₂ (many m₁.start m₃.end (1 + m₂.children) (or_word arm_guarded.sign 21)) m₂.children 5
        arm_arrow e₃ = expects 21 arm_guarded.going tt u₃ e₃

        module _ {m₃ : Node} {h₃ : Here} (e₃ : r₃ ≡ Ok (m₃, h₃)) {l₁ : Limits} (p : l₁ ≡ plainly l) {r₄ : Read} {t₄ : List ℕ} (u₄ : Bodied s h₃ t₂ l₁ r₄ t₄) where
          arm : Partly (the s (counts l) ARM h t) r₄ t₄ (λ m z. (word_of h₃ ≡ open_brace → Going (the s (counts l) ARM h t) (at (after plain (counts l)) (row kinds.ARM ∷ a ARM_COMMA ∷ a ARMS ∷ []) ∷ at (after plain (counts l)) [] ∷ []) z t₄ (many m₁.start m.end (1 + m₂.children + 1) (or_word arm_guarded.sign 21)) m₂.children 6) × (word_of h₃ ≢ open_brace → Going (the s (counts l) ARM h t) (at (after plain (counts l)) (row kinds.ARM ∷ a ARM_NEXT ∷ []) ∷ at (after plain (counts l)) [] ∷ []) z t₄ (many m₁.start m.end (1 + m₂.children + 1) (or_word arm_guarded.sign 21)) m₂.children 6))
          arm = u₄ (the s (counts l) ARM h t) (after plain (counts l)) [] _ _ 5 refl (counts_behind l refl p) (arm_arrow e₃)

          pub arm_fails : {x : Refusal} {v : ArmRead} → r₄ ≡ Err x → v ≡ last_arm r₄ → ArmOf s (counts l) h t v t₄
          arm_fails x i = arm_stops i x (partly_stopped arm x)

          module _ {m₄ : Node} {h₄ : Here} (e₄ : r₄ ≡ Ok (m₄, h₄)) {v : Row} (i : v ≡ record { kind = kinds.ARM; start = m₁.start; end = m₄.end; children = m₂.children + 2; value = m₂.children; detail = 0 }) {r₅ : Read} {t₅ : List ℕ} (u₅ : r₅ ≡ Ok (node_of v, later h₄)) (q : t₅ ≡ put_over t₄ h₄ v h.rows) {m₅ : Node} {h₅ : Here} (e₅ : r₅ ≡ Ok (m₅, h₅)) where
            arm_row : {ss : List Symbol} → l.signs ≡ 32 → Going (the s (counts l) ARM h t) (at (after plain (counts l)) (row kinds.ARM ∷ ss) ∷ at (after plain (counts l)) [] ∷ []) h₄ t₄ (many m₁.start m₄.end (1 + m₂.children + 1) (or_word arm_guarded.sign 21)) m₂.children 6 → Going (the s (counts l) ARM h t) (at (counts l) ss ∷ at (counts l) [] ∷ []) h₅ t₅ (lone v.kind v.start v.end) 0 1
            arm_row {ss} o x = subst (λ (d : Counts). Going (the s (counts l) ARM h t) (at d ss ∷ at d [] ∷ []) h₅ t₅ (lone v.kind v.start v.end) 0 1) (counts_same l o) (writes (fewer 2 (omega arith) x) refl refl (i ∙ ap (λ (c : ℕ). record { kind = kinds.ARM; start = m₁.start; end = m₄.end; children = c; value = m₂.children; detail = 0 }) (omega arith)) (sym (done_is u₅ e₅).1) q)

            pub arm_ends : {r : ArmRead} → l.signs ≡ 32 → r ≡ arm_end s h₅ (word_of h₃) → ArmOf s (counts l) h t r t₅
            arm_ends {r} o x = go (eqb (word_of h₃) open_brace) refl
              where
                go : (b : Bool) → eqb (word_of h₃) open_brace ≡ b → ArmOf s (counts l) h t r t₅
                go true y = let m = eqb→eq (word_of h₃) open_brace (subst T (sym y) tt) in comma_block (word_of h₃) x m (arm_row o ((partly_of arm e₄).0 m))
                go false y = let n : word_of h₃ ≢ open_brace = λ m. subst T (ap (eqb (word_of h₃)) m ∙ y) (eqb_refl (word_of h₃)) in comma_expr (word_of h₃) x (counts_same l o) n (arm_row o ((partly_of arm e₄).1 n))
