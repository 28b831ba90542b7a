-- How a reader's steps follow the grammar: one law for each shape of step.
use Rattle.std.specs.Prelude.{Ok, Err}
use mathlib.Core.Path.{◌≡◌, refl, sym, ap, subst, ◌∙◌}
use mathlib.Core.List.{List, [], ◌∷◌, ◌++◌}
use mathlib.Core.Bool.{Bool, true, false, not, ◌&&◌, cond}
use mathlib.Core.Option.{none, some}
use Prim.Native.Nat.{ℕ, ◌+◌, ◌*◌, ◌≤◌, ◌<◌, suc}
use lib.Dec.{T, eqb}
use lib.ListN.{length, length-append}
use native.Mathlib.Omega.{arith}
use Rattle.tokens.specs.declared.Refusal.{Refusal}
use Rattle.rows.specs.declared.Row.{Row}
use Rattle.rows.specs.Rows.{put_row}
use Rattle.grammar.specs.Grammar.{Ask, Scope, same, Symbol, token, phrase, unless, note, one_of}
use Rattle.grammar.specs.Limits.{Counts, after, inside, kept}
use Rattle.grammar.specs.Table.{rest_kinds, literal_row}
use Rattle.grammar.specs.Choice.{chosen}
use Rattle.grammar.specs.Readings.{peek}
use Rattle.grammar.specs.Runs.{view, Run}
use Rattle.grammar.specs.Rows.{Draft, children_of, row_of, take_note, add_row, blank, sizes}
use Rattle.grammar.proofs.Sizes.{Sized, row_size, own_sized, phrase_sized}
use Rattle.grammar.proofs.Subtrees.{write_sized}
use Rattle.grammar.specs.Rows as grammar
use Rattle.grammar.specs.Refusals.{Why, want, amiss, past, ask_number, said, Stops, stops_none, stops_in, stops_after}
use Rattle.grammar.specs.Phrases as phrases
use Rattle.grammar.proofs.Bools.{and_l}
use Rattle.parser.proofs.Laws.{bump_more}
use Rattle.grammar.proofs.Frame.{no_text, with_own}
use Rattle.grammar.proofs.Summary.{sum, sum_of}
use Rattle.grammar.proofs.Open.{Left, Open, with_phrase, start, finish, pop, take, notes, within, reads, tail, apart, clear, wants, passes, lost, fails}
use Rattle.answers.specs.Source.{source}
use Rattle.parser.specs.declared.Here.{Here}
use Rattle.parser.specs.declared.Node.{Node}
use Rattle.parser.specs.Results.{Read}
use Rattle.parser.specs.Places.{word_of, start_of, end_of, next_of, passed, unused_at, refusal_at, later, size_from, put_over}
use Rattle.parser.specs.Going.{language, token_of, Stands, as_row, store, Tally, bare, lone, many, Holds, with_token, with_node, count_of, row_over, Phrase, Going, Whole, Stopped, Either, Answers}
use Rattle.parser.proofs.Standing.{solid, solid_word, peeks, next_small, is_token, says, lacking, goes_past, more_rows}
use Rattle.parser.proofs.Tables.{store_append, store_row, store_length}
use Rattle.parser.proofs.Tallies.{Leaves, holds_token, holds_node, holds_row}

-- the counts of a token's own, and one phrase left
abbrev pub at : Counts → List Symbol → Left
at d s = record { at = d; syms = s }

-- a reader begins: the alternative that is asked for
unfoldable pub begins : (f : Phrase) (c : List Symbol) → Stands f.text f.from → chosen language f.kind (view (source f.text) language f.from.place) ≡ some c → Going f (at f.counts c ∷ []) f.from f.table bare 0 0
unfolding inside store
begins f c g e = record {
  draft = blank;
  opened = start (source f.text) language c e;
  stands = g;
  holds = refl;
  part = refl;
  rows = omega arith;
  stored = refl;
  sized = refl;
  began = g.few;
  counted = omega arith;
  spares = omega arith;
}

-- the row count stays far below what a number holds
pub few_rows : {f : Phrase} {ks : List Left} {h : Here} {t : List ℕ} {y : Tally} {v k : ℕ} → Going f ks h t y v k → (h.rows < 300000) × (next_of h ≤ length f.text + 1) × (length f.text ≤ 65535) × (count_of y < 300000) × (next_of f.from ≤ next_of h)
few_rows {f} {h = h} {y = y} g =
    let a = g.stands.few in
    let b = next_small g.stands in
    let c = g.stands.short in
    let d = g.counted in
    let e = g.spares in
    let r = g.rows in
    (omega arith, omega arith, omega arith, omega arith, omega arith)

-- past a token
pub record Past (f : Phrase) (ks : List Left) (h h' : Here) (a : Draft) : Type 0 where
  pub opened : Open (source f.text) language f.counts same f.kind f.from.place ks h'.place (with_own (token_of f.text h) a)
  pub stands : Stands f.text h'
  pub next : next_of h < next_of h'
  pub rows : h'.rows ≡ h.rows

pub goes_by : (f : Phrase) (h : Here) {d : Counts} {ks : List Left} {h' : Here} {a : Draft} {ss : List Symbol} {q : Ask} {w : List ℕ} → Open (source f.text) language f.counts same f.kind f.from.place (at d (token q w ∷ ss) ∷ ks) h.place a → Stands f.text h → T (solid w) → T (one_of (word_of h) w) → T (kept q d (token_of f.text h)) → h' ≡ passed f.text h → Past f (at (after q d) ss ∷ ks) h h' a
goes_by f h {d} {ks} {h'} {a} {ss} {q} {w} g st o m p e =
    let s = f.text in
    let n = solid_word (word_of h) w o m in
    let b = is_token st n.0 n.1 in
    let z = goes_past st n.0 n.1 e in
    record {
      opened = subst (λ (x : ℕ). Open (source s) language f.counts same f.kind f.from.place (at (after q d) ss ∷ ks) x (with_own (token_of s h) a)) (sym z.1) (take (source s) language b.0 (and_l (no_text w) (not (one_of 0 w) && not (one_of 99 w)) o) m p g);
      stands = z.0;
      next = z.2;
      rows = z.3;
    }

module _ {f : Phrase} {d : Counts} {ks : List Left} {h : Here} {t : List ℕ} {y : Tally} {v k : ℕ} where
  pub takes : {ss : List Symbol} {q : Ask} {w : List ℕ} {h' : Here} → Going f (at d (token q w ∷ ss) ∷ ks) h t y v k → T (solid w) → T (one_of (word_of h) w) → T (kept q d (token_of f.text h)) → h' ≡ passed f.text h → Going f (at (after q d) ss ∷ ks) h' t (with_token y h) v (k + 4)
  takes {ss = ss} {q = q} {w = w} {h' = h'} g o m p e =
      let x = goes_by f h g.opened g.stands o m p e in
      let r = x.rows in
      let l = x.next in
      let c = g.counted in
      let u = g.spares in
      record {
        draft = with_own (token_of f.text h) g.draft;
        opened = x.opened;
        stands = x.stands;
        holds = holds_token f.text h y g.draft.items g.holds;
        part = g.part;
        rows = r ∙ g.rows;
        stored = g.stored;
        sized = own_sized (token_of f.text h) g.draft g.sized;
        began = g.began;
        counted = counted_token y (omega arith);
        spares = omega arith;
      }
    where
      counted_token : (y : Tally) → f.from.rows + count_of y ≤ h'.rows → f.from.rows + count_of (with_token y h) ≤ h'.rows
      counted_token bare q = q
      counted_token (lone a b c) q = q
      counted_token (many a b c x) q = q

  -- into the rest of a phrase; out of it; its last rest; a rest apart from what comes behind
  pub into : {ss : List Symbol} {o : Scope} {n : ℕ} (c : List Symbol) → one_of n rest_kinds ≡ true → chosen language n (view (source f.text) language h.place) ≡ some c → Going f (at d (phrase o n ∷ ss) ∷ ks) h t y v k → Going f (at (inside o d) c ∷ at d ss ∷ ks) h t y v k
  into c r e g = record { draft = g.draft; opened = within (source f.text) language c r e g.opened; stands = g.stands; holds = g.holds; part = g.part; rows = g.rows; stored = g.stored; sized = g.sized; began = g.began; counted = g.counted; spares = g.spares }

  pub out : Going f (at d [] ∷ ks) h t y v k → Going f ks h t y v k
  out g = record { draft = g.draft; opened = pop (source f.text) language g.opened; stands = g.stands; holds = g.holds; part = g.part; rows = g.rows; stored = g.stored; sized = g.sized; began = g.began; counted = g.counted; spares = g.spares }

  pub last : {o : Scope} {n : ℕ} {d' : Counts} → Going f (at d (phrase o n ∷ []) ∷ at d' [] ∷ ks) h t y v k → Going f (at d (phrase o n ∷ []) ∷ ks) h t y v k
  last g = record { draft = g.draft; opened = tail (source f.text) language g.opened; stands = g.stands; holds = g.holds; part = g.part; rows = g.rows; stored = g.stored; sized = g.sized; began = g.began; counted = g.counted; spares = g.spares }

  pub alone : {ss : List Symbol} {o : Scope} {n : ℕ} → Going f (at d (phrase o n ∷ ss) ∷ ks) h t y v k → Going f (at d (phrase o n ∷ []) ∷ at d ss ∷ ks) h t y v k
  alone g = record { draft = g.draft; opened = apart (source f.text) language g.opened; stands = g.stands; holds = g.holds; part = g.part; rows = g.rows; stored = g.stored; sized = g.sized; began = g.began; counted = g.counted; spares = g.spares }

  -- none of these words stands next
  pub none_of : {ss : List Symbol} {w : List ℕ} → (T (one_of (word_of h) w) → ⊥) → Going f (at d (unless w ∷ ss) ∷ ks) h t y v k → Going f (at d ss ∷ ks) h t y v k
  none_of {w = w} n g = record { draft = g.draft; opened = clear (source f.text) language (not_one (peek (source f.text) language h.place) (peeks g.stands)) g.opened; stands = g.stands; holds = g.holds; part = g.part; rows = g.rows; stored = g.stored; sized = g.sized; began = g.began; counted = g.counted; spares = g.spares }
    where
      not_one : (x : ℕ) → x ≡ word_of h → T (not (one_of x w))
      not_one x e = lib.Dec.not_T (one_of x w) (λ q. n (subst (λ (z : ℕ). T (one_of z w)) e q))

  -- "the part is there"
  pub parts : {ss : List Symbol} → Going f (at d (note 0 ∷ ss) ∷ ks) h t y v k → Going f (at d ss ∷ ks) h t y 1 k
  unfolding take_note
  parts g = record { draft = take_note 0 g.draft; opened = notes (source f.text) language g.opened; stands = g.stands; holds = g.holds; part = refl; rows = g.rows; stored = g.stored; sized = g.sized; began = g.began; counted = g.counted; spares = g.spares }

-- a row over what the phrase has
module _ {f : Phrase} {d : Counts} {ks : List Left} {h : Here} {t : List ℕ} {y : Tally} {v k : ℕ} where
  pub writes : {ss : List Symbol} {n : ℕ} {r : Row} {h' : Here} {t' : List ℕ} → Going f (at d (note n ∷ ss) ∷ ks) h t y v (k + 1) → eqb n 0 ≡ false → eqb n literal_row ≡ false → r ≡ row_over n y v → h' ≡ later h → t' ≡ put_over t h r f.from.rows → Going f (at d ss ∷ ks) h' t' (lone r.kind r.start r.end) 0 k
  unfolding take_note
  writes {ss} {n} {r} {h'} {t'} g z l e b p =
      let s = f.text in
      let a : Draft = g.draft in
      let x : grammar.Row = row_of n a.items a.part in
      let i : x ≡ back (suc (sizes a.items)) r = ap (row_of n a.items) g.part ∙ holds_row n y v a.items l g.holds ∙ sym (ap (back (suc (sizes a.items))) e) in
      let gz = g.sized in
      let c = few_rows g in
      let bm = bump_more 300000 h.rows c.0 in
      let w : suc (sizes a.items) ≡ size_from h f.from.rows = let q = g.rows in omega (arith, q, gz, bm) in
      let rows : h'.rows ≡ h.rows + 1 = ap (λ (q : Here). q.rows) b ∙ sym (bump_more 300000 h.rows c.0) in
      let next : next_of h' ≡ next_of h = ap (λ (q : Here). next_of q) b in
      let place : h'.place ≡ h.place = ap (λ (q : Here). q.place) b in
      let len : length (a.rows ++ (x ∷ [])) ≡ length a.rows + 1 = length-append a.rows (x ∷ []) in
      let dr : take_note n a ≡ add_row x a = ap (λ (q : Bool). cond q (record { rows = a.rows; items = a.items; part = 1 }) (add_row x a)) z in
      let o = notes (source s) language g.opened in
      let gr = g.rows in
      let gc = g.counted in
      let gs = g.spares in
      record {
        draft = add_row x a;
        opened = subst (λ (q : Draft). Open (source s) language f.counts same f.kind f.from.place (at d ss ∷ ks) h'.place q) dr (subst (λ (q : ℕ). Open (source s) language f.counts same f.kind f.from.place (at d ss ∷ ks) q (take_note n a)) (sym place) o);
        stands = more_rows g.stands b (let gb = g.began in omega (arith, rows, next, gs, gb));
        holds = (x, refl, ap (λ (q : grammar.Row). q.kind) i, ap (λ (q : grammar.Row). q.start) i, ap (λ (q : grammar.Row). q.end) i);
        part = refl;
        rows = omega (arith, rows, len, gr);
        stored = p ∙ ap (λ (q : List ℕ). put_row q h.rows r (size_from h f.from.rows)) g.stored ∙ ap (λ (q : ℕ). put_row (store f.table f.from.rows a.rows) q r (size_from h f.from.rows)) gr ∙ ap (put_row (store f.table f.from.rows a.rows) (f.from.rows + length a.rows) r) (sym w) ∙ ap (λ (q : grammar.Row). put_row (store f.table f.from.rows a.rows) (f.from.rows + length a.rows) (as_row q) q.size) (sym i) ∙ sym (store_row f.table f.from.rows a.rows x);
        sized = let s₁ = row_size n a.items a.part in omega (arith, s₁, len, gz);
        began = g.began;
        counted = omega (arith, rows, gc, gr);
        spares = omega (arith, rows, next, gs);
      }
    where
      back : ℕ → Row → grammar.Row
      back z r = record { kind = r.kind; start = r.start; end = r.end; children = r.children; value = r.value; detail = r.detail; size = z }

-- a phrase in it was read, at the same counts or behind its head
pub read_in : (s : List ℕ) {d d' : Counts} {o : Scope} {n i z : ℕ} {b : Draft} → inside o d ≡ d' → phrases.Read (source s) language d' same n i z b → phrases.Read (source s) language d o n i z b
unfolding inside
read_in s {i = i} {z = z} e u = record { alternative = u.alternative; parts = u.parts; picks = u.picks; run = subst (λ (x : Counts). Run (source s) language x u.alternative i z u.parts) (sym e) u.run; draft = u.draft }

stops_with : (s : List ℕ) {d d' : Counts} {o : Scope} {n i z : ℕ} {y : Why} → inside o d ≡ d' → phrases.Refused (source s) language d' same n i z y → phrases.Refused (source s) language d o n i z y
unfolding inside
stops_with s e (stops_none q) = stops_none q
stops_with s {i = i} {z = z} {y = y} e (stops_in {a = a} q g) = stops_in q (subst (λ (x : Counts). Stops (source s) language x a i z y) (sym e) g)
stops_with s {d = d} {o = o} {n = n} {i = i} {z = z} {y = y} e (stops_after {a = a} {m = m} {p = p} _ _ x24) = elim x24 [ ]

-- what it left is sized
pub read_sized : (s : List ℕ) {d : Counts} {o : Scope} {n i z : ℕ} {b : Draft} → phrases.Read (source s) language d o n i z b → Sized b
read_sized s u = subst Sized u.draft (write_sized u.parts)

-- the phrase that stands next, as its reader is asked for it
abbrev pub next_phrase : Phrase → Counts → ℕ → Here → List ℕ → Phrase
next_phrase f d n h t = record { text = f.text; counts = d; kind = n; from = h; table = t }

-- what is read next adds its rows and its one row
pub record Added (f : Phrase) (k : ℕ) (h : Here) (t : List ℕ) (y : Tally) (a b : Draft) (m : Node) (z : Here) (t' : List ℕ) (j : ℕ) : Type 0 where
  pub holds : Holds (with_node y m) (a.items ++ children_of b.items)
  pub rows : z.rows ≡ f.from.rows + length (a.rows ++ b.rows)
  pub stored : t' ≡ store f.table f.from.rows (a.rows ++ b.rows)
  pub sized : Sized (with_phrase b a)
  pub counted : f.from.rows + count_of (with_node y m) ≤ z.rows
  pub spares : z.rows + (k + j) + 4 * next_of f.from ≤ f.from.rows + 4 * next_of z

pub adds : {f : Phrase} {ks : List Left} {h : Here} {t : List ℕ} {y : Tally} {v k j : ℕ} {b : Draft} {m : Node} {z : Here} {t' : List ℕ} (g : Going f ks h t y v k) → Leaves m b.items → z.rows ≡ h.rows + length b.rows → t' ≡ store t h.rows b.rows → Sized b → h.rows + 1 ≤ z.rows → z.rows + j + 4 * next_of h ≤ h.rows + 4 * next_of z → Added f k h t y g.draft b m z t' j
adds {f} {h = h} {y = y} {b = b} {m = m} {z = z} g leaves ur stored sb uc us =
    let a : Draft = g.draft in
    let len : length (a.rows ++ b.rows) ≡ length a.rows + length b.rows = length-append a.rows b.rows in
    let gr = g.rows in
    let gc = g.counted in
    let gs = g.spares in
    record {
      holds = holds_node m y a.items b.items g.holds leaves;
      rows = omega (arith, len, gr, ur);
      stored = stored ∙ ap (λ (q : List ℕ). store q h.rows b.rows) g.stored ∙ ap (λ (q : ℕ). store (store f.table f.from.rows a.rows) q b.rows) gr ∙ sym (store_append f.table f.from.rows a.rows b.rows);
      sized = phrase_sized a b g.sized sb;
      counted = counted_node y (omega (arith, gc, uc));
      spares = omega (arith, gs, us);
    }
  where
    counted_node : (y : Tally) → f.from.rows + (count_of y + 1) ≤ z.rows → f.from.rows + count_of (with_node y m) ≤ z.rows
    counted_node bare q = q
    counted_node (lone a b c) q = q
    counted_node (many a b c x) q = q

pub adds_phrase : {f : Phrase} {ks : List Left} {h : Here} {t : List ℕ} {y : Tally} {v k n j : ℕ} {d : Counts} {m : Node} {z : Here} {t' : List ℕ} (g : Going f ks h t y v k) (u : Whole (next_phrase f d n h t) j m z t') → Added f k h t y g.draft u.draft m z t' j
adds_phrase {f} g u = adds g u.leaves u.rows u.stored (read_sized f.text u.read) u.counted u.spares

-- so the phrase goes on
unfoldable pub goes_added : {f : Phrase} {ks ks' : List Left} {h : Here} {t : List ℕ} {y : Tally} {v k j : ℕ} {b : Draft} {m : Node} {z : Here} {t' : List ℕ} (g : Going f ks h t y v k) → Added f k h t y g.draft b m z t' j → Open (source f.text) language f.counts same f.kind f.from.place ks' z.place (with_phrase b g.draft) → Stands f.text z → Going f ks' z t' (with_node y m) v (k + j)
goes_added {b = b} g x o s = record { draft = with_phrase b g.draft; opened = o; stands = s; holds = x.holds; part = g.part; rows = x.rows; stored = x.stored; sized = x.sized; began = g.began; counted = x.counted; spares = x.spares }

pub reads_one : {f : Phrase} {d : Counts} {ks : List Left} {h : Here} {t : List ℕ} {y : Tally} {v k : ℕ} {ss : List Symbol} {o : Scope} {n j : ℕ} {d' : Counts} {m : Node} {h' : Here} {t' : List ℕ} → Going f (at d (phrase o n ∷ ss) ∷ ks) h t y v k → one_of n rest_kinds ≡ false → inside o d ≡ d' → Whole (next_phrase f d' n h t) j m h' t' → Going f (at d ss ∷ ks) h' t' (with_node y m) v (k + j)
reads_one {f} g r e u = goes_added g (adds_phrase g u) (reads (source f.text) language r (read_in f.text e u.read) g.opened) u.stands

pub kept_length : {f : Phrase} {ks : List Left} {h : Here} {t : List ℕ} {y : Tally} {v k : ℕ} → Going f ks h t y v k → length t ≡ length f.table
kept_length {f} g = ap length g.stored ∙ store_length f.table f.from.rows g.draft.rows

-- the whole phrase
module _ {f : Phrase} {h : Here} {t : List ℕ} {v k : ℕ} where
  pub ends : {m : Node} {a b c : ℕ} → Going f [] h t (lone a b c) v k → m.kind ≡ a → m.start ≡ b → m.end ≡ c → Whole f k m h t
  ends {m} g p q r = record {
    draft = g.draft;
    read = finish (source f.text) language g.opened;
    stands = g.stands;
    leaves = (g.holds.0, ap children_of g.holds.1, g.holds.2 ∙ sym p, g.holds.3 ∙ sym q, g.holds.4 ∙ sym r);
    rows = g.rows;
    stored = g.stored;
    counted = g.counted;
    spares = g.spares;
  }

-- refusals: in a phrase in it; where its word isn't there; where it begins with none of its words; past a limit
module _ {f : Phrase} {d : Counts} {ks : List Left} {h : Here} {t : List ℕ} {y : Tally} {v k : ℕ} where
  pub refuses_in : {ss : List Symbol} {o : Scope} {n : ℕ} {d' : Counts} {r : Refusal} {t' : List ℕ} → Going f (at d (phrase o n ∷ ss) ∷ ks) h t y v k → inside o d ≡ d' → Stopped (next_phrase f d' n h t) r t' → Stopped f r t'
  refuses_in g e u = record { place = u.place; why = u.why; stops = fails (source f.text) language (stops_with f.text e u.stops) g.opened; says = u.says; kept = u.kept ∙ kept_length g }

  pub refuses_word : {ss : List Symbol} {q : Ask} {w : List ℕ} → Going f (at d (token q w ∷ ss) ∷ ks) h t y v k → (T (one_of (word_of h) w) → ⊥) → Stopped f (unused_at h) t
  refuses_word {w = w} g n = record { place = h.place; why = want w; stops = wants (source f.text) language (lacking g.stands w n) g.opened; says = says g.stands (want w) (λ len x. refl, λ len q. refl); kept = kept_length g }

  pub refuses_kind : {ss : List Symbol} {o : Scope} {n : ℕ} → Going f (at d (phrase o n ∷ ss) ∷ ks) h t y v k → chosen language n (view (source f.text) language h.place) ≡ none → Stopped f (unused_at h) t
  refuses_kind {n = n} g e = record { place = h.place; why = amiss n; stops = lost (source f.text) language e g.opened; says = says g.stands (amiss n) (λ len x. refl, λ len q. refl); kept = kept_length g }

  pub refuses_past : {ss : List Symbol} {q : Ask} {w : List ℕ} → Going f (at d (token q w ∷ ss) ∷ ks) h t y v k → T (solid w) → T (one_of (word_of h) w) → T (not (kept q d (token_of f.text h))) → Stopped f (refusal_at (ask_number q) (start_of h) (end_of h)) t
  refuses_past {q = q} {w = w} g o m p =
      let n = solid_word (word_of h) w o m in
      let b = is_token g.stands n.0 n.1 in
      record { place = h.place; why = past q; stops = passes (source f.text) language b.0 m p g.opened; says = ap (λ (x : Rattle.grammar.specs.Grammar.Look ℕ). said (length f.text) x (past q)) b.0; kept = kept_length g }

-- answers, taken apart at each use
pub whole_of : {f : Phrase} {j : ℕ} {r : Read} {t : List ℕ} {m : Node} {h : Here} → Answers f j r t → r ≡ Ok (m, h) → Whole f j m h t
whole_of {f} {j} {t = t} u e = subst (λ (x : Read). Either f j x t) e u.is

pub stopped_of : {f : Phrase} {j : ℕ} {r : Read} {t : List ℕ} {e : Refusal} → Answers f j r t → r ≡ Err e → Stopped f e t
stopped_of {f} {j} {t = t} u e = subst (λ (x : Read). Either f j x t) e u.is

pub done : {f : Phrase} {j : ℕ} {r : Read} {t : List ℕ} {m : Node} {h : Here} → r ≡ Ok (m, h) → Whole f j m h t → Answers f j r t
done {f} {j} {t = t} e u = record { is = subst (λ (x : Read). Either f j x t) (sym e) u }

pub stopped : {f : Phrase} {j : ℕ} {r : Read} {t : List ℕ} {e : Refusal} → r ≡ Err e → Stopped f e t → Answers f j r t
stopped {f} {j} {t = t} e u = record { is = subst (λ (x : Read). Either f j x t) (sym e) u }

-- the refusal of a phrase in it, handed on
pub relays : {f : Phrase} {d : Counts} {ks : List Left} {h : Here} {t : List ℕ} {y : Tally} {v k : ℕ} {ss : List Symbol} {o : Scope} {n j i : ℕ} {d' : Counts} {r : Read} {t' : List ℕ} {e : Refusal} → Going f (at d (phrase o n ∷ ss) ∷ ks) h t y v k → inside o d ≡ d' → Answers (next_phrase f d' n h t) j r t' → r ≡ Err e → Answers f i r t'
relays g q u e = stopped e (refuses_in g q (stopped_of u e))

-- what is known of a phrase may be less: of one row only the span; of the rows to spare fewer
pub as_many : {f : Phrase} {ks : List Left} {h : Here} {t : List ℕ} {n a e v k : ℕ} → Going f ks h t (lone n a e) v k → Going f ks h t (many a e 1 none) v k
as_many {a = a} g = record { draft = g.draft; opened = g.opened; stands = g.stands; holds = ap sum_of g.holds.1 ∙ ap (λ (x : ℕ). sum x g.holds.0.end 1 none) g.holds.3 ∙ ap (λ (x : ℕ). sum a x 1 none) g.holds.4; part = g.part; rows = g.rows; stored = g.stored; sized = g.sized; began = g.began; counted = g.counted; spares = g.spares }

pub fewer : {f : Phrase} {ks : List Left} {h : Here} {t : List ℕ} {y : Tally} {v k : ℕ} (j : ℕ) → j ≤ k → Going f ks h t y v k → Going f ks h t y v j
fewer j q g = record { draft = g.draft; opened = g.opened; stands = g.stands; holds = g.holds; part = g.part; rows = g.rows; stored = g.stored; sized = g.sized; began = g.began; counted = g.counted; spares = let x = g.spares in omega (arith, x, q) }
