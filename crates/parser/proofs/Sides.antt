-- A left side, which may be a path; and a row that words stand round, which widen no span.
use mathlib.Core.Path.{◌≡◌, refl, ap, subst, ◌∙◌}
use mathlib.Core.List.{List, [], ◌∷◌, ◌++◌, append-nil}
use mathlib.Core.Bool.{Bool, true, false, not, cond}
use mathlib.Core.Option.{Option}
use mathlib.Core.Logic.{◌≢◌}
use Prim.Native.Nat.{ℕ, ◌+◌, ◌*◌, ◌≤◌}
use lib.Dec.{T, eqb, eqb→eq, not_T}
use lib.ListN.{length}
use native.Mathlib.Omega.{arith}
use Rattle.grammar.specs.Words.{assign_signs}
use Rattle.grammar.specs.Grammar.{Ask, Scope, same, Symbol, token, phrase, left_side, Look, one_of}
use Rattle.grammar.specs.Limits.{Counts, after, inside, kept}
use Rattle.grammar.specs.Language.{roto}
use Rattle.grammar.specs.Table.{rest_kinds}
use Rattle.grammar.specs.Readings.{peek}
use Rattle.grammar.specs.Runs.{may}
use Rattle.grammar.specs.Rows.{Item, own, child, count, sizes, Draft, children_of}
use Rattle.grammar.specs.Rows as grammar
use Rattle.grammar.specs.Refusals.{left, want, said}
use Rattle.grammar.proofs.Bools.{F→eq}
use Rattle.grammar.proofs.Frame.{with_own}
use Rattle.grammar.proofs.Summary.{sum, sum_of}
use Rattle.grammar.proofs.Open.{Left, Open, with_phrase, finish, pop, reads, wants, forks, signed, row_left, path_left}
use Rattle.answers.specs.Source.{source}
use Rattle.grammar.proofs.Sizes.{Sized, own_sized}
use Rattle.parser.specs.declared.Here.{Here}
use Rattle.parser.specs.declared.Node.{Node}
use Rattle.parser.specs.Places.{word_of, next_of, passed, unused_at, refusal_at}
use Rattle.parser.specs.Going.{language, token_of, Stands, store, Tally, many, with_node, Phrase, Going, Whole, Stopped}
use Rattle.parser.proofs.Standing.{solid, solid_word, peeks, is_token, says, lacking}
use Rattle.parser.proofs.Tables.{store_length}
use Rattle.parser.proofs.Tallies.{Leaves, no_children, children_append, children_twice, leaves_first}
use Rattle.parser.proofs.Going.{at, next_phrase, kept_length, read_in, goes_by, adds_phrase, goes_added}

-- a phrase is a path exactly if its row has kind 2
is_path_by : {f : Phrase} {k : ℕ} {m : Node} {h : Here} {t : List ℕ} (u : Whole f k m h t) → language.is_path u.read.parts ≡ eqb m.kind 2
is_path_by {f} {m = m} u =
    let r = u.leaves.0 in
    path_left (source f.text) true u.read ∙ ap (λ (x : grammar.Row). eqb x.kind 2) (leaves_first u.draft.items r u.leaves.1) ∙ ap (λ (n : ℕ). eqb n 2) u.leaves.2

other : (n v : ℕ) → n ≢ v → eqb n v ≡ false
other n v h = F→eq (eqb n v) (λ t. h (eqb→eq n v t))

module _ {f : Phrase} {d : Counts} {ks : List Left} {h : Here} {t : List ℕ} {y : Tally} {v k : ℕ} {ss : List Symbol} {n n₁ j : ℕ} {m : Node} {z : Here} {t' : List ℕ} (g : Going f (at d (left_side n n₁ ∷ ss) ∷ ks) h t y v k) (u : Whole (next_phrase f d n h t) j m z t') where
  -- what the phrase is when the rest of it is opened again
  side : {symbols : List Symbol} → one_of n rest_kinds ≡ false → T (may (source f.text) language (language.is_path u.read.parts) (peek (source f.text) language z.place)) → cond (language.is_path u.read.parts) (phrase same n₁ ∷ ss) ss ≡ symbols → Going f (at d symbols ∷ ks) z t' (with_node y m) v (k + j)
  side {symbols} r p e =
      let b : Draft = with_phrase u.draft g.draft in
      goes_added g (adds_phrase g u) (subst (λ (q : List Symbol). Open (source f.text) language f.counts same f.kind f.from.place (at d q ∷ ks) z.place b) e (forks (source f.text) language r u.read p g.opened)) u.stands

  pub side_path : one_of n rest_kinds ≡ false → m.kind ≡ 2 → Going f (at d (phrase same n₁ ∷ ss) ∷ ks) z t' (with_node y m) v (k + j)
  side_path r e =
      let p : language.is_path u.read.parts ≡ true = is_path_by u ∙ ap (λ (x : ℕ). eqb x 2) e in
      side r (rw p tt) (ap (λ (b : Bool). cond b (phrase same n₁ ∷ ss) ss) p)

  pub side_other : one_of n rest_kinds ≡ false → m.kind ≢ 2 → (T (one_of (word_of z) assign_signs) → ⊥) → Going f (at d ss ∷ ks) z t' (with_node y m) v (k + j)
  unfolding roto
  side_other r e o =
      let p : language.is_path u.read.parts ≡ false = is_path_by u ∙ other m.kind 2 e in
      side r (rw (p, peeks u.stands) (not_T (one_of (word_of z) assign_signs) o)) (ap (λ (b : Bool). cond b (phrase same n₁ ∷ ss) ss) p)

  -- 8, at the left side's row
  pub side_signed : m.kind ≢ 2 → T (solid assign_signs) → T (one_of (word_of z) assign_signs) → Stopped f (refusal_at 8 m.start m.end) t'
  unfolding roto inside
  side_signed e w o =
      let s = f.text in
      let p : language.is_path u.read.parts ≡ false = is_path_by u ∙ other m.kind 2 e in
      let q = solid_word (word_of z) assign_signs w o in
      let b = is_token u.stands q.0 q.1 in
      let r = u.leaves.0 in
      let i : grammar.phrase_row u.read.parts ≡ r = row_left (source s) true u.read ∙ leaves_first u.draft.items r u.leaves.1 in
      record {
        place = z.place;
        why = left u.read.parts;
        stops = signed (source s) language u.read (rw (p, peeks u.stands) (not_not (one_of (word_of z) assign_signs) o)) g.opened;
        says = ap (λ (x : Look ℕ). said (length s) x (left u.read.parts)) b.0 ∙ ap (λ (x : grammar.Row). record { number = 8; start = x.start; end = x.end }) i ∙ ap (λ (x : ℕ). record { number = 8; start = x; end = r.end }) u.leaves.3 ∙ ap (λ (x : ℕ). record { number = 8; start = m.start; end = x }) u.leaves.4;
        kept = ap length u.stored ∙ store_length t h.rows u.draft.rows ∙ kept_length g;
      }
    where
      not_not : (b : Bool) → T b → T (not (not b))
      not_not true t = tt
      not_not false t = absurd t

-- words alone
empty : (xs : List Item) {a e : ℕ} {w : Option ℕ} → sum_of xs ≡ sum a e 0 w → count xs ≡ 0
empty [] q = refl
empty (y ∷ ys) q = cc

-- a phrase that has no row yet: those of its subtree begin where the reader stands
pub none_yet : {f : Phrase} {ks : List Left} {h : Here} {t : List ℕ} {a e v k : ℕ} {w : Option ℕ} → Going f ks h t (many a e 0 w) v k → f.from.rows ≡ h.rows
none_yet g = let z = no_sizes g.draft.items (empty g.draft.items g.holds) in let s = g.sized in let r = g.rows in omega (arith, z, s, r)
  where
    no_sizes : (xs : List Item) → count xs ≡ 0 → sizes xs ≡ 0
    no_sizes [] q = refl
    no_sizes (own x ∷ xs) q = no_sizes xs q
    no_sizes (child r ∷ xs) q = absurd (omega (arith, q))

-- a row that words stand round: the phrase leaves that row
pub record Around (f : Phrase) (ks : List Left) (h : Here) (t : List ℕ) (m : Node) (k : ℕ) : Type 0 where
  pub draft : Draft
  pub opened : Open (source f.text) language f.counts same f.kind f.from.place ks h.place draft
  pub stands : Stands f.text h
  pub leaves : Leaves m draft.items
  pub rows : h.rows ≡ f.from.rows + length draft.rows
  pub stored : t ≡ store f.table f.from.rows draft.rows
  pub sized : Sized draft
  pub counted : f.from.rows + 1 ≤ h.rows
  pub spares : h.rows + k + 4 * next_of f.from ≤ f.from.rows + 4 * next_of h

module _ {f : Phrase} {d : Counts} {ks : List Left} {h : Here} {t : List ℕ} where
  pub encloses : {ss : List Symbol} {o : Scope} {n j k a e v : ℕ} {w : Option ℕ} {d' : Counts} {m : Node} {z : Here} {t' : List ℕ} → Going f (at d (phrase o n ∷ ss) ∷ ks) h t (many a e 0 w) v k → one_of n rest_kinds ≡ false → inside o d ≡ d' → Whole (next_phrase f d' n h t) j m z t' → Around f (at d ss ∷ ks) z t' m (k + j)
  encloses {m = m} g r e u =
      let x = adds_phrase g u in
      let xs : List Item = g.draft.items in
      let none_yet : children_of xs ≡ [] = no_children xs (empty xs g.holds) in
      let both = children_append xs (children_of u.draft.items) in
      record {
        draft = with_phrase u.draft g.draft;
        opened = reads (source f.text) language r (read_in f.text e u.read) g.opened;
        stands = u.stands;
        leaves = (u.leaves.0, both ∙ ap (λ (q : List Item). q ++ children_of (children_of u.draft.items)) none_yet ∙ children_twice u.draft.items ∙ u.leaves.1, u.leaves.2, u.leaves.3, u.leaves.4);
        rows = x.rows;
        stored = x.stored;
        sized = x.sized;
        counted = let c = x.counted in omega (arith, c);
        spares = x.spares;
      }

  pub encloses_word : {ss : List Symbol} {q : Ask} {w : List ℕ} {k : ℕ} {m : Node} {z : Here} → Around f (at d (token q w ∷ ss) ∷ ks) h t m k → T (solid w) → T (one_of (word_of h) w) → T (kept q d (token_of f.text h)) → z ≡ passed f.text h → Around f (at (after q d) ss ∷ ks) z t m (k + 4)
  encloses_word {ss} {q} {w} {k} {m} {z} g o p x e =
      let y = goes_by f h g.opened g.stands o p x e in
      let r = y.rows in
      let l = y.next in
      let c = g.counted in
      let u = g.spares in
      record {
        draft = with_own (token_of f.text h) g.draft;
        opened = y.opened;
        stands = y.stands;
        leaves = (g.leaves.0, children_append g.draft.items (own (token_of f.text h) ∷ []) ∙ append-nil (children_of g.draft.items) ∙ g.leaves.1, g.leaves.2, g.leaves.3, g.leaves.4);
        rows = r ∙ g.rows;
        stored = g.stored;
        sized = own_sized (token_of f.text h) g.draft g.sized;
        counted = omega arith;
        spares = omega arith;
      }

  pub encloses_out : {k : ℕ} {m : Node} → Around f (at d [] ∷ ks) h t m k → Around f ks h t m k
  encloses_out g = record { draft = g.draft; opened = pop (source f.text) language g.opened; stands = g.stands; leaves = g.leaves; rows = g.rows; stored = g.stored; sized = g.sized; counted = g.counted; spares = g.spares }

  pub encloses_misses : {ss : List Symbol} {q : Ask} {w : List ℕ} {k : ℕ} {m : Node} → Around f (at d (token q w ∷ ss) ∷ ks) h t m k → (T (one_of (word_of h) w) → ⊥) → Stopped f (unused_at h) t
  encloses_misses {w = w} g n = record { place = h.place; why = want w; stops = wants (source f.text) language (lacking g.stands w n) g.opened; says = says g.stands (want w) (λ len x. refl, λ len q. refl); kept = ap length g.stored ∙ store_length f.table f.from.rows g.draft.rows }

pub encloses_ends : {f : Phrase} {h : Here} {t : List ℕ} {k : ℕ} {m : Node} → Around f [] h t m k → Whole f k m h t
encloses_ends {f} g = record { draft = g.draft; read = finish (source f.text) language g.opened; stands = g.stands; leaves = g.leaves; rows = g.rows; stored = g.stored; counted = g.counted; spares = g.spares }
