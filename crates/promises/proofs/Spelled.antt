-- C-11: an f-string. One law for each step of its reader's loop: it begins, a piece of text, into a hole, behind a hole's
-- expr, and the row.
use Rattle.std.specs.Prelude.{Some, None, Ok, Err}
use mathlib.Core.Path.{◌≡◌, refl, sym, ap, subst, ◌∙◌}
use mathlib.Core.List.{List, [], ◌∷◌}
use mathlib.Core.Bool.{Bool, true, false, cond}
use mathlib.Core.Option.{some}
use mathlib.Core.Logic.{◌⊎◌, inl, inr, ◌≢◌}
use Prim.Native.Nat.{ℕ, ◌+◌, ◌≤◌, ◌<◌}
use lib.Dec.{T, eqb}
use lib.ListN.{length}
use lib.Seq.{slice}
use native.Mathlib.Nat.{add-zero}
use native.Mathlib.Omega.{arith}
use Rattle.rows.specs.Kinds as kinds
use Rattle.tokens.specs.declared.Refusal.{Refusal}
use Rattle.rows.specs.declared.Row.{Row}
use Rattle.rows.specs.Rows.{put_row}
use Rattle.grammar.specs.Words.{f_quote, text_then_hole, last_text, open_brace, close_brace}
use Rattle.grammar.specs.Grammar.{Ask, plain, has_value, opens_bracket, closes_bracket, same, Symbol, token, phrase, text, Token, found}
use Rattle.grammar.specs.Limits.{Counts, after, inside, kept}
use Rattle.grammar.specs.Table.{word, a, opens, closes, row}
use Rattle.grammar.specs.Kinds.{records, F_STRING, HOLE, EXPR}
use Rattle.grammar.specs.Language.{roto}
use Rattle.grammar.specs.Rows.{is_text, token_nodes}
use Rattle.grammar.specs.Refusals.{torn}
use Rattle.grammar.proofs.Open.{Left}
use Rattle.grammar.proofs.Picked.{picks_off}
use Rattle.answers.specs.Source.{source, text_token, piece_of}
use Rattle.answers.proofs.Ahead.{pieces_take}
use Rattle.strings.specs.Results.{Size}
use Rattle.texts.specs.Results.{Scanned}
use Rattle.texts.specs.declared.Part.{Part}
use Rattle.texts.specs.declared.Part.TheVariants.{Before, Ends}
use Rattle.texts.specs.Parts.{part_at}
use Rattle.texts.specs.Texts.{text_of}
use Rattle.texts.proofs.Parts.{Parted, parted_before, parted_ends, part_lies}
use Rattle.parser.specs.declared.Here.{Here}
use Rattle.parser.specs.declared.Limits.{Limits}
use Rattle.parser.specs.declared.Node.{Node}
use Rattle.parser.specs.Results.{Read}
use Rattle.parser.specs.Places.{word_of, start_of, end_of, next_of, bumped, here_at, later, refusal_at, unused, node_of, put_over, opening, plain_row, part_row, part_node, piece_read, piece_table, part_read, part_table}
use Rattle.parser.specs.Counted.{counts, opened, Alike}
use Rattle.parser.specs.Going.{token_of, Stands, Tally, bare, many, with_token, count_of, Phrase, Going, Whole, Stopped, Answers}
use Rattle.parser.proofs.Standing.{solid, stands_at, past_word, the_word, is_word, ends_next}
use Rattle.parser.proofs.Laws.{bump_more}
use Rattle.parser.proofs.Going.{at, few_rows, out, last, alone, writes, ends, next_phrase, reads_one, kept_length, refuses_word, whole_of, fewer, done, stopped, relays}
use Rattle.parser.proofs.Picks.{Off, begins_any, into_off}
use Rattle.parser.proofs.Steps.{opening_done, alike_opened, opens_on, opens_off}
use Rattle.parser.proofs.Texts.{wrote_text, count_token, spells, tears_off, spoils_off}
use Rattle.promises.specs.Promises.{the, Partly}
use Rattle.promises.proofs.Answered.{further}
use Rattle.promises.proofs.Partly.{partly, partly_of, partly_stops, stops_answer}

abbrev pub string_is : List Symbol
string_is = word f_quote ∷ text HOLE ∷ row kinds.F_STRING ∷ []

pub string_any : Off F_STRING (some string_is) []
unfolding roto picks_off
string_any = record { computed = tt }

abbrev pub hole_is : List Symbol
hole_is = opens open_brace ∷ a (EXPR records) ∷ closes close_brace ∷ text HOLE ∷ []

pub hole_any : Off HOLE (some hole_is) []
unfolding roto picks_off
hole_any = record { computed = tt }

-- what is left of an f-string behind its first piece of text, and behind a later one
pub data Tail : List Symbol → List Left → Type 0 where
  first : Tail (row kinds.F_STRING ∷ []) []
  later_one : {d d' : Counts} → Tail [] (at d [] ∷ at d' (row kinds.F_STRING ∷ []) ∷ [])

-- the f-string f stands at a token behind which text begins: its `f"`, or the `}` of a hole; it has c rows so far
pub record Spelling (f : Phrase) (l : Limits) (start c : ℕ) (h : Here) (t : List ℕ) : Type 0 where
  pub ask : Ask
  pub sign : ℕ
  pub before : Counts
  pub rest : List Symbol
  pub stack : List Left
  pub tally : Tally
  pub end : ℕ
  pub tail : Tail rest stack
  pub going : Going f (at before (token ask (sign ∷ []) ∷ text HOLE ∷ rest) ∷ stack) h t tally 0 0
  pub words : T (solid (sign ∷ []))
  pub stands_there : word_of h ≡ sign
  pub passes : T (kept ask before (token_of f.text h))
  pub has : with_token tally h ≡ many start end c (some 90)
  pub alike : Alike (after has_value (after ask before)) l

-- a hole is next; its quote was next, and its row is left
pub record Holed (f : Phrase) (l : Limits) (start e c : ℕ) (h : Here) (t : List ℕ) : Type 0 where
  pub before : Counts
  pub around : Counts
  pub alike : Alike before l
  pub going : Going f (at before (a HOLE ∷ []) ∷ at around (row kinds.F_STRING ∷ []) ∷ []) h t (many start e c (some 90)) 0 4

pub record Quoted (f : Phrase) (start e c : ℕ) (h : Here) (t : List ℕ) : Type 0 where
  pub around : Counts
  pub going : Going f (at around (row kinds.F_STRING ∷ []) ∷ []) h t (many start e c (some 90)) 0 4

-- it begins
pub spelling_begins : (s : List ℕ) (l : Limits) (h : Here) (t : List ℕ) → Stands s h → word_of h ≡ 90 → Spelling (the s (counts l) F_STRING h t) l (start_of h) 0 h t
unfolding kept after counts
spelling_begins s l h t g e = record {
  ask = plain;
  sign = 90;
  before = counts l;
  rest = row kinds.F_STRING ∷ [];
  stack = [];
  tally = bare;
  end = end_of h;
  tail = first;
  going = begins_any string_any g;
  words = tt;
  stands_there = e;
  passes = tt;
  has = ap (λ (w : ℕ). many (start_of h) (end_of h) 0 (some w)) e;
  alike = record { brackets = refl; chain = refl; heads = refl };
}

-- a piece of text
module _ {f : Phrase} {l : Limits} {start c : ℕ} {h : Here} {t : List ℕ} (g : Spelling f l start c h t) where
  pub spelling_hole : {x : Token} {j : ℕ} {h' : Here} {t' : List ℕ} → (source f.text).piece (next_of h) ≡ found x j → x.word ≡ text_then_hole → T x.holds → T (is_text x) → next_of h + token_nodes x ≤ j → j ≤ length f.text → h' ≡ here_at f.text j (h.rows + token_nodes x) → t' ≡ wrote_text t h.rows x → Holed f l start x.end (c + token_nodes x) h' t'
  unfolding roto
  spelling_hole {x} {j} {h'} {t'} p w k i lo hi e q = go g.tail (spells g.going g.words (is_word g.stands_there) g.passes g.has p k i lo hi (ap (λ (n : ℕ). cond (eqb n text_then_hole) (phrase same HOLE ∷ g.rest) g.rest) w) e q)
    where
      d : Counts
      d = after has_value (after g.ask g.before)

      go : {ss : List Symbol} {ks : List Left} → Tail ss ks → Going f (at d (phrase same HOLE ∷ ss) ∷ ks) h' t' (many start x.end (c + token_nodes x) (some 90)) 0 4 → Holed f l start x.end (c + token_nodes x) h' t'
      go first y = record { before = d; around = d; alike = g.alike; going = alone y }
      go (later_one {d' = d'}) y = record { before = d; around = d'; alike = g.alike; going = last y }

  pub spelling_last : {x : Token} {j : ℕ} {h' : Here} {t' : List ℕ} → (source f.text).piece (next_of h) ≡ found x j → x.word ≡ last_text → T x.holds → T (is_text x) → next_of h + token_nodes x ≤ j → j ≤ length f.text → h' ≡ here_at f.text j (h.rows + token_nodes x) → t' ≡ wrote_text t h.rows x → Quoted f start x.end (c + token_nodes x) h' t'
  unfolding roto
  spelling_last {x} {j} {h'} {t'} p w k i lo hi e q = go g.tail (spells g.going g.words (is_word g.stands_there) g.passes g.has p k i lo hi (ap (λ (n : ℕ). cond (eqb n text_then_hole) (phrase same HOLE ∷ g.rest) g.rest) w) e q)
    where
      d : Counts
      d = after has_value (after g.ask g.before)

      go : {ss : List Symbol} {ks : List Left} → Tail ss ks → Going f (at d ss ∷ ks) h' t' (many start x.end (c + token_nodes x) (some 90)) 0 4 → Quoted f start x.end (c + token_nodes x) h' t'
      go first y = record { around = d; going = y }
      go (later_one {d' = d'}) y = record { around = d'; going = out (out y) }

  pub spelling_torn : T (torn ((source f.text).piece (next_of h))) → Stopped f (refusal_at 11 (length f.text) (length f.text)) t
  spelling_torn = tears_off g.going g.words (is_word g.stands_there) g.passes

  pub spelling_ill : {x : Token} {j : ℕ} → (source f.text).piece (next_of h) ≡ found x j → T (mathlib.Core.Bool.not x.holds) → Stopped f (refusal_at 7 x.start x.end) t
  spelling_ill = spoils_off g.going g.words (is_word g.stands_there) g.passes

-- into a hole, and behind its expr
module _ {f : Phrase} {l : Limits} {start e c : ℕ} {h : Here} {t : List ℕ} (g : Holed f l start e c h t) {r : Read} (p : r ≡ opening f.text h 40 l.brackets) {x : Node} {z : Here} (i : r ≡ Ok (x, z)) where
  pub in_hole : Going f (at (after opens_bracket g.before) (a (EXPR records) ∷ closes close_brace ∷ text HOLE ∷ []) ∷ at g.before [] ∷ at g.around (row kinds.F_STRING ∷ []) ∷ []) z t (many start x.end c (some 90)) 0 8
  unfolding inside
  in_hole = opens_on 40 l (into_off hole_any refl (λ q. q) g.going) tt g.alike p i

  pub behind_hole : {d : Counts} {k : ℕ} {m : Node} {z' : Here} {t' : List ℕ} → inside same (after opens_bracket g.before) ≡ d → Whole (next_phrase f d (EXPR records) z t) k m z' t' → word_of z' ≡ 41 → Spelling f l start (c + 1) z' t'
  unfolding kept after
  behind_hole {m = m} {z' = z'} q u w = record {
    ask = closes_bracket;
    sign = 41;
    before = after opens_bracket g.before;
    rest = [];
    stack = at g.before [] ∷ at g.around (row kinds.F_STRING ∷ []) ∷ [];
    tally = many start m.end (c + 1) (some 90);
    end = end_of z';
    tail = later_one;
    going = fewer 0 (omega arith) (reads_one in_hole refl q u);
    words = tt;
    stands_there = w;
    passes = tt;
    has = refl;
    alike = record { brackets = g.alike.brackets; chain = g.alike.chain; heads = g.alike.heads };
  }

-- its row
pub quoted_ends : {f : Phrase} {start e c : ℕ} {h h' : Here} {t t' : List ℕ} {r : Read} → Quoted f start e c h t → r ≡ Ok (node_of (plain_row kinds.F_STRING start e c), h') → h' ≡ later h → t' ≡ put_over t h (plain_row kinds.F_STRING start e c) f.from.rows → Answers f 1 r t'
quoted_ends {start = start} {e = e} {c = c} g v b q = done v (ends (out (writes {r = plain_row kinds.F_STRING start e c} (fewer 2 (omega arith) g.going) refl refl refl b q)) refl refl refl)

-- What `parser::piece` answers: a hole is next, or the quote was (92); or a refusal. It has come past place n, with at most one row.
abbrev pub After : Phrase → Limits → ℕ → ℕ → ℕ → List ℕ → Node → Here → Type 0
After f l start c n t m z = (m.kind ≡ 92 → Quoted f start m.end (c + m.children) z t) × (m.kind ≢ 92 → Holed f l start m.end (c + m.children) z t) × (n < next_of z) × (m.children ≤ 1)

module _ {f : Phrase} {l : Limits} {start c : ℕ} {h : Here} {t : List ℕ} (g : Spelling f l start c h t) where
  -- one more row, or none
  counted : (b : Bool) (n : ℕ) → eqb n 0 ≡ b → h.rows + cond (eqb n 0) 0 1 ≡ cond b h.rows (bumped h.rows)
  counted true n e = ap (λ (x : Bool). h.rows + cond x 0 1) e ∙ add-zero h.rows
  counted false n e = ap (λ (x : Bool). h.rows + cond x 0 1) e ∙ bump_more 300000 h.rows (few_rows g.going).0

  -- a piece of some size, of one of the two words
  sized : {r : Read} {t' : List ℕ} (w e j n : ℕ) (b : Bool) → eqb n 0 ≡ b → T (is_text (text_token w (next_of h) e (Some n))) → (source f.text).piece (next_of h) ≡ found (text_token w (next_of h) e (Some n)) j → next_of h ≤ j → j ≤ length f.text
      → (w ≡ text_then_hole) ⊎ (w ≡ last_text) → token_nodes (text_token w (next_of h) e (Some n)) ≡ cond (eqb n 0) 0 1
      → r ≡ Ok (part_node w (next_of h) e (cond b 0 1), here_at f.text j (cond b h.rows (bumped h.rows))) → t' ≡ wrote_text t h.rows (text_token w (next_of h) e (Some n)) → Partly f r t' (After f l start c (next_of h) t')
  sized {t' = t'} w e j n b eb is p lo hi ws nodes a q = partly a (go ws)
    where
      x : Token
      x = text_token w (next_of h) e (Some n)

      here : here_at f.text j (cond b h.rows (bumped h.rows)) ≡ here_at f.text j (h.rows + token_nodes x)
      here = ap (here_at f.text j) (sym (ap (λ (k : ℕ). h.rows + k) nodes ∙ counted b n eb))

      low : next_of h + token_nodes x ≤ j
      low = let k = pieces_take f.text x (next_of h) j p in omega (arith, k, lo, hi)

      count : c + token_nodes x ≡ c + cond b 0 1
      count = ap (λ (k : ℕ). c + k) (nodes ∙ ap (λ (y : Bool). cond y 0 1) eb)

      z : Here
      z = here_at f.text j (cond b h.rows (bumped h.rows))

      beyond : next_of h < next_of z
      beyond = let few = g.going.stands.few in let k = stands_at g.going.stands hi (omega (arith, few, low)) here in omega (arith, low, k.2)

      one_most : (b : Bool) → cond b 0 1 ≤ 1
      one_most true = omega arith
      one_most false = omega arith

      go : (w ≡ text_then_hole) ⊎ (w ≡ last_text) → After f l start c (next_of h) t' (part_node w (next_of h) e (cond b 0 1)) z
      go (inl k) = (λ o. absurd (omega (arith, k, o)), λ o. subst (λ (m : ℕ). Holed f l start e m z t') count (spelling_hole g p k tt is low hi here q), beyond, one_most b)
      go (inr k) = (λ o. subst (λ (m : ℕ). Quoted f start e m z t') count (spelling_last g p k tt is low hi here q), λ o. absurd (o k), beyond, one_most b)

  told : {r : Read} {t' : List ℕ} (w e j : ℕ) → ((n : ℕ) → T (is_text (text_token w (next_of h) e (Some n)))) → ((n : ℕ) → token_nodes (text_token w (next_of h) e (Some n)) ≡ cond (eqb n 0) 0 1) → next_of h ≤ j → j ≤ length f.text → (w ≡ text_then_hole) ⊎ (w ≡ last_text)
      → (z : Size) → (source f.text).piece (next_of h) ≡ found (text_token w (next_of h) e z) j → r ≡ piece_read f.text h.rows (next_of h) w e j z → t' ≡ piece_table t h.rows (next_of h) e z → Partly f r t' (After f l start c (next_of h) t')
  unfolding piece_read piece_table
  told {r} {t'} w e j is nodes lo hi ws None p a q = partly_stops a (subst (λ (y : List ℕ). Stopped f (refusal_at 7 (next_of h) e) y) (sym q) (spelling_ill g p tt))
  told {r} {t'} w e j is nodes lo hi ws (Some n) p a q = go (eqb n 0) refl a q
    where
      go : (b : Bool) → eqb n 0 ≡ b → r ≡ cond b (Ok (part_node w (next_of h) e 0, here_at f.text j h.rows)) (Ok (part_node w (next_of h) e 1, here_at f.text j (bumped h.rows))) → t' ≡ cond b t (put_row t h.rows (part_row (next_of h) e n) 1) → Partly f r t' (After f l start c (next_of h) t')
      go true eb a' q' = sized w e j n true eb (is n) p lo hi ws (nodes n) a' (q' ∙ sym (ap (λ (b : Bool). cond b t (put_row t h.rows (part_row (next_of h) e n) 1)) eb))
      go false eb a' q' = sized w e j n false eb (is n) p lo hi ws (nodes n) a' (q' ∙ sym (ap (λ (b : Bool). cond b t (put_row t h.rows (part_row (next_of h) e n) 1)) eb))

  part_told : {r : Read} {t' : List ℕ} → r ≡ part_read f.text h.rows (next_of h) (part_at f.text (next_of h)) → t' ≡ part_table f.text t h.rows (next_of h) (part_at f.text (next_of h)) → Partly f r t' (After f l start c (next_of h) t')
  unfolding part_read part_table
  part_told {r} {t'} a q = go (part_at f.text (next_of h)) (part_lies f.text (next_of h)) refl a q
    where
      go : (k : Scanned) → Parted (next_of h) (length f.text) k → part_at f.text (next_of h) ≡ k → r ≡ part_read f.text h.rows (next_of h) k → t' ≡ part_table f.text t h.rows (next_of h) k → Partly f r t' (After f l start c (next_of h) t')
      go None pn e a' q' = partly_stops a' (subst (λ (y : List ℕ). Stopped f (refusal_at 11 (length f.text) (length f.text)) y) (sym q') (spelling_torn g (subst (λ (k : Scanned). T (torn (piece_of f.text (next_of h) k))) (sym e) tt)))
      go (Some (Before x)) (parted_before lo hi) e a' q' = told 91 x x (λ n. tt) (λ n. refl) lo (omega arith) (inl refl) (text_of (slice (next_of h) x f.text)) (ap (piece_of f.text (next_of h)) e) a' q'
      go (Some (Ends x)) (parted_ends lo hi) e a' q' = told 92 x (x + 1) (λ n. tt) (λ n. refl) (omega arith) hi (inr refl) (text_of (slice (next_of h) x f.text)) (ap (piece_of f.text (next_of h)) e) a' q'

  -- the text begins at the end of the token there
  pub piece_told : {r : Read} {t' : List ℕ} → r ≡ part_read f.text h.rows (end_of h) (part_at f.text (end_of h)) → t' ≡ part_table f.text t h.rows (end_of h) (part_at f.text (end_of h)) → Partly f r t' (After f l start c (next_of h) t')
  piece_told {r} {t'} a q =
      let e = ends_next h.step h.place (g.sign ∷ []) g.words (is_word g.stands_there) in
      part_told (a ∙ ap (λ (n : ℕ). part_read f.text h.rows n (part_at f.text n)) e) (q ∙ ap (λ (n : ℕ). part_table f.text t h.rows n (part_at f.text n)) e)

-- The reader's loop, from where it stands at `f"` or a hole's `}`.
module _ {s : List ℕ} {l : Limits} {h₀ : Here} {t₀ : List ℕ} {c : ℕ} {h : Here} {t : List ℕ} (g : Spelling (the s (counts l) F_STRING h₀ t₀) l (start_of h₀) c h t) where
  abbrev String : Phrase
  String = the s (counts l) F_STRING h₀ t₀

  pub string_few : (c < 300000) × (next_of h₀ ≤ next_of h) × (next_of h ≤ 65536)
  string_few = let k = few_rows g.going in let e : c ≡ count_of g.tally = sym (ap count_of g.has) ∙ count_token g.tally h in (omega (arith, k.3, e), k.4, omega (arith, k.1, k.2))

  module _ {r : Read} {t₁ : List ℕ} (p : r ≡ part_read s h.rows (end_of h) (part_at s (end_of h))) (q : t₁ ≡ part_table s t h.rows (end_of h) (part_at s (end_of h))) where
    pub string_torn : {e : Refusal} → r ≡ Err e → Answers String 1 r t₁
    string_torn e = stops_answer (piece_told g p q) e

    module _ {m : Node} {z : Here} (i : r ≡ Ok (m, z)) where
      pub behind_piece : After String l (start_of h₀) c (next_of h) t₁ m z
      behind_piece = partly_of (piece_told g p q) i

      pub string_ends : {v : Row} {r₁ : Read} {t₂ : List ℕ} → m.kind ≡ 92 → v ≡ plain_row kinds.F_STRING (start_of h₀) m.end (c + m.children) → r₁ ≡ Ok (node_of v, later z) → t₂ ≡ put_over t₁ z v h₀.rows → Answers String 1 r₁ t₂
      string_ends k v o y = quoted_ends (behind_piece.0 k) (o ∙ ap (λ (x : Row). Ok (node_of x, later z)) v) refl (y ∙ ap (λ (x : Row). put_over t₁ z x h₀.rows) v)

      -- into a hole
      module _ (k : m.kind ≢ 92) {r₁ : Read} (o : r₁ ≡ opening s z 40 l.brackets) where
        holed : Holed String l (start_of h₀) m.end (c + m.children) z t₁
        holed = behind_piece.1 k

        pub hole_shut : {e : Refusal} → r₁ ≡ Err e → Answers String 1 r₁ t₁
        unfolding inside
        hole_shut e = stopped e (opens_off 40 l (into_off hole_any refl (λ y. y) holed.going) tt holed.alike o e)

        module _ {x : Node} {y : Here} (j : r₁ ≡ Ok (x, y)) where
          pub hole_inside : Stands s y × (next_of h < next_of y) × (length t₁ ≡ length t₀)
          hole_inside = let b = opening_done s z 40 l.brackets o j in let a = past_word (40 ∷ []) holed.going.stands tt (is_word b.0) b.2.here in let n = behind_piece.2 in (a.0, omega (arith, a.1, n), kept_length holed.going)

          -- its expr
          module _ {l' : Limits} {r₂ : Read} {t₂ : List ℕ} (d : l' ≡ opened l) (u : Answers (the s (counts l') (EXPR records) y t₁) 1 r₂ t₂) where
            inner : inside same (after opens_bracket holed.before) ≡ counts l'
            unfolding inside
            inner = alike_opened l holed.alike (opening_done s z 40 l.brackets o j).1 ∙ ap counts (sym d)

            pub hole_fails : {e : Refusal} → r₂ ≡ Err e → Answers String 1 r₂ t₂
            hole_fails e = relays (in_hole holed o j) inner u e

            module _ {m₂ : Node} {z₂ : Here} (e : r₂ ≡ Ok (m₂, z₂)) where
              pub hole_unclosed : {r₃ : Read} → word_of z₂ ≢ 41 → r₃ ≡ unused z₂ → Answers String 1 r₃ t₂
              hole_unclosed n v = stopped v (refuses_word (reads_one (in_hole holed o j) refl inner (whole_of u e)) (λ w. n (the_word w)))

              pub hole_again : word_of z₂ ≡ 41 → Spelling String l (start_of h₀) (c + m.children + 1) z₂ t₂
              hole_again w = behind_hole holed o j inner (whole_of u e) w

              pub hole_further : next_of h < next_of z₂
              hole_further = let a = hole_inside.1 in let b = (further u e).next in omega (arith, a, b)
