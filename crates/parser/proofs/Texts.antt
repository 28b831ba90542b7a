-- C-11: a piece of an f-string's text behind a token, as a reader goes past both.
use mathlib.Core.Path.{◌≡◌, refl, sym, ap, subst, ◌∙◌}
use mathlib.Core.List.{List, [], ◌∷◌, ◌++◌}
use mathlib.Core.Bool.{Bool, true, false, not, ◌&&◌, cond}
use mathlib.Core.Option.{some}
use Prim.Native.Nat.{ℕ, ◌+◌, ◌≤◌}
use lib.Dec.{T, eqb}
use lib.ListN.{length, length-append}
use native.Mathlib.Omega.{arith}
use Rattle.rows.specs.Rows.{put_row}
use Rattle.grammar.specs.Grammar.{Ask, has_value, same, Symbol, token, phrase, text, Token, Look, found, over, wrong, one_of}
use Rattle.grammar.specs.Limits.{Counts, after, kept}
use Rattle.grammar.specs.Rows.{own, child, Draft, is_text, text_row, add_token, token_nodes}
use Rattle.grammar.specs.Rows as grammar
use Rattle.grammar.specs.Refusals.{unread, ill, torn, said}
use Rattle.grammar.proofs.Bools.{and_l}
use Rattle.grammar.proofs.Frame.{no_text, with_own}
use Rattle.grammar.proofs.Summary.{Sum, sum, sum_own, sum_child, sum_snoc_own, sum_snoc_child}
use Rattle.grammar.proofs.Open.{Left, Open, take, scan, tears, spoils}
use Rattle.grammar.proofs.Sizes.{own_sized, token_sized}
use Rattle.answers.specs.Source.{source}
use Rattle.parser.specs.declared.Here.{Here}
use Rattle.parser.specs.Places.{word_of, next_of, here_at, refusal_at}
use Rattle.parser.specs.Going.{language, token_of, as_row, store, Tally, bare, lone, many, Holds, with_token, count_of, Phrase, Going, Stopped}
use Rattle.parser.proofs.Standing.{solid, solid_word, is_token, stands_at}
use Rattle.parser.proofs.Tables.{store_row}
use Rattle.parser.proofs.Tallies.{holds_token}
use Rattle.parser.proofs.Going.{at, kept_length}

-- the table behind a piece of text
abbrev pub wrote_text : List ℕ → ℕ → Token → List ℕ
wrote_text t n x = cond (eqb x.value 0) t (put_row t n (as_row (text_row x)) 1)

-- a piece adds itself to what the phrase has
record Spelt (f : Phrase) (a b : Draft) (p c v k : ℕ) (x : Token) (t' : List ℕ) : Type 0 where
  holds : Holds (many p x.end (c + k) (some v)) b.items
  part : b.part ≡ a.part
  many_rows : length b.rows ≡ length a.rows + k
  stored : t' ≡ store f.table f.from.rows b.rows

spelt : (f : Phrase) (a : Draft) (p e c v : ℕ) (x : Token) (n : ℕ) (t t' : List ℕ) → T (is_text x) → Holds (many p e c (some v)) a.items → n ≡ f.from.rows + length a.rows → t ≡ store f.table f.from.rows a.rows → t' ≡ wrote_text t n x → Spelt f a (add_token x a) p c v (token_nodes x) x t'
unfolding add_token
spelt f a p e c v x n t t' m h r s q = go (is_text x) (eqb x.value 0) m q
  where
    w : Draft
    w = record { rows = a.rows; items = a.items ++ (own x ∷ []); part = a.part }

    y : Draft
    y = record { rows = a.rows ++ (text_row x ∷ []); items = a.items ++ (child (text_row x) ∷ []); part = a.part }

    go : (b d : Bool) → T b → t' ≡ cond d t (put_row t n (as_row (text_row x)) 1) → Spelt f a (cond b (cond d w y) w) p c v (cond b (cond d 0 1) 0) x t'
    go true true tb u = record { holds = sum_snoc_own a.items x ∙ ap (λ (z : Sum). sum_own z x) h ∙ ap (λ (z : ℕ). sum p x.end z (some v)) (omega arith); part = refl; many_rows = omega arith; stored = u ∙ s }
    go true false tb u = record { holds = sum_snoc_child a.items (text_row x) ∙ ap (λ (z : Sum). sum_child z (text_row x)) h; part = refl; many_rows = length-append a.rows (text_row x ∷ []); stored = u ∙ ap (λ (z : List ℕ). put_row z n (as_row (text_row x)) 1) s ∙ ap (λ (z : ℕ). put_row (store f.table f.from.rows a.rows) z (as_row (text_row x)) 1) r ∙ sym (store_row f.table f.from.rows a.rows (text_row x)) }
    go false d tb u = absurd tb

pub count_token : (y : Tally) (h : Here) → count_of (with_token y h) ≡ count_of y
count_token bare h = refl
count_token (lone k a e) h = refl
count_token (many a e c w) h = refl

-- past a token and the piece of text behind it, whose row is written if it has a byte
module _ {f : Phrase} {d : Counts} {ks : List Left} {h : Here} {t : List ℕ} {y : Tally} {v k : ℕ} {q : Ask} {w : List ℕ} {n : ℕ} {ss : List Symbol} (g : Going f (at d (token q w ∷ text n ∷ ss) ∷ ks) h t y v k) (o : T (solid w)) (m : T (one_of (word_of h) w)) (p : T (kept q d (token_of f.text h))) where
  behind : Open (source f.text) language f.counts same f.kind f.from.place (at (after q d) (text n ∷ ss) ∷ ks) (next_of h) (with_own (token_of f.text h) g.draft)
  behind = let b = solid_word (word_of h) w o m in take (source f.text) language (is_token g.stands b.0 b.1).0 (and_l (no_text w) (not (one_of 0 w) && not (one_of 99 w)) o) m p g.opened

  pub spells : {x : Token} {j a e c u : ℕ} {h' : Here} {t' : List ℕ} {ss' : List Symbol} → with_token y h ≡ many a e c (some u) → (source f.text).piece (next_of h) ≡ found x j → T x.holds → T (is_text x) → next_of h + token_nodes x ≤ j → j ≤ length f.text → cond (eqb x.word language.hole) (phrase same n ∷ ss) ss ≡ ss' → h' ≡ here_at f.text j (h.rows + token_nodes x) → t' ≡ wrote_text t h.rows x → Going f (at (after has_value (after q d)) ss' ∷ ks) h' t' (many a x.end (c + token_nodes x) (some u)) v (k + 4)
  unfolding kept
  spells {x} {j} {a} {e} {c} {u} {h'} {t'} {ss'} tally piece holding is lo hi rest here table =
      let s = f.text in
      let b : Draft = with_own (token_of s h) g.draft in
      let gf = g.stands.few in
      let z = stands_at g.stands hi (omega (arith, gf, lo)) here in
      let hb : Holds (many a e c (some u)) b.items = subst (λ (l : Tally). Holds l b.items) tally (holds_token s h y g.draft.items g.holds) in
      let sp = spelt f b a e c u x h.rows t t' is hb g.rows g.stored table in
      let sr = sp.many_rows in
      let gr = g.rows in
      let gc = g.counted in
      let gs = g.spares in
      let zn = z.2 in
      let zr = z.3 in
      let cy : c ≡ count_of y = sym (ap count_of tally) ∙ count_token y h in
      record {
        draft = add_token x b;
        opened = subst (λ (l : ℕ). Open (source s) language f.counts same f.kind f.from.place (at (after has_value (after q d)) ss' ∷ ks) l (add_token x b)) (sym z.1) (subst (λ (l : List Symbol). Open (source s) language f.counts same f.kind f.from.place (at (after has_value (after q d)) l ∷ ks) j (add_token x b)) rest (scan (source s) language piece holding behind));
        stands = z.0;
        holds = sp.holds;
        part = sp.part ∙ g.part;
        rows = omega (arith, zr, gr, sr);
        stored = sp.stored;
        sized = token_sized x b (own_sized (token_of s h) g.draft g.sized);
        began = g.began;
        counted = omega (arith, zr, gc, cy);
        spares = omega (arith, zr, gs, zn, lo);
      }

  -- "11 where `f_string_part` gives no piece"
  pub tears_off : T (torn ((source f.text).piece (next_of h))) → Stopped f (refusal_at 11 (length f.text) (length f.text)) t
  tears_off e = record { place = next_of h; why = unread; stops = tears (source f.text) language e behind; says = go ((source f.text).look (next_of h)); kept = kept_length g }
    where
      go : (k : Look ℕ) → said (length f.text) k unread ≡ record { number = 11; start = length f.text; end = length f.text }
      go (found x j) = refl
      go over = refl
      go (wrong a b c) = refl

  -- "7 for any other text piece against the string rule, placed there"
  pub spoils_off : {x : Token} {j : ℕ} → (source f.text).piece (next_of h) ≡ found x j → T (not x.holds) → Stopped f (refusal_at 7 x.start x.end) t
  unfolding kept
  spoils_off {x} e r = record { place = next_of h; why = ill x; stops = spoils (source f.text) language e r behind; says = go ((source f.text).look (next_of h)); kept = kept_length g }
    where
      go : (k : Look ℕ) → said (length f.text) k (ill x) ≡ record { number = 7; start = x.start; end = x.end }
      go (found y j) = refl
      go over = refl
      go (wrong a b c) = refl
