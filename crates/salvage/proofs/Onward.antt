-- Declarations are read one by one, up to a break or the end.
use Rattle.std.specs.Prelude.{Some, None, Ok, Err}
use mathlib.Core.Path.{◌≡◌, refl, sym, ap, subst, ◌∙◌}
use mathlib.Core.List.{List, [], ◌∷◌, ◌++◌, append-nil}
use mathlib.Core.Bool.{false}
use mathlib.Core.Option as option
use mathlib.Core.Logic.{◌≢◌}
use Prim.Native.Nat.{ℕ, ◌+◌, ◌-◌, ◌*◌, ◌/◌, ◌≤◌, ◌<◌}
use native.Mathlib.Omega.{arith}
use lib.Dec.{T, eqb, eqb→eq}
use lib.ListN.{length, take, drop, length-append, length-drop}
use lib.Seq.{take-length, drop-length}
use Rattle.tokens.specs.declared.Refusal.{Refusal}
use Rattle.tokens.specs.Results.{Step}
use Rattle.tokens.specs.Blanks.{skip_all}
use Rattle.tokens.specs.Rules.{refused, token_at}
use Rattle.tokens.specs.Tokens.{step_at}
use Rattle.tokens.proofs.Steps.{step_inside}
use Rattle.rows.specs.Rows.{width}
use Rattle.grammar.specs.Words.{'test'}
use Rattle.grammar.specs.Grammar.{same, one_of, Parts, end, node}
use Rattle.grammar.specs.Limits.{zeros, inside}
use Rattle.grammar.specs.Table.{a}
use Rattle.grammar.specs.Kinds.{DECLARATION}
use Rattle.grammar.specs.Language.{roto}
use Rattle.grammar.specs.Readings.{Reading, peek, reads_end, reads_phrase}
use Rattle.grammar.specs.Refusals.{amiss, stops_none}
use Rattle.grammar.specs.Rows.{Row, Item, own, child, flat, count, children_of, Draft, write}
use Rattle.grammar.specs.Phrases as phrases
use Rattle.grammar.proofs.Bools.{F→eq}
use Rattle.grammar.proofs.Core.{sound}
use Rattle.grammar.proofs.Checks.{roto_full}
use Rattle.grammar.proofs.Sizes.{Sized, phrase_sized}
use Rattle.grammar.proofs.Subtrees.{write_sized}
use Rattle.grammar.proofs.Frame.{write_phrase}
use Rattle.grammar.proofs.Open.{with_phrase}
use Rattle.grammar.proofs.Picked.{picks_off, off_place}
use Rattle.grammar.proofs.Tests.{Alike, alike_declaration, read_by, refused_by}
use Rattle.answers.specs.Source.{source, look_of}
use Rattle.answers.proofs.Ahead.{tokens_take}
use Rattle.keeping.specs.Kept.{Kept, Ends}
use Rattle.keeping.specs.Kept as kept
use Rattle.keeping.specs.Breaks.{Breaks}
use Rattle.keeping.proofs.Window.{roto_solid, moved}
use Rattle.keeping.proofs.Lists.{kept_append, declaration_takes}
use Rattle.keeping.proofs.Dropped.{pieces_keep}
use Rattle.keeping.proofs.Looks.{some_in, token_start, token_none}
use Rattle.parser.specs.declared.Here.{Here}
use Rattle.parser.specs.declared.Limits.{Limits}
use Rattle.parser.specs.declared.Node.{Node}
use Rattle.parser.specs.Results.{Read}
use Rattle.parser.specs.Places.{word_of, start_of, step_start, next_of, here_at, unused, unused_at}
use Rattle.parser.specs.Counted.{counts}
use Rattle.parser.specs.Going.{language, Stands, store, Whole, Answers}
use Rattle.parser.proofs.Standing.{here_place, here_rows, peeks, word_small, says, is_over, not_over, next_small}
use Rattle.parser.proofs.Going.{whole_of, stopped_of}
use Rattle.promises.specs.Firsts.{firsts_by}
use Rattle.promises.specs.Promises.{the}
use Rattle.promises.proofs.Answered.{further, kept_refused}
use Rattle.salvage.specs.Results.{Break}
use Rattle.salvage.specs.Rows.{part_from, freshly, Declares, more, most_rows, Upto, Through, broken_by, ReachesIs, Reaches}
use Rattle.salvage.proofs.Rows.{back_length, held_still, held_more}

-- the part of the table behind the rows before is lent, and comes back
pub declares_so : (s t : List ℕ) (h : Here) (n from : ℕ) {l : Limits} {r : Read} {part : List ℕ} → from ≡ part_from (length t) n → l ≡ record { brackets = 32; signs = 32; chain = 32; heads = 32 } → Answers (the s (counts l) DECLARATION h (take (length t - from) (drop from t))) 1 r part → Declares s h t n r (take from t ++ (part ++ drop (length t - from) (drop from t)))
unfolding counts
declares_so s t h n from {l} {r} {part} e q u =
    let k = sym (length-drop from t) in
    let mid : take (length t - from) (drop from t) ≡ drop from t = ap (λ (i : ℕ). take i (drop from t)) k ∙ take-length (drop from t) in
    let post : drop (length t - from) (drop from t) ≡ [] = ap (λ (i : ℕ). drop i (drop from t)) k ∙ drop-length (drop from t) in
    record {
      part = part;
      read = subst (λ (i : ℕ). Answers (the s zeros DECLARATION h (drop i t)) 1 r part) e (subst (λ (x : List ℕ). Answers (the s zeros DECLARATION h x) 1 r part) mid (subst (λ (x : Limits). Answers (the s (counts x) DECLARATION h (take (length t - from) (drop from t))) 1 r part) q u));
      back = ap (λ (x : List ℕ). take from t ++ (part ++ x)) post ∙ ap (λ (x : List ℕ). take from t ++ x) (append-nil part) ∙ ap (λ (i : ℕ). take i t ++ part) e;
    }

pub broken_is : (h : Here) {r : Read} {e : Refusal} {i : ℕ} → r ≡ Err e → i ≡ start_of h → Some (i, e) ≡ broken_by h r
broken_is h {e = e} q k = ap (λ (y : ℕ). Some (y, e)) k ∙ ap (broken_by h) (sym q)

none_off : T (picks_off (roto false) DECLARATION option.none 100 (firsts_by false))
unfolding roto picks_off
none_off = tt

count_one : (xs ys : List Item) {r : Row} → ys ≡ child r ∷ [] → count (xs ++ ys) ≡ count xs + 1
count_one [] ys e = ap count e
count_one (own x ∷ xs) ys e = count_one xs ys e
count_one (child y ∷ xs) ys e = let h = count_one xs ys e in omega (arith, h)

module _ (s : List ℕ) where
  -- a place inside the source, where the loop begins
  pub stands_first : (i : ℕ) → length s ≤ 65535 → i ≤ length s → Stands s (here_at s i 0)
  unfolding here_at
  stands_first i h k = record { short = h; seen = refl; placed = k; few = omega arith }

  pub stands_fresh : {h : Here} → Stands s h → Stands s (freshly h)
  unfolding here_at
  stands_fresh {h} g = record { short = g.short; seen = ap (λ (x : Here). record { step = x.step; place = h.place; rows = 0 }) g.seen; placed = g.placed; few = omega arith }

  module _ (h : Here) (g : Stands s h) where
    -- where a declaration begins, both grammars read the same
    alike : T (one_of (word_of h) (firsts_by false)) → Alike (source s) false DECLARATION h.place
    alike o = alike_declaration (source s) false h.place (λ e. F→eq (eqb (peek (source s) language h.place) 'test') (λ q. subst (λ (w : ℕ). T (one_of w (firsts_by false))) (sym (peeks g) ∙ eqb→eq (peek (source s) language h.place) 'test' q) o))

    -- what stands at a place starts behind what is skipped
    starts : word_of h ≢ 0 → start_of h ≡ skip_all s h.place
    unfolding here_at refused step_start
    starts n =
        let i : ℕ = h.place in
        let k = some_in s i (not_over g n) in
        ap start_of g.seen ∙ ap step_start (sym (step_inside s i refl k refl)) ∙ by (token_at s (skip_all s i)) refl
      where
        by : (k : Step) → token_at s (skip_all s h.place) ≡ k → step_start k ≡ skip_all s h.place
        by (Ok (w, b, next)) e = token_start (skip_all s h.place) s e
        by (Err r) e = token_none (skip_all s h.place) s (λ z. let v : skip_all s h.place ≡ r.start = cc in sym v) (λ z. let v : skip_all s h.place ≡ r.start = cc in sym v) e

-- Declarations were read from `at` on, and the reader stands at h.
pub record Onward (s : List ℕ) (at : ℕ) (t₀ : List ℕ) (h : Here) (t : List ℕ) (n c : ℕ) : Type 0 where
  pub stands : Stands s h
  pub fresh : h.rows ≡ 0
  pub kept : Kept (source s) (roto false) at h.place
  pub upto : Upto s h.place t n c
  pub long : length t ≡ length t₀

pub goes_on : (s : List ℕ) (at : ℕ) (t : List ℕ) {n c : ℕ} {h : Here} → length s ≤ 65535 → Upto s at t n c → h ≡ here_at s at 0 → Onward s at t h t n c
goes_on s at t {n} {c} {h} short x e = record {
  stands = subst (Stands s) (sym e) (stands_first s at short x.inside);
  fresh = ap (λ (y : Here). y.rows) e ∙ here_rows s at 0;
  kept = subst (Kept (source s) (roto false) at) (sym place) kept.none;
  upto = subst (λ (i : ℕ). Upto s i t n c) (sym place) x;
  long = refl;
}
  where
    place : h.place ≡ at
    place = ap (λ (y : Here). y.place) e ∙ here_place s at 0

module _ {s : List ℕ} {at : ℕ} {t₀ : List ℕ} {h : Here} {t : List ℕ} {n c : ℕ} (v : Onward s at t₀ h t n c) where
  looks : (source s).look h.place ≡ (source s).look v.upto.stop
  unfolding step_at
  looks = ap (look_of s) (let e : step_at s h.place ≡ step_at s v.upto.stop = rw v.upto.skips refl in e)

  -- what the loop may count
  pub counts_few : (n ≤ most_rows * 65535) × (c ≤ 65535) × (next_of h ≤ 65536)
  counts_few =
      let a₁ = v.upto.few in
      let a₂ = v.upto.fewer in
      let a₃ = v.upto.inside in
      let a₄ = v.stands.short in
      let a₅ = next_small v.stands in
      (omega (arith, a₁, a₃, a₄), omega (arith, a₂, a₃, a₄), omega (arith, a₄, a₅))

  -- the end
  pub to_end : word_of h ≡ 0 → Ends (source s) (roto false) at × Through s t n c
  to_end e = (record { stop = h.place; kept = v.kept; whole = is_over v.stands e }, record { place = h.place; upto = v.upto; ends = is_over v.stands e })

  -- what begins no declaration
  pub at_other : (T (one_of (word_of h) (firsts_by false)) → ⊥) → word_of h ≢ 0 → {e : Refusal} → unused_at h ≡ e → (b : Breaks false s at (start_of h) (record { number = e.number; start = e.start; end = e.end })) × Upto s b.behind t n c
  at_other o k {e} q =
      let w = v.stands in
      let small = subst (λ (y : ℕ). y < 100) (sym (peeks w)) (word_small w) in
      let picks = off_place (roto false) DECLARATION option.none (source s) 100 (firsts_by false) h.place none_off small (λ z. o (subst (λ (y : ℕ). T (one_of y (firsts_by false))) (peeks w) z)) in
      (record { behind = h.place; kept = v.kept; more = not_over w k; begins = starts s h w k; place = h.place; why = amiss DECLARATION; stops = stops_none picks; says = ap (λ (y : Refusal). record { number = y.number; start = y.start; end = y.end }) (sym q) ∙ sym (says w (amiss DECLARATION) (λ len y. refl, λ len y. refl)) }, v.upto)

  pub reaches_end : word_of h ≡ 0 → Reaches s at t₀ n c None t
  reaches_end e = record { is = to_end e; long = v.long }

  pub reaches_other : (T (one_of (word_of h) (firsts_by false)) → ⊥) → word_of h ≢ 0 → {r : Read} {b : Break} → r ≡ unused h → b ≡ broken_by h r → Reaches s at t₀ n c b t
  reaches_other o k q e = record { is = subst (ReachesIs s at t n c) (sym (e ∙ ap (broken_by h) q)) (at_other o k refl); long = v.long }

  module _ (o : T (one_of (word_of h) (firsts_by false))) {r : Read} {t' : List ℕ} (d : Declares s h t n r t') where
    -- one that is refused: the rows before it stay
    pub at_broken : {e : Refusal} → r ≡ Err e → ((b : Breaks false s at (start_of h) (record { number = e.number; start = e.start; end = e.end })) × Upto s b.behind t' n c) × (length t' ≡ length t₀)
    at_broken q =
        let w = stopped_of d.read q in
        let k : word_of h ≢ 0 = λ z. subst (λ (y : ℕ). T (one_of y (firsts_by false))) z o in
        let f = v.stands in
        let y = v.upto in
        let l = kept_refused d.read q in
        let e = back_length y.draft.rows n y.rows t y.whole y.held d.part d.back l in
        let u = y.whole in (
          (
            record { behind = h.place; kept = v.kept; more = not_over f k; begins = starts s h f k; place = w.place; why = w.why; stops = refused_by (source s) tt false (alike s h f o) w.stops; says = sym w.says },
            record { stop = y.stop; draft = y.draft; written = y.written; skips = y.skips; rows = y.rows; children = y.children; sized = y.sized; whole = omega (arith, e, u); held = held_still y.draft.rows n y.rows t y.whole y.held d.part d.back l; inside = y.inside; few = y.few; fewer = y.fewer },
          ),
          e ∙ v.long,
        )

    pub reaches_broken : {e : Refusal} → r ≡ Err e → {b : Break} → b ≡ broken_by h r → Reaches s at t₀ n c b t'
    reaches_broken q e = let y = at_broken q in record { is = subst (ReachesIs s at t' n c) (sym (e ∙ ap (broken_by h) q)) y.0; long = y.1 }

    -- one that is read
    module _ {m : Node} {z : Here} (q : r ≡ Ok (m, z)) where
      w : Whole (the s zeros DECLARATION h (drop (part_from (length t) n) t)) 1 m z d.part
      w = whole_of d.read q

      u : phrases.Read (source s) (roto false) zeros same DECLARATION h.place z.place w.draft
      u = read_by (source s) tt false (alike s h v.stands o) w.read

      parts : Parts
      parts = node DECLARATION u.alternative u.parts end

      reading : Reading (source s) (roto false) zeros (a DECLARATION ∷ []) h.place z.place parts
      unfolding inside parts
      reading = sound (source s) (roto false) (reads_phrase u.picks u.run reads_end)

      takes : length s - z.place < length s - h.place
      takes = declaration_takes false ℕ (source s).look (source s).piece (λ i. length s - i) (tokens_take s) (pieces_keep s) reading

      from_stop : Reading (source s) (roto false) zeros (a DECLARATION ∷ []) v.upto.stop z.place parts
      from_stop = moved (roto false) (roto_full false) (roto_solid false) ℕ (source s).look (source s).piece (λ i. length s - i) (tokens_take s) (pieces_keep s) looks reading tt refl takes

      draft_is : write parts v.upto.draft ≡ with_phrase w.draft v.upto.draft
      unfolding parts write
      draft_is = write_phrase DECLARATION u.alternative u.parts end v.upto.draft refl ∙ ap (λ (y : Draft). with_phrase y v.upto.draft) u.draft

      size : length d.part ≡ length (drop (part_from (length t) n) t)
      size = (further d.read q).kept

      rows_of : z.rows ≡ length w.draft.rows
      rows_of = let k = w.rows in let f = v.fresh in omega (arith, k, f)

      back : length t' ≡ length t
      back = let y = v.upto in back_length y.draft.rows n y.rows t y.whole y.held d.part d.back size

      new_rows : (write parts v.upto.draft).rows ≡ v.upto.draft.rows ++ w.draft.rows
      new_rows = ap (λ (b : Draft). b.rows) draft_is

      new_held : n + z.rows ≤ length t' / width → (rest : List ℕ) × (t' ≡ flat (write parts v.upto.draft).rows ++ rest)
      new_held k =
          let y = v.upto in
          let e = rows_of in
          let f = w.stored ∙ ap (λ (i : ℕ). store (drop (part_from (length t) n) t) i w.draft.rows) v.fresh in
          let b = held_more y.draft.rows n y.rows t y.whole y.held d.part d.back size w.draft.rows f (omega (arith, k, e)) in
          (b.0, b.1 ∙ ap (λ (l : List Row). flat l ++ b.0) (sym new_rows))

      new_upto : Upto s z.place t' (n + z.rows) (c + 1)
      new_upto =
          let y = v.upto in
          let a₁ = length-append y.draft.rows w.draft.rows in
          let a₂ = rows_of in
          let a₃ = y.rows in
          let a₄ = back in
          let a₅ = y.whole in
          let a₆ = w.stands.few in
          let a₇ = next_small w.stands in
          let a₈ = v.stands.short in
          let a₉ = y.few in
          let b₁ = takes in
          let b₂ = w.stands.placed in
          let b₃ = y.fewer in
          record {
            stop = z.place;
            draft = write parts y.draft;
            written = more y.written from_stop;
            skips = refl;
            rows = ap length new_rows ∙ omega (arith, a₁, a₂, a₃);
            children = ap (λ (b : Draft). count b.items) draft_is ∙ count_one y.draft.items (children_of w.draft.items) w.leaves.1 ∙ ap (λ (k : ℕ). k + 1) y.children;
            sized = subst Sized (sym draft_is) (phrase_sized y.draft w.draft y.sized (subst Sized u.draft (write_sized u.parts)));
            whole = omega (arith, a₄, a₅);
            held = new_held;
            inside = b₂;
            few = omega (arith, a₆, a₇, a₈, a₉, b₁, b₂);
            fewer = omega (arith, b₁, b₂, b₃);
          }

      at_more : Onward s at t₀ (freshly z) t' (n + z.rows) (c + 1)
      at_more = record { stands = stands_fresh s w.stands; fresh = refl; kept = kept_append false (source s) v.kept (kept.more reading kept.none); upto = new_upto; long = back ∙ v.long }

      -- it ends further on
      pub later_on : next_of h < next_of z
      later_on = (further d.read q).next

      pub goes_again : {y : Here} → y ≡ freshly z → Onward s at t₀ y t' (n + z.rows) (c + 1)
      goes_again e = subst (λ (y : Here). Onward s at t₀ y t' (n + z.rows) (c + 1)) (sym e) at_more

      pub sum_few : n + z.rows ≤ most_rows * 65535
      sum_few = let y = new_upto in let a₁ = y.few in let a₂ = y.inside in let a₃ = v.stands.short in omega (arith, a₁, a₂, a₃)
