-- A chain of `if` and `else if`, read by a loop.
use Rattle.std.specs.Prelude.{Ok, Err}
use mathlib.Core.Path.{◌≡◌, refl, sym, ap, subst, ◌∙◌}
use mathlib.Core.List.{List, [], ◌∷◌}
use mathlib.Core.Bool.{Bool, true, false, cond}
use mathlib.Core.Option.{some}
use mathlib.Core.Logic.{◌≢◌}
use Prim.Native.Nat.{ℕ, ◌+◌, ◌≤◌, ◌<◌, suc}
use lib.Dec.{T, eqb, eqb→eq}
use lib.ListN.{length, set, length-set}
use native.Mathlib.Omega.{arith}
use borrow.Author.Tests.{eq-eqb, ne_eqb}
use native.Mathlib.Numerals.{add-one}
use Rattle.rows.specs.Kinds as kinds
use Rattle.tokens.specs.declared.Refusal.{Refusal}
use Rattle.rows.specs.declared.Row.{Row}
use Rattle.grammar.specs.Grammar.{body}
use Rattle.grammar.specs.Limits.{Counts, inside}
use Rattle.grammar.specs.Table.{a, behind, row}
use Rattle.grammar.specs.Kinds.{ELSE, ELSE_PART, ELSE_IF}
use Rattle.parser.proofs.Sides.{none_yet}
use Rattle.parser.proofs.Steps.{under_done, some_left, used_more}
use Rattle.parser.specs.declared.Here.{Here}
use Rattle.parser.specs.declared.Limits.{Limits}
use Rattle.parser.specs.declared.Node.{Node}
use Rattle.parser.specs.Results.{Read}
use Rattle.parser.specs.Places.{word_of, end_of, next_of, passed, later, under, node_of, put_over, plain_row}
use Rattle.parser.specs.Counted.{counts, headed, chained, used}
use Rattle.parser.specs.Going.{Stands, many, Phrase, Going, Answers}
use Rattle.parser.proofs.Standing.{is_word, start_small}
use Rattle.parser.proofs.Going.{at, out, stopped}
use Rattle.parser.proofs.Picks.{into_on}
use Rattle.promises.specs.Promises.{the, Partly, Headed, after_if, Tested, Elsed, linked, over_read, over_table}
use Rattle.promises.proofs.Alternatives.{elses_if_on}
use Rattle.promises.proofs.Answered.{put_since, rows_small, finished}
use Rattle.promises.proofs.Heads.{Head, reads_it, refuses_it, else_none, else_word, else_if_deep, else_if_on, under_past}
use Rattle.promises.proofs.Partly.{partly_of, stops_answer}
use Rattle.promises.proofs.Overs.{Over, over_none, over_refused, over_ends, over_deeper, pushed_set, pushed_none}

-- f₀ ends with the `if` that the loop is in, behind whose word it stands; n `if`s stand before that one.
pub record Linked (s : List ℕ) (f₀ : Phrase) (l : Limits) (h : Here) (t : List ℕ) (start since : ℕ) (starts sinces details : List ℕ) (n : ℕ) : Type 0 where
  pub inner : Phrase
  pub text : inner.text ≡ s
  pub began : inner.from.rows ≡ since
  pub head : Head inner l after_if h t start 0
  pub over : Over f₀ inner starts sinces details 28 3 n

-- past the `if` behind an `else`, by the tests that were made
pub linked_out : (s : List ℕ) (h : Here) (l : Limits) {n : ℕ} {r : Read} → l.chain ≡ 0 → n ≡ 0 → r ≡ under s h n → r ≡ linked s h l
linked_out s h l c e k = k ∙ ap (under s h) (e ∙ ap (λ (x : Bool). cond x 0 l.heads) (sym (eq-eqb l.chain 0 c)))

pub linked_in : (s : List ℕ) (h : Here) (l : Limits) {n : ℕ} {r : Read} → l.chain ≢ 0 → n ≡ l.heads → r ≡ under s h n → r ≡ linked s h l
linked_in s h l c e k = k ∙ ap (under s h) (e ∙ ap (λ (x : Bool). cond x 0 l.heads) (sym (ne_eqb l.chain 0 c)))

-- past the `if` behind an `else`, or not
module _ (l : Limits) {s : List ℕ} {h : Here} {r : Read} (g : Stands s h) (i : word_of h ≡ 69) (p : r ≡ linked s h l) where
  pub linked_fails : (t : List ℕ) {e : Refusal} → r ≡ Err e → Answers (the s (counts l) ELSE_IF h t) 1 r t
  linked_fails t {e} q = else_if_deep l g i p (go (eqb l.chain 0) (eqb→eq l.chain 0)) q
    where
      go : (b : Bool) → (T b → l.chain ≡ 0) → cond b 0 l.heads ≡ 0 → 0 < l.heads → 0 < l.chain → ⊥
      go true o m x y = let c = o tt in omega (arith, c, y)
      go false o m x y = omega (arith, m, x)

  pub linked_on : {m : Node} {z : Here} → r ≡ Ok (m, z) → (0 < l.chain) × (r ≡ under s h l.heads)
  linked_on {m} {z} q = go (eqb l.chain 0) refl p
    where
      go : (b : Bool) → eqb l.chain 0 ≡ b → r ≡ under s h (cond b 0 l.heads) → (0 < l.chain) × (r ≡ under s h l.heads)
      go true o k = let z = (under_done s h 0 k q).0 in absurd (omega (arith, z))
      go false o k = (some_left l.chain o, k)

-- The loop stands behind the word of an `if` that starts at x and whose rows begin at y, behind n others that stand open.
pub record Links (s : List ℕ) (l₀ : Limits) (h₀ : Here) (t₀ : List ℕ) (x₀ : ℕ) (l : Limits) (h : Here) (t : List ℕ) (x y : ℕ) (starts sinces details : List ℕ) (n : ℕ) : Type 0 where
  pub stands : Stands s h
  pub unsigned : l.signs ≡ 32
  pub few : n ≤ used l.chain
  pub near : x < 65536
  pub small : y < 300000
  pub room : (length starts ≡ 32) × (length sinces ≡ 32)
  pub bare : length details ≡ 0
  pub further : next_of h₀ ≤ next_of h
  pub kept : length t ≡ length t₀
  pub links : (f : Phrase) (d : Counts) (e w : ℕ) → f.text ≡ s → d ≡ counts (headed l₀) → inside body d ≡ counts l₀ → Going f (at d after_if ∷ []) h₀ t₀ (many x₀ e 0 (some w)) 0 4 → Linked s f l h t x y starts sinces details n

pub links_begin : {s : List ℕ} {l : Limits} {h : Here} {t starts sinces details : List ℕ} {x : ℕ} → Stands s h → l.signs ≡ 32 → x < 65536 → length starts ≡ 32 → length sinces ≡ 32 → length details ≡ 0 → Links s l h t x l h t x h.rows starts sinces details 0
links_begin g z v i k j = record { stands = g; unsigned = z; few = omega arith; near = v; small = rows_small g; room = (i, k); bare = j; further = omega arith; kept = refl; links = λ f d e w q u b y. record { inner = f; text = q; began = none_yet y; head = record { at_counts = d; end = e; sign = w; headed_so = u; body_so = b; going = y }; over = over_none } }

module _ {s : List ℕ} {l₀ : Limits} {h₀ : Here} {t₀ : List ℕ} {x₀ : ℕ} {l : Limits} {h : Here} {t : List ℕ} {x y₀ : ℕ} {starts sinces details : List ℕ} {n : ℕ} (w : Links s l₀ h₀ t₀ x₀ l h t x y₀ starts sinces details n) {r₁ : Read} {t₁ : List ℕ} (u₁ : Tested s h t l r₁ t₁) where
  module _ {f : Phrase} (k : Linked s f l h t x y₀ starts sinces details n) where
    tested : Partly k.inner r₁ t₁ (λ m h'. Going k.inner (at k.head.at_counts (behind ELSE ∷ row kinds.IF ∷ []) ∷ []) h' t₁ (many x m.end 2 (some k.head.sign)) 0 6)
    tested = u₁ k.inner k.head.at_counts (behind ELSE ∷ row kinds.IF ∷ []) x k.head.end 0 k.head.sign 4 k.text k.head.headed_so k.head.body_so k.head.going

  pub links_fails : {y : Refusal} → r₁ ≡ Err y → Headed after_if s h₀ t₀ l₀ x₀ r₁ t₁
  links_fails e₁ f d e v q z b g = let k = w.links f d e v q z b g in over_refused k.over (stops_answer (tested k) e₁) e₁

  module _ {m₁ : Node} {h₁ : Here} (e₁ : r₁ ≡ Ok (m₁, h₁)) where
    -- the last `if`, without `else`
    pub links_end : {v : Row} {r₂ r₃ : Read} {t₂ t₃ : List ℕ} → word_of h₁ ≢ 63 → v ≡ plain_row kinds.IF x m₁.end 2 → r₂ ≡ Ok (node_of v, later h₁) → t₂ ≡ put_over t₁ h₁ v y₀ → r₃ ≡ over_read starts details 28 3 n r₂ → t₃ ≡ over_table starts sinces details 28 3 n r₂ t₂ → Headed after_if s h₀ t₀ l₀ x₀ r₃ t₃
    links_end i o p y p' y' f d e v q z b g = let k = w.links f d e v q z b g in over_ends k.over (else_none (partly_of (tested k) e₁) (omega arith) i o p (put_since _ h₁ _ k.began y)) p' y'

    module _ {h₂ : Here} (i : word_of h₁ ≡ 63) (p : h₂ ≡ passed s h₁) where
      -- behind its `else`
      behind_else : {f : Phrase} (k : Linked s f l h t x y₀ starts sinces details n) → Going k.inner (at (counts l) (a ELSE_PART ∷ []) ∷ at k.head.at_counts (row kinds.IF ∷ []) ∷ []) h₂ t₁ (many x (end_of h₁) 2 (some k.head.sign)) 0 10
      behind_else k = else_word l k.head.body_so w.unsigned i (subst (λ (y : List ℕ). h₂ ≡ passed y h₁) (sym k.text) p) (partly_of (tested k) e₁)

      pub links_else : {r₂ r₃ : Read} {t₂ t₃ : List ℕ} → Elsed s h₂ t₁ l x y₀ r₂ t₂ → r₃ ≡ over_read starts details 28 3 n r₂ → t₃ ≡ over_table starts sinces details 28 3 n r₂ t₂ → Headed after_if s h₀ t₀ l₀ x₀ r₃ t₃
      links_else u₂ p' y' f d e v q z b g = let k = w.links f d e v q z b g in over_ends k.over (u₂ k.inner k.head.at_counts (end_of h₁) k.head.sign 6 k.text k.began (behind_else k)) p' y'

      -- another `if` there
      module _ (g₂ : Stands s h₂) (j : word_of h₂ ≡ 69) where
        in_chain : {f : Phrase} (k : Linked s f l h t x y₀ starts sinces details n) → Going k.inner (at (counts l) (a ELSE_IF ∷ []) ∷ at (counts l) [] ∷ at k.head.at_counts (row kinds.IF ∷ []) ∷ []) h₂ t₁ (many x (end_of h₁) 2 (some k.head.sign)) 0 10
        unfolding inside
        in_chain k = into_on elses_if_on refl (is_word j) (behind_else k)

        module _ {f : Phrase} (k : Linked s f l h t x y₀ starts sinces details n) where
          chain_fails : (y : Refusal) (t₂ : List ℕ) → Answers (the s (counts l) ELSE_IF h₂ t₁) 1 (Err y) t₂ → Answers k.inner 1 (Err y) t₂
          unfolding inside
          chain_fails y t₂ u = stopped refl (refuses_it k.text refl u (in_chain k) refl)

          chain_valued : (m : Node) (z : Here) (t₂ t₃ : List ℕ) (v : Row) → Answers (the s (counts l) ELSE_IF h₂ t₁) 1 (Ok (m, z)) t₂ → v ≡ plain_row kinds.IF x m.end 3 → t₃ ≡ put_over t₂ z v y₀ → Answers k.inner 1 (Ok (node_of v, later z)) t₃
          unfolding inside
          chain_valued m z t₂ t₃ v u o y = finished (out (out (reads_it k.text refl u (in_chain k) refl refl))) (omega arith) refl refl o refl (put_since _ z _ k.began y)

        module _ {r₂ : Read} (p₂ : r₂ ≡ linked s h₂ l) where
          pub links_long : {y : Refusal} → r₂ ≡ Err y → Headed after_if s h₀ t₀ l₀ x₀ r₂ t₁
          links_long {y} e₂ f d e v q z b g =
              let k = w.links f d e v q z b g in
              let u = linked_fails l g₂ j p₂ t₁ e₂ in
              over_refused k.over (subst (λ (r : Read). Answers k.inner 1 r t₁) (sym e₂) (chain_fails k y t₁ (subst (λ (r : Read). Answers (the s (counts l) ELSE_IF h₂ t₁) 1 r t₁) e₂ u))) e₂

          module _ {m₂ : Node} {h₃ : Here} (e₂ : r₂ ≡ Ok (m₂, h₃)) where
            pub links_behind : Stands s h₃ × (next_of h₂ < next_of h₃) × (n < 32)
            links_behind = let o = linked_on l g₂ j p₂ e₂ in let y = under_past 69 l.heads g₂ tt j o.1 e₂ in let k = w.few in (y.0, y.1, omega (arith, k, o.0))

            pub links_on : {l' : Limits} {starts' sinces' : List ℕ} → next_of h < next_of h₁ → next_of h₁ < next_of h₂ → length t₁ ≡ length t₀ → l' ≡ chained l → starts' ≡ set starts n x → sinces' ≡ set sinces n y₀ → Links s l₀ h₀ t₀ x₀ l' h₃ t₁ m₂.start h₂.rows starts' sinces' details (n + 1)
            links_on {l'} {starts'} {sinces'} a₁ a₂ a₃ c d a₄ =
                let o = linked_on l g₂ j p₂ e₂ in
                let y = links_behind in
                let k = w.few in
                let more : used l'.chain ≡ suc (used l.chain) = ap (λ (z : Limits). used z.chain) c ∙ used_more l.chain o.0 in
                let so = w.further in
                record {
                  stands = y.0;
                  unsigned = ap (λ (z : Limits). z.signs) c;
                  few = omega (arith, k, more);
                  near = let u = start_small (69 ∷ []) tt (is_word j) g₂ in let v = ap (λ (z : Node). z.start) (under_done s h₂ l.heads o.1 e₂).1.node in omega (arith, u, v);
                  small = rows_small g₂;
                  room = (ap (λ (z : List ℕ). length z) d ∙ length-set starts n x ∙ w.room.0, ap (λ (z : List ℕ). length z) a₄ ∙ length-set sinces n y₀ ∙ w.room.1);
                  bare = w.bare;
                  further = omega (arith, so, a₁, a₂, y.1);
                  kept = a₃;
                  links = λ f d₁ e v q z b g. next f (w.links f d₁ e v q z b g);
                }
              where
                next : (f : Phrase) → Linked s f l h t x y₀ starts sinces details n → Linked s f l' h₃ t₁ m₂.start h₂.rows starts' sinces' details (n + 1)
                next f k =
                    let o = linked_on l g₂ j p₂ e₂ in
                    let y = links_behind.2 in
                    let i = w.room.0 in
                    let v = w.room.1 in
                    record {
                      inner = the s (counts l) ELSE_IF h₂ t₁;
                      text = refl;
                      began = refl;
                      head = else_if_on l g₂ j o.1 o.0 c e₂;
                      over = subst (Over f (the s (counts l) ELSE_IF h₂ t₁) starts' sinces' details 28 3) (sym (add-one n)) (over_deeper k.over (pushed_set starts n x (omega (arith, y, i)) d) (pushed_set sinces n y₀ (omega (arith, y, v)) a₄) (pushed_none n w.bare) (chain_valued k) (chain_fails k));
                    }
