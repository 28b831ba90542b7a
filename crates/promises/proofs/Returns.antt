-- A row of return forms, read by a loop.
use Rattle.std.specs.Prelude.{Ok, Err}
use mathlib.Core.Path.{◌≡◌, refl, sym, ap, subst, ◌∙◌}
use mathlib.Core.List.{List, [], ◌∷◌}
use mathlib.Core.Bool.{Bool, true, false, cond}
use mathlib.Core.Option.{some}
use mathlib.Core.Logic.{◌≢◌}
use Prim.Native.Nat.{ℕ, suc, ◌+◌, ◌≤◌, ◌<◌}
use lib.Dec.{eqb, T, T_not}
use lib.ListN.{length, set, length-set}
use native.Mathlib.Omega.{arith}
use native.Mathlib.Numerals.{add-one}
use Rattle.rows.specs.Kinds as kinds
use Rattle.tokens.specs.declared.Refusal.{Refusal}
use Rattle.rows.specs.declared.Row.{Row}
use Rattle.grammar.specs.Words.{return_words}
use Rattle.grammar.specs.Grammar.{one_of}
use Rattle.grammar.specs.Limits.{inside}
use Rattle.grammar.specs.Table.{a, row}
use Rattle.grammar.specs.Kinds.{EXPR, RETURNED}
use Rattle.grammar.specs.Rows.{place_in, detail_for}
use Rattle.parser.specs.declared.Here.{Here}
use Rattle.parser.specs.declared.Limits.{Limits}
use Rattle.parser.specs.declared.Node.{Node}
use Rattle.parser.specs.Results.{Read}
use Rattle.parser.specs.Places.{word_of, next_of, later, under, node_of, put_over}
use Rattle.parser.specs.Counted.{counts, signed, used}
use Rattle.parser.specs.Going.{Stands, many, Phrase, Going, Answers}
use Rattle.parser.proofs.Going.{at, out, stopped}
use Rattle.parser.proofs.Steps.{under_done, used_more}
use Rattle.promises.specs.Firsts.{expr_firsts, ends_return, return_row}
use Rattle.promises.specs.Promises.{the, over_read, over_table}
use Rattle.promises.proofs.Alternatives.{within, rest_expr}
use Rattle.promises.proofs.Answered.{put_since, finished}
use Rattle.promises.proofs.Exprs.{goes_on, is_return, no_return, returned_none, returned_some, return_deep, return_goes}
use Rattle.promises.proofs.Heads.{reads_it, refuses_it}
use Rattle.promises.proofs.Overs.{Over, over_none, over_refused, over_ends, over_deeper, pushed_set}

-- A return form from behind its word on, if no other stands there.
abbrev Last : List ℕ → Here → List ℕ → Limits → Bool → Node → ℕ → ℕ → Read → List ℕ → Type 0
Last s h t l b m detail since r t' =
    (f : Phrase) (w : ℕ) → f.text ≡ s → f.from.rows ≡ since → detail ≡ detail_for kinds.RETURN w
    → Going f (at (counts l) (a (RETURNED b) ∷ row kinds.RETURN ∷ []) ∷ []) h t (many m.start m.end 0 (some w)) 0 4
    → Answers f 1 r t'

module _ (l : Limits) (b : Bool) (x : Node) (j : ℕ) {since : ℕ} {s : List ℕ} {z : Here} {t : List ℕ} where
  last_ends : {r : Read} {t' : List ℕ} → T (ends_return (word_of z) b) → r ≡ Ok (node_of (return_row x.start x.end 0 j), later z) → t' ≡ put_over t z (return_row x.start x.end 0 j) since → Last s z t l b x j since r t'
  unfolding inside
  last_ends e o y f w q i v g = finished (out (returned_none b e g)) (omega arith) refl refl (ap (return_row x.start x.end 0) v) o (put_since _ z _ i y)

  module _ (n : T (ends_return (word_of z) b) → ⊥) {r : Read} {t' : List ℕ} (u : Answers (the s (counts l) (EXPR b) z t) 1 r t') where
    last_fails : {e : Refusal} → r ≡ Err e → Last s z t l b x j since r t'
    unfolding inside
    last_fails e f w q i v g = stopped e (refuses_it q refl u (returned_some b n g) e)

    last_valued : {m : Node} {h : Here} {r' : Read} {t'' : List ℕ} → r ≡ Ok (m, h) → r' ≡ Ok (node_of (return_row x.start m.end 1 j), later h) → t'' ≡ put_over t' h (return_row x.start m.end 1 j) since → Last s z t l b x j since r' t''
    unfolding inside
    last_valued {m = m} {h} e o y f w q i v g = finished (out (reads_it q refl u (returned_some b n g) (rest_expr b) e)) (omega arith) refl refl (ap (return_row x.start m.end 1) v) o (put_since _ h _ i y)

-- a return word begins an expr
no_end : (x : ℕ) (b : Bool) → T (one_of x return_words) → T (ends_return x b) → ⊥
no_end x true w e = T_not (one_of x expr_firsts) e (within x return_words expr_firsts tt w)
no_end x false w e = e

-- whether a return word stands there, by its detail
pub return_there : {s : List ℕ} {z : Here} {n : ℕ} → Stands s z → n ≡ detail_for kinds.RETURN (word_of z) → n ≢ 0 → T (one_of (word_of z) return_words)
return_there {z = z} g e m = is_return (word_of z) e m

pub return_elsewhere : {s : List ℕ} {z : Here} {n : ℕ} → Stands s z → n ≡ detail_for kinds.RETURN (word_of z) → n ≡ 0 → T (one_of (word_of z) return_words) → ⊥
return_elsewhere {z = z} g e m = no_return (word_of z) e m

-- its detail is small
placed_small : (c : ℕ) (w : List ℕ) → place_in c w ≤ length w
placed_small c [] = omega arith
placed_small c (x ∷ xs) = go (eqb c x) (eqb (place_in c xs) 0) (place_in c xs) (placed_small c xs)
  where
    go : (b z : Bool) (k : ℕ) → k ≤ length xs → cond b 1 (cond z 0 (suc k)) ≤ suc (length xs)
    go true z k l = omega arith
    go false true k l = omega arith
    go false false k l = omega (arith, l)

pub return_small : {s : List ℕ} {z : Here} {n : ℕ} → Stands s z → n ≡ detail_for kinds.RETURN (word_of z) → n ≤ 3
return_small {z = z} g e = let k = placed_small (word_of z) return_words in omega (arith, e, k)

-- The loop stands at a return word behind n others; the expr of the first ends with what begins here.
pub record Returns (s : List ℕ) (b : Bool) (l₀ : Limits) (h₀ : Here) (t₀ starts sinces details : List ℕ) (n : ℕ) (l : Limits) (h : Here) (t : List ℕ) : Type 0 where
  pub stands : Stands s h
  pub word : T (one_of (word_of h) return_words)
  pub over : Over (the s (counts l₀) (EXPR b) h₀ t₀) (the s (counts l) (EXPR b) h t) starts sinces details 27 1 n
  pub few : n ≤ used l.signs
  pub further : next_of h₀ ≤ next_of h
  pub kept : length t ≡ length t₀
  pub room : (length starts ≡ 32) × (length sinces ≡ 32) × (length details ≡ 32)

pub returns_begin : {s : List ℕ} {b : Bool} {l : Limits} {h : Here} {t starts sinces details : List ℕ} → Stands s h → T (one_of (word_of h) return_words) → length starts ≡ 32 → length sinces ≡ 32 → length details ≡ 32 → Returns s b l h t starts sinces details 0 l h t
returns_begin g w i k j = record { stands = g; word = w; over = over_none; few = omega arith; further = omega arith; kept = refl; room = (i, k, j) }

module _ {s : List ℕ} {b : Bool} {l₀ : Limits} {h₀ : Here} {t₀ starts sinces details : List ℕ} {n : ℕ} {l : Limits} {h : Here} {t : List ℕ} (w : Returns s b l₀ h₀ t₀ starts sinces details n l h t) {r : Read} (p : r ≡ under s h l.signs) where
  pub returns_deep : {e : Refusal} → r ≡ Err e → Answers (the s (counts l₀) (EXPR b) h₀ t₀) 1 r t
  returns_deep q = over_refused w.over (return_deep s l b h t w.stands w.word p q) q

  module _ {x : Node} {z : Here} (q : r ≡ Ok (x, z)) where
    goes : Going (the s (counts l) (EXPR b) h t) (at (counts (signed l)) (a (RETURNED b) ∷ row kinds.RETURN ∷ []) ∷ []) z t (many x.start x.end 0 (some (word_of h))) 0 4
    goes = return_goes s l b h t w.stands w.word p q

    pub returns_behind : Stands s z × (next_of h < next_of z) × (next_of h < 65537) × (n < 32)
    returns_behind = let y = goes_on goes (omega arith) in let k = (under_done s h l.signs p q).0 in let f = w.few in (goes.stands, y.0, y.1, omega (arith, k, f))

    -- the last of them: without an expr; with one that fails, or one that was read
    module _ {l' : Limits} {j : ℕ} (i : l' ≡ signed l) (v : j ≡ detail_for kinds.RETURN (word_of h)) where
      innermost : {r₁ : Read} {t₁ : List ℕ} → Last s z t l' b x j h.rows r₁ t₁ → Answers (the s (counts l) (EXPR b) h t) 1 r₁ t₁
      innermost u = u (the s (counts l) (EXPR b) h t) (word_of h) refl refl v (subst (λ (k : Limits). Going (the s (counts l) (EXPR b) h t) (at (counts k) (a (RETURNED b) ∷ row kinds.RETURN ∷ []) ∷ []) z t (many x.start x.end 0 (some (word_of h))) 0 4) (sym i) goes)

      pub returns_bare : {r₁ r₂ : Read} {t₁ t₂ : List ℕ} → T (ends_return (word_of z) b) → r₁ ≡ Ok (node_of (return_row x.start x.end 0 j), later z) → t₁ ≡ put_over t z (return_row x.start x.end 0 j) h.rows → r₂ ≡ over_read starts details 27 1 n r₁ → t₂ ≡ over_table starts sinces details 27 1 n r₁ t₁ → Answers (the s (counts l₀) (EXPR b) h₀ t₀) 1 r₂ t₂
      returns_bare e o y o' y' = over_ends w.over (innermost (last_ends l' b x j e o y)) o' y'

      module _ (m : T (ends_return (word_of z) b) → ⊥) {r₁ : Read} {t₁ : List ℕ} (u : Answers (the s (counts l') (EXPR b) z t) 1 r₁ t₁) where
        pub returns_fails : {e : Refusal} → r₁ ≡ Err e → Answers (the s (counts l₀) (EXPR b) h₀ t₀) 1 r₁ t₁
        returns_fails e = over_refused w.over (innermost (last_fails l' b x j m u e)) e

        pub returns_valued : {m₁ : Node} {h₁ : Here} {r₂ r₃ : Read} {t₂ t₃ : List ℕ} → r₁ ≡ Ok (m₁, h₁) → r₂ ≡ Ok (node_of (return_row x.start m₁.end 1 j), later h₁) → t₂ ≡ put_over t₁ h₁ (return_row x.start m₁.end 1 j) h.rows → r₃ ≡ over_read starts details 27 1 n r₂ → t₃ ≡ over_table starts sinces details 27 1 n r₂ t₂ → Answers (the s (counts l₀) (EXPR b) h₀ t₀) 1 r₃ t₃
        returns_valued e o y o' y' = over_ends w.over (innermost (last_valued l' b x j m u e o y)) o' y'

    pub returns_on : {l' : Limits} {j : ℕ} {starts' sinces' details' : List ℕ} → T (one_of (word_of z) return_words) → l' ≡ signed l → j ≡ detail_for kinds.RETURN (word_of h) → starts' ≡ set starts n x.start → sinces' ≡ set sinces n h.rows → details' ≡ set details n j → Returns s b l₀ h₀ t₀ starts' sinces' details' (n + 1) l' z t
    returns_on {l'} {j} {starts'} {sinces'} {details'} m i v c o d =
        let k = (under_done s h l.signs p q).0 in
        let f = w.few in
        let e : n < 32 = omega (arith, k, f) in
        let big : used l'.signs ≡ suc (used l.signs) = ap (λ (x : Limits). used x.signs) i ∙ used_more l.signs k in
        record {
          stands = goes.stands;
          word = m;
          over = subst (Over (the s (counts l₀) (EXPR b) h₀ t₀) (the s (counts l') (EXPR b) z t) starts' sinces' details' 27 1) (sym (add-one n)) (over_deeper w.over (pushed_set starts n x.start (omega (arith, e, w.room.0)) c) (pushed_set sinces n h.rows (omega (arith, e, w.room.1)) o) (pushed_set details n j (omega (arith, e, w.room.2)) d) valued fails);
          few = omega (arith, f, big);
          further = let a₀ = w.further in let y = returns_behind.1 in omega (arith, a₀, y);
          kept = w.kept;
          room = (ap (λ (y : List ℕ). length y) c ∙ length-set starts n x.start ∙ w.room.0, ap (λ (y : List ℕ). length y) o ∙ length-set sinces n h.rows ∙ w.room.1, ap (λ (y : List ℕ). length y) d ∙ length-set details n j ∙ w.room.2);
        }
      where
        inner : Going (the s (counts l) (EXPR b) h t) (at (counts l') (a (RETURNED b) ∷ row kinds.RETURN ∷ []) ∷ []) z t (many x.start x.end 0 (some (word_of h))) 0 4
        inner = subst (λ (k : Limits). Going (the s (counts l) (EXPR b) h t) (at (counts k) (a (RETURNED b) ∷ row kinds.RETURN ∷ []) ∷ []) z t (many x.start x.end 0 (some (word_of h))) 0 4) (sym i) goes

        valued : (m₁ : Node) (h₁ : Here) (t₁ t₂ : List ℕ) (q₁ : Row) → Answers (the s (counts l') (EXPR b) z t) 1 (Ok (m₁, h₁)) t₁ → q₁ ≡ return_row x.start m₁.end 1 j → t₂ ≡ put_over t₁ h₁ q₁ h.rows → Answers (the s (counts l) (EXPR b) h t) 1 (Ok (node_of q₁, later h₁)) t₂
        valued m₁ h₁ t₁ t₂ q₁ u e y = last_valued l' b x j (no_end (word_of z) b m) u refl (ap (λ (k : Row). Ok (node_of k, later h₁)) e) (y ∙ ap (λ (k : Row). put_over t₁ h₁ k h.rows) e) (the s (counts l) (EXPR b) h t) (word_of h) refl refl v inner

        fails : (e : Refusal) (t₁ : List ℕ) → Answers (the s (counts l') (EXPR b) z t) 1 (Err e) t₁ → Answers (the s (counts l) (EXPR b) h t) 1 (Err e) t₁
        fails e t₁ u = last_fails l' b x j (no_end (word_of z) b m) u refl (the s (counts l) (EXPR b) h t) (word_of h) refl refl v inner
