-- To follow a reader's steps: a phrase that is being read, what is left of it, and its rows so far. One law for each
-- shape: a token, a note, a phrase, the rest of a phrase, the last rest of a rest, a word that may not stand, a path or not.
use mathlib.Core.Path.{◌≡◌, refl, sym, ap, subst}
use mathlib.Core.List.{List, [], ◌∷◌, ◌++◌}
use mathlib.Core.Bool.{Bool, true, false, not, cond}
use mathlib.Core.Option.{none, some}
use mathlib.Core.Logic.{◌⊎◌, inl, inr}
use Prim.Native.Nat.{ℕ}
use lib.Dec.{T, eqb}
use Rattle.grammar.specs.Grammar.{Ask, has_value, Scope, same, found, Stream, Symbol, token, phrase, unless, note, left_side, text, Token, Parts, end, leaf, node, mark, Language, one_of}
use Rattle.grammar.specs.Limits.{Counts, after, inside, kept}
use Rattle.grammar.specs.Choice.{chosen}
use Rattle.grammar.specs.Readings.{peek, reads_end, reads_token, reads_phrase, reads_unless, reads_note, reads_side, reads_text}
use Rattle.grammar.specs.Runs.{view, may, Run}
use Rattle.grammar.specs.Refusals.{Why, want, amiss, past, left, unread, ill, lacks, torn, Stops, stops_want, stops_past, stops_token, stops_none, stops_in, stops_after, stops_unless, stops_note, stops_left, stops_side_after, stops_torn, stops_ill, stops_text}
use Rattle.grammar.specs.Table.{rest_kinds}
use Rattle.grammar.specs.Rows.{Row, Draft, take_note, add_token, write, blank, children_of, first_row, phrase_row, is_path}
use Rattle.grammar.specs.Language.{roto}
use Rattle.grammar.specs.Phrases.{Read, Refused}
use Rattle.grammar.proofs.Frame.{no_text, plain_word, with_own, write_phrase, write_rest, write_token, write_note, write_two}

-- what is left of an alternative, and the counts there
pub record Left : Type 0 where
  pub at : Counts
  pub syms : List Symbol

-- a phrase's rows behind those written, and its top rows behind the items
abbrev pub with_phrase : Draft → Draft → Draft
with_phrase b a = record { rows = a.rows ++ b.rows; items = a.items ++ children_of b.items; part = a.part }

module _ (S : Stream) (l : Language) where
  first_stop : {d : Counts} {o : Scope} {n : ℕ} {s : List Symbol} {i z : S.Place} {y : Why} → Stops S l d (phrase o n ∷ []) i z y → Stops S l d (phrase o n ∷ s) i z y
  first_stop (stops_none e) = stops_none e
  first_stop (stops_in e g) = stops_in e g
  first_stop {d = d} {o = o} {n = n} {s = s} {i = i} {z = z} {y = y} (stops_after {a = a} {m = m} {p = p} _ _ x24) = elim x24 [ ]

  then_stop : {d : Counts} {o : Scope} {n : ℕ} {s : List Symbol} {i m z : S.Place} {p : Parts} {y : Why} → Run S l d (phrase o n ∷ []) i m p → Stops S l d s m z y → Stops S l d (phrase o n ∷ s) i z y
  then_stop (reads_phrase e t reads_end) f = stops_after e t f

  abbrev pub Runs : List Left → S.Place → S.Place → Draft → Draft → Type 0
  Runs [] j z a b = (j ≡ z) × (a ≡ b)
  Runs (k ∷ ks) j z a b = (m : S.Place) × (p : Parts) × Run S l k.at k.syms j m p × Runs ks m z (write p a) b

  abbrev pub Fails : List Left → S.Place → S.Place → Why → Type 0
  Fails [] j z y = ⊥
  Fails (k ∷ ks) j z y = Stops S l k.at k.syms j z y ⊎ ((m : S.Place) × (p : Parts) × Run S l k.at k.syms j m p × Fails ks m z y)

  -- a phrase begun at i, of which ks is left at j, with the draft a
  pub record Open (d : Counts) (o : Scope) (n : ℕ) (i : S.Place) (ks : List Left) (j : S.Place) (a : Draft) : Type 0 where
    pub close : (z : S.Place) (b : Draft) → Runs ks j z a b → Read S l d o n i z b
    pub halt : (z : S.Place) (y : Why) → Fails ks j z y → Refused S l d o n i z y

  module _ {d₀ : Counts} {o₀ : Scope} {n₀ : ℕ} {i : S.Place} where
    pub start : (a : List Symbol) → chosen l n₀ (view S l i) ≡ some a → Open d₀ o₀ n₀ i (record { at = inside o₀ d₀; syms = a } ∷ []) i blank
    start a e = record {
      close = λ z b r. record { alternative = a; parts = r.1; picks = e; run = subst (λ (x : S.Place). Run S l (inside o₀ d₀) a i x r.1) r.3.0 r.2; draft = r.3.1 };
      halt = λ z y f. elim f [ inl g ↦ stops_in e g | inr g ↦ absurd g.3 ];
    }

    pub finish : {j : S.Place} {a : Draft} → Open d₀ o₀ n₀ i [] j a → Read S l d₀ o₀ n₀ i j a
    finish {j} {a} x = x.close j a (refl, refl)

    module _ {d : Counts} {ks : List Left} {j : S.Place} {a : Draft} where
      pub pop : Open d₀ o₀ n₀ i (record { at = d; syms = [] } ∷ ks) j a → Open d₀ o₀ n₀ i ks j a
      unfolding write
      pop x = record { close = λ z b r. x.close z b (j, end, reads_end, r); halt = λ z y f. x.halt z y (inr (j, end, reads_end, f)) }

      pub take : {s : List Symbol} {g : Ask} {w : List ℕ} {t : Token} {k : S.Place} → S.look j ≡ found t k → T (no_text w) → T (one_of t.word w) → T (kept g d t) → Open d₀ o₀ n₀ i (record { at = d; syms = token g w ∷ s } ∷ ks) j a → Open d₀ o₀ n₀ i (record { at = after g d; syms = s } ∷ ks) k (with_own t a)
      take {w = w} {t = t} {k = k} e u m h x = record {
        close = λ z b r. x.close z b (r.0, leaf t r.1, reads_token e m h r.2, subst (λ (y : Draft). Runs ks r.0 z y b) (sym (write_token t r.1 a (plain_word t w u m))) r.3);
        halt = λ z y f. elim f [ inl q ↦ x.halt z y (inl (stops_token e m h q)) | inr q ↦ x.halt z y (inr (q.0, leaf t q.1, reads_token e m h q.2, q.3)) ];
      }

      pub notes : {s : List Symbol} {k : ℕ} → Open d₀ o₀ n₀ i (record { at = d; syms = note k ∷ s } ∷ ks) j a → Open d₀ o₀ n₀ i (record { at = d; syms = s } ∷ ks) j (take_note k a)
      notes {k = k} x = record {
        close = λ z b r. x.close z b (r.0, mark k r.1, reads_note r.2, subst (λ (y : Draft). Runs ks r.0 z y b) (sym (write_note k r.1 a)) r.3);
        halt = λ z y f. elim f [ inl q ↦ x.halt z y (inl (stops_note q)) | inr q ↦ x.halt z y (inr (q.0, mark k q.1, reads_note q.2, q.3)) ];
      }

      -- a piece of text (C-11), and where a hole follows it a phrase
      pub scan : {s : List Symbol} {n : ℕ} {t : Token} {k : S.Place} → S.piece j ≡ found t k → T (kept has_value d t) → Open d₀ o₀ n₀ i (record { at = d; syms = text n ∷ s } ∷ ks) j a → Open d₀ o₀ n₀ i (record { at = after has_value d; syms = cond (eqb t.word l.hole) (phrase same n ∷ s) s } ∷ ks) k (add_token t a)
      unfolding write
      scan {t = t} {k = k} e h x = record {
        close = λ z b r. x.close z b (r.0, leaf t r.1, reads_text e h r.2, r.3);
        halt = λ z y f. elim f [ inl q ↦ x.halt z y (inl (stops_text e h q)) | inr q ↦ x.halt z y (inr (q.0, leaf t q.1, reads_text e h q.2, q.3)) ];
      }

      pub tears : {s : List Symbol} {n : ℕ} → T (torn (S.piece j)) → Open d₀ o₀ n₀ i (record { at = d; syms = text n ∷ s } ∷ ks) j a → Refused S l d₀ o₀ n₀ i j unread
      tears h x = x.halt j _ (inl (stops_torn h))

      pub spoils : {s : List Symbol} {n : ℕ} {t : Token} {k : S.Place} → S.piece j ≡ found t k → T (not (kept has_value d t)) → Open d₀ o₀ n₀ i (record { at = d; syms = text n ∷ s } ∷ ks) j a → Refused S l d₀ o₀ n₀ i j (ill t)
      spoils e h x = x.halt j _ (inl (stops_ill e h))

      -- the rest of the phrase is gone into
      pub within : {s : List Symbol} {o : Scope} {n : ℕ} (c : List Symbol) → one_of n rest_kinds ≡ true → chosen l n (view S l j) ≡ some c → Open d₀ o₀ n₀ i (record { at = d; syms = phrase o n ∷ s } ∷ ks) j a → Open d₀ o₀ n₀ i (record { at = inside o d; syms = c } ∷ record { at = d; syms = s } ∷ ks) j a
      within {s = s} {o = o} {n = n} c h e x = record {
        close = λ z b r. x.close z b (r.3.0, node n c r.1 r.3.1, reads_phrase e r.2 r.3.2, subst (λ (y : Draft). Runs ks r.3.0 z y b) (sym (write_rest n c r.1 r.3.1 a h)) r.3.3);
        halt = λ z y f. elim f [ inl q ↦ x.halt z y (inl (stops_in e q)) | inr q ↦ within_it z y q ];
      }
        where
          within_it : (z : S.Place) (y : Why) → (q : (m : S.Place) × (p : Parts) × Run S l (inside o d) c j m p × Fails (record { at = d; syms = s } ∷ ks) m z y) → Refused S l d₀ o₀ n₀ i z y
          within_it z y q = elim q.3 [ inl g ↦ x.halt z y (inl (stops_after e q.2 g)) | inr g ↦ x.halt z y (inr (g.0, node n c q.1 g.1, reads_phrase e q.2 g.2, g.3)) ]

      -- a phrase in it is read
      pub reads : {s : List Symbol} {o : Scope} {n : ℕ} {m : S.Place} {b : Draft} → one_of n rest_kinds ≡ false → Read S l d o n j m b → Open d₀ o₀ n₀ i (record { at = d; syms = phrase o n ∷ s } ∷ ks) j a → Open d₀ o₀ n₀ i (record { at = d; syms = s } ∷ ks) m (with_phrase b a)
      reads {n = n} {b = b₀} h u x = record {
        close = λ z b r. x.close z b (r.0, node n u.alternative u.parts r.1, reads_phrase u.picks u.run r.2, subst (λ (y : Draft). Runs ks r.0 z y b) (sym (write_phrase n u.alternative u.parts r.1 a h)) (subst (λ (y : Draft). Runs ks r.0 z (write r.1 (with_phrase y a)) b) (sym u.draft) r.3));
        halt = λ z y f. elim f [ inl q ↦ x.halt z y (inl (stops_after u.picks u.run q)) | inr q ↦ x.halt z y (inr (q.0, node n u.alternative u.parts q.1, reads_phrase u.picks u.run q.2, q.3)) ];
      }

      -- nothing is left behind a rest that is the last of a rest
      pub tail : {o : Scope} {n : ℕ} {d' : Counts} → Open d₀ o₀ n₀ i (record { at = d; syms = phrase o n ∷ [] } ∷ record { at = d'; syms = [] } ∷ ks) j a → Open d₀ o₀ n₀ i (record { at = d; syms = phrase o n ∷ [] } ∷ ks) j a
      unfolding write
      tail x = record {
        close = λ z b r. x.close z b (r.0, r.1, r.2, (r.0, end, reads_end, r.3));
        halt = λ z y f. elim f [ inl q ↦ x.halt z y (inl q) | inr q ↦ x.halt z y (inr (q.0, q.1, q.2, inr (q.0, end, reads_end, q.3))) ];
      }

      -- refusals
      pub wants : {s : List Symbol} {g : Ask} {w : List ℕ} → T (lacks (S.look j) w) → Open d₀ o₀ n₀ i (record { at = d; syms = token g w ∷ s } ∷ ks) j a → Refused S l d₀ o₀ n₀ i j (want w)
      wants h x = x.halt j _ (inl (stops_want h))

      pub passes : {s : List Symbol} {g : Ask} {w : List ℕ} {t : Token} {k : S.Place} → S.look j ≡ found t k → T (one_of t.word w) → T (not (kept g d t)) → Open d₀ o₀ n₀ i (record { at = d; syms = token g w ∷ s } ∷ ks) j a → Refused S l d₀ o₀ n₀ i j (past g)
      passes e m h x = x.halt j _ (inl (stops_past e m h))

      pub lost : {s : List Symbol} {o : Scope} {n : ℕ} → chosen l n (view S l j) ≡ none → Open d₀ o₀ n₀ i (record { at = d; syms = phrase o n ∷ s } ∷ ks) j a → Refused S l d₀ o₀ n₀ i j (amiss n)
      lost e x = x.halt j _ (inl (stops_none e))

      pub fails : {s : List Symbol} {o : Scope} {n : ℕ} {z : S.Place} {y : Why} → Refused S l d o n j z y → Open d₀ o₀ n₀ i (record { at = d; syms = phrase o n ∷ s } ∷ ks) j a → Refused S l d₀ o₀ n₀ i z y
      fails {z = z} {y = y} f x = x.halt z y (inl (first_stop f))

      -- a phrase that stands first is looked at apart from what comes behind it
      pub apart : {s : List Symbol} {o : Scope} {n : ℕ} → Open d₀ o₀ n₀ i (record { at = d; syms = phrase o n ∷ s } ∷ ks) j a → Open d₀ o₀ n₀ i (record { at = d; syms = phrase o n ∷ [] } ∷ record { at = d; syms = s } ∷ ks) j a
      apart {s = s} {o = o} {n = n} x = record {
        close = λ z b r. let k = join r.2 r.3.2 a in x.close z b (r.3.0, k.0, k.1, subst (λ (y : Draft). Runs ks r.3.0 z y b) (sym k.2) r.3.3);
        halt = λ z y f. elim f [ inl q ↦ x.halt z y (inl (first_stop q)) | inr q ↦ later z y q ];
      }
        where
          join : {m m' : S.Place} {p q : Parts} → Run S l d (phrase o n ∷ []) j m p → Run S l d s m m' q → (a : Draft) → (t : Parts) × Run S l d (phrase o n ∷ s) j m' t × (write t a ≡ write q (write p a))
          join {q = q} (reads_phrase {n = n'} {a = c} {p = p} e t reads_end) u a = (node n' c p q, reads_phrase e t u, write_two n' c p q a)

          later : (z : S.Place) (y : Why) → (q : (m : S.Place) × (p : Parts) × Run S l d (phrase o n ∷ []) j m p × Fails (record { at = d; syms = s } ∷ ks) m z y) → Refused S l d₀ o₀ n₀ i z y
          later z y q = elim q.3 [ inl g ↦ x.halt z y (inl (then_stop q.2 g)) | inr g ↦ (let k = join q.2 g.2 a in x.halt z y (inr (g.0, k.0, k.1, g.3))) ]

      -- a phrase that may be a path is read, and no sign stands behind it unless it is one
      pub forks : {s : List Symbol} {n n₁ : ℕ} {m : S.Place} {b : Draft} → one_of n rest_kinds ≡ false → (u : Read S l d same n j m b) → T (may S l (l.is_path u.parts) (peek S l m)) → Open d₀ o₀ n₀ i (record { at = d; syms = left_side n n₁ ∷ s } ∷ ks) j a → Open d₀ o₀ n₀ i (record { at = d; syms = cond (l.is_path u.parts) (phrase same n₁ ∷ s) s } ∷ ks) m (with_phrase b a)
      unfolding inside
      forks {n = n} {b = b₀} h u v x = record {
        close = λ z b r. x.close z b (r.0, node n u.alternative u.parts r.1, reads_side u.picks u.run v r.2, subst (λ (y : Draft). Runs ks r.0 z y b) (sym (write_phrase n u.alternative u.parts r.1 a h)) (subst (λ (y : Draft). Runs ks r.0 z (write r.1 (with_phrase y a)) b) (sym u.draft) r.3));
        halt = λ z y f. elim f [ inl q ↦ x.halt z y (inl (stops_side_after u.picks u.run v q)) | inr q ↦ x.halt z y (inr (q.0, node n u.alternative u.parts q.1, reads_side u.picks u.run v q.2, q.3)) ];
      }

      -- 8: a sign stands behind what is no path
      pub signed : {s : List Symbol} {n n₁ : ℕ} {m : S.Place} {b : Draft} → (u : Read S l d same n j m b) → T (not (may S l (l.is_path u.parts) (peek S l m))) → Open d₀ o₀ n₀ i (record { at = d; syms = left_side n n₁ ∷ s } ∷ ks) j a → Refused S l d₀ o₀ n₀ i m (left u.parts)
      unfolding inside
      signed {m = m} u v x = x.halt m _ (inl (stops_left u.picks u.run v))

      -- no token of these classes stands there
      pub clear : {s : List Symbol} {w : List ℕ} → T (not (one_of (peek S l j) w)) → Open d₀ o₀ n₀ i (record { at = d; syms = unless w ∷ s } ∷ ks) j a → Open d₀ o₀ n₀ i (record { at = d; syms = s } ∷ ks) j a
      clear h x = record { close = λ z b r. x.close z b (r.0, r.1, reads_unless h r.2, r.3); halt = λ z y f. elim f [ inl q ↦ x.halt z y (inl (stops_unless h q)) | inr q ↦ x.halt z y (inr (q.0, q.1, reads_unless h q.2, q.3)) ] }

-- what a phrase is, from what it has: the row that it leaves, and whether that is a path's
module _ (S : Stream) (tests : Bool) {d : Counts} {o : Scope} {n : ℕ} {i z : S.Place} {b : Draft} (u : Read S (roto tests) d o n i z b) where
  pub row_left : phrase_row u.parts ≡ first_row b.items
  unfolding phrase_row
  row_left = ap (λ (x : Draft). first_row x.items) u.draft

  pub path_left : (roto tests).is_path u.parts ≡ eqb (first_row b.items).kind 2
  unfolding roto is_path
  path_left = ap (λ (x : Row). eqb x.kind 2) row_left
