-- What the computed reader hands back is a run or a refusal.
use mathlib.Core.Path.{◌≡◌, refl, sym, subst, ◌∙◌}
use mathlib.Core.List.{List, [], ◌∷◌}
use mathlib.Core.Bool.{Bool, true, false, not, cond}
use mathlib.Core.Option.{Option, none, some}
use Prim.Native.Nat.{ℕ, suc, zero}
use lib.Dec.{T, eqb}
use native.Mathlib.Omega.{arith}
use Rattle.grammar.specs.Grammar.{has_value, same, Look, found, over, wrong, Stream, Symbol, token, phrase, unless, note, left_side, text, Token, Parts, leaf, node, mark, Language, one_of}
use Rattle.grammar.specs.Limits.{Counts, zeros, after, inside, kept}
use Rattle.grammar.specs.Choice.{chosen}
use Rattle.grammar.specs.Readings.{peek, reads_end, reads_token, reads_phrase, reads_unless, reads_note, reads_side, reads_text}
use Rattle.grammar.specs.Runs.{view, may, Run}
use Rattle.grammar.specs.Refusals.{Why, want, amiss, past, barred, left, unread, ill, said, lacks, torn, Stops, stops_want, stops_past, stops_token, stops_none, stops_in, stops_after, stops_barred, stops_unless, stops_note, stops_side_none, stops_side_in, stops_left, stops_side_after, stops_torn, stops_ill, stops_text}
use Rattle.grammar.specs.Compute.{Out, done, fail, spent, and_then, picked, asked, taken, run, at_stop, answer_of, answer}
use Rattle.grammar.specs.Rows.{rows}
use Rattle.grammar.specs.Language.{roto, start}
use Rattle.grammar.specs.Answers.{Answer, accepted, refused, Answers, accepts, stops, leaves}
use Rattle.grammar.proofs.Demand.{run_reads}

module _ (S : Stream) where
  abbrev O : Type 0
  O = Out S.Place

  by_after : (P : O → Type 0) (o : O) (f : Parts → S.Place → O) → ((p : Parts) (m : S.Place) → o ≡ done p m → P (f p m)) → ((z : S.Place) (y : Why) → o ≡ fail z y → P (fail z y)) → P spent → P (and_then S o f)
  by_after P (done p r) f a b c = a p r refl
  by_after P (fail z y) f a b c = b z y refl
  by_after P spent f a b c = c

  by_picked : (P : O → Type 0) (o : Option (List Symbol)) (x : O) (f : List Symbol → O) → (o ≡ none → P x) → ((a : List Symbol) → o ≡ some a → P (f a)) → P (picked S o x f)
  by_picked P none x f a b = a refl
  by_picked P (some s) x f a b = b s refl

  by_asked : (P : O → Type 0) (b : Bool) (f : Unit {0} → O) (x : O) → (T b → P (f tt)) → (T (not b) → P x) → P (asked S b f x)
  by_asked P true f x a b = a tt
  by_asked P false f x a b = b tt

  by_taken : (P : O → Type 0) (k : Look S.Place) (o : O) (f : Token → S.Place → O) → ((x : Token) (j : S.Place) → k ≡ found x j → P (f x j)) → (((w : List ℕ) → T (lacks k w)) → P o) → P (taken S k o f)
  by_taken P (found x j) o f a b = a x j refl
  by_taken P over o f a b = b (λ w. tt)
  by_taken P (wrong n u v) o f a b = b (λ w. tt)

  by_piece : (P : O → Type 0) (k : Look S.Place) (o : O) (f : Token → S.Place → O) → ((x : Token) (j : S.Place) → k ≡ found x j → P (f x j)) → (T (torn k) → P o) → P (taken S k o f)
  by_piece P (found x j) o f a b = a x j refl
  by_piece P over o f a b = b tt
  by_piece P (wrong n u v) o f a b = b tt

  module _ (l : Language) where
    abbrev pub Means : Counts → List Symbol → S.Place → Out S.Place → Type 0
    Means d s i (done p r) = Run S l d s i r p
    Means d s i (fail z y) = Stops S l d s i z y
    Means d s i spent = Unit {0}

    T_not_not : (b : Bool) → T (not (not b)) → T b
    T_not_not true t = tt
    T_not_not false t = t

    lacked : (k : Look S.Place) (x : Token) (j : S.Place) (w : List ℕ) → k ≡ found x j → T (not (one_of x.word w)) → T (lacks k w)
    lacked k x j w e h = subst (λ (y : Look S.Place). T (lacks y w)) (sym e) h

    pub run_means : (k : ℕ) (d : Counts) (s : List Symbol) (i : S.Place) → Means d s i (run S l k d s i)
    unfolding run
    run_means zero d s i = tt
    run_means (suc k) d [] i = reads_end
    run_means (suc k) d (token g w ∷ s) i =
        let P = Means d (token g w ∷ s) i in
        by_taken P (S.look i) (fail i (want w)) (λ x j. asked S (one_of x.word w) (λ u. asked S (kept g d x) (λ v. and_then S (run S l k (after g d) s j) (λ p r. done (leaf x p) r)) (fail i (past g))) (fail i (want w)))
        (λ x j e. by_asked P (one_of x.word w) (λ u. asked S (kept g d x) (λ v. and_then S (run S l k (after g d) s j) (λ p r. done (leaf x p) r)) (fail i (past g))) (fail i (want w))
        (λ h. by_asked P (kept g d x) (λ v. and_then S (run S l k (after g d) s j) (λ p r. done (leaf x p) r)) (fail i (past g))
        (λ h'. by_after P (run S l k (after g d) s j) (λ p r. done (leaf x p) r)
        (λ p r q. reads_token e h h' (subst (Means (after g d) s j) q (run_means k (after g d) s j)))
        (λ z y q. stops_token e h h' (subst (Means (after g d) s j) q (run_means k (after g d) s j)))
        tt)
        (λ h'. stops_past e h h'))
        (λ h. stops_want (lacked (S.look i) x j w e h)))
        (λ h. stops_want (h w))
    run_means (suc k) d (phrase o n ∷ s) i =
        let P = Means d (phrase o n ∷ s) i in
        by_picked P (chosen l n (view S l i)) (fail i (amiss n)) (λ a. and_then S (run S l k (inside o d) a i) λ p m. and_then S (run S l k d s m) λ q r. done (node n a p q) r)
        (λ e. stops_none e)
        λ a e. by_after P (run S l k (inside o d) a i) (λ p m. and_then S (run S l k d s m) λ q r. done (node n a p q) r)
        (λ p m g. by_after P (run S l k d s m) (λ q r. done (node n a p q) r)
        (λ q r g'. reads_phrase e (subst (Means (inside o d) a i) g (run_means k (inside o d) a i)) (subst (Means d s m) g' (run_means k d s m)))
        (λ z y g'. stops_after e (subst (Means (inside o d) a i) g (run_means k (inside o d) a i)) (subst (Means d s m) g' (run_means k d s m)))
        tt)
        (λ z y g. stops_in e (subst (Means (inside o d) a i) g (run_means k (inside o d) a i)))
        tt
    run_means (suc k) d (unless w ∷ s) i =
        by_asked (Means d (unless w ∷ s) i) (not (one_of (peek S l i) w)) (λ u. run S l k d s i) (fail i barred)
        (λ h. pass h (run S l k d s i) (run_means k d s i))
        (λ h. stops_barred (T_not_not (one_of (peek S l i) w) h))
      where
        pass : T (not (one_of (peek S l i) w)) → (o : Out S.Place) → Means d s i o → Means d (unless w ∷ s) i o
        pass h (done p r) t = reads_unless h t
        pass h (fail z y) t = stops_unless h t
        pass h spent t = tt
    run_means (suc k) d (note j ∷ s) i =
        let ih = run_means k d s i in
        by_after (Means d (note j ∷ s) i) (run S l k d s i) (λ p r. done (mark j p) r) (λ p r e. reads_note (subst (Means d s i) e ih)) (λ z y e. stops_note (subst (Means d s i) e ih)) tt
    run_means (suc k) d (left_side n n₁ ∷ s) i =
        let P = Means d (left_side n n₁ ∷ s) i in
        by_picked P (chosen l n (view S l i)) (fail i (amiss n)) (λ a. and_then S (run S l k d a i) λ p m. asked S (may S l (l.is_path p) (peek S l m)) (λ u. and_then S (run S l k d (cond (l.is_path p) (phrase same n₁ ∷ s) s) m) λ q r. done (node n a p q) r) (fail m (left p)))
        (λ e. stops_side_none e)
        λ a e. by_after P (run S l k d a i) (λ p m. asked S (may S l (l.is_path p) (peek S l m)) (λ u. and_then S (run S l k d (cond (l.is_path p) (phrase same n₁ ∷ s) s) m) λ q r. done (node n a p q) r) (fail m (left p)))
        (λ p m g.
        let s' = cond (l.is_path p) (phrase same n₁ ∷ s) s in
        by_asked P (may S l (l.is_path p) (peek S l m)) (λ u. and_then S (run S l k d s' m) λ q r. done (node n a p q) r) (fail m (left p))
        (λ h. by_after P (run S l k d s' m) (λ q r. done (node n a p q) r)
        (λ q r g'. reads_side e (subst (Means d a i) g (run_means k d a i)) h (subst (Means d s' m) g' (run_means k d s' m)))
        (λ z y g'. stops_side_after e (subst (Means d a i) g (run_means k d a i)) h (subst (Means d s' m) g' (run_means k d s' m)))
        tt)
        (λ h. stops_left e (subst (Means d a i) g (run_means k d a i)) h))
        (λ z y g. stops_side_in e (subst (Means d a i) g (run_means k d a i)))
        tt
    run_means (suc k) d (text n ∷ s) i =
        let P = Means d (text n ∷ s) i in
        by_piece P (S.piece i) (fail i unread) (λ x j. asked S (kept has_value d x) (λ v. and_then S (run S l k (after has_value d) (cond (eqb x.word l.hole) (phrase same n ∷ s) s) j) (λ p r. done (leaf x p) r)) (fail i (ill x)))
        (λ x j e.
        let s' = cond (eqb x.word l.hole) (phrase same n ∷ s) s in
        by_asked P (kept has_value d x) (λ v. and_then S (run S l k (after has_value d) s' j) (λ p r. done (leaf x p) r)) (fail i (ill x))
        (λ h. by_after P (run S l k (after has_value d) s' j) (λ p r. done (leaf x p) r)
        (λ p r q. reads_text e h (subst (Means (after has_value d) s' j) q (run_means k (after has_value d) s' j)))
        (λ z y q. stops_text e h (subst (Means (after has_value d) s' j) q (run_means k (after has_value d) s' j)))
        tt)
        (λ h. stops_ill e h))
        (λ h. stops_torn h)

-- a computed answer is the source's answer
module _ (S : Stream) (tests tree : Bool) (len fuel : ℕ) where
  unfoldable is_more : Look S.Place → Bool
  is_more (found x j) = true
  is_more over = false
  is_more (wrong n a b) = true

  not_over : (r : S.Place) (k : Look S.Place) → S.look r ≡ k → T (is_more k) → S.look r ≡ over → ⊥
  unfolding is_more
  not_over r k e h q = subst (λ (y : Look S.Place). T (is_more y)) (sym e ∙ q) h

  stop_means : {i : S.Place} {a : Answer} (p : Parts) (r : S.Place) (k : Look S.Place) → S.look r ≡ k → Run S (roto tests) zeros (start tree) i r p → at_stop S tests tree len p r k ≡ some a → Answers S tests tree len i a
  unfolding is_more
  stop_means {i} {a} p r over e t q = let z : accepted (rows tree len p) ≡ a = cc in subst (λ (o : Answer). Answers S tests tree len i o) z (accepts (run_reads S tests tree t e))
  stop_means {i} {a} p r (found x j) e t q = let z : refused (said len (S.look r) (want [])) ≡ a = cc in subst (λ (o : Answer). Answers S tests tree len i o) z (leaves t (not_over r (found x j) e tt))
  stop_means {i} {a} p r (wrong n u v) e t q = let z : refused (said len (S.look r) (want [])) ≡ a = cc in subst (λ (o : Answer). Answers S tests tree len i o) z (leaves t (not_over r (wrong n u v) e tt))

  out_means : {i : S.Place} {a : Answer} (o : Out S.Place) → Means S (roto tests) zeros (start tree) i o → answer_of S tests tree len o ≡ some a → Answers S tests tree len i a
  out_means (done p r) t q = stop_means p r (S.look r) refl t q
  out_means {i} {a} (fail z y) f q = let k : refused (said len (S.look z) y) ≡ a = cc in subst (λ (o : Answer). Answers S tests tree len i o) k (stops f)
  out_means spent t q = let z : ◌≡◌ {A = ℕ} 0 1 = cc in absurd (omega arith)

  pub answer_means : {i : S.Place} {a : Answer} → answer S tests tree len fuel i ≡ some a → Answers S tests tree len i a
  unfolding answer
  answer_means {i} q = out_means (run S (roto tests) fuel zeros (start tree) i) (run_means S (roto tests) fuel zeros (start tree) i) q
