-- Demand 3, for trees and for single expressions, with tests and without, over any source of tokens.
use mathlib.Core.Path.{◌≡◌, refl, sym, ap, subst, ◌∙◌}
use mathlib.Core.List.{List, [], ◌∷◌}
use mathlib.Core.Bool.{Bool, true, false, ◌&&◌, ◌||◌}
use mathlib.Core.Logic.{◌⊎◌, inl, inr}
use Prim.Native.Nat.{ℕ, ◌+◌, ◌*◌, ◌≤◌, ◌<◌}
use lib.Dec.{T, eqb, leb}
use lib.ListN.{length}
use native.Mathlib.Omega.{arith}
use Rattle.grammar.specs.Words.{the_end}
use Rattle.grammar.specs.Grammar.{Ask, plain, has_value, opens_bracket, closes_bracket, is_prefix, is_head, is_else_if, Token, Look, found, over, wrong, Stream, Parts, Language, View}
use Rattle.grammar.specs.Limits.{zeros}
use Rattle.grammar.specs.Choice.{eqv, among, see}
use Rattle.grammar.specs.Readings.{Text}
use Rattle.grammar.specs.Runs.{viewed, view, Run}
use Rattle.grammar.specs.Rows.{Row, rows, token_nodes, nodes}
use Rattle.grammar.specs.Refusals.{Why, want, amiss, past, barred, left, unread, ill, Refusal, ask_number, said_at, said_text, said}
use Rattle.grammar.specs.Language.{roto, goal, start}
use Rattle.grammar.specs.Answers.{Answer, accepted, refused, Answers, accepts, stops, leaves}
use Rattle.grammar.proofs.Core.{sound, one_run, complete, eqv_refl}
use Rattle.grammar.proofs.Bools.{or_l}
use Rattle.grammar.proofs.Refused.{not_both, one_stop}
use Rattle.grammar.proofs.Checks.{roto_good, goal_closed, roto_light, roto_grounded, roto_full}
use Rattle.grammar.proofs.Decided.{Ran, Decided, decided}
use Rattle.grammar.proofs.Count.{tree_nodes, rows_nodes, nodes_bound, up}

abbrev pub last : Language → List View
last l = see l the_end 0 ∷ []

pub at_end : (S : Stream) (l : Language) (r : S.Place) → S.look r ≡ over → T (among (view S l r) (last l))
at_end S l r e = subst (λ (k : Look S.Place). T (among (viewed S l k) (last l))) (sym e) (or_l (eqv (see l the_end 0) (see l the_end 0)) false (eqv_refl (see l the_end 0)))

-- "the first of 4 to 9 and 11"
abbrev pub is_refusal : ℕ → Bool
is_refusal n = leb 4 n && (leb n 9 || eqb n 11)

pub ask_7_or_9 : (g : Ask) → (ask_number g ≡ 7) ⊎ (ask_number g ≡ 9)
ask_7_or_9 plain = inr refl
ask_7_or_9 has_value = inl refl
ask_7_or_9 opens_bracket = inr refl
ask_7_or_9 closes_bracket = inr refl
ask_7_or_9 is_prefix = inr refl
ask_7_or_9 is_head = inr refl
ask_7_or_9 is_else_if = inr refl

refusal_ask : (g : Ask) → T (is_refusal (ask_number g))
refusal_ask g = elim (ask_7_or_9 g) [ inl e ↦ subst (λ (n : ℕ). T (is_refusal n)) (sym e) tt | inr e ↦ subst (λ (n : ℕ). T (is_refusal n)) (sym e) tt ]

refusal_at : (len : ℕ) (x : Token) (y : Why) → T (is_refusal (said_at len x y).number)
refusal_at len x (want w) = tt
refusal_at len x (amiss n) = tt
refusal_at len x (past g) = refusal_ask g
refusal_at len x barred = tt
refusal_at len x (left p) = tt
refusal_at len x unread = tt
refusal_at len x (ill t) = tt

refusal_text : (len : ℕ) (y : Why) (r : Refusal) → T (is_refusal r.number) → T (is_refusal (said_text len y r).number)
refusal_text len (want w) r h = h
refusal_text len (amiss n) r h = h
refusal_text len (past g) r h = h
refusal_text len barred r h = h
refusal_text len (left p) r h = h
refusal_text len unread r h = tt
refusal_text len (ill t) r h = tt

refusal_said : {P : Type 0} (len : ℕ) (k : Look P) (y : Why) → ((n a b : ℕ) → k ≡ wrong n a b → T (is_refusal n)) → T (is_refusal (said len k y).number)
refusal_said len (found x j) y h = refusal_at len x y
refusal_said len over y h = refusal_text len y (record { number = 11; start = len; end = len }) tt
refusal_said len (wrong n a b) y h = refusal_text len y (record { number = n; start = a; end = b }) (h n a b refl)

module _ (S : Stream) (tests tree : Bool) where
  -- a reader that reads all of a source: what it reads is the source's reading, and it reads all that has one
  pub run_reads : {i r : S.Place} {p : Parts} → Run S (roto tests) zeros (start tree) i r p → S.look r ≡ over → Text S (roto tests) (goal tree) i p
  run_reads {r = r} t e = record { stop = r; reads = sound S (roto tests) t; whole = e }

  pub text_runs : {i : S.Place} {p : Parts} (x : Text S (roto tests) (goal tree) i p) → Run S (roto tests) zeros (start tree) i x.stop p
  text_runs x = (complete S (roto tests) (roto_good tests) x.reads (last (roto tests)) (goal_closed tests tree) (at_end S (roto tests) x.stop x.whole)).0

  -- there is only one reading, and one table
  pub the_reading : {i : S.Place} {p q : Parts} → Text S (roto tests) (goal tree) i p → Text S (roto tests) (goal tree) i q → p ≡ q
  the_reading x y = (one_run S (roto tests) (text_runs x) (text_runs y)).1

  module _ (len : ℕ) where
    pub the_rows : {i : S.Place} {p q : Parts} → Text S (roto tests) (goal tree) i p → Text S (roto tests) (goal tree) i q → rows tree len p ≡ rows tree len q
    the_rows x y = ap (rows tree len) (the_reading x y)

    -- accepted exactly when there is a reading, with that reading's rows
    pub reading_accepted : {i : S.Place} {p : Parts} → Text S (roto tests) (goal tree) i p → Answers S tests tree len i (accepted (rows tree len p))
    reading_accepted = accepts

    pub accepted_reading : {i : S.Place} {a : Answer} {t : List Row} → Answers S tests tree len i a → a ≡ accepted t → (p : Parts) × Text S (roto tests) (goal tree) i p × (t ≡ rows tree len p)
    accepted_reading (accepts {p = p} x) e = (p, x, cc)
    accepted_reading (stops f) e = let z : ◌≡◌ {A = ℕ} 0 1 = cc in absurd (omega arith)
    accepted_reading (leaves u h) e = let z : ◌≡◌ {A = ℕ} 0 1 = cc in absurd (omega arith)

    -- what is refused has no reading
    pub refused_none : {i : S.Place} {a : Answer} {p : Parts} (r : Refusal) → Answers S tests tree len i a → a ≡ refused r → Text S (roto tests) (goal tree) i p → ⊥
    refused_none r (accepts x) e y = let z : ◌≡◌ {A = ℕ} 0 1 = cc in omega arith
    refused_none r (stops f) e y = not_both S (roto tests) (text_runs y) f
    refused_none r (leaves u h) e y = h (ap S.look (one_run S (roto tests) u (text_runs y)).0 ∙ y.whole)

    -- the number of a refusal
    pub refused_number : ((i : S.Place) (n a b : ℕ) → S.look i ≡ wrong n a b → T (is_refusal n)) → {i : S.Place} {a : Answer} (r : Refusal) → Answers S tests tree len i a → a ≡ refused r → T (is_refusal r.number)
    refused_number h r (accepts x) e = let z : ◌≡◌ {A = ℕ} 0 1 = cc in absurd (omega arith)
    refused_number h r (stops {z = z} {y = y} f) e = let q : said len (S.look z) y ≡ r = cc in subst (λ (x : Refusal). T (is_refusal x.number)) q (refusal_said len (S.look z) y (h z))
    refused_number h r (leaves {r = z} u n) e = let q : said len (S.look z) (want []) ≡ r = cc in subst (λ (x : Refusal). T (is_refusal x.number)) q (refusal_said len (S.look z) (want []) (h z))

    -- the complete answer is determined
    pub one_answer : {i : S.Place} {a b : Answer} → Answers S tests tree len i a → Answers S tests tree len i b → a ≡ b
    one_answer (accepts x) (accepts y) = ap (λ (p : Parts). accepted (rows tree len p)) (the_reading x y)
    one_answer (accepts x) (stops f) = absurd (not_both S (roto tests) (text_runs x) f)
    one_answer (accepts x) (leaves u h) = absurd (h (ap S.look (one_run S (roto tests) u (text_runs x)).0 ∙ x.whole))
    one_answer (stops f) (accepts x) = absurd (not_both S (roto tests) (text_runs x) f)
    one_answer (stops {z = z} {y = y} f) (stops {z = z'} {y = y'} f') = let k = one_stop S (roto tests) f f' in ap (λ (x : S.Place). refused (said len (S.look x) y)) k.0 ∙ ap (λ (x : Why). refused (said len (S.look z') x)) k.1
    one_answer (stops f) (leaves u h) = absurd (not_both S (roto tests) u f)
    one_answer (leaves u h) (accepts x) = absurd (h (ap S.look (one_run S (roto tests) u (text_runs x)).0 ∙ x.whole))
    one_answer (leaves u h) (stops f) = absurd (not_both S (roto tests) u f)
    one_answer (leaves u h) (leaves u' h') = ap (λ (x : S.Place). refused (said len (S.look x) (want []))) (one_run S (roto tests) u u').0

    -- as many rows as nodes, the tree itself among them
    pub row_count : (p : Parts) → length (rows tree len p) ≡ nodes p + tree_nodes tree
    row_count = rows_nodes tree len

    -- 1.5 rows a byte and one more, where a token is a byte or more and so is a piece of text that has a row
    module _ (ahead : S.Place → ℕ) (tokens_take : (x : Token) (i j : S.Place) → S.look i ≡ found x j → ahead j < ahead i) (pieces_take : (x : Token) (i j : S.Place) → S.piece i ≡ found x j → ahead j + token_nodes x ≤ ahead i) where
      goal_up : (b c : Bool) → up (roto b) (start c) + 2 * tree_nodes c ≤ 2
      unfolding roto
      goal_up true true = omega arith
      goal_up true false = omega arith
      goal_up false true = omega arith
      goal_up false false = omega arith

      pub row_bound : {i : S.Place} {p : Parts} → Text S (roto tests) (goal tree) i p → 2 * length (rows tree len p) ≤ 3 * ahead i + 2
      row_bound {p = p} x =
          let h = nodes_bound (roto tests) (roto_light tests) S ahead tokens_take pieces_take x.reads tt in
          let k = row_count p in
          let u = goal_up tests tree in
          omega arith

-- every source has an answer: a reader comes to an end
module _ (S : Stream) (tests tree : Bool) (len : ℕ) (ahead : S.Place → ℕ) (tokens_take : (x : Token) (i j : S.Place) → S.look i ≡ found x j → ahead j < ahead i) (pieces_keep : (x : Token) (i j : S.Place) → S.piece i ≡ found x j → ahead j ≤ ahead i) where
  pub an_answer : (i : S.Place) → (a : Answer) × Answers S tests tree len i a
  an_answer i = go (decided (roto tests) (roto_grounded tests) (roto_full tests) S ahead tokens_take pieces_keep zeros (start tree) i)
    where
      more : Look S.Place → Bool
      more (found x j) = true
      more over = false
      more (wrong n a b) = true

      at : (r : Ran (roto tests) (roto_grounded tests) (roto_full tests) S ahead tokens_take pieces_keep zeros (start tree) i) (k : Look S.Place) → S.look r.to ≡ k → (a : Answer) × Answers S tests tree len i a
      at r over e = (accepted (rows tree len r.parts), accepts (run_reads S tests tree r.run e))
      at r (found x j) e = (refused (said len (S.look r.to) (want [])), leaves r.run (λ q. subst (λ (k : Look S.Place). T (more k)) (sym e ∙ q) tt))
      at r (wrong n u v) e = (refused (said len (S.look r.to) (want [])), leaves r.run (λ q. subst (λ (k : Look S.Place). T (more k)) (sym e ∙ q) tt))

      go : Decided (roto tests) (roto_grounded tests) (roto_full tests) S ahead tokens_take pieces_keep zeros (start tree) i → (a : Answer) × Answers S tests tree len i a
      go (inl r) = at r (S.look r.to) refl
      go (inr r) = (refused (said len (S.look r.at) r.why), stops r.stop)
