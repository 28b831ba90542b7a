-- C-24, its second half: no text of the grammar begins with what stands before a refused token and with that token.
use mathlib.Core.Path.{◌≡◌, refl, sym, ◌∙◌, ap, subst}
use mathlib.Core.List.{List, [], ◌∷◌}
use mathlib.Core.Bool.{Bool, true, false, not, ◌&&◌, ◌||◌, beq, cond}
use mathlib.Core.Option.{Option, none, some}
use mathlib.Core.Logic.{◌⊎◌, inl, inr}
use Prim.Native.Nat.{ℕ, suc, zero, ◌≤◌, ◌<◌}
use lib.Dec.{T, eqb, T_not, eqb→eq}
use native.Mathlib.Omega.{arith}
use Rattle.grammar.specs.Grammar.{Ask, plain, has_value, opens_bracket, closes_bracket, is_prefix, is_head, is_else_if, same, found, Stream, Symbol, token, phrase, unless, note, left_side, text, Rule, Token, Parts, mark, Pair, View, one, pair, Language, one_of, alternatives}
use Rattle.grammar.specs.Limits.{Counts, inside, kept}
use Rattle.grammar.specs.Choice.{among, flag, two, see, follows, first, choose, chosen_from, chosen, or_else, spare, idle}
use Rattle.grammar.specs.Readings.{word_of_lem, peek, reads_end, reads_token, reads_phrase, reads_unless, reads_note, reads_side, reads_text, ReadingBy}
use Rattle.grammar.specs.Runs.{viewed, view, may, Run, RunBy}
use Rattle.grammar.specs.Refusals.{Why, want, amiss, past, barred, left, unread, ill, torn, Stops, stops_want, stops_past, stops_token, stops_none, stops_in, stops_after, stops_barred, stops_unless, stops_note, stops_side_none, stops_side_in, stops_left, stops_side_after, stops_torn, stops_ill, stops_text}
use Rattle.grammar.proofs.Bools.{and_l, and_r, or_cases}
use Rattle.grammar.proofs.Pass.{rules_pass, rule_passes}
use Rattle.grammar.proofs.Good.{sure, closed, all_good}
use Rattle.grammar.proofs.Core.{see_alone, complete}
use Rattle.grammar.proofs.Refused.{untorn, has, clash}

abbrev pub given : Option (List Symbol) → (List Symbol → Bool) → Bool
given none g = false
given (some a) g = g a

given_some : (o : Option (List Symbol)) (g : List Symbol → Bool) (a : List Symbol) → T (given o g) → o ≡ some a → T (g a)
given_some o g a h e = subst (λ (x : Option (List Symbol)). T (given x g)) e h

given_none : (o : Option (List Symbol)) (g : List Symbol → Bool) → T (given o g) → o ≡ none → ⊥
given_none o g h e = subst (λ (x : Option (List Symbol)). T (given x g)) e h

module _ (l : Language) where
  -- `eats k s c v`: a token of class c, seen as v, is taken before anything can be refused
  unfoldable pub eats : ℕ → List Symbol → ℕ → View → Bool
  eats zero s c v = false
  eats (suc k) [] c v = false
  eats (suc k) (token g w ∷ s) c v = sure g && one_of c w
  eats (suc k) (phrase o n ∷ s) c v = given (chosen l n v) (λ a. eats k a c v)
  eats (suc k) (unless w ∷ s) c v = not (one_of c w) && eats k s c v
  eats (suc k) (note j ∷ s) c v = eats k s c v
  eats (suc k) (text n ∷ s) c v = false
  eats (suc k) (left_side n n₁ ∷ s) c v = given (chosen l n v) (λ a. eats k a c v)

  abbrev pub eats_o : Option (List Symbol) → ℕ → View → Bool
  eats_o none c v = false
  eats_o (some a) c v = eats 64 a c v

  -- the same alternatives begin at the two views of a class, or the class is eaten at both
  abbrev pub alike : List (List Symbol) → List View → ℕ → Bool
  alike [] f c = true
  alike (a ∷ ss) f c = beq (among (one c) (first l a f)) (among (pair c) (first l a f)) && alike ss f c

  abbrev pub lacks : List (List Symbol) → List View → View → Bool
  lacks [] f v = true
  lacks (a ∷ ss) f v = not (among v (first l a f)) && lacks ss f v

  abbrev pub steady : List (List Symbol) → List View → ℕ → Bool
  steady ss f c = alike ss f c || ((lacks ss f (pair c) || lacks ss f (one c)) || (eats_o (chosen_from l ss f (one c)) c (one c) && eats_o (chosen_from l ss f (pair c)) c (pair c)))

  abbrev pub steadies : List Pair → List (List Symbol) → List View → Bool
  steadies [] ss f = true
  steadies (p ∷ ps) ss f = steady ss f p.this && steadies ps ss f

  abbrev pub all_steady : List Rule → Bool
  all_steady = rules_pass (λ n ss. steadies l.pairs ss (follows l n))

  alike_same : (ss : List (List Symbol)) (f : List View) (c : ℕ) → T (alike ss f c) → choose l ss f (pair c) ≡ choose l ss f (one c)
  alike_same [] f c t = refl
  alike_same (a ∷ ss) f c t = go (among (one c) (first l a f)) (among (pair c) (first l a f)) t (alike_same ss f c)
    where
      go : (x y : Bool) → T (beq x y && alike ss f c) → (T (alike ss f c) → choose l ss f (pair c) ≡ choose l ss f (one c)) → cond y (some a) (choose l ss f (pair c)) ≡ cond x (some a) (choose l ss f (one c))
      go true true t' h = refl
      go true false t' h = absurd t'
      go false true t' h = absurd t'
      go false false t' h = h t'

  lacks_none : (ss : List (List Symbol)) (f : List View) (v : View) → T (lacks ss f v) → choose l ss f v ≡ none
  lacks_none [] f v t = refl
  lacks_none (a ∷ ss) f v t = go (among v (first l a f)) t (lacks_none ss f v)
    where
      go : (x : Bool) → T (not x && lacks ss f v) → (T (lacks ss f v) → choose l ss f v ≡ none) → cond x (some a) (choose l ss f v) ≡ none
      go true t' h = absurd t'
      go false t' h = h t'

  chosen_even : (ss : List (List Symbol)) (f : List View) (c : ℕ) → chosen_from l ss f (one c) ≡ or_else (choose l ss f (one c)) (spare l ss f c)
  chosen_even ss f c = refl

  chosen_odd : (ss : List (List Symbol)) (f : List View) (c : ℕ) → chosen_from l ss f (pair c) ≡ or_else (choose l ss f (pair c)) (spare l ss f c)
  chosen_odd ss f c = refl

  or_alike : (x y i : Option (List Symbol)) → y ≡ x → or_else x (or_else x (or_else y i)) ≡ or_else y (or_else x (or_else y i))
  or_alike x y i e = rw e

  or_left : (x y i : Option (List Symbol)) → y ≡ none → or_else x (or_else x (or_else y i)) ≡ or_else y (or_else x (or_else y i))
  or_left none y i e = rw e
  or_left (some a) y i e = rw e

  or_right : (x y i : Option (List Symbol)) → x ≡ none → or_else x (or_else x (or_else y i)) ≡ or_else y (or_else x (or_else y i))
  or_right x none i e = rw e
  or_right x (some a) i e = rw e

  abbrev Either : ℕ → ℕ → View → View → Type 0
  Either n c v w = (chosen l n v ≡ chosen l n w) ⊎ (T (eats_o (chosen l n v) c v) × T (eats_o (chosen l n w) c w))

  steady_means : (n c : ℕ) → T (steady (alternatives l n) (follows l n) c) → Either n c (one c) (pair c)
  steady_means n c t = go (alike ss f c) (lacks ss f (pair c)) (lacks ss f (one c)) (alike_same ss f c) (lacks_none ss f (pair c)) (lacks_none ss f (one c)) t
    where
      ss : List (List Symbol)
      ss = alternatives l n

      f : List View
      f = follows l n

      same : or_else (choose l ss f (one c)) (spare l ss f c) ≡ or_else (choose l ss f (pair c)) (spare l ss f c) → Either n c (one c) (pair c)
      same e = inl (chosen_even ss f c ∙ e ∙ sym (chosen_odd ss f c))

      go : (x y z : Bool) → (T x → choose l ss f (pair c) ≡ choose l ss f (one c)) → (T y → choose l ss f (pair c) ≡ none) → (T z → choose l ss f (one c) ≡ none) → T (x || ((y || z) || (eats_o (chosen_from l ss f (one c)) c (one c) && eats_o (chosen_from l ss f (pair c)) c (pair c)))) → Either n c (one c) (pair c)
      go true y z a b d t' = same (or_alike (choose l ss f (one c)) (choose l ss f (pair c)) (idle ss) (a tt))
      go false true z a b d t' = same (or_left (choose l ss f (one c)) (choose l ss f (pair c)) (idle ss) (b tt))
      go false false true a b d t' = same (or_right (choose l ss f (one c)) (choose l ss f (pair c)) (idle ss) (d tt))
      go false false false a b d t' = inr (and_l (eats_o (chosen_from l ss f (one c)) c (one c)) (eats_o (chosen_from l ss f (pair c)) c (pair c)) t', and_r (eats_o (chosen_from l ss f (one c)) c (one c)) (eats_o (chosen_from l ss f (pair c)) c (pair c)) t')

  steadies_at : (ps : List Pair) (ss : List (List Symbol)) (f : List View) (c : ℕ) → T (steadies ps ss f) → T (two ps c) → T (steady ss f c)
  steadies_at [] ss f c t h = absurd h
  steadies_at (p ∷ ps) ss f c t h = elim (or_cases (eqb c p.this) (two ps c) h) [
    | inl e ↦ subst (λ (x : ℕ). T (steady ss f x)) (sym (eqb→eq c p.this e)) (and_l (steady ss f p.this) (steadies ps ss f) t)
    | inr k ↦ steadies_at ps ss f c (and_r (steady ss f p.this) (steadies ps ss f) t) k
  ]

  steadies_none : (ps : List Pair) (f : List View) → T (steadies ps [] f)
  steadies_none [] f = tt
  steadies_none (p ∷ ps) f = steadies_none ps f

  steady_in : (n c : ℕ) → T (all_steady l.rules) → T (two l.pairs c) → T (steady (alternatives l n) (follows l n) c)
  steady_in n c t h = steadies_at l.pairs (alternatives l n) (follows l n) c (rule_passes (λ m ss. steadies l.pairs ss (follows l m)) (λ m. steadies_none l.pairs (follows l m)) l.rules n t) h

  sure_ok : (g : Ask) (d : Counts) (x : Token) → T (sure g) → T (kept g d x)
  unfolding kept
  sure_ok plain d x h = tt
  sure_ok has_value d x h = absurd h
  sure_ok opens_bracket d x h = absurd h
  sure_ok closes_bracket d x h = tt
  sure_ok is_prefix d x h = absurd h
  sure_ok is_head d x h = absurd h
  sure_ok is_else_if d x h = absurd h

  -- a refusal for what the grammar says, not for a limit or a literal
  abbrev pub plainly : Why → Bool
  plainly (want w) = true
  plainly (amiss n) = true
  plainly (past g) = false
  plainly barred = true
  plainly (left p) = true
  plainly unread = false
  plainly (ill x) = false

  view_got : (S : Stream) {i j : S.Place} {x : Token} → S.look i ≡ found x j → view S l i ≡ see l x.word (peek S l j)
  view_got S e = ap (viewed S l) e

  peek_got : (S : Stream) {i j : S.Place} {x : Token} → S.look i ≡ found x j → peek S l i ≡ x.word
  peek_got S e = ap (word_of_lem S l) e

  -- a place in one source, another further on, and a place in another source: the same tokens stand from the first on and from the third on, up to the second and with what stands there
  pub data Cut (S S' : Stream) : S.Place → S.Place → S'.Place → Type 0 where
    c_here : {x : Token} {i u : S.Place} {i' v : S'.Place} → S.look i ≡ found x u → S'.look i' ≡ found x v → Cut S S' i i i'
    c_there : {x : Token} {i j z : S.Place} {i' j' : S'.Place} → S.look i ≡ found x j → S'.look i' ≡ found x j' → Cut S S' j z j' → Cut S S' i z i'

  cut_peek : {S S' : Stream} {i z : S.Place} {i' : S'.Place} → Cut S S' i z i' → peek S l i ≡ peek S' l i'
  cut_peek {S = S} {S' = S'} (c_here e e') = peek_got S e ∙ sym (peek_got S' e')
  cut_peek {S = S} {S' = S'} (c_there e e' k) = peek_got S e ∙ sym (peek_got S' e')

  module _ (S : Stream) (ahead : S.Place → ℕ) (less : (x : Token) (i j : S.Place) → S.look i ≡ found x j → ahead j < ahead i) (silent : (i : S.Place) → T (torn (S.piece i))) (S' : Stream) where
    pub run_short : {G : Ask → Counts → Token → Bool} {d : Counts} {s : List Symbol} {i r : S.Place} {p : Parts} → RunBy S l G d s i r p → ahead r ≤ ahead i
    run_short reads_end = omega arith
    run_short (reads_token {x = x} {i = i} {j = j} e h g t) = let k = run_short t in let q = less x i j e in omega arith
    run_short (reads_phrase c t u) = let k = run_short t in let j = run_short u in omega arith
    run_short (reads_unless h t) = run_short t
    run_short (reads_note t) = run_short t
    run_short (reads_text {i = i} e k t) = untorn (S.piece i) (silent i) e
    run_short (reads_side c t h u) = let k = run_short t in let j = run_short u in omega arith

    pub stop_short : {d : Counts} {s : List Symbol} {i z : S.Place} {y : Why} → Stops S l d s i z y → ahead z ≤ ahead i
    stop_short (stops_want h) = omega arith
    stop_short (stops_past e m h) = omega arith
    stop_short (stops_token {x = x} {i = i} {j = j} e m h f) = let k = stop_short f in let q = less x i j e in omega arith
    stop_short (stops_none e) = omega arith
    stop_short (stops_in e f) = stop_short f
    stop_short (stops_after e t f) = let k = stop_short f in let j = run_short t in omega arith
    stop_short (stops_barred h) = omega arith
    stop_short (stops_unless h f) = stop_short f
    stop_short (stops_note f) = stop_short f
    stop_short (stops_side_none e) = omega arith
    stop_short (stops_torn h) = omega arith
    stop_short (stops_ill e h) = omega arith
    stop_short (stops_text {i = i} e h f) = untorn (S.piece i) (silent i) e
    stop_short (stops_side_in e f) = stop_short f
    stop_short (stops_left e t h) = run_short t
    stop_short (stops_side_after e t h f) = let k = stop_short f in let j = run_short t in omega arith

    cut_short : {i z : S.Place} {i' : S'.Place} → Cut S S' i z i' → ahead z ≤ ahead i
    cut_short (c_here e e') = omega arith
    cut_short (c_there {x = x} {i = i} {j = j} e e' k) = let h = cut_short k in let q = less x i j e in omega arith

    record EatsO (o : Option (List Symbol)) (i : S.Place) : Type 0 where
      word : Token
      next_to : S.Place
      at : S.look i ≡ found word next_to
      eat : T (eats_o o word.word (view S l i))

    module _ (firm : T (all_steady l.rules)) where
      either : (n c d d' : ℕ) → Either n c (see l c d) (see l c d')
      either n c d d' = go (two l.pairs c) refl
        where
          pick : T (two l.pairs c) → (x y : Bool) → Either n c (cond x (pair c) (one c)) (cond y (pair c) (one c))
          pick t true true = inl refl
          pick t false false = inl refl
          pick t false true = steady_means n c (steady_in n c firm t)
          pick t true false = elim (steady_means n c (steady_in n c firm t)) [ inl e ↦ inl (sym e) | inr k ↦ inr (k.1, k.0) ]

          go : (b : Bool) → two l.pairs c ≡ b → Either n c (see l c d) (see l c d')
          go true e = pick (rw e tt) (flag l.pairs c d) (flag l.pairs c d')
          go false e = inl (ap (λ (v : View). chosen l n v) (see_alone S l c d e ∙ sym (see_alone S l c d' e)))

      -- the alternative is the same on both sides, or the first token is the last that they share and is eaten
      same_pick : {i z : S.Place} {i' : S'.Place} (n : ℕ) → Cut S S' i z i' → (chosen l n (view S l i) ≡ chosen l n (view S' l i')) ⊎ ((ahead i ≤ ahead z) × EatsO (chosen l n (view S l i)) i)
      same_pick n (c_here {x = x} {i = i} {u = u} {i' = i'} {v = v} e e') = elim (either n x.word (peek S l u) (peek S' l v)) [
        | inl q ↦ inl (ap (λ (w : View). chosen l n w) (view_got S e) ∙ q ∙ sym (ap (λ (w : View). chosen l n w) (view_got S' e')))
        | inr k ↦ inr (omega arith, record { word = x; next_to = u; at = e; eat = subst (λ (w : View). T (eats_o (chosen l n w) x.word w)) (sym (view_got S e)) k.0 })
      ]
      same_pick n (c_there {x = x} e e' k) = inl (ap (λ (w : View). chosen l n w) (view_got S e ∙ ap (λ (c : ℕ). see l x.word c) (cut_peek k) ∙ sym (view_got S' e')))

      -- what eats a token is past it at its end, and is not refused at it
      eaten_run : (k : ℕ) {d : Counts} {s : List Symbol} {x : Token} {i u r : S.Place} {p : Parts} → S.look i ≡ found x u → T (eats k s x.word (view S l i)) → Run S l d s i r p → ahead r ≤ ahead u
      unfolding eats
      eaten_run zero e h t = absurd h
      eaten_run (suc k) e h reads_end = absurd h
      eaten_run (suc k) {u = u} e h (reads_token {j = j} {r = r} e' m g t) = let ej : j ≡ u = cc in subst (λ (q : S.Place). ahead r ≤ ahead q) ej (run_short t)
      eaten_run (suc k) {x = x} {i = i} e h (reads_phrase {n = n} {a = a} c t u') = let q = eaten_run k e (given_some (chosen l n (view S l i)) (λ b. eats k b x.word (view S l i)) a h c) t in let j = run_short u' in omega arith
      eaten_run (suc k) {x = x} {i = i} e h (reads_unless {w = w} {s = s} g t) = eaten_run k e (and_r (not (one_of x.word w)) (eats k s x.word (view S l i)) h) t
      eaten_run (suc k) e h (reads_note t) = eaten_run k e h t
      eaten_run (suc k) e h (reads_text e' g t) = absurd h
      eaten_run (suc k) {x = x} {i = i} e h (reads_side {n = n} {a = a} c t g u') = let q = eaten_run k e (given_some (chosen l n (view S l i)) (λ b. eats k b x.word (view S l i)) a h c) t in let j = run_short u' in omega arith

      eaten_stop : (k : ℕ) {d : Counts} {s : List Symbol} {x : Token} {i u z : S.Place} {y : Why} → S.look i ≡ found x u → T (eats k s x.word (view S l i)) → Stops S l d s i z y → ahead z ≤ ahead u
      unfolding eats
      eaten_stop zero e h f = absurd h
      eaten_stop (suc k) {x = x} {i = i} e h (stops_want {g = g} {w = w} q) = has S l (S.look i) w q e (and_r (sure g) (one_of x.word w) h)
      eaten_stop (suc k) {x = x} e h (stops_past {d = d} {g = g} {w = w} {x = x'} e' m q) = absurd (T_not (kept g d x') q (sure_ok g d x' (and_l (sure g) (one_of x.word w) h)))
      eaten_stop (suc k) {u = u} e h (stops_token {j = j} {z = z} e' m g f) = let ej : j ≡ u = cc in subst (λ (q : S.Place). ahead z ≤ ahead q) ej (stop_short f)
      eaten_stop (suc k) {x = x} {i = i} e h (stops_none {n = n} q) = absurd (given_none (chosen l n (view S l i)) (λ b. eats k b x.word (view S l i)) h q)
      eaten_stop (suc k) {x = x} {i = i} e h (stops_in {n = n} {a = a} q f) = eaten_stop k e (given_some (chosen l n (view S l i)) (λ b. eats k b x.word (view S l i)) a h q) f
      eaten_stop (suc k) {x = x} {i = i} e h (stops_after {n = n} {a = a} q t f) = let j = eaten_run k e (given_some (chosen l n (view S l i)) (λ b. eats k b x.word (view S l i)) a h q) t in let m = stop_short f in omega arith
      eaten_stop (suc k) {x = x} {i = i} e h (stops_barred {w = w} {s = s} g) = absurd (T_not (one_of x.word w) (and_l (not (one_of x.word w)) (eats k s x.word (view S l i)) h) (subst (λ (c : ℕ). T (one_of c w)) (peek_got S e) g))
      eaten_stop (suc k) {x = x} {i = i} e h (stops_unless {w = w} {s = s} g f) = eaten_stop k e (and_r (not (one_of x.word w)) (eats k s x.word (view S l i)) h) f
      eaten_stop (suc k) e h (stops_note f) = eaten_stop k e h f
      eaten_stop (suc k) e h (stops_torn g) = absurd h
      eaten_stop (suc k) e h (stops_ill e' g) = absurd h
      eaten_stop (suc k) e h (stops_text e' g f) = absurd h
      eaten_stop (suc k) {x = x} {i = i} e h (stops_side_none {n = n} q) = absurd (given_none (chosen l n (view S l i)) (λ b. eats k b x.word (view S l i)) h q)
      eaten_stop (suc k) {x = x} {i = i} e h (stops_side_in {n = n} {a = a} q f) = eaten_stop k e (given_some (chosen l n (view S l i)) (λ b. eats k b x.word (view S l i)) a h q) f
      eaten_stop (suc k) {x = x} {i = i} e h (stops_left {n = n} {a = a} q t g) = eaten_run k e (given_some (chosen l n (view S l i)) (λ b. eats k b x.word (view S l i)) a h q) t
      eaten_stop (suc k) {x = x} {i = i} e h (stops_side_after {n = n} {a = a} q t g f) = let j = eaten_run k e (given_some (chosen l n (view S l i)) (λ b. eats k b x.word (view S l i)) a h q) t in let m = stop_short f in omega arith

      none_eats : (i : S.Place) (o : Option (List Symbol)) → EatsO o i → o ≡ none → ⊥
      none_eats i o h e = subst (λ (w : Option (List Symbol)). T (eats_o w h.word.word (view S l i))) e h.eat

      no_run : {d : Counts} {s : List Symbol} {i r : S.Place} {p : Parts} (z : S.Place) (o : Option (List Symbol)) → EatsO o i → o ≡ some s → Run S l d s i r p → ahead z ≤ ahead r → ahead i ≤ ahead z → ⊥
      no_run {s = s} {i = i} z o h e t a b = let k = eaten_run 64 {s = s} {x = h.word} {i = i} {u = h.next_to} h.at (subst (λ (w : Option (List Symbol)). T (eats_o w h.word.word (view S l i))) e h.eat) t in let q = less h.word i h.next_to h.at in omega arith

      no_stop : {d : Counts} {s : List Symbol} {i z : S.Place} {y : Why} (o : Option (List Symbol)) → EatsO o i → o ≡ some s → Stops S l d s i z y → ahead i ≤ ahead z → ⊥
      no_stop {s = s} {i = i} o h e t b = let k = eaten_stop 64 {s = s} {x = h.word} {i = i} {u = h.next_to} h.at (subst (λ (w : Option (List Symbol)). T (eats_o w h.word.word (view S l i))) e h.eat) t in let q = less h.word i h.next_to h.at in omega arith

      -- two runs over texts that share what stands up to z's token go alike up to there
      pub lock : {G : Ask → Counts → Token → Bool} {d : Counts} {s : List Symbol} {i z r : S.Place} {i' r' : S'.Place} {p p' : Parts} → Run S l d s i r p → RunBy S' l G d s i' r' p' → Cut S S' i z i' → ahead z ≤ ahead r → Cut S S' r z r' × (p ≡ p')
      lock reads_end reads_end k b = (k, refl)
      lock (reads_token {i = i} {j = j} e h g t) (reads_token e' h' g' t') (c_here {x = x} {u = u} q q') b = let m = run_short t in let n = less x i u q in let ej : j ≡ u = cc in let w : ahead j ≡ ahead u = ap ahead ej in absurd (omega arith)
      lock {G = G} (reads_token {d = d} {g = g₀} {s = s} {x = x} {j = j} {r = r} {p = p} e h g t) (reads_token {x = x'} {j = j'} {r = r'} {p = p'} e' h' g' t') (c_there {x = y} {j = m} {z = z} {j' = m'} q q' k) b =
          let ej : m ≡ j = cc in
          let ej' : m' ≡ j' = cc in
          let ex : x ≡ x' = cc in
          let o = lock t t' (subst (λ (a : S.Place). Cut S S' a z j') ej (subst (λ (a : S'.Place). Cut S S' m z a) ej' k)) b in
          (o.0, cc (ex, o.1))
      lock {G = G} {z = z} (reads_phrase {d = d} {n = n} {o = o} {a = a} {s = s} {i = i} {m = m} {r = r} {p = p} {q = q} c t u) (reads_phrase {a = a'} {i = i'} {m = m'} {r = r'} {p = p'} {q = q'} c' t' u') k b =
          let j = run_short u in
          elim (same_pick n k) [
            | inl e ↦
                (let ea : a ≡ a' = cc in
                let x = lock t (subst (λ (w : List Symbol). RunBy S' l G (inside o d) w i' m' p') (sym ea) t') k (omega arith) in
                let y = lock u u' x.0 b in
                (y.0, cc (ea, x.1, y.1)))
            | inr g ↦ absurd (no_run z (chosen l n (view S l i)) g.1 c t (omega arith) g.0)
          ]
      lock (reads_unless h t) (reads_unless h' t') k b = lock t t' k b
      lock (reads_text {i = i} e h t) (reads_text e' h' t') k b = untorn (S.piece i) (silent i) e
      lock (reads_note {k = j} t) (reads_note t') k b = let e = lock t t' k b in (e.0, ap (mark j) e.1)
      lock {G = G} {z = z} (reads_side {d = d} {n = n} {n₁ = n₁} {a = a} {s = s} {i = i} {m = m} {r = r} {p = p} {q = q} c t h u) (reads_side {a = a'} {i = i'} {m = m'} {r = r'} {p = p'} {q = q'} c' t' h' u') k b =
          let j = run_short u in
          elim (same_pick n k) [
            | inl e ↦
                (let ea : a ≡ a' = cc in
                let x = lock t (subst (λ (w : List Symbol). RunBy S' l G d w i' m' p') (sym ea) t') k (omega arith) in
                let en : l.is_path p' ≡ l.is_path p = cc x.1 in
                let y = lock u (subst (λ (w : Bool). RunBy S' l G d (cond w (phrase same n₁ ∷ s) s) m' r' q') en u') x.0 b in
                (y.0, cc (ea, x.1, y.1)))
            | inr g ↦ absurd (no_run z (chosen l n (view S l i)) g.1 c t (omega arith) g.0)
          ]

      lock_want : (w : List ℕ) {i z : S.Place} {i' j' : S'.Place} {x : Token} → ((y : Token) (u : S.Place) → S.look i ≡ found y u → T (one_of y.word w) → ⊥) → S'.look i' ≡ found x j' → T (one_of x.word w) → Cut S S' i z i' → z ≡ i → ⊥
      lock_want w {x = x} g e' h (c_here {x = y} {u = u} q q') o = let ex : x ≡ y = cc in g y u q (subst (λ (a : Token). T (one_of a.word w)) ex h)
      lock_want w g e' h (c_there {x = x} {i = i} {j = j} q q' c) o = let m = cut_short c in let n = less x i j q in let k = ap ahead o in omega arith

      -- what is refused at a token is refused whatever stands behind that token
      pub lock_stop : {G : Ask → Counts → Token → Bool} {d : Counts} {s : List Symbol} {i z : S.Place} {i' r : S'.Place} {p : Parts} {y : Why} → T (plainly y) → Stops S l d s i z y → RunBy S' l G d s i' r p → Cut S S' i z i' → ⊥
      lock_stop b (stops_want {w = w} {i = i} g) (reads_token e' h k t) c = lock_want w (λ y u q m. has S l (S.look i) w g q m) e' h c refl
      lock_stop b (stops_past e m g) (reads_token e' h k t) c = b
      lock_stop b (stops_token {j = j} e m g f) (reads_token e' h k t) (c_here {x = x} {i = i} {u = u} q q') = let o = stop_short f in let n = less x i u q in let ej : j ≡ u = cc in let w : ahead j ≡ ahead u = ap ahead ej in omega arith
      lock_stop b (stops_token {j = j} {z = z} e m g f) (reads_token {j = j'} e' h k t) (c_there {j = o} {j' = o'} q q' c) =
          let ej : o ≡ j = cc in
          let ej' : o' ≡ j' = cc in
          lock_stop b f t (subst (λ (a : S.Place). Cut S S' a z j') ej (subst (λ (a : S'.Place). Cut S S' o z a) ej' c))
      lock_stop b (stops_none {n = n} {i = i} e) (reads_phrase c t u) k = elim (same_pick n k) [ inl q ↦ clash S l (sym q ∙ e) c | inr g ↦ none_eats i (chosen l n (view S l i)) g.1 e ]
      lock_stop {G = G} b (stops_in {d = d} {n = n} {o = o} {a = a} {i = i} e f) (reads_phrase {a = a'} {i = i'} {m = m} {p = p} c t u) k =
          elim (same_pick n k) [
            | inl q ↦ (let ea : a ≡ a' = cc in lock_stop b f (subst (λ (w : List Symbol). RunBy S' l G (inside o d) w i' m p) (sym ea) t) k)
            | inr w ↦ no_stop (chosen l n (view S l i)) w.1 e f w.0
          ]
      lock_stop {G = G} {z = z} b (stops_after {d = d} {n = n} {o = o} {a = a} {i = i} e t' f) (reads_phrase {a = a'} {i = i'} {m = m} {p = p} c t u) k =
          let j = stop_short f in
          elim (same_pick n k) [
            | inl q ↦ (let ea : a ≡ a' = cc in lock_stop b f u (lock t' (subst (λ (w : List Symbol). RunBy S' l G (inside o d) w i' m p) (sym ea) t) k j).0)
            | inr w ↦ no_run z (chosen l n (view S l i)) w.1 e t' j w.0
          ]
      lock_stop b (stops_barred {w = w} {i = i} g) (reads_unless h t) k = T_not (one_of (peek S l i) w) (subst (λ (c : ℕ). T (not (one_of c w))) (sym (cut_peek k)) h) g
      lock_stop b (stops_unless g f) (reads_unless h t) k = lock_stop b f t k
      lock_stop b (stops_note f) (reads_note t) k = lock_stop b f t k
      lock_stop b (stops_torn g) (reads_text e h t) k = b
      lock_stop b (stops_ill e g) (reads_text e' h t) k = b
      lock_stop b (stops_text {i = i} e g f) (reads_text e' h t) k = untorn (S.piece i) (silent i) e
      lock_stop b (stops_side_none {n = n} {i = i} e) (reads_side c t h u) k = elim (same_pick n k) [ inl q ↦ clash S l (sym q ∙ e) c | inr g ↦ none_eats i (chosen l n (view S l i)) g.1 e ]
      lock_stop {G = G} b (stops_side_in {d = d} {n = n} {a = a} {i = i} e f) (reads_side {a = a'} {i = i'} {m = m} {p = p} c t h u) k =
          elim (same_pick n k) [
            | inl q ↦ (let ea : a ≡ a' = cc in lock_stop b f (subst (λ (w : List Symbol). RunBy S' l G d w i' m p) (sym ea) t) k)
            | inr w ↦ no_stop (chosen l n (view S l i)) w.1 e f w.0
          ]
      lock_stop {G = G} {z = z} b (stops_left {d = d} {n = n} {a = a} {i = i} {p = p'} e t' g) (reads_side {a = a'} {i = i'} {m = m} {p = p} c t h u) k =
          elim (same_pick n k) [
            | inl q ↦
                (let ea : a ≡ a' = cc in
                let x = lock t' (subst (λ (w : List Symbol). RunBy S' l G d w i' m p) (sym ea) t) k (omega arith) in
                let en : l.is_path p ≡ l.is_path p' = cc x.1 in
                T_not (may S l (l.is_path p') (peek S l z)) g (subst (λ (v : Bool). T (may S l v (peek S l z))) en (subst (λ (v : ℕ). T (may S' l (l.is_path p) v)) (sym (cut_peek x.0)) h)))
            | inr w ↦ no_run z (chosen l n (view S l i)) w.1 e t' (omega arith) w.0
          ]
      lock_stop {G = G} {z = z} b (stops_side_after {d = d} {n = n} {n₁ = n₁} {a = a} {s = s} {i = i} {p = p'} e t' g f) (reads_side {a = a'} {i = i'} {m = m} {r = r} {p = p} {q = q} c t h u) k =
          let j = stop_short f in
          elim (same_pick n k) [
            | inl o ↦
                (let ea : a ≡ a' = cc in
                let x = lock t' (subst (λ (w : List Symbol). RunBy S' l G d w i' m p) (sym ea) t) k j in
                let en : l.is_path p ≡ l.is_path p' = cc x.1 in
                lock_stop b f (subst (λ (w : Bool). RunBy S' l G d (cond w (phrase same n₁ ∷ s) s) m r q) en u) x.0)
            | inr w ↦ no_run z (chosen l n (view S l i)) w.1 e t' j w.0
          ]

      -- with the refused token added, no text begins so
      pub barred_by : T (all_good l l.rules) → {G : Ask → Counts → Token → Bool} {d : Counts} {s : List Symbol} {i z : S.Place} {i' r : S'.Place} {p : Parts} {y : Why} (f : List View) → T (closed l s f) → T (among (view S' l r) f) → T (plainly y) → Stops S l d s i z y → Cut S S' i z i' → ReadingBy S' l G d s i' r p → ⊥
      barred_by good f c m b u k t = lock_stop b u (complete S' l good t f c m).0 k
