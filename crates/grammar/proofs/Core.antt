-- A run is a reading, a reading is a run, there is one run: for every grammar that passes the test.
use mathlib.Core.Path.{◌≡◌, refl, sym, ap, subst}
use mathlib.Core.List.{List, [], ◌∷◌, ◌++◌}
use mathlib.Core.Bool.{Bool, true, false, not, ◌&&◌, ◌||◌, cond}
use mathlib.Core.Option.{Option, none, some}
use mathlib.Core.Logic.{◌⊎◌, inl, inr}
use Prim.Native.Nat.{ℕ}
use lib.Dec.{T, eqb, eqb→eq, eqb_refl, T_not}
use native.Mathlib.Omega.{arith}
use Rattle.grammar.specs.Words.{the_end, no_token}
use Rattle.grammar.specs.Grammar.{Ask, has_value, same, Look, found, over, wrong, Stream, Symbol, phrase, left_side, text, Token, Parts, mark, Language, Pair, View, one, pair, one_of, alternatives, In, here, there}
use Rattle.grammar.specs.Limits.{Counts, after, inside}
use Rattle.grammar.specs.Choice.{eqv, among, flag, two, base, firsts, follows, see, minus, sees, front, fronts, first, choose, chosen, or_else, spare, idle, hollow, hollows, only}
use Rattle.grammar.specs.Readings.{word_of_lem, peek, reads_end, reads_token, reads_phrase, reads_unless, reads_note, reads_side, reads_text, ReadingBy}
use Rattle.grammar.specs.Runs.{viewed, view, may, RunBy}
use Rattle.grammar.proofs.Bools.{and_l, and_r, or_l, or_r, or_cases, T→eq, F→eq, both}
use Rattle.grammar.proofs.Pass.{rule_passes}
use Rattle.grammar.proofs.Good.{unsigned, subset, apart, blind, singles, closed, alone, good, all_good}

pub eqv→eq : (v w : View) → T (eqv v w) → v ≡ w
eqv→eq (one a) (one b) t = ap one (eqb→eq a b t)
eqv→eq (one a) (pair b) t = absurd t
eqv→eq (pair a) (one b) t = absurd t
eqv→eq (pair a) (pair b) t = ap pair (eqb→eq a b t)

pub eqv_refl : (v : View) → T (eqv v v)
eqv_refl (one a) = eqb_refl a
eqv_refl (pair a) = eqb_refl a

pub mem_subset : (v : View) (xs ys : List View) → T (subset xs ys) → T (among v xs) → T (among v ys)
mem_subset v [] ys s m = absurd m
mem_subset v (x ∷ xs) ys s m = elim (or_cases (eqv v x) (among v xs) m) [
  | inl e ↦ subst (λ (y : View). T (among y ys)) (sym (eqv→eq v x e)) (and_l (among x ys) (subset xs ys) s)
  | inr h ↦ mem_subset v xs ys (and_r (among x ys) (subset xs ys) s) h
]

pub mem_apart : (v : View) (xs ys : List View) → T (apart xs ys) → T (among v xs) → T (among v ys) → ⊥
mem_apart v [] ys s m n = m
mem_apart v (x ∷ xs) ys s m n = elim (or_cases (eqv v x) (among v xs) m) [
  | inl e ↦ T_not (among x ys) (and_l (not (among x ys)) (apart xs ys) s) (subst (λ (y : View). T (among y ys)) (eqv→eq v x e) n)
  | inr h ↦ mem_apart v xs ys (and_r (not (among x ys)) (apart xs ys) s) h n
]

among_l : (v : View) (xs ys : List View) → T (among v xs) → T (among v (xs ++ ys))
among_l v [] ys m = absurd m
among_l v (x ∷ xs) ys m = elim (or_cases (eqv v x) (among v xs) m) [ inl e ↦ or_l (eqv v x) (among v (xs ++ ys)) e | inr h ↦ or_r (eqv v x) (among v (xs ++ ys)) (among_l v xs ys h) ]

among_r : (v : View) (xs ys : List View) → T (among v ys) → T (among v (xs ++ ys))
among_r v [] ys m = m
among_r v (x ∷ xs) ys m = or_r (eqv v x) (among v (xs ++ ys)) (among_r v xs ys m)

unsigned_at : (v : View) (vs : List View) (w : List ℕ) → T (unsigned vs w) → T (among v vs) → T (not (one_of (base v) w))
unsigned_at v [] w u m = absurd m
unsigned_at v (x ∷ vs) w u m = elim (or_cases (eqv v x) (among v vs) m) [
  | inl e ↦ subst (λ (y : View). T (not (one_of (base y) w))) (sym (eqv→eq v x e)) (and_l (not (one_of (base x) w)) (unsigned vs w) u)
  | inr h ↦ unsigned_at v vs w (and_r (not (one_of (base x) w)) (unsigned vs w) u) h
]

module _ (S : Stream) (l : Language) where
  base_see : (c d : ℕ) → base (see l c d) ≡ c
  base_see c d = go (flag l.pairs c d)
    where
      go : (b : Bool) → base (cond b (pair c) (one c)) ≡ c
      go true = refl
      go false = refl

  pub base_view : (i : S.Place) → base (view S l i) ≡ peek S l i
  base_view i = go (S.look i)
    where
      go : (k : Look S.Place) → base (viewed S l k) ≡ word_of_lem S l k
      go (found x j) = base_see x.word (peek S l j)
      go over = base_see (the_end) 0
      go (wrong n a b) = base_see (no_token) 0

  -- a class that is looked at alone
  pub see_alone : (c d : ℕ) → two l.pairs c ≡ false → see l c d ≡ one c
  see_alone c d e = go l.pairs e
    where
      go : (ps : List Pair) → two ps c ≡ false → cond (flag ps c d) (pair c) (one c) ≡ one c
      go [] e' = refl
      go (p ∷ ps) e' = more (eqb c p.this) (eqb d p.next) (flag ps c d) e' (go ps)
        where
          more : (x y z : Bool) → (x || two ps c) ≡ false → (two ps c ≡ false → cond z (pair c) (one c) ≡ one c) → cond ((x && y) || z) (pair c) (one c) ≡ one c
          more true y z q h = let k : ◌≡◌ {A = ℕ} 0 1 = cc in absurd (omega arith)
          more false y z q h = h q

  -- sound
  pub choose_in : (ss : List (List Symbol)) (f : List View) (v : View) (a : List Symbol) → choose l ss f v ≡ some a → In a ss
  choose_in [] f v a e = let z : ◌≡◌ {A = ℕ} 0 1 = cc in absurd (omega arith)
  choose_in (s ∷ ss) f v a e = go (among v (first l s f)) e (choose_in ss f v a)
    where
      go : (t : Bool) → cond t (some s) (choose l ss f v) ≡ some a → (choose l ss f v ≡ some a → In a ss) → In a (s ∷ ss)
      go true e' ih = let q : s ≡ a = cc in subst (λ (x : List Symbol). In x (s ∷ ss)) q here
      go false e' ih = there (ih e')

  or_in : {a : List Symbol} {ss : List (List Symbol)} (o o' : Option (List Symbol)) → (o ≡ some a → In a ss) → (o' ≡ some a → In a ss) → or_else o o' ≡ some a → In a ss
  or_in none o' h h' e = h' e
  or_in (some x) o' h h' e = h e

  hollows_in : (ss : List (List Symbol)) (a : List Symbol) → hollows ss ≡ some a → In a ss
  hollows_in [] a e = let z : ◌≡◌ {A = ℕ} 0 1 = cc in absurd (omega arith)
  hollows_in (s ∷ ss) a e = go (hollow s) e (hollows_in ss a)
    where
      go : (t : Bool) → cond t (some s) (hollows ss) ≡ some a → (hollows ss ≡ some a → In a ss) → In a (s ∷ ss)
      go true e' ih = let q : s ≡ a = cc in subst (λ (x : List Symbol). In x (s ∷ ss)) q here
      go false e' ih = there (ih e')

  only_in : (ss : List (List Symbol)) (a : List Symbol) → only ss ≡ some a → In a ss
  only_in [] a e = let z : ◌≡◌ {A = ℕ} 0 1 = cc in absurd (omega arith)
  only_in (s ∷ []) a e = let q : s ≡ a = cc in subst (λ (x : List Symbol). In x (s ∷ [])) q here
  only_in (s ∷ s' ∷ ss) a e = let z : ◌≡◌ {A = ℕ} 0 1 = cc in absurd (omega arith)

  idle_in : (ss : List (List Symbol)) (a : List Symbol) → idle ss ≡ some a → In a ss
  idle_in ss a e = or_in (hollows ss) (only ss) (hollows_in ss a) (only_in ss a) e

  pub chosen_in : (n : ℕ) (v : View) (a : List Symbol) → chosen l n v ≡ some a → In a (alternatives l n)
  chosen_in n v a e =
      let ss = alternatives l n in
      let f = follows l n in
      let c = base v in
      or_in (choose l ss f v) (spare l ss f c) (choose_in ss f v a)
      (or_in (choose l ss f (one c)) (or_else (choose l ss f (pair c)) (idle ss)) (choose_in ss f (one c) a)
      (or_in (choose l ss f (pair c)) (idle ss) (choose_in ss f (pair c) a) (idle_in ss a)))
      e

  pub sound : {G : Ask → Counts → Token → Bool} {d : Counts} {s : List Symbol} {i r : S.Place} {p : Parts} → RunBy S l G d s i r p → ReadingBy S l G d s i r p
  sound reads_end = reads_end
  sound (reads_token e h k t) = reads_token e h k (sound t)
  sound (reads_text e k t) = reads_text e k (sound t)
  sound (reads_phrase {n = n} {a = a} {i = i} c t u) = reads_phrase (chosen_in n (view S l i) a c) (sound t) (sound u)
  sound (reads_unless h t) = reads_unless h (sound t)
  sound (reads_note t) = reads_note (sound t)
  sound (reads_side {n = n} {a = a} {i = i} c t h u) = reads_side (chosen_in n (view S l i) a c) (sound t) tt (sound u)

  -- one run
  pub one_run : {G G' : Ask → Counts → Token → Bool} {d : Counts} {s : List Symbol} {i r r' : S.Place} {p p' : Parts} → RunBy S l G d s i r p → RunBy S l G' d s i r' p' → (r ≡ r') × (p ≡ p')
  one_run {G' = G'} reads_end reads_end = (refl, refl)
  one_run {G' = G'} (reads_token {d = d} {g = g} {s = s} {x = x} {j = j} {r = r} {p = p} e h k t) (reads_token {x = x'} {j = j'} {r = r'} {p = p'} e' h' k' t') =
      let ex : x ≡ x' = cc in
      let ej : j ≡ j' = cc in
      let q = one_run t (subst (λ (y : S.Place). RunBy S l G' (after g d) s y r' p') (sym ej) t') in
      (q.0, cc (ex, q.1))
  one_run {G' = G'} (reads_text {d = d} {n = n} {s = s} {x = x} {j = j} {r = r} {p = p} e k t) (reads_text {x = x'} {j = j'} {r = r'} {p = p'} e' k' t') =
      let ex : x ≡ x' = cc in
      let ej : j ≡ j' = cc in
      let q = one_run t (subst (λ (y : S.Place). RunBy S l G' (after has_value d) (cond (eqb x.word l.hole) (phrase same n ∷ s) s) y r' p') (sym ej) (subst (λ (y : Token). RunBy S l G' (after has_value d) (cond (eqb y.word l.hole) (phrase same n ∷ s) s) j' r' p') (sym ex) t')) in
      (q.0, cc (ex, q.1))
  one_run {G' = G'} (reads_phrase {d = d} {n = n} {o = o} {a = a} {s = s} {i = i} {p = p} {q = q} c t u) (reads_phrase {a = a'} {m = m'} {r = r'} {p = p'} {q = q'} c' t' u') =
      let ea : a ≡ a' = cc in
      let e = one_run t (subst (λ (x : List Symbol). RunBy S l G' (inside o d) x i m' p') (sym ea) t') in
      let k = one_run u (subst (λ (x : S.Place). RunBy S l G' d s x r' q') (sym e.0) u') in
      (k.0, cc (ea, e.1, k.1))
  one_run {G' = G'} (reads_unless h t) (reads_unless h' t') = one_run t t'
  one_run {G' = G'} (reads_note {k = k} t) (reads_note t') = let e = one_run t t' in (e.0, ap (mark k) e.1)
  one_run {G' = G'} (reads_side {d = d} {n = n} {n₁ = n₁} {a = a} {s = s} {i = i} {p = p} {q = q} c t h u) (reads_side {a = a'} {m = m'} {r = r'} {p = p'} {q = q'} c' t' h' u') =
      let ea : a ≡ a' = cc in
      let e = one_run t (subst (λ (x : List Symbol). RunBy S l G' d x i m' p') (sym ea) t') in
      let en : l.is_path p' ≡ l.is_path p = cc e.1 in
      let k = one_run u (subst (λ (x : S.Place). RunBy S l G' d (cond (l.is_path p) (phrase same n₁ ∷ s) s) x r' q') (sym e.0) (subst (λ (x : Bool). RunBy S l G' d (cond x (phrase same n₁ ∷ s) s) m' r' q') en u')) in
      (k.0, cc (ea, e.1, k.1))

  -- complete: a reading behind which the right things stand is a run
  module _ (kept : T (all_good l l.rules)) where
    good_at : (n : ℕ) → T (good l (alternatives l n) (firsts l n) (follows l n))
    good_at n = rule_passes (λ m ss. good l ss (firsts l m) (follows l m)) (λ m. tt) l.rules n kept

    record Each (a : List Symbol) (ss : List (List Symbol)) (pr f : List View) : Type 0 where
      clo : T (not (blind l a) && closed l a f)
      beg : T (subset (first l a f) pr)
      alo : T (alone l (first l a f) ss f)
      rest : T (good l ss pr f)

    each : (a : List Symbol) (ss : List (List Symbol)) (pr f : List View) → T (good l (a ∷ ss) pr f) → Each a ss pr f
    each a ss pr f t =
        let x = not (blind l a) && closed l a f in
        let y = subset (first l a f) pr in
        let z = alone l (first l a f) ss f in
        let w = good l ss pr f in
        let u = and_r x (y && (z && w)) t in
        let v = and_r y (z && w) u in
        record { clo = and_l x (y && (z && w)) t; beg = and_l y (z && w) u; alo = and_l z w v; rest = and_r z w v }

    in_closed : {a : List Symbol} {ss : List (List Symbol)} (pr f : List View) → In a ss → T (good l ss pr f) → T (not (blind l a) && closed l a f) × T (subset (first l a f) pr)
    in_closed pr f (here {a = a} {ss = ss}) t = let e = each a ss pr f t in (e.clo, e.beg)
    in_closed pr f (there {b = b} {ss = ss} i) t = in_closed pr f i (each b ss pr f t).rest

    in_alone : {a : List Symbol} {ss : List (List Symbol)} (xs f : List View) → In a ss → T (alone l xs ss f) → T (apart xs (first l a f))
    in_alone xs f (here {a = a} {ss = ss}) t = and_l (apart xs (first l a f)) (alone l xs ss f) t
    in_alone xs f (there {b = b} {ss = ss} i) t = in_alone xs f i (and_r (apart xs (first l b f)) (alone l xs ss f) t)

    in_choose : {a : List Symbol} {ss : List (List Symbol)} (pr f : List View) (v : View) → In a ss → T (good l ss pr f) → T (among v (first l a f)) → choose l ss f v ≡ some a
    in_choose pr f v (here {a = a}) t m = rw (T→eq (among v (first l a f)) m)
    in_choose pr f v (there {a = a} {b = b} {ss = ss} i) t m =
        let e = each b ss pr f t in
        rw (F→eq (among v (first l b f)) (λ k. mem_apart v (first l b f) (first l a f) (in_alone (first l b f) f i e.alo) k m))
        (in_choose pr f v i e.rest m)

    in_chosen : {a : List Symbol} (n : ℕ) (v : View) → In a (alternatives l n) → T (among v (first l a (follows l n))) → chosen l n v ≡ some a
    in_chosen n v o m = rw (in_choose (firsts l n) (follows l n) v o (good_at n) m) refl

    mem_minus : (v : View) (vs : List View) (w : List ℕ) → T (among v vs) → T (not (one_of (base v) w)) → T (among v (minus l vs w))
    mem_minus v [] w m h = m
    mem_minus v (x ∷ vs) w m h = elim (or_cases (eqv v x) (among v vs) m) [
      | inl e ↦ rw (F→eq (one_of (base x) w) (T_not (one_of (base x) w) (subst (λ (y : View). T (not (one_of (base y) w))) (eqv→eq v x e) h))) (or_l (eqv v x) (among v (minus l vs w)) e)
      | inr k ↦ keep (one_of (base x) w) x (mem_minus v vs w k h)
    ]
      where
        keep : (b : Bool) (y : View) → T (among v (minus l vs w)) → T (among v (cond b (minus l vs w) (y ∷ minus l vs w)))
        keep true y k = k
        keep false y k = or_r (eqv v y) (among v (minus l vs w)) k

    mem_sees : (c : ℕ) (v : View) (vs : List View) → T (among v vs) → T (among (see l c (base v)) (sees l c vs))
    mem_sees c v [] m = m
    mem_sees c v (x ∷ vs) m =
        let u = see l c (base v) in
        elim (or_cases (eqv v x) (among v vs) m) [
          | inl e ↦ or_l (eqv u (see l c (base x))) (among u (sees l c vs)) (subst (λ (y : View). T (eqv u (see l c (base y)))) (eqv→eq v x e) (eqv_refl u))
          | inr h ↦ or_r (eqv u (see l c (base x))) (among u (sees l c vs)) (mem_sees c v vs h)
        ]

    mem_front : (x : Token) (j : S.Place) (vs : List View) → T (among (view S l j) vs) → T (among (viewed S l (found x j)) (front l x.word vs))
    mem_front x j vs m = go (two l.pairs x.word) refl
      where
        go : (b : Bool) → two l.pairs x.word ≡ b → T (among (viewed S l (found x j)) (cond b (sees l x.word vs) (one x.word ∷ [])))
        go true e = rw (← base_view j) (mem_sees x.word (view S l j) vs m)
        go false e = rw (see_alone x.word (peek S l j) e) (or_l (eqv (one x.word) (one x.word)) false (eqv_refl (one x.word)))

    mem_fronts : (v : View) (c : ℕ) (w : List ℕ) (vs : List View) → T (one_of c w) → T (among v (front l c vs)) → T (among v (fronts l w vs))
    mem_fronts v c [] vs h m = absurd h
    mem_fronts v c (k ∷ w) vs h m = elim (or_cases (eqb c k) (one_of c w) h) [
      | inl e ↦ among_l v (front l k vs) (fronts l w vs) (subst (λ (y : ℕ). T (among v (front l y vs))) (eqb→eq c k e) m)
      | inr h' ↦ among_r v (front l k vs) (fronts l w vs) (mem_fronts v c w vs h' m)
    ]

    abbrev pub Seen : List Symbol → S.Place → List View → Type 0
    Seen s i f = T (blind l s) ⊎ T (among (view S l i) (first l s f))

    seen : (s : List Symbol) (i : S.Place) (f : List View) → T (not (blind l s)) → Seen s i f → T (among (view S l i) (first l s f))
    seen s i f h (inl k) = absurd (T_not (blind l s) h k)
    seen s i f h (inr k) = k

    mem_single : (c : ℕ) (w : List ℕ) → T (singles l w) → T (one_of c w) → two l.pairs c ≡ false
    mem_single c [] t m = absurd m
    mem_single c (k ∷ w) t m = elim (or_cases (eqb c k) (one_of c w) m) [
      | inl e ↦ F→eq (two l.pairs c) (λ h. T_not (two l.pairs k) (and_l (not (two l.pairs k)) (singles l w) t) (subst (λ (y : ℕ). T (two l.pairs y)) (eqb→eq c k e) h))
      | inr h ↦ mem_single c w (and_r (not (two l.pairs k)) (singles l w) t) h
    ]

    front_single : (x : Token) (j : S.Place) (vs : List View) → two l.pairs x.word ≡ false → T (among (viewed S l (found x j)) (front l x.word vs))
    front_single x j vs e = rw (see_alone x.word (peek S l j) e) (subst (λ (b : Bool). T (among (one x.word) (cond b (sees l x.word vs) (one x.word ∷ [])))) (sym e) (or_l (eqv (one x.word) (one x.word)) false (eqv_refl (one x.word))))

    tok_front : (x : Token) (j : S.Place) (w : List ℕ) (s : List Symbol) (f : List View) → T (not (blind l s) || singles l w) → T (one_of x.word w) → Seen s j f → T (among (viewed S l (found x j)) (front l x.word (first l s f)))
    tok_front x j w s f h m (inr k) = mem_front x j (first l s f) k
    tok_front x j w s f h m (inl k) = elim (or_cases (not (blind l s)) (singles l w) h) [
      | inl b ↦ absurd (T_not (blind l s) b k)
      | inr b ↦ front_single x j (first l s f) (mem_single x.word w b m)
    ]

    -- the parts of the check of a fork
    record Forked (n n₁ : ℕ) (s : List Symbol) (f : List View) : Type 0 where
      sight : T (not (blind l s))
      pre₁ : T (subset (firsts l n₁) (follows l n))
      fol₁ : T (subset (first l s f) (follows l n₁))
      fol₀ : T (subset (first l s f) (follows l n))
      sign : T (unsigned (first l s f) l.assigns)
      rest : T (closed l s f)

    fork_of : (n n₁ : ℕ) (s : List Symbol) (f : List View) → T (closed l (left_side n n₁ ∷ s) f) → Forked n n₁ s f
    fork_of n n₁ s f c =
        let b = not (blind l s) in
        let x = subset (firsts l n₁) (follows l n) in
        let y = subset (first l s f) (follows l n₁) in
        let z = subset (first l s f) (follows l n) in
        let u = unsigned (first l s f) l.assigns in
        let w = closed l s f in
        let k = and_r b ((x && y) && ((z && u) && w)) c in
        let g = and_l (x && y) ((z && u) && w) k in
        let h = and_r (x && y) ((z && u) && w) k in
        record { sight = and_l b ((x && y) && ((z && u) && w)) c; pre₁ = and_l x y g; fol₁ = and_r x y g; fol₀ = and_l z u (and_l (z && u) w h); sign = and_r z u (and_l (z && u) w h); rest = and_r (z && u) w h }

    forked : (n n₁ : ℕ) (s : List Symbol) (f : List View) (b : Bool) → Forked n n₁ s f → T (not (blind l (cond b (phrase same n₁ ∷ s) s))) × T (subset (first l (cond b (phrase same n₁ ∷ s) s) f) (follows l n)) × T (closed l (cond b (phrase same n₁ ∷ s) s) f)
    forked n n₁ s f true k = (tt, k.pre₁, both (not (blind l s)) (subset (first l s f) (follows l n₁) && closed l s f) k.sight (both (subset (first l s f) (follows l n₁)) (closed l s f) k.fol₁ k.rest))
    forked n n₁ s f false k = (k.sight, k.fol₀, k.rest)

    no_sign : (n n₁ : ℕ) (s : List Symbol) (f : List View) (b : Bool) (i : S.Place) → Forked n n₁ s f → T (among (view S l i) (first l (cond b (phrase same n₁ ∷ s) s) f)) → T (may S l b (peek S l i))
    no_sign n n₁ s f true i k m = tt
    no_sign n n₁ s f false i k m = rw (← base_view i) (unsigned_at (view S l i) (first l s f) l.assigns k.sign m)

    texted : (n : ℕ) (s : List Symbol) (f : List View) (b : Bool) → T (closed l (text n ∷ s) f) → T (closed l (cond b (phrase same n ∷ s) s) f)
    texted n s f true c = c
    texted n s f false c = and_r (subset (first l s f) (follows l n)) (closed l s f) (and_r (not (blind l s)) (subset (first l s f) (follows l n) && closed l s f) c)

    pub complete : {G : Ask → Counts → Token → Bool} {d : Counts} {s : List Symbol} {i r : S.Place} {p : Parts} → ReadingBy S l G d s i r p → (f : List View) → T (closed l s f) → T (among (view S l r) f) → RunBy S l G d s i r p × Seen s i f
    complete reads_end f c m = (reads_end, inr m)
    complete (reads_token {w = w} {s = s} {x = x} {i = i} {j = j} e h k t) f c m =
        let y = not (blind l s) || singles l w in
        let q = complete t f (and_r y (closed l s f) c) m in
        (reads_token e h k q.0, inr (subst (λ (y : Look S.Place). T (among (viewed S l y) (fronts l w (first l s f)))) (sym e) (mem_fronts (viewed S l (found x j)) x.word w (first l s f) h (tok_front x j w s f (and_l y (closed l s f) c) h q.1))))
    complete (reads_phrase {n = n} {a = a} {s = s} {i = i} {m = mid} o t u) f c m =
        let b = not (blind l s) in
        let x = subset (first l s f) (follows l n) in
        let c' = and_r b (x && closed l s f) c in
        let j = complete u f (and_r x (closed l s f) c') m in
        let k = in_closed (firsts l n) (follows l n) o (good_at n) in
        let v = seen s mid f (and_l b (x && closed l s f) c) j.1 in
        let q = complete t (follows l n) (and_r (not (blind l a)) (closed l a (follows l n)) k.0) (mem_subset (view S l mid) (first l s f) (follows l n) (and_l x (closed l s f) c') v) in
        let z = seen a i (follows l n) (and_l (not (blind l a)) (closed l a (follows l n)) k.0) q.1 in
        (reads_phrase (in_chosen n (view S l i) o z) q.0 j.0, inr (mem_subset (view S l i) (first l a (follows l n)) (firsts l n) k.1 z))
    complete (reads_unless {w = w} {s = s} {i = i} h t) f c m =
        let q = complete t f (and_r (not (blind l s)) (closed l s f) c) m in
        (reads_unless h q.0, inr (mem_minus (view S l i) (first l s f) w (seen s i f (and_l (not (blind l s)) (closed l s f) c) q.1) (rw base_view h)))
    complete (reads_note t) f c m = let q = complete t f c m in (reads_note q.0, q.1)
    complete (reads_side {n = n} {n₁ = n₁} {a = a} {s = s} {i = i} {m = mid} {p = p} o t h u) f c m =
        let b = l.is_path p in
        let g = fork_of n n₁ s f c in
        let x = forked n n₁ s f b g in
        let j = complete u f x.2 m in
        let k = in_closed (firsts l n) (follows l n) o (good_at n) in
        let v = seen (cond b (phrase same n₁ ∷ s) s) mid f x.0 j.1 in
        let q = complete t (follows l n) (and_r (not (blind l a)) (closed l a (follows l n)) k.0) (mem_subset (view S l mid) (first l (cond b (phrase same n₁ ∷ s) s) f) (follows l n) x.1 v) in
        let z = seen a i (follows l n) (and_l (not (blind l a)) (closed l a (follows l n)) k.0) q.1 in
        (reads_side (in_chosen n (view S l i) o z) q.0 (no_sign n n₁ s f b mid g v) j.0, inr (mem_subset (view S l i) (first l a (follows l n)) (firsts l n) k.1 z))
    complete (reads_text {n = n} {s = s} {x = x} e k t) f c m =
        let q = complete t f (texted n s f (eqb x.word l.hole) c) m in
        (reads_text e k q.0, inl tt)

    -- one reading
    pub unique : {G G' : Ask → Counts → Token → Bool} {d : Counts} {s : List Symbol} {i r r' : S.Place} {p p' : Parts} (f : List View) → T (closed l s f) → T (among (view S l r) f) → T (among (view S l r') f) → ReadingBy S l G d s i r p → ReadingBy S l G' d s i r' p' → (r ≡ r') × (p ≡ p')
    unique f c m m' t t' = one_run (complete t f c m).0 (complete t' f c m').0
