-- C-22: two grammars, the old one with tests and the new one without. What stands below a declaration is read in both alike, and so is a declaration that is no test.
-- So the two give the same answer, or the new one stops at a `test`.
use mathlib.Core.Path.{◌≡◌, refl, sym, ap, subst, ◌∙◌}
use mathlib.Core.List.{List, [], ◌∷◌, ◌++◌}
use mathlib.Core.Bool.{Bool, true, false, ◌&&◌, ◌||◌, cond}
use mathlib.Core.Option.{none, some}
use mathlib.Core.Logic.{◌⊎◌, inl, inr}
use Prim.Native.Nat.{ℕ}
use lib.Dec.{T, eqb, leb, ltb, ltb→lt, lt→ltb}
use borrow.Author.Tests.{ne_eqb, eqb-true}
use native.Mathlib.Omega.{arith}
use Rattle.rows.specs.Kinds as kinds
use Rattle.grammar.specs.Grammar.{Scope, same, Symbol, token, phrase, unless, note, left_side, text, Rule, Stream, Parts, View, one, pair, alternatives_in, alternatives, In, here, there}
use Rattle.grammar.specs.Limits.{Counts, zeros, inside}
use Rattle.grammar.specs.Words.{'test'}
use Rattle.grammar.specs.Table.{word, a, row, lists, declarations, paths, types, blocks, exprs, atoms, arms, rules}
use Rattle.grammar.specs.Kinds.{records, no_records, DECLARATION, NAME, BLOCK}
use Rattle.grammar.specs.Language.{roto, start}
use Rattle.grammar.specs.Choice.{base, follows, chosen_from, chosen}
use Rattle.grammar.specs.Readings.{peek, Reading, reads_end, reads_token, reads_phrase, reads_unless, reads_note, reads_side, reads_text}
use Rattle.grammar.specs.Runs.{view, Run}
use Rattle.grammar.specs.Refusals.{Why, amiss, said, Stops, stops_want, stops_past, stops_token, stops_none, stops_in, stops_after, stops_barred, stops_unless, stops_note, stops_side_none, stops_side_in, stops_left, stops_side_after, stops_torn, stops_ill, stops_text}
use Rattle.grammar.specs.Rows.{Row, Draft}
use Rattle.grammar.specs.Answers.{Answer, accepted, refused, Answers, accepts, stops, leaves}
use Rattle.grammar.specs.Phrases.{Read, Refused}
use Rattle.grammar.proofs.Bools.{and_l, and_r, or_cases, both}
use Rattle.grammar.proofs.Pass.{each_passes, passes_at}
use Rattle.grammar.proofs.Core.{base_view, chosen_in}
use Rattle.grammar.proofs.Demand.{run_reads, text_runs, accepted_reading}

-- every kind named is one that stands below a declaration (the three above have the numbers 0, 1, 2)
abbrev low : List Symbol → Bool
low [] = true
low (token g w ∷ s) = low s
low (phrase o n ∷ s) = ltb 2 n && low s
low (unless w ∷ s) = low s
low (note k ∷ s) = low s
low (left_side n n₁ ∷ s) = (ltb 2 n && ltb 2 n₁) && low s
low (text n ∷ s) = ltb 2 n && low s

-- so in every alternative of a declaration and of what stands below
roto_low : T (each_passes (λ n a. ltb n 2 || low a) (roto true).rules)
unfolding roto
roto_low = tt

high_low : (n : ℕ) (b : Bool) → T (ltb 1 n) → T (ltb n 2 || b) → T b
high_low n b h t = elim (or_cases (ltb n 2) b t) [ inl k ↦ absurd (omega (arith, ltb→lt n 2 k, ltb→lt 1 n h)) | inr k ↦ k ]

same_append : (xs ys zs : List Rule) (n : ℕ) → alternatives_in ys n ≡ alternatives_in zs n → alternatives_in (xs ++ ys) n ≡ alternatives_in (xs ++ zs) n
same_append [] ys zs n e = e
same_append (x ∷ xs) ys zs n e = ap (λ (k : List (List Symbol)). cond (eqb n x.kind) x.alternatives k) (same_append xs ys zs n e)

-- only declarations differ
same_rules : (n : ℕ) → eqb n DECLARATION ≡ false → alternatives (roto true) n ≡ alternatives (roto false) n
unfolding roto rules declarations
same_rules n e = same_append lists (declarations true ++ rest) (declarations false ++ rest) n (rw e refl)
  where
    rest : List Rule
    rest = paths ++ (types ++ (blocks ++ (exprs records ++ (exprs no_records ++ (atoms ++ arms)))))

-- every other kind is chosen alike
same_choice : (n : ℕ) → eqb n DECLARATION ≡ false → (v : View) → chosen (roto true) n v ≡ chosen (roto false) n v
unfolding roto
same_choice n h v = ap (λ (ss : List (List Symbol)). chosen_from (roto true) ss (follows (roto true) n) v) (same_rules n h)

not_2 : (n : ℕ) → T (ltb 2 n) → eqb n DECLARATION ≡ false
not_2 n h = ne_eqb n 2 (λ e. omega (arith, ltb→lt 2 n h, e))

low_choice : (n : ℕ) → T (ltb 2 n) → (v : View) → chosen (roto true) n v ≡ chosen (roto false) n v
low_choice n h = same_choice n (not_2 n h)

-- a declaration is chosen alike where no `test` stands, and none where it does
same_declaration : (v : View) → eqb (base v) 'test' ≡ false → chosen (roto true) DECLARATION v ≡ chosen (roto false) DECLARATION v
unfolding roto
same_declaration (one c) e = rw e refl
same_declaration (pair c) e = rw e refl

no_test : (v : View) → base v ≡ 'test' → chosen (roto false) DECLARATION v ≡ none
unfolding roto
no_test (one c) e = rw e refl
no_test (pair c) e = rw e refl

module _ (S : Stream) where
  low_one : {a : List Symbol} (n : ℕ) (i : S.Place) → T (ltb 1 n) → chosen (roto true) n (view S (roto true) i) ≡ some a → T (low a)
  low_one {a} n i h e = high_low n (low a) h (passes_at (λ m b. ltb m 2 || low b) (roto true).rules n roto_low (chosen_in S (roto true) n (view S (roto true) i) a e))

  high : (n : ℕ) → T (ltb 2 n) → T (ltb 1 n)
  high n h = lt→ltb 1 n (omega (arith, ltb→lt 2 n h))

  low_on : (b : Bool) (n : ℕ) (s : List Symbol) → T (ltb 2 n) → T (low s) → T (low (cond b (phrase same n ∷ s) s))
  low_on true n s h k = both (ltb 2 n) (low s) h k
  low_on false n s h k = k

  run_new : {d : Counts} {s : List Symbol} {i r : S.Place} {p : Parts} → Run S (roto true) d s i r p → T (low s) → Run S (roto false) d s i r p
  unfolding roto
  run_new reads_end h = reads_end
  run_new (reads_token e m k t) h = reads_token e m k (run_new t h)
  run_new (reads_phrase {n = n} {s = s} {i = i} c t u) h =
      let k = and_l (ltb 2 n) (low s) h in
      reads_phrase (sym (low_choice n k (view S (roto true) i)) ∙ c) (run_new t (low_one n i (high n k) c)) (run_new u (and_r (ltb 2 n) (low s) h))
  run_new (reads_unless m t) h = reads_unless m (run_new t h)
  run_new (reads_note t) h = reads_note (run_new t h)
  run_new (reads_side {n = n} {n₁ = n₁} {s = s} {i = i} {p = p} c t m u) h =
      let k = and_l (ltb 2 n && ltb 2 n₁) (low s) h in
      reads_side (sym (low_choice n (and_l (ltb 2 n) (ltb 2 n₁) k) (view S (roto true) i)) ∙ c) (run_new t (low_one n i (high n (and_l (ltb 2 n) (ltb 2 n₁) k)) c)) m (run_new u (low_on ((roto true).is_path p) n₁ s (and_r (ltb 2 n) (ltb 2 n₁) k) (and_r (ltb 2 n && ltb 2 n₁) (low s) h)))
  run_new (reads_text {n = n} {s = s} {x = x} e k t) h = reads_text e k (run_new t (low_on (eqb x.word (roto true).hole) n s (and_l (ltb 2 n) (low s) h) (and_r (ltb 2 n) (low s) h)))

  stops_new : {d : Counts} {s : List Symbol} {i z : S.Place} {y : Why} → Stops S (roto true) d s i z y → T (low s) → Stops S (roto false) d s i z y
  unfolding roto
  stops_new (stops_want m) h = stops_want m
  stops_new (stops_past e m k) h = stops_past e m k
  stops_new (stops_token e m k t) h = stops_token e m k (stops_new t h)
  stops_new (stops_none {n = n} {s = s} {i = i} c) h = stops_none (sym (low_choice n (and_l (ltb 2 n) (low s) h) (view S (roto true) i)) ∙ c)
  stops_new (stops_in {n = n} {s = s} {i = i} c t) h = let k = and_l (ltb 2 n) (low s) h in stops_in (sym (low_choice n k (view S (roto true) i)) ∙ c) (stops_new t (low_one n i (high n k) c))
  stops_new (stops_after {n = n} {s = s} {i = i} c t u) h = let k = and_l (ltb 2 n) (low s) h in stops_after (sym (low_choice n k (view S (roto true) i)) ∙ c) (run_new t (low_one n i (high n k) c)) (stops_new u (and_r (ltb 2 n) (low s) h))
  stops_new (stops_barred m) h = stops_barred m
  stops_new (stops_unless m t) h = stops_unless m (stops_new t h)
  stops_new (stops_note t) h = stops_note (stops_new t h)
  stops_new (stops_side_none {n = n} {n₁ = n₁} {s = s} {i = i} c) h = stops_side_none (sym (low_choice n (and_l (ltb 2 n) (ltb 2 n₁) (and_l (ltb 2 n && ltb 2 n₁) (low s) h)) (view S (roto true) i)) ∙ c)
  stops_new (stops_side_in {n = n} {n₁ = n₁} {s = s} {i = i} c t) h = let k = and_l (ltb 2 n) (ltb 2 n₁) (and_l (ltb 2 n && ltb 2 n₁) (low s) h) in stops_side_in (sym (low_choice n k (view S (roto true) i)) ∙ c) (stops_new t (low_one n i (high n k) c))
  stops_new (stops_left {n = n} {n₁ = n₁} {s = s} {i = i} c t m) h = let k = and_l (ltb 2 n) (ltb 2 n₁) (and_l (ltb 2 n && ltb 2 n₁) (low s) h) in stops_left (sym (low_choice n k (view S (roto true) i)) ∙ c) (run_new t (low_one n i (high n k) c)) m
  stops_new (stops_side_after {n = n} {n₁ = n₁} {s = s} {i = i} {p = p} c t m u) h =
      let k = and_l (ltb 2 n && ltb 2 n₁) (low s) h in
      stops_side_after (sym (low_choice n (and_l (ltb 2 n) (ltb 2 n₁) k) (view S (roto true) i)) ∙ c) (run_new t (low_one n i (high n (and_l (ltb 2 n) (ltb 2 n₁) k)) c)) m (stops_new u (low_on ((roto true).is_path p) n₁ s (and_r (ltb 2 n) (ltb 2 n₁) k) (and_r (ltb 2 n && ltb 2 n₁) (low s) h)))
  stops_new (stops_torn m) h = stops_torn m
  stops_new (stops_ill e k) h = stops_ill e k
  stops_new (stops_text {n = n} {s = s} {x = x} e k t) h = stops_text e k (stops_new t (low_on (eqb x.word (roto true).hole) n s (and_l (ltb 2 n) (low s) h) (and_r (ltb 2 n) (low s) h)))

  -- a kind of phrase that is chosen alike at a place, by the old grammar and by the one that is asked for
  abbrev pub Alike : Bool → ℕ → S.Place → Type 0
  Alike tests n i = chosen (roto true) n (view S (roto true) i) ≡ chosen (roto tests) n (view S (roto tests) i)

  -- every kind but a declaration; a declaration where no `test` stands
  pub alike_but : (tests : Bool) (n : ℕ) → eqb n DECLARATION ≡ false → (i : S.Place) → Alike tests n i
  unfolding roto
  alike_but true n h i = refl
  alike_but false n h i = same_choice n h (view S (roto true) i)

  pub alike_low : (tests : Bool) (n : ℕ) → T (ltb 2 n) → (i : S.Place) → Alike tests n i
  alike_low tests n h = alike_but tests n (not_2 n h)

  pub alike_declaration : (tests : Bool) (i : S.Place) → (tests ≡ false → eqb (peek S (roto true) i) 'test' ≡ false) → Alike tests DECLARATION i
  unfolding roto
  alike_declaration true i h = refl
  alike_declaration false i h = same_declaration (view S (roto true) i) (ap (λ (c : ℕ). eqb c 'test') (base_view S (roto true) i) ∙ h refl)

  -- a declaration or what stands below, as a reader of the old grammar hands it back, by the one that is asked for
  module _ {d : Counts} {o : Scope} {n : ℕ} {i : S.Place} (h : T (ltb 1 n)) where
    pub read_by : {z : S.Place} {b : Draft} (tests : Bool) → Alike tests n i → Read S (roto true) d o n i z b → Read S (roto tests) d o n i z b
    unfolding roto
    read_by true q u = u
    read_by false q u = record { alternative = u.alternative; parts = u.parts; picks = sym q ∙ u.picks; run = run_new u.run (low_one n i h u.picks); draft = u.draft }

    pub refused_by : {z : S.Place} {y : Why} (tests : Bool) → Alike tests n i → Refused S (roto true) d o n i z y → Refused S (roto tests) d o n i z y
    unfolding roto
    refused_by true q f = f
    refused_by false q (stops_none c) = stops_none (sym q ∙ c)
    refused_by false q (stops_in c t) = stops_in (sym q ∙ c) (stops_new t (low_one n i h c))
    refused_by {z = z} {y = y} false q (stops_after {m = m} {p = p} _ _ x26) = elim x26 [ ]

  -- `test` by the new grammar: no declaration begins so
  pub test_refused : {d : Counts} {o : Scope} {i : S.Place} → peek S (roto false) i ≡ 'test' → Refused S (roto false) d o DECLARATION i i (amiss DECLARATION)
  test_refused {i = i} e = stops_none (no_test (view S (roto false) i) (base_view S (roto false) i ∙ e))

-- Above declarations stand these three kinds alone.
abbrev top : List Symbol → Bool
top [] = true
top (token g w ∷ s) = false
top (phrase o n ∷ s) = leb n 2 && top s
top (unless w ∷ s) = false
top (note k ∷ s) = false
top (left_side n n₁ ∷ s) = false
top (text n ∷ s) = false

roto_top : T (each_passes (λ n a. ltb 1 n || top a) (roto true).rules)
unfolding roto
roto_top = tt

module _ (S : Stream) where
  -- a reader by the new grammar stops at a `test`
  pub record Meets (d : Counts) (s : List Symbol) (i : S.Place) : Type 0 where
    pub place : S.Place
    pub stops : Stops S (roto false) d s i place (amiss DECLARATION)
    pub word : peek S (roto false) place ≡ 'test'

  alike_or : (n : ℕ) (i : S.Place) → Alike S false n i ⊎ ((n ≡ DECLARATION) × (peek S (roto false) i ≡ 'test'))
  unfolding roto
  alike_or n i = go (eqb n DECLARATION) refl (eqb (peek S (roto false) i) 'test') refl
    where
      go : (b : Bool) → eqb n DECLARATION ≡ b → (c : Bool) → eqb (peek S (roto false) i) 'test' ≡ c → Alike S false n i ⊎ ((n ≡ DECLARATION) × (peek S (roto false) i ≡ 'test'))
      go false e c f = inl (alike_but S false n e i)
      go true e true f = inr (eqb-true n DECLARATION e, eqb-true (peek S (roto false) i) 'test' f)
      go true e false f = inl (subst (λ (k : ℕ). Alike S false k i) (sym (eqb-true n DECLARATION e)) (alike_declaration S false i (λ q. f)))

  met : {d : Counts} {o : Scope} {s : List Symbol} (n : ℕ) (i : S.Place) → (n ≡ DECLARATION) × (peek S (roto false) i ≡ 'test') → Meets d (phrase o n ∷ s) i
  met {d} {o} {s} n i (e, f) = record { place = i; stops = subst (λ (k : ℕ). Stops S (roto false) d (phrase o k ∷ s) i i (amiss DECLARATION)) (sym e) (stops_none (no_test (view S (roto false) i) (base_view S (roto false) i ∙ f))); word = f }

  below : {b : List Symbol} (n : ℕ) (i : S.Place) → chosen (roto true) n (view S (roto true) i) ≡ some b → T (top b) ⊎ T (low b)
  below {b} n i c = elim (or_cases (ltb 1 n) (top b) (passes_at (λ m s. ltb 1 m || top s) (roto true).rules n roto_top (chosen_in S (roto true) n (view S (roto true) i) b c))) [ inl h ↦ inr (low_one S n i h c) | inr h ↦ inl h ]

  run_either : {d : Counts} {s : List Symbol} {i r : S.Place} {p : Parts} → Run S (roto true) d s i r p → T (top s) → Run S (roto false) d s i r p ⊎ Meets d s i
  run_either reads_end h = inl reads_end
  run_either (reads_token e m k t) h = absurd h
  run_either (reads_unless m t) h = absurd h
  run_either (reads_note t) h = absurd h
  run_either (reads_side c t m u) h = absurd h
  run_either (reads_text e k t) h = absurd h
  run_either (reads_phrase {d = d} {n = n} {o = o} {a = b} {s = s} {i = i} {m = j} {p = p} c t u) h = elim (alike_or n i) [
    | inr m ↦ inr (met n i m)
    | inl q ↦ let x : Run S (roto false) (inside o d) b i j p ⊎ Meets (inside o d) b i = elim (below n i c) [ inl k ↦ run_either t k | inr k ↦ inl (run_new S t k) ] in elim x [
      | inr m ↦ inr (record { place = m.place; stops = stops_in (sym q ∙ c) m.stops; word = m.word })
      | inl t' ↦ elim (run_either u (and_r (leb n 2) (top s) h)) [
        | inr m ↦ inr (record { place = m.place; stops = stops_after (sym q ∙ c) t' m.stops; word = m.word })
        | inl u' ↦ inl (reads_phrase (sym q ∙ c) t' u')
      ]
    ]
  ]

  stops_either : {d : Counts} {s : List Symbol} {i z : S.Place} {y : Why} → Stops S (roto true) d s i z y → T (top s) → Stops S (roto false) d s i z y ⊎ Meets d s i
  stops_either (stops_want m) h = absurd h
  stops_either (stops_past e m k) h = absurd h
  stops_either (stops_token e m k t) h = absurd h
  stops_either (stops_barred m) h = absurd h
  stops_either (stops_unless m t) h = absurd h
  stops_either (stops_note t) h = absurd h
  stops_either (stops_side_none c) h = absurd h
  stops_either (stops_side_in c t) h = absurd h
  stops_either (stops_left c t m) h = absurd h
  stops_either (stops_side_after c t m u) h = absurd h
  stops_either (stops_torn m) h = absurd h
  stops_either (stops_ill e k) h = absurd h
  stops_either (stops_text e k t) h = absurd h
  stops_either (stops_none {n = n} {i = i} c) h = elim (alike_or n i) [ inr m ↦ inr (met n i m) | inl q ↦ inl (stops_none (sym q ∙ c)) ]
  stops_either (stops_in {d = d} {n = n} {o = o} {a = b} {i = i} {z = z} {y = y} c t) h = elim (alike_or n i) [
    | inr m ↦ inr (met n i m)
    | inl q ↦ let x : Stops S (roto false) (inside o d) b i z y ⊎ Meets (inside o d) b i = elim (below n i c) [ inl k ↦ stops_either t k | inr k ↦ inl (stops_new S t k) ] in elim x [
      | inr m ↦ inr (record { place = m.place; stops = stops_in (sym q ∙ c) m.stops; word = m.word })
      | inl f ↦ inl (stops_in (sym q ∙ c) f)
    ]
  ]
  stops_either (stops_after {d = d} {n = n} {o = o} {a = b} {s = s} {i = i} {m = j} {p = p} c t u) h = elim (alike_or n i) [
    | inr m ↦ inr (met n i m)
    | inl q ↦ let x : Run S (roto false) (inside o d) b i j p ⊎ Meets (inside o d) b i = elim (below n i c) [ inl k ↦ run_either t k | inr k ↦ inl (run_new S t k) ] in elim x [
      | inr m ↦ inr (record { place = m.place; stops = stops_in (sym q ∙ c) m.stops; word = m.word })
      | inl t' ↦ elim (stops_either u (and_r (leb n 2) (top s) h)) [
        | inr m ↦ inr (record { place = m.place; stops = stops_after (sym q ∙ c) t' m.stops; word = m.word })
        | inl f ↦ inl (stops_after (sym q ∙ c) t' f)
      ]
    ]
  ]

  module _ (len : ℕ) {i : S.Place} where
    -- a tree has the same answer by both grammars, or that by the new one is the refusal of a `test`
    pub answers_either : {x : Answer} → Answers S true true len i x → Answers S false true len i x ⊎ ((m : Meets zeros (start true) i) × Answers S false true len i (refused (said len (S.look m.place) (amiss DECLARATION))))
    answers_either (accepts x) = elim (run_either (text_runs S true true x) tt) [ inl t ↦ inl (accepts (run_reads S false true t x.whole)) | inr m ↦ inr (m, stops m.stops) ]
    answers_either (stops f) = elim (stops_either f tt) [ inl g ↦ inl (stops g) | inr m ↦ inr (m, stops m.stops) ]
    answers_either (leaves u h) = elim (run_either u tt) [ inl t ↦ inl (leaves t h) | inr m ↦ inr (m, stops m.stops) ]

    -- an expression has the same answer by both
    pub answers_same : {x : Answer} → Answers S true false len i x → Answers S false false len i x
    answers_same (accepts x) = accepts (run_reads S false false (run_new S (text_runs S true false x) tt) x.whole)
    answers_same (stops f) = stops (stops_new S f tt)
    answers_same (leaves u h) = leaves (run_new S u tt) h

-- A reading without tests is one with them: the old table has every alternative of the new one.
more_in : {c : List Symbol} {xs : List (List Symbol)} (ys : List (List Symbol)) → In c xs → In c (xs ++ ys)
more_in ys here = here
more_in ys (there i) = there (more_in ys i)

old_declared : {c : List Symbol} → In c (alternatives (roto false) DECLARATION) → In c (alternatives (roto true) DECLARATION)
unfolding roto
old_declared i = more_in ((word 'test' ∷ a NAME ∷ a BLOCK ∷ row kinds.TEST ∷ []) ∷ []) i

old_in : {c : List Symbol} (n : ℕ) → In c (alternatives (roto false) n) → In c (alternatives (roto true) n)
old_in {c} n i = by (eqb n DECLARATION) refl
  where
    by : (b : Bool) → eqb n DECLARATION ≡ b → In c (alternatives (roto true) n)
    by true e = subst (λ (k : ℕ). In c (alternatives (roto true) k)) (sym (eqb-true n DECLARATION e)) (old_declared (subst (λ (k : ℕ). In c (alternatives (roto false) k)) (eqb-true n DECLARATION e) i))
    by false e = subst (In c) (sym (same_rules n e)) i

module _ (S : Stream) where
  pub reading_old : {d : Counts} {s : List Symbol} {i r : S.Place} {p : Parts} → Reading S (roto false) d s i r p → Reading S (roto true) d s i r p
  unfolding roto
  reading_old reads_end = reads_end
  reading_old (reads_token e m k t) = reads_token e m k (reading_old t)
  reading_old (reads_phrase {n = n} o t u) = reads_phrase (old_in n o) (reading_old t) (reading_old u)
  reading_old (reads_unless m t) = reads_unless m (reading_old t)
  reading_old (reads_note t) = reads_note (reading_old t)
  reading_old (reads_side {n = n} o t m u) = reads_side (old_in n o) (reading_old t) m (reading_old u)
  reading_old (reads_text e k t) = reads_text e k (reading_old t)

  pub accepted_old : (tree : Bool) (len : ℕ) {i : S.Place} {rs : List Row} → Answers S false tree len i (accepted rs) → Answers S true tree len i (accepted rs)
  accepted_old tree len {i} u =
      let k = accepted_reading S false tree len u refl in
      subst (λ (l : List Row). Answers S true tree len i (accepted l)) (sym k.2) (accepts (record { stop = k.1.stop; reads = reading_old k.1.reads; whole = k.1.whole }))
