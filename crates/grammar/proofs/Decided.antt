-- A reader comes to an end: at every place a list of symbols is read, or reading it stops.
use mathlib.Core.Path.{◌≡◌, refl, sym, subst}
use mathlib.Core.List.{List, [], ◌∷◌}
use mathlib.Core.Bool.{Bool, true, false, not, ◌||◌, cond}
use mathlib.Core.Option.{Option, none, some}
use mathlib.Core.Logic.{◌⊎◌, inl, inr}
use Prim.Native.Nat.{ℕ, suc, zero, ◌+◌, ◌≤◌, ◌<◌}
use lib.Dec.{T, eqb, ltb, ltb→lt}
use native.Mathlib.Omega.{arith}
use Rattle.grammar.specs.Grammar.{Ask, has_value, Scope, same, Symbol, token, phrase, unless, note, left_side, text, Rule, Token, Look, found, over, wrong, Stream, Parts, end, leaf, node, mark, Language, one_of}
use Rattle.grammar.specs.Limits.{Counts, after, inside, kept}
use Rattle.grammar.specs.Choice.{hint_in, chosen}
use Rattle.grammar.specs.Readings.{peek, reads_end, reads_token, reads_phrase, reads_unless, reads_note, reads_side, reads_text}
use Rattle.grammar.specs.Runs.{view, may, Run}
use Rattle.grammar.specs.Refusals.{Why, lacks, torn, Stops, stops_want, stops_past, stops_token, stops_none, stops_in, stops_after, stops_barred, stops_unless, stops_note, stops_side_none, stops_side_in, stops_left, stops_side_after, stops_torn, stops_ill, stops_text}
use Rattle.grammar.proofs.Bools.{or_cases}
use Rattle.grammar.proofs.Pass.{each_passes, passes_at}
use Rattle.grammar.proofs.Good.{full, filled, all_full, full_filled}
use Rattle.grammar.proofs.Core.{chosen_in}

module _ (l : Language) where
  abbrev pub rank : ℕ → ℕ
  rank n = (hint_in l.hints n).rank

  -- the steps up to a token
  abbrev pub front : List Symbol → ℕ
  front [] = 0
  front (token g w ∷ s) = 0
  front (phrase o n ∷ s) = suc (rank n + cond (full l n) 0 (front s))
  front (unless w ∷ s) = suc (front s)
  front (note k ∷ s) = suc (front s)
  front (left_side n n₁ ∷ s) = suc (rank n + cond (full l n) 0 (suc (rank n₁ + front s)))
  front (text n ∷ s) = suc (suc (rank n + front s))

  abbrev pub all_grounded : List Rule → Bool
  all_grounded = each_passes (λ n a. ltb (front a) (rank n))

  module _ (ground : T (all_grounded l.rules)) (filling : T (all_full l l.rules)) (S : Stream) (ahead : S.Place → ℕ) (tokens_take : (x : Token) (i j : S.Place) → S.look i ≡ found x j → ahead j < ahead i) (pieces_keep : (x : Token) (i j : S.Place) → S.piece i ≡ found x j → ahead j ≤ ahead i) where
    -- read up to a place that is no further back, and further on where there is a token; or stopped
    pub record Ran (d : Counts) (s : List Symbol) (i : S.Place) : Type 0 where
      pub to : S.Place
      pub parts : Parts
      pub run : Run S l d s i to parts
      pub keeps : ahead to ≤ ahead i
      pub takes : T (filled l s) → ahead to < ahead i

    pub record Stopped (d : Counts) (s : List Symbol) (i : S.Place) : Type 0 where
      pub at : S.Place
      pub why : Why
      pub stop : Stops S l d s i at why

    abbrev pub Decided : Counts → List Symbol → S.Place → Type 0
    Decided d s i = Ran d s i ⊎ Stopped d s i

    chosen_grounded : (n : ℕ) (i : S.Place) (a : List Symbol) → chosen l n (view S l i) ≡ some a → (T (full l n) → T (filled l a)) × (front a < rank n)
    chosen_grounded n i a e =
        let o = chosen_in S l n (view S l i) a e in
        (full_filled l n filling o, ltb→lt (front a) (rank n) (passes_at (λ m b. ltb (front b) (rank m)) l.rules n ground o))

    -- one step, where what takes fewer bytes is decided, and at this place what takes fewer steps to a token
    module _ (b : ℕ) (before : (d : Counts) (s : List Symbol) (i : S.Place) → ahead i < b → Decided d s i) (c : ℕ) (inner : (d : Counts) (s : List Symbol) (i : S.Place) → ahead i ≤ b → front s < c → Decided d s i) where
      -- the rest behind a phrase of kind n
      behind : (n x : ℕ) (d : Counts) (s : List Symbol) (i m : S.Place) → (T (full l n) → ahead m < ahead i) → ahead m ≤ ahead i → ahead i ≤ b → front s ≤ x → rank n + cond (full l n) 0 x < c → Decided d s m
      behind n x d s i m g k h e f = go (full l n) g f
        where
          go : (t : Bool) → (T t → ahead m < ahead i) → rank n + cond t 0 x < c → Decided d s m
          go true g' f' = let q = g' tt in before d s m (omega arith)
          go false g' f' = inner d s m (omega arith) (omega arith)

      or_filled : (n : ℕ) (s : List Symbol) {x y z : ℕ} → (T (full l n) → y < x) → y ≤ x → (T (filled l s) → z < y) → z ≤ y → T (full l n || filled l s) → z < x
      or_filled n s f k g m t = elim (or_cases (full l n) (filled l s) t) [ inl u ↦ (let q = f u in omega arith) | inr u ↦ (let q = g u in omega arith) ]

      by_token : (g : Ask) (w : List ℕ) (d : Counts) (s : List Symbol) (i : S.Place) → ahead i ≤ b → (k : Look S.Place) → S.look i ≡ k → Decided d (token g w ∷ s) i
      by_token g w d s i h over e = inr (record { at = i; why = _; stop = stops_want (subst (λ (q : Look S.Place). T (lacks q w)) (sym e) tt) })
      by_token g w d s i h (wrong n u v) e = inr (record { at = i; why = _; stop = stops_want (subst (λ (q : Look S.Place). T (lacks q w)) (sym e) tt) })
      by_token g w d s i h (found x j) e = words (one_of x.word w) refl
        where
          less : ahead j < ahead i
          less = tokens_take x i j e

          rest : T (one_of x.word w) → T (kept g d x) → Decided (after g d) s j → Decided d (token g w ∷ s) i
          rest m k (inl r) = inl (record { to = r.to; parts = leaf x r.parts; run = reads_token e m k r.run; keeps = let q = r.keeps in let z = less in omega arith; takes = λ t. let q = r.keeps in let z = less in omega arith })
          rest m k (inr r) = inr (record { at = r.at; why = r.why; stop = stops_token e m k r.stop })

          tests : (t : Bool) → kept g d x ≡ t → T (one_of x.word w) → Decided d (token g w ∷ s) i
          tests true q m = rest m (subst T (sym q) tt) (before (after g d) s j (let z = less in omega arith))
          tests false q m = inr (record { at = i; why = _; stop = stops_past e m (subst (λ (t : Bool). T (not t)) (sym q) tt) })

          words : (t : Bool) → one_of x.word w ≡ t → Decided d (token g w ∷ s) i
          words true q = tests (kept g d x) refl (subst T (sym q) tt)
          words false q = inr (record { at = i; why = _; stop = stops_want (subst (λ (y : Look S.Place). T (lacks y w)) (sym e) (subst (λ (t : Bool). T (not t)) (sym q) tt)) })

      by_phrase : (o : Scope) (n : ℕ) (d : Counts) (s : List Symbol) (i : S.Place) → ahead i ≤ b → rank n + cond (full l n) 0 (front s) < c → (k : Option (List Symbol)) → chosen l n (view S l i) ≡ k → Decided d (phrase o n ∷ s) i
      by_phrase o n d s i h f none e = inr (record { at = i; why = _; stop = stops_none e })
      by_phrase o n d s i h f (some a) e = first (inner (inside o d) a i h (let q = (chosen_grounded n i a e).1 in omega arith))
        where
          second : (r : Ran (inside o d) a i) → Decided d s r.to → Decided d (phrase o n ∷ s) i
          second r (inl q) = inl (record {
            to = q.to;
            parts = node n a r.parts q.parts;
            run = reads_phrase e r.run q.run;
            keeps = let x = r.keeps in let y = q.keeps in omega arith;
            takes = or_filled n s (λ t. r.takes ((chosen_grounded n i a e).0 t)) r.keeps q.takes q.keeps;
          })
          second r (inr q) = inr (record { at = q.at; why = q.why; stop = stops_after e r.run q.stop })

          first : Decided (inside o d) a i → Decided d (phrase o n ∷ s) i
          first (inl r) = second r (behind n (front s) d s i r.to (λ t. r.takes ((chosen_grounded n i a e).0 t)) r.keeps h (omega arith) f)
          first (inr r) = inr (record { at = r.at; why = r.why; stop = stops_in e r.stop })

      either_front : (t : Bool) (n₁ : ℕ) (s : List Symbol) → front (cond t (phrase same n₁ ∷ s) s) ≤ suc (rank n₁ + front s)
      either_front true n₁ s = go (full l n₁)
        where
          go : (t : Bool) → suc (rank n₁ + cond t 0 (front s)) ≤ suc (rank n₁ + front s)
          go true = omega arith
          go false = omega arith
      either_front false n₁ s = omega arith

      by_side : (n n₁ : ℕ) (d : Counts) (s : List Symbol) (i : S.Place) → ahead i ≤ b → rank n + cond (full l n) 0 (suc (rank n₁ + front s)) < c → (k : Option (List Symbol)) → chosen l n (view S l i) ≡ k → Decided d (left_side n n₁ ∷ s) i
      by_side n n₁ d s i h f none e = inr (record { at = i; why = _; stop = stops_side_none e })
      by_side n n₁ d s i h f (some a) e = first (inner d a i h (let q = (chosen_grounded n i a e).1 in omega arith))
        where
          second : (r : Ran d a i) → T (may S l (l.is_path r.parts) (peek S l r.to)) → Decided d (cond (l.is_path r.parts) (phrase same n₁ ∷ s) s) r.to → Decided d (left_side n n₁ ∷ s) i
          second r m (inl q) = inl (record {
            to = q.to;
            parts = node n a r.parts q.parts;
            run = reads_side e r.run m q.run;
            keeps = let x = r.keeps in let y = q.keeps in omega arith;
            takes = λ t. let x = r.takes ((chosen_grounded n i a e).0 t) in let y = q.keeps in omega arith;
          })
          second r m (inr q) = inr (record { at = q.at; why = q.why; stop = stops_side_after e r.run m q.stop })

          tests : (r : Ran d a i) (t : Bool) → may S l (l.is_path r.parts) (peek S l r.to) ≡ t → Decided d (left_side n n₁ ∷ s) i
          tests r true q =
              let s' = cond (l.is_path r.parts) (phrase same n₁ ∷ s) s in
              second r (subst T (sym q) tt) (behind n (suc (rank n₁ + front s)) d s' i r.to (λ t. r.takes ((chosen_grounded n i a e).0 t)) r.keeps h (either_front (l.is_path r.parts) n₁ s) f)
          tests r false q = inr (record { at = r.to; why = _; stop = stops_left e r.run (subst (λ (t : Bool). T (not t)) (sym q) tt) })

          first : Decided d a i → Decided d (left_side n n₁ ∷ s) i
          first (inl r) = tests r (may S l (l.is_path r.parts) (peek S l r.to)) refl
          first (inr r) = inr (record { at = r.at; why = r.why; stop = stops_side_in e r.stop })

      by_text : (n : ℕ) (d : Counts) (s : List Symbol) (i : S.Place) → ahead i ≤ b → suc (rank n + front s) < c → (k : Look S.Place) → S.piece i ≡ k → Decided d (text n ∷ s) i
      by_text n d s i h f over e = inr (record { at = i; why = _; stop = stops_torn (subst (λ (q : Look S.Place). T (torn q)) (sym e) tt) })
      by_text n d s i h f (wrong m u v) e = inr (record { at = i; why = _; stop = stops_torn (subst (λ (q : Look S.Place). T (torn q)) (sym e) tt) })
      by_text n d s i h f (found x j) e = tests (kept has_value d x) refl
        where
          keep : ahead j ≤ ahead i
          keep = pieces_keep x i j e

          s' : List Symbol
          s' = cond (eqb x.word l.hole) (phrase same n ∷ s) s

          rest : T (kept has_value d x) → Decided (after has_value d) s' j → Decided d (text n ∷ s) i
          rest k (inl r) = inl (record { to = r.to; parts = leaf x r.parts; run = reads_text e k r.run; keeps = let q = r.keeps in let z = keep in omega arith; takes = λ t. absurd t })
          rest k (inr r) = inr (record { at = r.at; why = r.why; stop = stops_text e k r.stop })

          tests : (t : Bool) → kept has_value d x ≡ t → Decided d (text n ∷ s) i
          tests true q = rest (subst T (sym q) tt) (inner (after has_value d) s' j (let z = keep in omega arith) (let z = either_front (eqb x.word l.hole) n s in omega arith))
          tests false q = inr (record { at = i; why = _; stop = stops_ill e (subst (λ (t : Bool). T (not t)) (sym q) tt) })

      step : (d : Counts) (s : List Symbol) (i : S.Place) → ahead i ≤ b → front s < suc c → Decided d s i
      step d [] i h f = inl (record { to = i; parts = end; run = reads_end; keeps = omega arith; takes = λ t. absurd t })
      step d (token g w ∷ s) i h f = by_token g w d s i h (S.look i) refl
      step d (phrase o n ∷ s) i h f = by_phrase o n d s i h (omega arith) (chosen l n (view S l i)) refl
      step d (unless w ∷ s) i h f = go (one_of (peek S l i) w) refl
        where
          rest : T (not (one_of (peek S l i) w)) → Decided d s i → Decided d (unless w ∷ s) i
          rest m (inl r) = inl (record { to = r.to; parts = r.parts; run = reads_unless m r.run; keeps = r.keeps; takes = r.takes })
          rest m (inr r) = inr (record { at = r.at; why = r.why; stop = stops_unless m r.stop })

          go : (t : Bool) → one_of (peek S l i) w ≡ t → Decided d (unless w ∷ s) i
          go true q = inr (record { at = i; why = _; stop = stops_barred (subst T (sym q) tt) })
          go false q = rest (subst (λ (t : Bool). T (not t)) (sym q) tt) (inner d s i h (omega arith))
      step d (note k ∷ s) i h f = rest (inner d s i h (omega arith))
        where
          rest : Decided d s i → Decided d (note k ∷ s) i
          rest (inl r) = inl (record { to = r.to; parts = mark k r.parts; run = reads_note r.run; keeps = r.keeps; takes = r.takes })
          rest (inr r) = inr (record { at = r.at; why = r.why; stop = stops_note r.stop })
      step d (left_side n n₁ ∷ s) i h f = by_side n n₁ d s i h (omega arith) (chosen l n (view S l i)) refl
      step d (text n ∷ s) i h f = by_text n d s i h (omega arith) (S.piece i) refl

    within : (b : ℕ) → ((d : Counts) (s : List Symbol) (i : S.Place) → ahead i < b → Decided d s i) → (c : ℕ) (d : Counts) (s : List Symbol) (i : S.Place) → ahead i ≤ b → front s < c → Decided d s i
    within b before zero d s i h f = absurd (omega arith)
    within b before (suc c) d s i h f = step b before c (within b before c) d s i h f

    below : (b : ℕ) (d : Counts) (s : List Symbol) (i : S.Place) → ahead i < b → Decided d s i
    below zero d s i h = absurd (omega arith)
    below (suc b) d s i h = within b (below b) (suc (front s)) d s i (omega arith) (omega arith)

    pub decided : (d : Counts) (s : List Symbol) (i : S.Place) → Decided d s i
    decided d s i = below (suc (ahead i)) d s i (omega arith)
