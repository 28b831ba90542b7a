-- C-24 leaves out sources with f-strings: where no `f"` stands, a reader never comes to a piece of text, so that it goes the
-- same way over the same tokens with no text at all.
use mathlib.Core.Path.{◌≡◌, subst, sym}
use mathlib.Core.List.{List, [], ◌∷◌}
use mathlib.Core.Bool.{Bool, true, false, not, ◌&&◌, ◌||◌, cond}
use mathlib.Core.Logic.{inl, inr}
use Prim.Native.Nat.{ℕ}
use lib.Dec.{T, eqb, eqb→eq, T_not}
use Rattle.grammar.specs.Grammar.{same, Symbol, token, phrase, unless, note, left_side, text, Rule, Token, found, Stream, Parts, Language, one_of}
use Rattle.grammar.specs.Limits.{Counts}
use Rattle.grammar.specs.Readings.{reads_end, reads_token, reads_phrase, reads_unless, reads_note, reads_side, reads_text}
use Rattle.grammar.specs.Runs.{view, Picks, Run}
use Rattle.grammar.specs.Refusals.{Why, want, amiss, past, barred, left, unread, ill, Stops, stops_want, stops_past, stops_token, stops_none, stops_in, stops_after, stops_barred, stops_unless, stops_note, stops_side_none, stops_side_in, stops_left, stops_side_after, stops_torn, stops_ill, stops_text}
use Rattle.grammar.specs.Culprit.{reach_here, reach_on, Clean, textless}
use Rattle.grammar.proofs.Bools.{and_l, and_r, or_cases, both}
use Rattle.grammar.proofs.Pass.{each_passes, passes_at}
use Rattle.grammar.proofs.Core.{chosen_in}

abbrev pub not_unread : Why → Bool
not_unread (want w) = true
not_unread (amiss n) = true
not_unread (past g) = true
not_unread barred = true
not_unread (left p) = true
not_unread unread = false
not_unread (ill x) = true

-- `quote`: the word that text stands behind; `wild`: the kinds that stand behind text alone
module _ (quote : ℕ) (wild : List ℕ) where
  abbrev pub quotes : List ℕ → Bool
  quotes [] = true
  quotes (c ∷ w) = eqb c quote && quotes w

  -- text stands in it behind that word alone
  abbrev pub tame : List Symbol → Bool
  tame [] = true
  tame (token g w ∷ s) = quotes w || tame s
  tame (phrase o n ∷ s) = not (one_of n wild) && tame s
  tame (unless w ∷ s) = tame s
  tame (note k ∷ s) = tame s
  tame (left_side n n₁ ∷ s) = not (one_of n wild) && (not (one_of n₁ wild) && tame s)
  tame (text n ∷ s) = false

  abbrev pub all_tame : List Rule → Bool
  all_tame = each_passes (λ n a. one_of n wild || tame a)

  one_quote : (x : ℕ) (w : List ℕ) → T (quotes w) → T (one_of x w) → x ≡ quote
  one_quote x [] t m = absurd m
  one_quote x (c ∷ w) t m = elim (or_cases (eqb x c) (one_of x w) m) [
    | inl e ↦ subst (λ (y : ℕ). y ≡ quote) (sym (eqb→eq x c e)) (eqb→eq c quote (and_l (eqb c quote) (quotes w) t))
    | inr k ↦ one_quote x w (and_r (eqb c quote) (quotes w) t) k
  ]

  module _ (l : Language) (good : T (all_tame l.rules)) (S : Stream) where
    tame_in : (n : ℕ) (i : S.Place) (a : List Symbol) → Picks S l n i a → T (not (one_of n wild)) → T (tame a)
    tame_in n i a e h = elim (or_cases (one_of n wild) (tame a) (passes_at (λ m b. one_of m wild || tame b) l.rules n good (chosen_in S l n (view S l i) a e))) [
      | inl k ↦ absurd (T_not (one_of n wild) h k)
      | inr k ↦ k
    ]

    -- behind a token
    behind : {x : Token} {i j : S.Place} (w : List ℕ) (s : List Symbol) → S.look i ≡ found x j → T (one_of x.word w) → T (quotes w || tame s) → Clean S quote i → T (tame s) × Clean S quote j
    behind {x} {i} {j} w s e m t c = elim (or_cases (quotes w) (tame s) t) [
      | inl q ↦ absurd (c x i j reach_here e (one_quote x.word w q m))
      | inr q ↦ (q, λ y a b r. c y a b (reach_on e r))
    ]

    sided : (b : Bool) (n₁ : ℕ) (s : List Symbol) → T (not (one_of n₁ wild)) → T (tame s) → T (tame (cond b (phrase same n₁ ∷ s) s))
    sided true n₁ s h t = both (not (one_of n₁ wild)) (tame s) h t
    sided false n₁ s h t = t

    pub run_quiet : {d : Counts} {s : List Symbol} {i r : S.Place} {p : Parts} → Run S l d s i r p → T (tame s) → Clean S quote i → Run (textless S) l d s i r p × Clean S quote r
    run_quiet reads_end t c = (reads_end, c)
    run_quiet (reads_token {w = w} {s = s} e m k u) t c = let b = behind w s e m t c in let q = run_quiet u b.0 b.1 in (reads_token e m k q.0, q.1)
    run_quiet (reads_phrase {n = n} {a = a} {s = s} {i = i} e u v) t c =
        let h = and_l (not (one_of n wild)) (tame s) t in
        let q = run_quiet u (tame_in n i a e h) c in
        let o = run_quiet v (and_r (not (one_of n wild)) (tame s) t) q.1 in
        (reads_phrase e q.0 o.0, o.1)
    run_quiet (reads_unless m u) t c = let q = run_quiet u t c in (reads_unless m q.0, q.1)
    run_quiet (reads_note u) t c = let q = run_quiet u t c in (reads_note q.0, q.1)
    run_quiet (reads_side {n = n} {n₁ = n₁} {a = a} {s = s} {i = i} {p = p} e u m v) t c =
        let h = and_l (not (one_of n wild)) (not (one_of n₁ wild) && tame s) t in
        let k = and_r (not (one_of n wild)) (not (one_of n₁ wild) && tame s) t in
        let q = run_quiet u (tame_in n i a e h) c in
        let o = run_quiet v (sided (l.is_path p) n₁ s (and_l (not (one_of n₁ wild)) (tame s) k) (and_r (not (one_of n₁ wild)) (tame s) k)) q.1 in
        (reads_side e q.0 m o.0, o.1)
    run_quiet (reads_text e k u) t c = absurd t

    pub stop_quiet : {d : Counts} {s : List Symbol} {i z : S.Place} {y : Why} → Stops S l d s i z y → T (tame s) → Clean S quote i → Stops (textless S) l d s i z y × T (not_unread y)
    stop_quiet (stops_want h) t c = (stops_want h, tt)
    stop_quiet (stops_past e m h) t c = (stops_past e m h, tt)
    stop_quiet (stops_token {w = w} {s = s} e m h f) t c = let b = behind w s e m t c in let q = stop_quiet f b.0 b.1 in (stops_token e m h q.0, q.1)
    stop_quiet (stops_none e) t c = (stops_none e, tt)
    stop_quiet (stops_in {n = n} {a = a} {s = s} {i = i} e f) t c = let q = stop_quiet f (tame_in n i a e (and_l (not (one_of n wild)) (tame s) t)) c in (stops_in e q.0, q.1)
    stop_quiet (stops_after {n = n} {a = a} {s = s} {i = i} e u f) t c =
        let o = run_quiet u (tame_in n i a e (and_l (not (one_of n wild)) (tame s) t)) c in
        let q = stop_quiet f (and_r (not (one_of n wild)) (tame s) t) o.1 in
        (stops_after e o.0 q.0, q.1)
    stop_quiet (stops_barred h) t c = (stops_barred h, tt)
    stop_quiet (stops_unless h f) t c = let q = stop_quiet f t c in (stops_unless h q.0, q.1)
    stop_quiet (stops_note f) t c = let q = stop_quiet f t c in (stops_note q.0, q.1)
    stop_quiet (stops_side_none e) t c = (stops_side_none e, tt)
    stop_quiet (stops_side_in {n = n} {n₁ = n₁} {a = a} {s = s} {i = i} e f) t c = let q = stop_quiet f (tame_in n i a e (and_l (not (one_of n wild)) (not (one_of n₁ wild) && tame s) t)) c in (stops_side_in e q.0, q.1)
    stop_quiet (stops_left {n = n} {n₁ = n₁} {a = a} {s = s} {i = i} e u h) t c = (stops_left e (run_quiet u (tame_in n i a e (and_l (not (one_of n wild)) (not (one_of n₁ wild) && tame s) t)) c).0 h, tt)
    stop_quiet (stops_side_after {n = n} {n₁ = n₁} {a = a} {s = s} {i = i} {p = p} e u h f) t c =
        let k = and_r (not (one_of n wild)) (not (one_of n₁ wild) && tame s) t in
        let o = run_quiet u (tame_in n i a e (and_l (not (one_of n wild)) (not (one_of n₁ wild) && tame s) t)) c in
        let q = stop_quiet f (sided (l.is_path p) n₁ s (and_l (not (one_of n₁ wild)) (tame s) k) (and_r (not (one_of n₁ wild)) (tame s) k)) o.1 in
        (stops_side_after e o.0 h q.0, q.1)
    stop_quiet (stops_torn h) t c = absurd t
    stop_quiet (stops_ill e h) t c = absurd t
    stop_quiet (stops_text e h f) t c = absurd t
