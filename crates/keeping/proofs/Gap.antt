-- Bytes that were replaced by blanks: a place before them, from which the first of them is reached over blanks and comments,
-- shows what stands behind them.
use mathlib.Core.Path.{◌≡◌, refl, sym, ap, ◌∙◌}
use mathlib.Core.List.{List}
use mathlib.Core.Bool.{Bool, true, false, ◌&&◌, true≢false, cond}
use Prim.Native.Nat.{ℕ, zero, suc, ◌+◌, ◌-◌, ◌<◌, ◌≤◌}
use native.Mathlib.Decide.{dec_lt}
use native.Mathlib.Omega.{arith}
use lib.ListN.{length}
use lib.Dec.{eqb, ltb}
use borrow.Author.Tests.{lt-ltb, le-ltb, eqb-true}
use Rattle.chars.specs.declared.Class.TheVariants.{Blank, Line}
use Rattle.chars.specs.Chars.{byte_at, is_class}
use Rattle.chars.specs.Runs.{past_run}
use Rattle.chars.proofs.Runs.{outside, past_more, past_gt}
use Rattle.tokens.specs.Blanks.{skip_all, past_comment}
use Rattle.tokens.specs.Rules.{pair_at}
use Rattle.tokens.specs.Tokens.{step_at}
use Rattle.tokens.proofs.Blanks.{skip_blank, skip_comment, skip_stops}
use Rattle.keeping.proofs.Fence.{span_same}
use Rattle.keeping.proofs.Skips.{skip_ge}

-- a comment has two bytes at least
slash : (b : ℕ) → eqb b 47 ≡ true → is_class Line b ≡ true
unfolding is_class
slash b e = ap (is_class Line) (eqb-true b 47 e)

both_slash : (a b : Bool) → (a && b) ≡ true → (a ≡ true) × (b ≡ true)
both_slash true b e = (refl, e)
both_slash false b e = absurd (true≢false (sym e))

two : (s : List ℕ) (i : ℕ) → pair_at s i 47 47 ≡ true → i + 1 < past_comment s i
unfolding pair_at past_comment
two s i e =
    let p = both_slash (eqb (byte_at s i) 47) (eqb (byte_at s (i + 1)) 47) e in
    let u = past_more (is_class Line) (outside Line) s i (slash (byte_at s i) p.0) in
    let v = past_gt (is_class Line) (outside Line) s (i + 1) (slash (byte_at s (i + 1)) p.1) in
    by (ltb (past_run (is_class Line) s i) (length s)) (past_run (is_class Line) s i) (omega arith)
  where
    by : (b : Bool) (e : ℕ) → i + 1 < e → i + 1 < cond b (e + 1) e
    by true e h = omega arith
    by false e h = h

module _ (s t : List ℕ) (first : ℕ) (long : length s ≡ length t) (inside : first < length s) (same : (i : ℕ) → i < first → byte_at s i ≡ byte_at t i) where
  line_same : (i e : ℕ) → past_run (is_class Line) s i ≡ e → e < first → past_run (is_class Line) t i ≡ e
  unfolding past_run
  line_same i e z h = span_same (λ c b. is_class Line b) (λ c b. c) (λ c. outside Line) s t e (λ j k. same j (omega arith)) i e false z (omega arith)

  -- a comment that ends before the bytes that differ
  comment_same : (i : ℕ) → past_comment s i ≤ first → past_comment t i ≡ past_comment s i
  unfolding past_comment
  comment_same i = by (past_run (is_class Line) s i) refl
    where
      by : (e : ℕ) → past_run (is_class Line) s i ≡ e → cond (ltb e (length s)) (e + 1) e ≤ first → cond (ltb (past_run (is_class Line) t i) (length t)) (past_run (is_class Line) t i + 1) (past_run (is_class Line) t i) ≡ cond (ltb e (length s)) (e + 1) e
      by e z = elim (dec_lt e (length s)) [
        | yes k ↦ rw (lt-ltb e (length s) k) λ h. let u = line_same i e z (omega arith) in rw (u, lt-ltb e (length t) (omega (arith, k, long))) refl
        | no k ↦ rw (le-ltb e (length s) (omega arith)) λ h. absurd (omega (arith, h, k, inside))
      ]

  pair_at_lem : (i : ℕ) → i + 1 < first → pair_at s i 47 47 ≡ pair_at t i 47 47
  unfolding pair_at
  pair_at_lem i h = ap (λ (b : ℕ). eqb b 47 && eqb (byte_at s (i + 1)) 47) (same i (omega arith)) ∙ ap (λ (b : ℕ). eqb (byte_at t i) 47 && eqb b 47) (same (i + 1) h)

  abbrev Reaches : ℕ → Type 0
  Reaches n = (i : ℕ) → first ≤ i + n → skip_all s i ≡ first → skip_all t i ≡ skip_all t first

  turn : (n : ℕ) → Reaches n → (i : ℕ) → first ≤ i + suc n → skip_all s i ≡ first → i < first → (b c : Bool) → is_class Blank (byte_at s i) ≡ b → pair_at s i 47 47 ≡ c → skip_all t i ≡ skip_all t first
  turn n ih i f h k true c e d = sym (skip_blank t i (ap (is_class Blank) (sym (same i k)) ∙ e)) ∙ ih (i + 1) (omega arith) (skip_blank s i e ∙ h)
  turn n ih i f h k false true e d =
      let z = skip_comment s i d in
      let g = skip_ge s (past_comment s i) in
      let m = two s i d in
      sym (skip_comment t i (sym (pair_at_lem i (omega arith)) ∙ d)) ∙ ap (skip_all t) (comment_same i (omega arith)) ∙ ih (past_comment s i) (omega arith) (z ∙ h)
  turn n ih i f h k false false e d = absurd (let z = skip_stops s i e d in omega arith)

  reach : (n : ℕ) → Reaches n
  reach zero i f h = let g = skip_ge s i in ap (skip_all t) (omega arith)
  reach (suc n) i f h = elim (dec_lt i first) [ yes k ↦ turn n (reach n) i f h k (is_class Blank (byte_at s i)) (pair_at s i 47 47) refl refl | no k ↦ (let g = skip_ge s i in ap (skip_all t) (omega arith)) ]

  blanks : (n i : ℕ) → ((j : ℕ) → i ≤ j → j < i + n → is_class Blank (byte_at t j) ≡ true) → skip_all t i ≡ skip_all t (i + n)
  blanks zero i h = ap (skip_all t) {x = i} {y = i + zero} (omega arith)
  blanks (suc n) i h = sym (skip_blank t i (h i (omega arith) (omega arith))) ∙ blanks n (i + 1) (λ j p q. h j (omega arith) (omega arith)) ∙ ap (skip_all t) (omega arith)

  module _ (m line : ℕ) (to : skip_all s m ≡ first) (over_it : first ≤ line) (blank : (j : ℕ) → first ≤ j → j < line → is_class Blank (byte_at t j) ≡ true) where
    pub gap_skips : skip_all t m ≡ skip_all t line
    gap_skips = reach first m (omega arith) to ∙ blanks (line - first) first (λ j p q. blank j p (omega arith)) ∙ ap (skip_all t) (omega arith)

    -- so a step from there is a step from behind the blanks
    pub gap : step_at t m ≡ step_at t line
    unfolding step_at
    gap = rw gap_skips refl
