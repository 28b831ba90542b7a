-- Blanks and comments that end before a `}` or `;` are skipped alike in two sources that agree up to it; and so a place
-- shows the same token in both.
use mathlib.Core.Path.{◌≡◌, refl, sym, ap, ◌∙◌}
use mathlib.Core.List.{List}
use mathlib.Core.Bool.{Bool, true, false, ◌&&◌, cond}
use Prim.Native.Nat.{ℕ, zero, suc, ◌+◌, ◌<◌, ◌≤◌}
use native.Mathlib.Decide.{dec_lt}
use native.Mathlib.Omega.{arith}
use lib.ListN.{length}
use lib.Dec.{eqb, ltb}
use borrow.Author.Tests.{lt-ltb}
use Rattle.chars.specs.declared.Class.TheVariants.{Blank, Line}
use Rattle.chars.specs.Chars.{byte_at, is_class}
use Rattle.chars.specs.Runs.{past_run}
use Rattle.chars.proofs.Runs.{outside}
use Rattle.tokens.specs.Results.{Step}
use Rattle.tokens.specs.Blanks.{skip_all, past_comment}
use Rattle.tokens.specs.Rules.{pair_at, refused, token_at}
use Rattle.tokens.specs.Tokens.{step_at}
use Rattle.tokens.proofs.Blanks.{skip_blank, skip_comment, skip_stops, comment_gt}
use Rattle.keeping.proofs.Fence.{Fence, brace, semicolon, span_same, fence_token}

pub skip_ge : (s : List ℕ) (i : ℕ) → i ≤ skip_all s i
unfolding skip_all
skip_ge s i = omega arith

module _ (s t : List ℕ) (q : ℕ) (long : length s ≡ length t) (same : (i : ℕ) → i ≤ q → byte_at s i ≡ byte_at t i) (fence : Fence (byte_at s q)) where
  -- a comment that ends before the fence
  line_same : (i e : ℕ) → past_run (is_class Line) s i ≡ e → e ≤ q → past_run (is_class Line) t i ≡ e
  unfolding past_run
  line_same i e z h = span_same (λ c b. is_class Line b) (λ c b. c) (λ c. outside Line) s t q same i e false z h

  at_least : (b : Bool) (e : ℕ) → e ≤ cond b (e + 1) e
  at_least true e = omega arith
  at_least false e = omega arith

  comment_same : (i : ℕ) → past_comment s i ≤ q → past_comment t i ≡ past_comment s i
  unfolding past_comment
  comment_same i h =
      let e : ℕ = past_run (is_class Line) s i in
      let g = at_least (ltb e (length s)) e in
      ap (λ (k : ℕ). cond (ltb k (length t)) (k + 1) k) (line_same i e refl (omega arith)) ∙ ap (λ (k : ℕ). cond (ltb e k) (e + 1) e) (sym long)

  pair_at_lem : (i : ℕ) → i + 1 ≤ q → pair_at s i 47 47 ≡ pair_at t i 47 47
  unfolding pair_at
  pair_at_lem i h = ap (λ (b : ℕ). eqb b 47 && eqb (byte_at s (i + 1)) 47) (same i (omega arith)) ∙ ap (λ (b : ℕ). eqb (byte_at t i) 47 && eqb b 47) (same (i + 1) h)

  no_slash : {b : ℕ} → Fence b → eqb b 47 ≡ false
  no_slash brace = refl
  no_slash semicolon = refl

  pair_off : (i : ℕ) → i ≤ q → pair_at s i 47 47 ≡ false → pair_at t i 47 47 ≡ false
  unfolding pair_at
  pair_off i h e = elim (dec_lt i q) [ yes k ↦ sym (pair_at_lem i (omega arith)) ∙ e | no k ↦ (let z : i ≡ q = omega arith in ap (λ (b : Bool). b && eqb (byte_at t (i + 1)) 47) (ap (λ (b : ℕ). eqb b 47) (sym (same i h) ∙ ap (byte_at s) z) ∙ no_slash fence)) ]

  abbrev Skips : ℕ → Type 0
  Skips n = (i : ℕ) → q ≤ i + n → skip_all s i ≤ q → skip_all t i ≡ skip_all s i

  one_turn : (n : ℕ) → ((k : ℕ) → k ≤ n → Skips k) → (i : ℕ) → q ≤ i + suc n → skip_all s i ≤ q → (b c : Bool) → is_class Blank (byte_at s i) ≡ b → pair_at s i 47 47 ≡ c → skip_all t i ≡ skip_all s i
  one_turn n ih i f h true c e d =
      let g = skip_ge s i in
      let z = skip_blank s i e in
      sym (skip_blank t i (ap (is_class Blank) (sym (same i (omega arith))) ∙ e)) ∙ ih n (omega arith) (i + 1) (omega arith) (omega arith) ∙ z
  one_turn n ih i f h false true e d =
      let z = skip_comment s i d in
      let g = skip_ge s (past_comment s i) in
      let m = comment_gt s i d in
      let p = comment_same i (omega arith) in
      sym (skip_comment t i (sym (pair_at_lem i (omega arith)) ∙ d)) ∙ ap (skip_all t) p ∙ ih n (omega arith) (past_comment s i) (omega arith) (omega arith) ∙ z
  one_turn n ih i f h false false e d =
      let g = skip_ge s i in
      let k : i ≤ q = omega arith in
      sym (skip_stops t i (ap (is_class Blank) (sym (same i k)) ∙ e) (pair_off i k d)) ∙ skip_stops s i e d

  no_blank : {c : ℕ} → Fence c → is_class Blank c ≡ false
  unfolding is_class
  no_blank brace = refl
  no_blank semicolon = refl

  slash_off : {c : ℕ} (i : ℕ) → Fence c → byte_at t i ≡ c → pair_at t i 47 47 ≡ false
  unfolding pair_at
  slash_off i f e = ap (λ (b : ℕ). eqb b 47 && eqb (byte_at t (i + 1)) 47) e ∙ ap (λ (b : Bool). b && eqb (byte_at t (i + 1)) 47) (no_slash f)

  at_fence : (i : ℕ) → i ≡ q → skip_all s i ≡ i → skip_all t i ≡ skip_all s i
  at_fence i at stop = let b : byte_at t i ≡ byte_at s q = sym (same i (omega arith)) ∙ ap (byte_at s) at in sym (skip_stops t i (ap (is_class Blank) b ∙ no_blank fence) (slash_off i fence b)) ∙ sym stop

  below : (n : ℕ) → (k : ℕ) → k ≤ n → Skips k
  below zero k h i f g = let w = skip_ge s i in at_fence i (omega arith) (omega arith)
  below (suc n) k h i f g = one_turn n (below n) i (omega arith) g (is_class Blank (byte_at s i)) (pair_at s i 47 47) refl refl

  pub skip_same : (i : ℕ) → skip_all s i ≤ q → skip_all t i ≡ skip_all s i
  skip_same i h = below q q (omega arith) i (omega arith) h

  -- what stands at a place: a token before the fence, or the fence
  inside : {x : Step} (a : ℕ) → step_at s a ≡ x → skip_all s a < length s → token_at s (skip_all s a) ≡ x
  unfolding step_at
  inside a e h = sym (ap (λ (b : Bool). cond b (token_at s (skip_all s a)) (refused 11 (length s) (length s))) (lt-ltb (skip_all s a) (length s) h)) ∙ e

  again : (a : ℕ) → skip_all s a ≤ q → skip_all s a < length s → step_at t a ≡ token_at t (skip_all s a)
  unfolding step_at
  again a h k = rw (skip_same a h, lt-ltb (skip_all s a) (length t) (omega (arith, k, long))) refl

  pub step_before : (i : ℕ) {k : Step} → step_at s i ≡ k → skip_all s i < length s → skip_all s i ≤ q → (token_at s (skip_all s i) ≡ k → token_at t (skip_all s i) ≡ k) → step_at t i ≡ k
  step_before i e h b f = again i b h ∙ f (inside i e h)

  pub step_fence : (i : ℕ) → skip_all s i ≡ q → q < length s → step_at t i ≡ step_at s i
  unfolding step_at
  step_fence i e h =
      again i (omega arith) (omega arith) ∙ ap (token_at t) e ∙ fence_token t q fence (sym (same q (omega arith))) ∙ sym (fence_token s q fence refl) ∙ ap (token_at s) (sym e) ∙ ap (λ (b : Bool). cond b (token_at s (skip_all s i)) (refused 11 (length s) (length s))) (sym (lt-ltb (skip_all s i) (length s) (omega arith)))
