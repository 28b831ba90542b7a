-- A run of bytes that ends inside a copy, or where the copy ends and its test fails there, ends at the same byte of the copy.
use mathlib.Core.Path.{◌≡◌, refl, sym, ap, ◌∙◌, subst}
use mathlib.Core.Logic.{◌⊎◌, inl, inr}
use mathlib.Core.List.{List}
use mathlib.Core.Bool.{Bool, true, false, true≢false}
use Prim.Native.Nat.{ℕ, zero, suc, ◌+◌, ◌-◌, ◌<◌, ◌≤◌}
use native.Mathlib.Decide.{dec_lt}
use native.Mathlib.Omega.{arith}
use Rattle.chars.specs.Chars.{byte_at}
use Rattle.chars.specs.Runs.{past_span, past_run}
use Rattle.chars.proofs.Runs.{span_ge, span_more, span_done, past_more, past_done, along}

module _ (keep next : Bool → ℕ → Bool) (none : (c : Bool) → keep c 256 ≡ false) (s t : List ℕ) (lo q q' : ℕ) (same : (i i' : ℕ) → lo ≤ i → i < q → i + q' ≡ i' + q → byte_at t i' ≡ byte_at s i) where
  abbrev pub Ends : ℕ → Type 0
  Ends e = (e < q) ⊎ ((e ≤ q) × ((c : Bool) → keep c (byte_at t q') ≡ false))

  ends_le : (e : ℕ) → Ends e → e ≤ q
  ends_le e (inl h) = omega arith
  ends_le e (inr h) = h.0

  stops : (i i' : ℕ) (c : Bool) → lo ≤ i → i + q' ≡ i' + q → Ends i → keep c (byte_at s i) ≡ false → keep c (byte_at t i') ≡ false
  stops i i' c l at h k = elim (dec_lt i q) [ yes g ↦ ap (keep c) (same i i' l g at) ∙ k | no g ↦ at_end h g ]
    where
      at_end : Ends i → (i < q → ⊥) → keep c (byte_at t i') ≡ false
      at_end (inl u) g = absurd (g u)
      at_end (inr u) g = let le = u.0 in let z : i' ≡ q' = omega arith in ap (λ (j : ℕ). keep c (byte_at t j)) z ∙ u.1 c

  abbrev Spans : ℕ → Type 0
  Spans n = (i i' : ℕ) (c : Bool) → lo ≤ i → i + q' ≡ i' + q → past_span keep next c s i ≡ i + n → Ends (i + n) → past_span keep next c t i' ≡ i' + n

  stays : (n i i' : ℕ) (c : Bool) → lo ≤ i → i + q' ≡ i' + q → past_span keep next c s i ≡ i + n → Ends (i + n) → keep c (byte_at s i) ≡ false → past_span keep next c t i' ≡ i' + n
  stays n i i' c l at x h k =
      let y : i + n ≡ i = sym x ∙ span_done keep next c (none c) s i k in
      span_done keep next c (none c) t i' (stops i i' c l at (subst Ends y h) k) ∙ omega arith

  goes : (n i i' : ℕ) (c : Bool) → Spans n → lo ≤ i → i + q' ≡ i' + q → past_span keep next c s i ≡ i + suc n → Ends (i + suc n) → keep c (byte_at s i) ≡ true → past_span keep next c t i' ≡ i' + suc n
  goes n i i' c ih l at x h k =
      let g = ends_le (i + suc n) h in
      let b : byte_at t i' ≡ byte_at s i = same i i' l (omega arith) at in
      let z = span_more keep next c (none c) s i k in
      let y : i + suc n ≡ i + 1 + n = omega arith in
      let w = ih (i + 1) (i' + 1) (next c (byte_at s i)) (omega arith) (omega arith) (z ∙ x ∙ y) (subst Ends y h) in
      sym (span_more keep next c (none c) t i' (ap (keep c) b ∙ k)) ∙ ap (λ (v : ℕ). past_span keep next (next c v) t (i' + 1)) b ∙ w ∙ omega arith

  never : (i : ℕ) (c : Bool) → keep c (byte_at s i) ≡ true → past_span keep next c s i ≡ i + 0 → ⊥
  never i c k x = let z = span_more keep next c (none c) s i k in let y = span_ge keep next (next c (byte_at s i)) s (i + 1) in omega arith

  spans : (n : ℕ) → Spans n
  spans zero i i' c l at x h = by (keep c (byte_at s i)) refl
    where
      by : (b : Bool) → keep c (byte_at s i) ≡ b → past_span keep next c t i' ≡ i' + zero
      by false k = stays zero i i' c l at x h k
      by true k = absurd (never i c k x)
  spans (suc n) i i' c l at x h = by (keep c (byte_at s i)) refl (spans n)
    where
      by : (b : Bool) → keep c (byte_at s i) ≡ b → Spans n → past_span keep next c t i' ≡ i' + suc n
      by false k ih = stays (suc n) i i' c l at x h k
      by true k ih = goes n i i' c ih l at x h k

  pub span_copied : (i i' : ℕ) (c : Bool) → lo ≤ i → i + q' ≡ i' + q → Ends (past_span keep next c s i) → past_span keep next c t i' + q ≡ past_span keep next c s i + q'
  span_copied i i' c l at h =
      let g = span_ge keep next c s i in
      let n : ℕ = past_span keep next c s i - i in
      let x : past_span keep next c s i ≡ i + n = omega arith in
      let z = spans n i i' c l at x (subst Ends x h) in
      omega arith

-- the same for a run, whose test knows no state
pub run_copied : (p : ℕ → Bool) → p 256 ≡ false → (s t : List ℕ) (lo q q' : ℕ) → ((i i' : ℕ) → lo ≤ i → i < q → i + q' ≡ i' + q → byte_at t i' ≡ byte_at s i)
    → (i i' : ℕ) → lo ≤ i → i + q' ≡ i' + q → (past_run p s i < q) ⊎ ((past_run p s i ≤ q) × (p (byte_at t q') ≡ false))
    → past_run p t i' + q ≡ past_run p s i + q'
unfolding past_run
run_copied p none s t lo q q' same i i' l at h = span_copied (λ c b. p b) (λ c b. c) (λ c. none) s t lo q q' same i i' false l at (either h)
  where
    either : (past_run p s i < q) ⊎ ((past_run p s i ≤ q) × (p (byte_at t q') ≡ false)) → (past_run p s i < q) ⊎ ((past_run p s i ≤ q) × ((c : Bool) → p (byte_at t q') ≡ false))
    either (inl g) = inl g
    either (inr g) = inr (g.0, λ c. g.1)

-- a run doesn't pass a byte at which its test fails
pub run_before : (p : ℕ → Bool) → p 256 ≡ false → (s : List ℕ) (e : ℕ) → p (byte_at s e) ≡ false → (i : ℕ) → i ≤ e → past_run p s i ≤ e
run_before p none s e f = along p none s (λ i. i ≤ e → past_run p s i ≤ e) (λ i g h. let z = past_done p none s i g in omega arith) more
  where
    more : (i : ℕ) → p (byte_at s i) ≡ true → (i + 1 ≤ e → past_run p s (i + 1) ≤ e) → i ≤ e → past_run p s i ≤ e
    more i t ih h = elim (dec_lt i e) [
      | yes g ↦ (let z = past_more p none s i t in let y = ih (omega arith) in omega arith)
      | no g ↦ absurd (let z : i ≡ e = omega arith in true≢false (sym t ∙ ap (λ (m : ℕ). p (byte_at s m)) z ∙ f))
    ]
