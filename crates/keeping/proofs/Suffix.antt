-- Two sources of one length that agree from a place on show the same there.
use Rattle.std.specs.Prelude.{Some, None}
use mathlib.Core.Path.{◌≡◌, refl, sym, ap, ◌∙◌}
use mathlib.Core.List.{List, [], ◌∷◌}
use mathlib.Core.Bool.{Bool, true, false, ◌&&◌, cond, true≢false}
use Prim.Native.Nat.{ℕ, zero, suc, ◌+◌, ◌-◌, ◌<◌, ◌≤◌}
use native.Mathlib.Omega.{arith}
use lib.ListN.{length, take, drop}
use lib.Seq.{slice}
use native.Mathlib.Decide.{dec_lt}
use lib.Dec.{eqb, ltb, eqb_refl}
use borrow.Author.Tests.{eqb-true}
use Rattle.grammar.proofs.Bools.{T→eq}
use Rattle.chars.specs.declared.Class.TheVariants.{Digit, Figure, HexDigit, HexColon, NamePart}
use Rattle.chars.specs.Chars.{byte_at, is_class, is_digit}
use Rattle.chars.specs.Runs.{past_span, past_run, behind_last}
use Rattle.chars.proofs.Runs.{byte_drop, past_ge}
use Rattle.tokens.proofs.Results.{fit_end}
use Rattle.tokens.specs.Results.{Fit}
use Rattle.tokens.specs.Blanks.{skip_all}
use Rattle.tokens.specs.Rules.{when_fit, then_fit, pair_at, colons_at, fraction_at, dotted_at, three_at, decimal_group, or_to, ipv6_at, period_at, ipv4_at, two_at, one_at, as_at, hex_at, number_at, goes_on, escapes, quote_at, name_at, token_at}
use Rattle.tokens.specs.Tokens.{step_at}

drop_take : (i e : ℕ) (l : List ℕ) → drop i (take e l) ≡ take (e - i) (drop i l)
drop_take zero e l = ap (λ (k : ℕ). take k l) {x = e} {y = e - 0} (omega arith)
drop_take (suc i) zero l = ap (λ (k : ℕ). take k (drop (suc i) l)) {x = 0} {y = 0 - suc i} (omega arith)
drop_take (suc i) (suc e) [] = nothing (suc e - suc i)
  where
    nothing : (k : ℕ) → ◌≡◌ {A = List ℕ} [] (take k [])
    nothing zero = refl
    nothing (suc k) = refl
drop_take (suc i) (suc e) (x ∷ l) = drop_take i e l ∙ ap (λ (k : ℕ). take k (drop i l)) {x = e - i} {y = suc e - suc i} (omega arith)

module _ (s t : List ℕ) (from : ℕ) (long : length s ≡ length t) (rest : (i : ℕ) → from ≤ i → drop i s ≡ drop i t) where
  pub byte_on : (i : ℕ) → from ≤ i → byte_at s i ≡ byte_at t i
  byte_on i h = let z : i + 0 ≡ i = omega arith in ap (byte_at s) (sym z) ∙ sym (byte_drop s i 0) ∙ ap (λ (l : List ℕ). byte_at l 0) (rest i h) ∙ byte_drop t i 0 ∙ ap (byte_at t) z

  span_on : (keep next : Bool → ℕ → Bool) (c : Bool) (i : ℕ) → from ≤ i → past_span keep next c s i ≡ past_span keep next c t i
  unfolding past_span
  span_on keep next c i h = rw (rest i h) refl

  run_on : (p : ℕ → Bool) (i : ℕ) → from ≤ i → past_run p s i ≡ past_run p t i
  unfolding past_run
  run_on p i h = span_on (λ c b. p b) (λ c b. c) false i h

  pub skip_on : (i : ℕ) → from ≤ i → skip_all s i ≡ skip_all t i
  unfolding skip_all
  skip_on i h = rw (rest i h) refl

  slice_on : (i e : ℕ) → from ≤ i → slice i e s ≡ slice i e t
  slice_on i e h = drop_take i e s ∙ ap (take (e - i)) (rest i h) ∙ sym (drop_take i e t)

  module _ (at : ℕ) (h : from ≤ at) where
    over : (p : ℕ → Bool) (i : ℕ) → at ≤ i → from ≤ past_run p s i
    over p i k = let z = past_ge p s i in omega arith

    colons_on : colons_at s at ≡ colons_at t at
    unfolding colons_at
    colons_on =
        let a : ℕ = past_run (is_class HexDigit) s at in
        let b : ℕ = past_run (is_class HexDigit) s (a + 1) in
        let g = past_ge (is_class HexDigit) s at in
        let k = past_ge (is_class HexDigit) s (a + 1) in
        rw (sym (run_on (is_class HexDigit) at h), sym (run_on (is_class HexDigit) (a + 1) (omega arith)), sym (byte_on a (omega arith)), sym (byte_on b (omega arith)), sym (run_on (is_class HexColon) (b + 1) (omega arith))) refl

    period_on : (i : ℕ) → at ≤ i → period_at s i ≡ period_at t i
    unfolding period_at
    period_on i k = let e : ℕ = past_run (is_class Digit) s i in let g = past_ge (is_class Digit) s i in rw (sym (run_on (is_class Digit) i (omega arith)), sym (byte_on i (omega arith)), sym (byte_on e (omega arith))) refl

    fit_ge : (b : Bool) (i x w : ℕ) {e v : ℕ} → i ≤ x → when_fit b x w ≡ Some (e, v) → i ≤ e
    unfolding when_fit
    fit_ge true i x w {e} h z = let v : x ≡ e = ap fit_end z in omega arith
    fit_ge false i x w {e} h z = let v : ◌≡◌ {A = ℕ} 0 1 = cc in absurd (omega arith)

    then_on : (f : Fit) (g g' : ℕ → Fit) → ((e w : ℕ) → f ≡ Some (e, w) → g e ≡ g' e) → then_fit f g ≡ then_fit f g'
    unfolding then_fit
    then_on (Some (e, w)) g g' k = k e w refl
    then_on None g g' k = refl

    -- one part and then another, alike where the first is
    part_on : (f f' : Fit) (g g' : ℕ → Fit) → f ≡ f' → ((e w : ℕ) → f ≡ Some (e, w) → at ≤ e) → ((e : ℕ) → at ≤ e → g e ≡ g' e) → then_fit f g ≡ then_fit f' g'
    part_on f f' g g' x h k = then_on f g g' (λ e w z. k e (h e w z)) ∙ ap (λ (y : Fit). then_fit y g') x

    period_ge : (i : ℕ) → at ≤ i → (e w : ℕ) → period_at s i ≡ Some (e, w) → at ≤ e
    unfolding period_at
    period_ge i k e w z = let g = past_ge (is_class Digit) s i in fit_ge (is_digit (byte_at s i) && eqb (byte_at s (past_run (is_class Digit) s i)) 46) at _ 2 (omega arith) z

    period_then : (i : ℕ) → at ≤ i → (g g' : ℕ → Fit) → ((e : ℕ) → at ≤ e → g e ≡ g' e) → then_fit (period_at s i) g ≡ then_fit (period_at t i) g'
    period_then i k g g' f = part_on (period_at s i) (period_at t i) g g' (period_on i k) (period_ge i k) f

    ipv4_on : ipv4_at s at ≡ ipv4_at t at
    unfolding ipv4_at
    ipv4_on = period_then at (omega arith) _ _ (λ a ha. period_then a ha _ _ (λ b hb. period_then b hb _ _ (λ c hc. ap (λ (k : ℕ). Some (k, 2)) (run_on (is_class Digit) c (omega arith)))))

    two_on : two_at s at ≡ two_at t at
    unfolding two_at
    two_on = rw (sym (byte_on at h), sym (byte_on (at + 1) (omega arith))) refl

    one_on : one_at s at ≡ one_at t at
    unfolding one_at
    one_on = rw (sym (byte_on at h)) refl

    pair_on : (a b : ℕ) → pair_at s at a b ≡ pair_at t at a b
    unfolding pair_at
    pair_on a b = rw (sym (byte_on at h), sym (byte_on (at + 1) (omega arith))) refl

    as_on : as_at s at ≡ as_at t at
    unfolding as_at
    as_on = rw (sym (pair_on 65 83), sym (byte_on (at + 2) (omega arith)), sym (run_on (is_class Digit) (at + 2) (omega arith))) refl

    hex_on : hex_at s at ≡ hex_at t at
    unfolding hex_at
    hex_on = rw (sym (pair_on 48 120), sym (run_on (is_class HexDigit) (at + 2) (omega arith))) refl

    fraction_on : (i : ℕ) → from ≤ i → fraction_at s i ≡ fraction_at t i
    unfolding fraction_at
    fraction_on i k = rw (sym (byte_on i k), sym (byte_on (i + 1) (omega arith))) refl

    dotted_on : (i : ℕ) → at ≤ i → dotted_at s i ≡ dotted_at t i
    unfolding dotted_at
    dotted_on i k = rw (sym (fraction_on i (omega arith)), sym (run_on (is_class Digit) (i + 1) (omega arith))) refl

    dotted_ge : (i : ℕ) → at ≤ i → (e w : ℕ) → dotted_at s i ≡ Some (e, w) → at ≤ e
    unfolding dotted_at
    dotted_ge i k e w z = let g = past_ge (is_class Digit) s (i + 1) in fit_ge (fraction_at s i) at _ 1 (omega arith) z

    dotted_then : (i : ℕ) → at ≤ i → (g g' : ℕ → Fit) → ((e : ℕ) → at ≤ e → g e ≡ g' e) → then_fit (dotted_at s i) g ≡ then_fit (dotted_at t i) g'
    dotted_then i k g g' f = part_on (dotted_at s i) (dotted_at t i) g g' (dotted_on i k) (dotted_ge i k) f

    three_on : (i : ℕ) → at ≤ i → three_at s i ≡ three_at t i
    unfolding three_at
    three_on i k = dotted_then i k _ _ (λ a ha. dotted_then a ha _ _ (λ b hb. dotted_on b hb))

    -- the last group stands behind a colon of the token
    last_on : (c k n : ℕ) → at ≤ k → k < n → byte_at s k ≡ c → (behind_last c s n ≡ behind_last c t n) × (at ≤ behind_last c s n)
    unfolding behind_last
    last_on c k zero l g e = absurd (omega (arith, g))
    last_on c k (suc i) l g e = by (eqb (byte_at s i) c) refl (λ u. last_on c k i l u e)
      where
        other : eqb (byte_at s i) c ≡ false → k < i
        other f = elim (dec_lt k i) [ yes u ↦ u | no u ↦ absurd (let z : i ≡ k = omega arith in true≢false (sym (ap (λ (b : ℕ). eqb b c) (ap (byte_at s) z ∙ e) ∙ same c) ∙ f)) ]
          where
            same : (n : ℕ) → eqb n n ≡ true
            same n = T→eq (eqb n n) (eqb_refl n)

        by : (b : Bool) → eqb (byte_at s i) c ≡ b → (k < i → (behind_last c s i ≡ behind_last c t i) × (at ≤ behind_last c s i)) → ◌≡◌ {A = ℕ} (elim (eqb (byte_at s i) c) [ true ↦ suc i | false ↦ behind_last c s i ]) (elim (eqb (byte_at t i) c) [ true ↦ suc i | false ↦ behind_last c t i ]) × (at ≤ elim (eqb (byte_at s i) c) [ true ↦ suc i | false ↦ behind_last c s i ])
        by true f ih = rw (sym (byte_on i (omega arith)), f) (refl, omega arith)
        by false f ih = rw (sym (byte_on i (omega arith)), f) (ih (other f))

    decimal_on : (k e : ℕ) → at ≤ k → k < e → byte_at s k ≡ 58 → decimal_group s e ≡ decimal_group t e
    unfolding decimal_group
    decimal_on k e l g c = let u = last_on 58 k e l g c in let v = u.1 in
        ap (λ (n : ℕ). ltb (behind_last 58 s e) e && eqb n e) (run_on (is_class Digit) (behind_last 58 s e) (omega arith)) ∙ ap (λ (n : ℕ). ltb n e && eqb (past_run (is_class Digit) t n) e) u.0

    both_so : (x y : Bool) (i w : ℕ) {e v : ℕ} → when_fit (x && y) i w ≡ Some (e, v) → (y ≡ true) × (i ≡ e)
    unfolding when_fit
    both_so true true i w z = (refl, ap fit_end z)
    both_so true false i w z = let v : ◌≡◌ {A = ℕ} 0 1 = cc in absurd (omega arith)
    both_so false y i w z = let v : ◌≡◌ {A = ℕ} 0 1 = cc in absurd (omega arith)

    -- the second colon of such a token
    second_colon : (e w : ℕ) → colons_at s at ≡ Some (e, w) → (k : ℕ) × (at ≤ k) × (k < e) × (byte_at s k ≡ 58)
    unfolding colons_at
    second_colon e w z =
        let a : ℕ = past_run (is_class HexDigit) s at in
        let b : ℕ = past_run (is_class HexDigit) s (a + 1) in
        let p = both_so (eqb (byte_at s a) 58) (eqb (byte_at s b) 58) (past_run (is_class HexColon) s (b + 1)) 1 z in
        let q = p.1 in
        let g = past_ge (is_class HexDigit) s at in
        let h = past_ge (is_class HexDigit) s (a + 1) in
        let k = past_ge (is_class HexColon) s (b + 1) in
        (b, omega arith, omega arith, eqb-true (byte_at s b) 58 p.0)

    ipv6_on : ipv6_at s at ≡ ipv6_at t at
    unfolding ipv6_at
    ipv6_on = then_on (colons_at s at) _ _ (λ e w z. let k = second_colon e w z in let g = k.1 in let l = k.2 in
        ap (λ (b : Bool). or_to (cond b (three_at s e) None) e) (decimal_on k.0 e k.1 k.2 k.3) ∙ ap (λ (f : Fit). or_to (cond (decimal_group t e) f None) e) (three_on e (omega arith)))
        ∙ ap (λ (f : Fit). then_fit f (λ e. or_to (cond (decimal_group t e) (three_at t e) None) e)) colons_on

    number_on : number_at s at ≡ number_at t at
    unfolding number_at
    number_on =
        let w : ℕ = past_run (is_class Figure) s at in
        let g = past_ge (is_class Figure) s at in
        rw (sym (run_on (is_class Figure) at h), sym (fraction_on w (omega arith)), sym (run_on (is_class Figure) (w + 1) (omega arith)), sym (byte_on at h)) (by (fraction_at s w))
      where
        by : (b : Bool) → when_fit (is_digit (byte_at s at)) (past_run (is_class NamePart) s (cond b (past_run (is_class Figure) s (past_run (is_class Figure) s at + 1)) (past_run (is_class Figure) s at))) (cond b 8 7) ≡ when_fit (is_digit (byte_at s at)) (past_run (is_class NamePart) t (cond b (past_run (is_class Figure) s (past_run (is_class Figure) s at + 1)) (past_run (is_class Figure) s at))) (cond b 8 7)
        by true = let w : ℕ = past_run (is_class Figure) s at in let g = past_ge (is_class Figure) s at in let k = past_ge (is_class Figure) s (w + 1) in ap (λ (e : ℕ). when_fit (is_digit (byte_at s at)) e 8) (run_on (is_class NamePart) (past_run (is_class Figure) s (w + 1)) (omega arith))
        by false = let g = past_ge (is_class Figure) s at in ap (λ (e : ℕ). when_fit (is_digit (byte_at s at)) e 7) (run_on (is_class NamePart) (past_run (is_class Figure) s at) (omega arith))

    quote_on : (c w : ℕ) → quote_at c w s at ≡ quote_at c w t at
    unfolding quote_at
    quote_on c w = rw (sym (span_on (goes_on c) escapes false (at + 1) (omega arith)), sym (byte_on at h), sym long) refl

    name_on : name_at s at ≡ name_at t at
    unfolding name_at
    name_on = rw (sym (run_on (is_class NamePart) at h), sym (byte_on at h), sym (slice_on at (past_run (is_class NamePart) s at) h)) refl

    token_on : token_at s at ≡ token_at t at
    unfolding token_at
    token_on = rw (sym ipv6_on, sym ipv4_on, sym two_on, sym one_on, sym as_on, sym hex_on, sym number_on, sym (pair_on 102 34), sym (quote_on 34 9), sym (quote_on 39 10), sym name_on) refl

  skip_from : (i : ℕ) → i ≤ skip_all s i
  unfolding skip_all
  skip_from i = omega arith

  -- from that place on, the lexer's steps are the same
  pub step_on : (i : ℕ) → from ≤ i → step_at s i ≡ step_at t i
  unfolding step_at
  step_on i h = let g = skip_from i in rw (sym (skip_on i h), sym long, sym (token_on (skip_all s i) (omega arith))) refl
