-- Two sources of one length that agree up to a `}` or `;` and at it: a token that ends before it, and that sign itself,
-- are seen alike in both.
use Rattle.std.specs.Prelude.{Some, None, Ok}
use mathlib.Core.Path.{◌≡◌, refl, sym, ap, ◌∙◌}
use mathlib.Core.Logic.{◌⊎◌, inl, inr}
use mathlib.Core.List.{List, ◌∷◌}
use mathlib.Core.Bool.{Bool, true, false, ◌&&◌, not, true≢false, cond}
use Prim.Native.Nat.{ℕ, zero, suc, ◌+◌, ◌-◌, ◌<◌, ◌≤◌}
use native.Mathlib.Decide.{dec_lt}
use native.Mathlib.Numerals.{add-one}
use native.Mathlib.Omega.{arith}
use lib.ListN.{length}
use lib.Seq.{slice, slice_empty, slice-cons}
use lib.Dec.{eqb, ltb}
use borrow.Author.Tests.{eqb-true, ne_eqb}
use Rattle.chars.specs.declared.Class.{Class}
use Rattle.chars.specs.declared.Class.TheVariants.{Digit, Figure, HexDigit, HexColon, NamePart}
use Rattle.chars.specs.Chars.{byte_at, is_class, is_digit}
use Rattle.chars.specs.Runs.{past_span, past_run, behind_last}
use Rattle.chars.specs.Texts as texts
use Rattle.chars.proofs.Runs.{byte_in, byte_out, outside, past_ge, past_more, past_done, span_ge, span_more, span_done, along, last_le}
use Rattle.tokens.proofs.Results.{fit_end, taken_start, taken_end}
use Rattle.tokens.specs.Results.{Fit}
use Rattle.tokens.specs.declared.Cursor.{Cursor}
use Rattle.tokens.specs.Results.{Step}
use Rattle.tokens.specs.Words.{two_signs, one_signs, word_in, two_sign, one_sign, name_word}
use Rattle.tokens.specs.Rules.{when_fit, sign_fit, then_fit, pair_at, colons_at, fraction_at, dotted_at, three_at, decimal_group, or_to, ipv6_at, period_at, ipv4_at, two_at, one_at, as_at, hex_at, number_at, goes_on, escapes, quote_at, is_name_start, name_at, taken, refused, or_else, token_at}

and_same : (a a' b b' : Bool) → a ≡ a' → (a ≡ true → b ≡ b') → (a && b) ≡ (a' && b')
and_same true a' b b' e f = f refl ∙ ap (λ (x : Bool). x && b') e
and_same false a' b b' e f = ap (λ (x : Bool). x && b') e

fit_same : (x x' : Bool) (e e' w : ℕ) → x ≡ x' → (x ≡ true → e ≡ e') → when_fit x e w ≡ when_fit x' e' w
unfolding when_fit
fit_same true x' e e' w p q = ap (λ (k : ℕ). Some (k, w)) (q refl) ∙ ap (λ (y : Bool). when_fit y e' w) p
fit_same false x' e e' w p q = ap (λ (y : Bool). when_fit y e' w) p

left_so : (a b : Bool) → (a && b) ≡ true → a ≡ true
left_so true b e = refl
left_so false b e = e

right_so : (a b : Bool) → (a && b) ≡ true → b ≡ true
right_so true b e = e
right_so false b e = absurd (true≢false (sym e))

-- a sign behind which nothing is looked at, and with which no run goes on
pub data Fence : ℕ → Type 0 where
  brace : Fence 125
  semicolon : Fence 59

class_off : (k : Class) {b : ℕ} → Fence b → (k ≡ Digit) ⊎ ((k ≡ Figure) ⊎ ((k ≡ HexDigit) ⊎ ((k ≡ HexColon) ⊎ (k ≡ NamePart)))) → is_class k b ≡ false
unfolding is_class
class_off k brace (inl e) = ap (λ (x : Class). is_class x 125) e
class_off k semicolon (inl e) = ap (λ (x : Class). is_class x 59) e
class_off k brace (inr (inl e)) = ap (λ (x : Class). is_class x 125) e
class_off k semicolon (inr (inl e)) = ap (λ (x : Class). is_class x 59) e
class_off k brace (inr (inr (inl e))) = ap (λ (x : Class). is_class x 125) e
class_off k semicolon (inr (inr (inl e))) = ap (λ (x : Class). is_class x 59) e
class_off k brace (inr (inr (inr (inl e)))) = ap (λ (x : Class). is_class x 125) e
class_off k semicolon (inr (inr (inr (inl e)))) = ap (λ (x : Class). is_class x 59) e
class_off k brace (inr (inr (inr (inr e)))) = ap (λ (x : Class). is_class x 125) e
class_off k semicolon (inr (inr (inr (inr e)))) = ap (λ (x : Class). is_class x 59) e

-- the scan of a span that ends before a place where two sources agree, ends there in both
module _ (keep next : Bool → ℕ → Bool) (none : (c : Bool) → keep c 256 ≡ false) (s t : List ℕ) (q : ℕ) (same : (i : ℕ) → i ≤ q → byte_at s i ≡ byte_at t i) where
  Spans : ℕ → Type 0
  Spans n = (i : ℕ) (c : Bool) → past_span keep next c s i ≡ i + n → i + n ≤ q → past_span keep next c t i ≡ i + n

  at_t : (i : ℕ) (c : Bool) {x : Bool} → keep c (byte_at s i) ≡ x → i ≤ q → keep c (byte_at t i) ≡ x
  at_t i c k h = ap (keep c) (sym (same i h)) ∙ k

  stays : (n i : ℕ) (c : Bool) → keep c (byte_at s i) ≡ false → past_span keep next c s i ≡ i + n → i + n ≤ q → past_span keep next c t i ≡ i + n
  stays n i c k e h = let z = span_done keep next c (none c) s i k in span_done keep next c (none c) t i (at_t i c k (omega arith)) ∙ omega (arith, z, e)

  goes : (n i : ℕ) (c : Bool) → Spans n → keep c (byte_at s i) ≡ true → past_span keep next c s i ≡ i + suc n → i + suc n ≤ q → past_span keep next c t i ≡ i + suc n
  unfolding Spans
  goes n i c ih k e h =
      let z = span_more keep next c (none c) s i k in
      let v : past_span keep next (next c (byte_at s i)) s (i + 1) ≡ i + 1 + n = z ∙ e ∙ omega arith in
      let w = ih (i + 1) (next c (byte_at s i)) v (omega arith) in
      sym (span_more keep next c (none c) t i (at_t i c k (omega arith))) ∙ ap (λ (b : ℕ). past_span keep next (next c b) t (i + 1)) (sym (same i (omega arith))) ∙ w ∙ omega arith

  never : (i : ℕ) (c : Bool) → keep c (byte_at s i) ≡ true → past_span keep next c s i ≡ i + 0 → ⊥
  never i c k e = let z = span_more keep next c (none c) s i k in let y = span_ge keep next (next c (byte_at s i)) s (i + 1) in omega arith

  spans : (n : ℕ) → Spans n
  unfolding Spans
  spans zero i c e h = by (keep c (byte_at s i)) refl
    where
      by : (x : Bool) → keep c (byte_at s i) ≡ x → past_span keep next c t i ≡ i + zero
      by false k = stays zero i c k e h
      by true k = absurd (never i c k e)
  spans (suc n) i c e h = by (keep c (byte_at s i)) refl (spans n)
    where
      by : (x : Bool) → keep c (byte_at s i) ≡ x → Spans n → past_span keep next c t i ≡ i + suc n
      by false k ih = stays (suc n) i c k e h
      by true k ih = goes n i c ih k e h

  pub span_same : (i e : ℕ) (c : Bool) → past_span keep next c s i ≡ e → e ≤ q → past_span keep next c t i ≡ e
  unfolding Spans
  span_same i e c x h = let g = span_ge keep next c s i in let k : i + (e - i) ≡ e = omega arith in spans (e - i) i c (x ∙ sym k) (omega arith) ∙ k

-- where a span ends, its test fails
module _ (keep next : Bool → ℕ → Bool) (none : (c : Bool) → keep c 256 ≡ false) (s : List ℕ) where
  abbrev Fails : ℕ → Type 0
  Fails e = (c : Bool) × (keep c (byte_at s e) ≡ false)

  abbrev Stops : ℕ → Type 0
  Stops n = (i : ℕ) (c : Bool) → past_span keep next c s i ≡ i + n → Fails (i + n)

  here_fails : (n i : ℕ) (c : Bool) → keep c (byte_at s i) ≡ false → past_span keep next c s i ≡ i + n → Fails (i + n)
  here_fails n i c k e = let z = span_done keep next c (none c) s i k in let y : i ≡ i + n = sym z ∙ e in (c, ap (λ (j : ℕ). keep c (byte_at s j)) (sym y) ∙ k)

  later_fails : (n i : ℕ) (c : Bool) → Stops n → keep c (byte_at s i) ≡ true → past_span keep next c s i ≡ i + suc n → Fails (i + suc n)
  later_fails n i c ih k e =
      let z = span_more keep next c (none c) s i k in
      let w = ih (i + 1) (next c (byte_at s i)) (z ∙ e ∙ omega arith) in
      (w.0, ap (λ (j : ℕ). keep w.0 (byte_at s j)) {x = i + suc n} {y = i + 1 + n} (omega arith) ∙ w.1)

  never_0 : (i : ℕ) (c : Bool) → keep c (byte_at s i) ≡ true → past_span keep next c s i ≡ i + 0 → ⊥
  never_0 i c k e = let z = span_more keep next c (none c) s i k in let y = span_ge keep next (next c (byte_at s i)) s (i + 1) in omega arith

  stops : (n : ℕ) → Stops n
  stops zero i c e = by (keep c (byte_at s i)) refl
    where
      by : (x : Bool) → keep c (byte_at s i) ≡ x → Fails (i + zero)
      by false k = here_fails zero i c k e
      by true k = absurd (never_0 i c k e)
  stops (suc n) i c e = by (keep c (byte_at s i)) refl (stops n)
    where
      by : (x : Bool) → keep c (byte_at s i) ≡ x → Stops n → Fails (i + suc n)
      by false k ih = here_fails (suc n) i c k e
      by true k ih = later_fails n i c ih k e

  span_fails : (i : ℕ) (c : Bool) → Fails (past_span keep next c s i)
  span_fails i c = let g = span_ge keep next c s i in let z : i + (past_span keep next c s i - i) ≡ past_span keep next c s i = omega arith in let w = stops (past_span keep next c s i - i) i c (sym z) in (w.0, ap (λ (j : ℕ). keep w.0 (byte_at s j)) (sym z) ∙ w.1)

fit_ends : (b : Bool) (c w : ℕ) {e v : ℕ} → when_fit b c w ≡ Some (e, v) → (b ≡ true) × (c ≡ e)
unfolding when_fit
fit_ends true c w z = (refl, ap fit_end z)
fit_ends false c w z = let v : ◌≡◌ {A = ℕ} 0 1 = cc in absurd (omega arith)

then_ends : (f : Fit) (g : ℕ → Fit) {e v : ℕ} → then_fit f g ≡ Some (e, v) → (a : ℕ) × (w : ℕ) × (f ≡ Some (a, w)) × (g a ≡ Some (e, v))
unfolding then_fit
then_ends (Some (a, w)) g z = (a, w, refl, z)
then_ends None g z = let v : ◌≡◌ {A = ℕ} 0 1 = cc in absurd (omega arith)

and_none : (b : Bool) → (b && false) ≡ false
and_none true = refl
and_none false = refl

-- no two signs end with a fence
lone_second : (a b : ℕ) → Fence b → two_sign a b ≡ 0
unfolding two_sign two_signs word_in texts.same
lone_second a b brace = simp and_none
lone_second a b semicolon = simp and_none

module _ (s t : List ℕ) (q : ℕ) (long : length s ≡ length t) (same : (i : ℕ) → i ≤ q → byte_at s i ≡ byte_at t i) (fence : Fence (byte_at s q)) where
  no_byte : (v : ℕ) → eqb (byte_at s q) v ≡ true → (v ≡ 125 → ⊥) → (v ≡ 59 → ⊥) → ⊥
  no_byte v e f g = go fence (eqb-true (byte_at s q) v e)
    where
      go : {b : ℕ} → Fence b → b ≡ v → ⊥
      go brace e = f (sym e)
      go semicolon e = g (sym e)

  -- where a byte is another one, the place is before the fence
  before_it : (v i : ℕ) → i ≤ q → eqb (byte_at s i) v ≡ true → (v ≡ 125 → ⊥) → (v ≡ 59 → ⊥) → i + 1 ≤ q
  before_it v i h e f g = elim (dec_lt i q) [ yes k ↦ omega arith | no k ↦ absurd (no_byte v (ap (λ (j : ℕ). eqb (byte_at s j) v) (sym (at_q k)) ∙ e) f g) ]
    where
      at_q : (i < q → ⊥) → i ≡ q
      at_q k = omega arith

  -- a run ends at the fence at the latest, alike in both
  module _ (p : ℕ → Bool) (none : p 256 ≡ false) (off : p (byte_at s q) ≡ false) where
    abbrev Along : ℕ → Type 0
    Along i = i ≤ q → (past_run p s i ≡ past_run p t i) × (past_run p s i ≤ q)

    pub run_same : (i : ℕ) → i ≤ q → (past_run p s i ≡ past_run p t i) × (past_run p s i ≤ q)
    run_same = along p none s Along stop more
      where
        stop : (i : ℕ) → p (byte_at s i) ≡ false → Along i
        stop i f h = let z = past_done p none s i f in (z ∙ sym (past_done p none t i (ap p (sym (same i h)) ∙ f)), omega arith)

        more : (i : ℕ) → p (byte_at s i) ≡ true → Along (i + 1) → Along i
        more i f ih h = elim (dec_lt i q) [
          | yes k ↦ (let z = ih (omega arith) in let y = past_more p none s i f in let u = z.1 in (sym y ∙ z.0 ∙ past_more p none t i (ap p (sym (same i h)) ∙ f), omega arith))
          | no k ↦ absurd (true≢false (sym f ∙ ap (λ (j : ℕ). p (byte_at s j)) (at_q k h) ∙ off))
        ]
          where
            at_q : (i < q → ⊥) → i ≤ q → i ≡ q
            at_q k h = omega arith

  abbrev Named : Class → Type 0
  Named k = (k ≡ Digit) ⊎ ((k ≡ Figure) ⊎ ((k ≡ HexDigit) ⊎ ((k ≡ HexColon) ⊎ (k ≡ NamePart))))

  class_same : (k : Class) → Named k → (i : ℕ) → i ≤ q → (past_run (is_class k) s i ≡ past_run (is_class k) t i) × (past_run (is_class k) s i ≤ q)
  class_same k n i h = run_same (is_class k) (outside k) (class_off k fence n) i h

  hex : (i : ℕ) → i ≤ q → (past_run (is_class HexDigit) s i ≡ past_run (is_class HexDigit) t i) × (past_run (is_class HexDigit) s i ≤ q)
  hex = class_same HexDigit (inr (inr (inl refl)))

  digits : (i : ℕ) → i ≤ q → (past_run (is_class Digit) s i ≡ past_run (is_class Digit) t i) × (past_run (is_class Digit) s i ≤ q)
  digits = class_same Digit (inl refl)

  figures : (i : ℕ) → i ≤ q → (past_run (is_class Figure) s i ≡ past_run (is_class Figure) t i) × (past_run (is_class Figure) s i ≤ q)
  figures = class_same Figure (inr (inl refl))

  parts : (i : ℕ) → i ≤ q → (past_run (is_class NamePart) s i ≡ past_run (is_class NamePart) t i) × (past_run (is_class NamePart) s i ≤ q)
  parts = class_same NamePart (inr (inr (inr (inr refl))))

  colons : (i : ℕ) → i ≤ q → (past_run (is_class HexColon) s i ≡ past_run (is_class HexColon) t i) × (past_run (is_class HexColon) s i ≤ q)
  colons = class_same HexColon (inr (inr (inr (inl refl))))

  byte_same : (v : ℕ) {i j : ℕ} → i ≡ j → i ≤ q → eqb (byte_at s i) v ≡ eqb (byte_at t j) v
  byte_same v {i} e h = ap (λ (b : ℕ). eqb b v) (same i h) ∙ ap (λ (k : ℕ). eqb (byte_at t k) v) e

  apart : (v : ℕ) → 59 < v → v < 125 → (v ≡ 125 → ⊥) × (v ≡ 59 → ⊥)
  apart v h k = (λ z. omega arith, λ z. omega arith)

  below : (v : ℕ) → v < 59 → (v ≡ 125 → ⊥) × (v ≡ 59 → ⊥)
  below v h = (λ z. omega arith, λ z. omega arith)

  -- behind a byte below the fence's
  behind : (v i : ℕ) → v < 59 → i ≤ q → eqb (byte_at s i) v ≡ true → i + 1 ≤ q
  behind v i k h e = before_it v i h e (below v k).0 (below v k).1

  -- 1
  abbrev hex_of : List ℕ → ℕ → ℕ
  hex_of l i = past_run (is_class HexDigit) l i

  second : (at : ℕ) → at ≤ q → eqb (byte_at s (hex_of s at)) 58 ≡ true → (hex_of s (hex_of s at + 1) ≡ hex_of t (hex_of t at + 1)) × (hex_of s (hex_of s at + 1) ≤ q)
  second at h e =
      let a = hex at h in
      let b = hex (hex_of s at + 1) (behind 58 (hex_of s at) (omega arith) a.1 e) in
      (b.0 ∙ ap (λ (i : ℕ). hex_of t (i + 1)) a.0, b.1)

  colons_same : (at : ℕ) → at ≤ q → colons_at s at ≡ colons_at t at
  unfolding colons_at
  colons_same at h =
      let a = hex at h in
      let x : Bool = eqb (byte_at s (hex_of s at)) 58 in
      let y : Bool = eqb (byte_at s (hex_of s (hex_of s at + 1))) 58 in
      fit_same (x && y) (eqb (byte_at t (hex_of t at)) 58 && eqb (byte_at t (hex_of t (hex_of t at + 1))) 58) _ _ 1
      (and_same x _ y _ (byte_same 58 a.0 a.1) (λ e. let b = second at h e in byte_same 58 b.0 b.1))
      (λ e. let b = second at h (left_so x y e) in (colons _ (behind 58 _ (omega arith) b.1 (right_so x y e))).0 ∙ ap (λ (i : ℕ). past_run (is_class HexColon) t (i + 1)) b.0)

  colons_in : (at : ℕ) → at ≤ q → {e v : ℕ} → colons_at s at ≡ Some (e, v) → e ≤ q
  unfolding colons_at
  colons_in at h z =
      let x : Bool = eqb (byte_at s (hex_of s at)) 58 in
      let y : Bool = eqb (byte_at s (hex_of s (hex_of s at + 1))) 58 in
      let p = fit_ends (x && y) _ 1 z in
      let b = second at h (left_so x y p.0) in
      let k = (colons (hex_of s (hex_of s at + 1) + 1) (behind 58 _ (omega arith) b.1 (right_so x y p.0))).1 in
      let w = p.1 in
      omega arith

  -- 2
  digit_same : {i j : ℕ} → i ≡ j → i ≤ q → is_digit (byte_at s i) ≡ is_digit (byte_at t j)
  digit_same {i} e h = ap is_digit (same i h) ∙ ap (λ (k : ℕ). is_digit (byte_at t k)) e

  period_same : (at : ℕ) → at ≤ q → period_at s at ≡ period_at t at
  unfolding period_at
  period_same at h =
      let e = digits at h in
      fit_same _ _ _ _ 2 (and_same _ _ _ _ (digit_same refl h) (λ x. byte_same 46 e.0 e.1)) (λ x. ap (λ (k : ℕ). k + 1) e.0)

  period_in : (at : ℕ) → at ≤ q → {e w : ℕ} → period_at s at ≡ Some (e, w) → e ≤ q
  unfolding period_at when_fit
  period_in at h {e} {w} = go (is_digit (byte_at s at)) (eqb (byte_at s a) 46) refl
    where
      a : ℕ
      a = past_run (is_class Digit) s at

      go : (x y : Bool) → eqb (byte_at s a) 46 ≡ y → when_fit (x && y) (a + 1) 2 ≡ Some (e, w) → e ≤ q
      go true true k z = let v : a + 1 ≡ e = ap fit_end z in let u = behind 46 a (omega arith) (digits at h).1 k in omega arith
      go true false k z = let v : ◌≡◌ {A = ℕ} 0 1 = cc in absurd (omega arith)
      go false y k z = let v : ◌≡◌ {A = ℕ} 0 1 = cc in absurd (omega arith)

  -- one part and then another, alike in both where the first ends before the fence
  then_same : (f : Fit) (g g' : ℕ → Fit) → ((e w : ℕ) → f ≡ Some (e, w) → g e ≡ g' e) → then_fit f g ≡ then_fit f g'
  unfolding then_fit
  then_same (Some (e, w)) g g' h = h e w refl
  then_same None g g' h = refl

  on_same : (f f' : Fit) (g g' : ℕ → Fit) → f ≡ f' → ((e w : ℕ) → f ≡ Some (e, w) → e ≤ q) → ((e : ℕ) → e ≤ q → g e ≡ g' e) → then_fit f g ≡ then_fit f' g'
  on_same f f' g g' x h k = then_same f g g' (λ e w z. k e (h e w z)) ∙ ap (λ (y : Fit). then_fit y g') x

  period_on : (at : ℕ) → at ≤ q → (g g' : ℕ → Fit) → ((e : ℕ) → e ≤ q → g e ≡ g' e) → then_fit (period_at s at) g ≡ then_fit (period_at t at) g'
  period_on at h g g' k = on_same (period_at s at) (period_at t at) g g' (period_same at h) (λ e w z. period_in at h z) k

  pub ipv4_same : (at : ℕ) → at ≤ q → ipv4_at s at ≡ ipv4_at t at
  unfolding ipv4_at
  ipv4_same at h = period_on at h _ _ (λ a ha. period_on a ha _ _ (λ b hb. period_on b hb _ _ (λ c hc. ap (λ (k : ℕ). Some (k, 2)) (digits c hc).0)))

  -- 3, 4: the second byte stands at the fence at the latest
  pub two_same : (at : ℕ) → at + 1 ≤ q → two_at s at ≡ two_at t at
  unfolding two_at
  two_same at h = ap (λ (a : ℕ). sign_fit (two_sign a (byte_at s (at + 1))) (at + 2)) (same at (omega arith)) ∙ ap (λ (b : ℕ). sign_fit (two_sign (byte_at t at) b) (at + 2)) (same (at + 1) h)

  pub one_same : (at : ℕ) → at ≤ q → one_at s at ≡ one_at t at
  unfolding one_at
  one_same at h = ap (λ (a : ℕ). sign_fit (one_sign a) (at + 1)) (same at h)

  -- 5, 6
  pair_same : (at a b : ℕ) → at + 1 ≤ q → pair_at s at a b ≡ pair_at t at a b
  unfolding pair_at
  pair_same at a b h = and_same _ _ _ _ (byte_same a refl (omega arith)) (λ e. byte_same b refl h)

  pair_second : (at a b : ℕ) → pair_at s at a b ≡ true → eqb (byte_at s (at + 1)) b ≡ true
  unfolding pair_at
  pair_second at a b e = right_so (eqb (byte_at s at) a) (eqb (byte_at s (at + 1)) b) e

  pub as_same : (at : ℕ) → at + 1 ≤ q → as_at s at ≡ as_at t at
  unfolding as_at
  as_same at h =
      let x : Bool = pair_at s at 65 83 in
      let k : x ≡ true → at + 2 ≤ q = λ e. let z = before_it 83 (at + 1) h (pair_second at 65 83 e) (apart 83 (omega arith) (omega arith)).0 (apart 83 (omega arith) (omega arith)).1 in omega arith in
      fit_same (x && is_digit (byte_at s (at + 2))) (pair_at t at 65 83 && is_digit (byte_at t (at + 2))) _ _ 5 (and_same x _ _ _ (pair_same at 65 83 h) (λ e. digit_same refl (k e))) (λ e. (digits (at + 2) (k (left_so x _ e))).0)

  pub hex_same : (at : ℕ) → at + 1 ≤ q → hex_at s at ≡ hex_at t at
  unfolding hex_at
  hex_same at h = fit_same (pair_at s at 48 120) (pair_at t at 48 120) _ _ 6 (pair_same at 48 120 h) (λ e. let z = before_it 120 (at + 1) h (pair_second at 48 120 e) (apart 120 (omega arith) (omega arith)).0 (apart 120 (omega arith) (omega arith)).1 in (hex (at + 2) (omega arith)).0)

  -- 7, 8
  fraction_same : (i j : ℕ) → i ≡ j → i ≤ q → fraction_at s i ≡ fraction_at t j
  unfolding fraction_at
  fraction_same i j e h = and_same _ _ _ _ (byte_same 46 e h) (λ x. digit_same (ap (λ (k : ℕ). k + 1) e) (behind 46 i (omega arith) h x))

  fraction_in : (i : ℕ) → i ≤ q → fraction_at s i ≡ true → i + 1 ≤ q
  unfolding fraction_at
  fraction_in i h e = behind 46 i (omega arith) h (left_so _ _ e)

  -- 1, with its dotted ending
  dotted_same : (i : ℕ) → i ≤ q → dotted_at s i ≡ dotted_at t i
  unfolding dotted_at
  dotted_same i h = fit_same (fraction_at s i) (fraction_at t i) _ _ 1 (fraction_same i i refl h) (λ e. (digits (i + 1) (fraction_in i h e)).0)

  dotted_in : (i : ℕ) → i ≤ q → {e w : ℕ} → dotted_at s i ≡ Some (e, w) → e ≤ q
  unfolding dotted_at
  dotted_in i h z = let p = fit_ends (fraction_at s i) _ 1 z in let k = (digits (i + 1) (fraction_in i h p.0)).1 in let w = p.1 in omega arith

  dotted_on : (at : ℕ) → at ≤ q → (g g' : ℕ → Fit) → ((e : ℕ) → e ≤ q → g e ≡ g' e) → then_fit (dotted_at s at) g ≡ then_fit (dotted_at t at) g'
  dotted_on at h g g' k = on_same (dotted_at s at) (dotted_at t at) g g' (dotted_same at h) (λ e w z. dotted_in at h z) k

  three_same : (i : ℕ) → i ≤ q → three_at s i ≡ three_at t i
  unfolding three_at
  three_same i h = dotted_on i h _ _ (λ a ha. dotted_on a ha _ _ (λ b hb. dotted_same b hb))

  three_in : (i : ℕ) → i ≤ q → {e w : ℕ} → three_at s i ≡ Some (e, w) → e ≤ q
  unfolding three_at
  three_in i h z =
      let a = then_ends (dotted_at s i) _ z in
      let ha = dotted_in i h a.2 in
      let b = then_ends (dotted_at s a.0) _ a.3 in
      dotted_in b.0 (dotted_in a.0 ha b.2) b.3

  last_same : (c n : ℕ) → n ≤ q → behind_last c s n ≡ behind_last c t n
  unfolding behind_last
  last_same c zero h = refl
  last_same c (suc i) h = ap (λ (b : ℕ). elim (eqb b c) [ true ↦ suc i | false ↦ behind_last c s i ]) (same i (omega arith)) ∙ ap (λ (n : ℕ). elim (eqb (byte_at t i) c) [ true ↦ suc i | false ↦ n ]) (last_same c i (omega arith))

  decimal_same : (e : ℕ) → e ≤ q → decimal_group s e ≡ decimal_group t e
  unfolding decimal_group
  decimal_same e h =
      let k = last_le 58 s e in
      ap (λ (n : ℕ). ltb (behind_last 58 s e) e && eqb n e) (digits (behind_last 58 s e) (omega arith)).0 ∙ ap (λ (g : ℕ). ltb g e && eqb (past_run (is_class Digit) t g) e) (last_same 58 e h)

  pub ipv6_same : (at : ℕ) → at ≤ q → ipv6_at s at ≡ ipv6_at t at
  unfolding ipv6_at
  ipv6_same at h = on_same (colons_at s at) (colons_at t at) _ _ (colons_same at h) (λ e w z. colons_in at h z) λ e k.
      ap (λ (b : Bool). or_to (cond b (three_at s e) None) e) (decimal_same e k) ∙ ap (λ (f : Fit). or_to (cond (decimal_group t e) f None) e) (three_same e k)

  or_to_in : (b : Bool) (i : ℕ) → i ≤ q → {e v : ℕ} → or_to (cond b (three_at s i) None) i ≡ Some (e, v) → e ≤ q
  unfolding or_to
  or_to_in false i h {e} {v} = λ (z : ◌≡◌ {A = Fit} (Some (i, 1)) (Some (e, v))). let u : i ≡ e = ap fit_end z in omega arith
  or_to_in true i h {e} {v} = by (three_at s i) refl
    where
      by : (f : Fit) → three_at s i ≡ f → or_to f i ≡ Some (e, v) → e ≤ q
      by (Some (a, w)) k z = let u : a ≡ e = ap fit_end z in let g = three_in i h k in omega arith
      by None k z = let u : i ≡ e = ap fit_end z in omega arith

  ipv6_in : (at : ℕ) → at ≤ q → {e v : ℕ} → ipv6_at s at ≡ Some (e, v) → e ≤ q
  unfolding ipv6_at
  ipv6_in at h z = let a = then_ends (colons_at s at) _ z in or_to_in (decimal_group s a.0) a.0 (colons_in at h a.2) a.3

  ends_same : (x : Bool) (i j : ℕ) → i ≡ j → i ≤ q → (x ≡ true → i + 1 ≤ q) → (cond x (past_run (is_class Figure) s (i + 1)) i ≡ cond x (past_run (is_class Figure) t (j + 1)) j) × (cond x (past_run (is_class Figure) s (i + 1)) i ≤ q)
  ends_same true i j e h k = let f = figures (i + 1) (k refl) in (f.0 ∙ ap (λ (n : ℕ). past_run (is_class Figure) t (n + 1)) e, f.1)
  ends_same false i j e h k = (e, h)

  pub number_same : (at : ℕ) → at ≤ q → number_at s at ≡ number_at t at
  unfolding number_at
  number_same at h =
      let w = figures at h in
      let i : ℕ = past_run (is_class Figure) s at in
      let j : ℕ = past_run (is_class Figure) t at in
      let x : Bool = fraction_at s i in
      let y : x ≡ fraction_at t j = fraction_same i j w.0 w.1 in
      let e = ends_same x i j w.0 w.1 (fraction_in i w.1) in
      let p = parts _ e.1 in
      fit_same (is_digit (byte_at s at)) (is_digit (byte_at t at)) _ _ (cond x 8 7) (digit_same refl h) (λ z. p.0 ∙ ap (past_run (is_class NamePart) t) e.0) ∙ ap (λ (b : Bool). when_fit (is_digit (byte_at t at)) (past_run (is_class NamePart) t (cond b (past_run (is_class Figure) t (j + 1)) j)) (cond b 8 7)) y

  -- 9, 10: what ends before the fence is scanned alike
  never_past : (c : ℕ) (x : Bool) → goes_on c x 256 ≡ false
  never_past c true = refl
  never_past c false = none_of (not (eqb 256 c))
    where
      none_of : (b : Bool) → (b && false) ≡ false
      none_of true = refl
      none_of false = refl

  quote_taken : (c w at : ℕ) {e v : ℕ} → at ≤ q → quote_at c w s at ≡ Some (e, v) → e ≤ q → quote_at c w t at ≡ Some (e, v)
  unfolding quote_at when_fit
  quote_taken c w at {e} {v} h = go (eqb (byte_at s at) c) (ltb (close + 1) (length s)) refl refl
    where
      close : ℕ
      close = past_span (goes_on c) escapes false s (at + 1)

      again : close ≤ q → past_span (goes_on c) escapes false t (at + 1) ≡ close
      again k = span_same (goes_on c) escapes (never_past c) s t q same (at + 1) close false refl k

      go : (x y : Bool) → eqb (byte_at s at) c ≡ x → ltb (close + 1) (length s) ≡ y → when_fit (x && y) (close + 1) w ≡ Some (e, v) → e ≤ q → when_fit (eqb (byte_at t at) c && ltb (past_span (goes_on c) escapes false t (at + 1) + 1) (length t)) (past_span (goes_on c) escapes false t (at + 1) + 1) w ≡ Some (e, v)
      go true true k l z b =
          let u : close + 1 ≡ e = ap fit_end z in
          let r = again (omega arith) in
          rw (r, sym (byte_same c {i = at} refl h) ∙ k, ap (ltb (close + 1)) (sym long) ∙ l) z
      go true false k l z b = let u : ◌≡◌ {A = ℕ} 0 1 = cc in absurd (omega arith)
      go false y k l z b = let u : ◌≡◌ {A = ℕ} 0 1 = cc in absurd (omega arith)

  quote_missed : (l : List ℕ) (c w at : ℕ) → eqb (byte_at l at) c ≡ false → quote_at c w l at ≡ None
  unfolding quote_at when_fit
  quote_missed l c w at e = rw e refl

  -- 11 to 13
  q_in : q < length s
  q_in = elim (dec_lt q (length s)) [ yes h ↦ h | no h ↦ absurd (out fence (byte_out s q (omega arith))) ]
    where
      out : {b : ℕ} → Fence b → b ≡ 256 → ⊥
      out brace e = omega arith
      out semicolon e = omega arith

  first_of : (l : List ℕ) (e : ℕ) → e ≤ length l → (j : ℕ) → j < e → slice j e l ≡ byte_at l j ∷ slice (j + 1) e l
  first_of l e in-l j h = slice-cons j e l 0 h in-l ∙ ap (λ (b : ℕ). b ∷ slice (suc j) e l) (sym (byte_in l j (omega arith))) ∙ ap (λ (n : ℕ). byte_at l j ∷ slice n e l) (sym (add-one j))

  slice_by : (n a e : ℕ) → a + n ≡ e → e ≤ q + 1 → slice a e s ≡ slice a e t
  slice_by zero a e z h = ap (λ (k : ℕ). slice a k s) {x = e} {y = a} (omega arith) ∙ slice_empty a s ∙ sym (slice_empty a t) ∙ ap (λ (k : ℕ). slice a k t) {x = a} {y = e} (omega arith)
  slice_by (suc n) a e z h =
      let k = q_in in
      let len = long in
      first_of s e (omega arith) a (omega arith) ∙ ap (λ (b : ℕ). b ∷ slice (a + 1) e s) (same a (omega arith)) ∙ ap (λ (l : List ℕ). byte_at t a ∷ l) (slice_by n (a + 1) e (omega arith) h) ∙ sym (first_of t e (omega arith) a (omega arith))

  pub slice_same : (a e : ℕ) → a ≤ e → e ≤ q + 1 → slice a e s ≡ slice a e t
  slice_same a e h k = slice_by (e - a) a e (omega arith) k

  pub name_same : (at : ℕ) → at ≤ q → name_at s at ≡ name_at t at
  unfolding name_at
  name_same at h =
      let p = parts at h in
      let g = past_ge (is_class NamePart) s at in
      let k = p.1 in
      ap (λ (b : ℕ). when_fit (is_name_start b) (past_run (is_class NamePart) s at) (name_word (slice at (past_run (is_class NamePart) s at) s))) (same at h)
      ∙ ap (λ (x : List ℕ). when_fit (is_name_start (byte_at t at)) (past_run (is_class NamePart) s at) (name_word x)) (slice_same at (past_run (is_class NamePart) s at) g (omega arith))
      ∙ ap (λ (e : ℕ). when_fit (is_name_start (byte_at t at)) e (name_word (slice at e t))) p.0

  -- what the rules for quotes and names say
  abbrev tail : List ℕ → ℕ → Step
  tail l at = or_else at (name_at l at) (refused 4 at (at + 1))

  abbrev pub quotes : List ℕ → ℕ → Step
  quotes l at = or_else at (quote_at 34 9 l at) (or_else at (quote_at 39 10 l at) (tail l at))

  -- What the rules say before the fence is said in both, where the last three say it in both.
  module _ (at : ℕ) (k : Step) where
    or_same : (f f' : Fit) (d d' : Step) → f ≡ f' → (d ≡ k → d' ≡ k) → or_else at f d ≡ k → or_else at f' d' ≡ k
    unfolding or_else
    or_same (Some (e, v)) f' d d' p g z = ap (λ (y : Fit). or_else at y d') (sym p) ∙ z
    or_same None f' d d' p g z = ap (λ (y : Fit). or_else at y d') (sym p) ∙ g z

    pick_same : (b b' : Bool) (r d d' : Step) → b ≡ b' → (d ≡ k → d' ≡ k) → cond b r d ≡ k → cond b' r d' ≡ k
    pick_same true b' r d d' e g z = ap (λ (y : Bool). cond y r d') (sym e) ∙ z
    pick_same false b' r d d' e g z = ap (λ (y : Bool). cond y r d') (sym e) ∙ g z

    pub token_upto : (quotes s at ≡ k → quotes t at ≡ k) → at + 1 ≤ q → token_at s at ≡ k → token_at t at ≡ k
    unfolding token_at
    token_upto f h =
        let g : at ≤ q = omega arith in
        or_same _ _ _ _ (ipv6_same at g)
        (or_same _ _ _ _ (ipv4_same at g)
        (or_same _ _ _ _ (two_same at h)
        (or_same _ _ _ _ (one_same at g)
        (or_same _ _ _ _ (as_same at h)
        (or_same _ _ _ _ (hex_same at h)
        (or_same _ _ _ _ (number_same at g)
        (pick_same _ _ _ _ _ (pair_same at 102 34 h) f)))))))

  -- A token that ends before the fence.
  module _ (at : ℕ) {w a : ℕ} {n : Cursor} (ends : n.at ≤ q) where
    lost : (i j k : ℕ) → refused i j k ≡ Ok (w, a, n) → ⊥
    unfolding refused
    lost i j k z = let v : ◌≡◌ {A = ℕ} 0 1 = cc in omega arith

    -- a quote: taken alike; or no quote stands there; or the source has no end of it, and then no token is there
    or_quote : (c v : ℕ) (d d' : Step) → at ≤ q → (d ≡ Ok (w, a, n) → d' ≡ Ok (w, a, n)) → (byte_at s at ≡ c → d ≡ Ok (w, a, n) → ⊥) → or_else at (quote_at c v s at) d ≡ Ok (w, a, n) → or_else at (quote_at c v t at) d' ≡ Ok (w, a, n)
    unfolding or_else taken
    or_quote c v d d' h k none = go (quote_at c v s at) refl (eqb (byte_at s at) c) refl
      where
        go : (f : Fit) → quote_at c v s at ≡ f → (b : Bool) → eqb (byte_at s at) c ≡ b → or_else at f d ≡ Ok (w, a, n) → or_else at (quote_at c v t at) d' ≡ Ok (w, a, n)
        go (Some (e, u)) p b l z = let y : e ≡ n.at = ap taken_end z in ap (λ (f : Fit). or_else at f d') (quote_taken c v at h p (omega arith)) ∙ z
        go None p true l z = absurd (none (eqb-true (byte_at s at) c l) z)
        go None p false l z = ap (λ (f : Fit). or_else at f d') (quote_missed t c v at (sym (byte_same c {i = at} refl h) ∙ l)) ∙ k z

    -- no name begins with a quote
    no_name : (c : ℕ) → is_name_start c ≡ false → byte_at s at ≡ c → tail s at ≡ Ok (w, a, n) → ⊥
    unfolding name_at when_fit or_else
    no_name c f e z = lost 4 at (at + 1) (sym (rw (ap is_name_start e ∙ f) refl) ∙ z)

    tail_same : at ≤ q → quotes s at ≡ Ok (w, a, n) → quotes t at ≡ Ok (w, a, n)
    unfolding or_else
    tail_same h = or_quote 34 9 _ _ h (or_quote 39 10 _ _ h (or_same at (Ok (w, a, n)) _ _ _ _ (name_same at h) (λ z. z)) (no_name 39 refl)) open_string
      where
        open_string : byte_at s at ≡ 34 → or_else at (quote_at 39 10 s at) (tail s at) ≡ Ok (w, a, n) → ⊥
        open_string e z = no_name 34 refl e (sym (ap (λ (f : Fit). or_else at f (tail s at)) (quote_missed s 39 10 at (ap (λ (b : ℕ). eqb b 39) e))) ∙ z)

    pub token_same : at + 1 ≤ q → token_at s at ≡ Ok (w, a, n) → token_at t at ≡ Ok (w, a, n)
    token_same h = token_upto at (Ok (w, a, n)) (tail_same (omega arith)) h

  -- A token that begins before the fence ends before it, or behind it altogether.
  ipv4_in : (at : ℕ) → at ≤ q → {e v : ℕ} → ipv4_at s at ≡ Some (e, v) → e ≤ q
  unfolding ipv4_at
  ipv4_in at h {e} {v} z =
      let a = then_ends (period_at s at) _ z in
      let ha = period_in at h a.2 in
      let b = then_ends (period_at s a.0) _ a.3 in
      let hb = period_in a.0 ha b.2 in
      let c = then_ends (period_at s b.0) _ b.3 in
      let hc = period_in b.0 hb c.2 in
      let k = (digits c.0 hc).1 in
      let w : past_run (is_class Digit) s c.0 ≡ e = last_of _ c.3 in
      omega arith
    where
      last_of : (x : ℕ) → ◌≡◌ {A = Fit} (Some (x, 2)) (Some (e, v)) → x ≡ e
      last_of x z = ap fit_end z

  two_in : (at : ℕ) → at + 1 ≤ q → {e v : ℕ} → two_at s at ≡ Some (e, v) → e ≤ q
  unfolding two_at sign_fit
  two_in at h {e} {v} z = let p = fit_ends (not (eqb (two_sign (byte_at s at) (byte_at s (at + 1))) 0)) (at + 2) _ z in let w = p.1 in elim (dec_lt (at + 1) q) [ yes k ↦ omega arith | no k ↦ absurd (true≢false (sym p.0 ∙ ap (λ (x : ℕ). not (eqb x 0)) (ap (λ (j : ℕ). two_sign (byte_at s at) (byte_at s j)) (at_q k) ∙ lone_second (byte_at s at) (byte_at s q) fence))) ]
    where
      at_q : (at + 1 < q → ⊥) → at + 1 ≡ q
      at_q k = omega arith

  one_in : (at : ℕ) → at + 1 ≤ q → {e v : ℕ} → one_at s at ≡ Some (e, v) → e ≤ q
  unfolding one_at sign_fit
  one_in at h z = let p = (fit_ends (not (eqb (one_sign (byte_at s at)) 0)) (at + 1) _ z).1 in omega arith

  as_in : (at : ℕ) → at + 1 ≤ q → {e v : ℕ} → as_at s at ≡ Some (e, v) → e ≤ q
  unfolding as_at
  as_in at h z =
      let x : Bool = pair_at s at 65 83 in
      let p = fit_ends (x && is_digit (byte_at s (at + 2))) _ 5 z in
      let k = before_it 83 (at + 1) h (pair_second at 65 83 (left_so x _ p.0)) (apart 83 (omega arith) (omega arith)).0 (apart 83 (omega arith) (omega arith)).1 in
      let w = p.1 in
      let d = (digits (at + 2) (omega arith)).1 in
      omega arith

  hex_in : (at : ℕ) → at + 1 ≤ q → {e v : ℕ} → hex_at s at ≡ Some (e, v) → e ≤ q
  unfolding hex_at
  hex_in at h z =
      let p = fit_ends (pair_at s at 48 120) _ 6 z in
      let k = before_it 120 (at + 1) h (pair_second at 48 120 p.0) (apart 120 (omega arith) (omega arith)).0 (apart 120 (omega arith) (omega arith)).1 in
      let w = p.1 in
      let d = (hex (at + 2) (omega arith)).1 in
      omega arith

  number_in : (at : ℕ) → at ≤ q → {e v : ℕ} → number_at s at ≡ Some (e, v) → e ≤ q
  unfolding number_at
  number_in at h z =
      let w = figures at h in
      let i : ℕ = past_run (is_class Figure) s at in
      let x = ends_same (fraction_at s i) i (past_run (is_class Figure) t at) w.0 w.1 (fraction_in i w.1) in
      let d = (parts _ x.1).1 in
      let p = (fit_ends (is_digit (byte_at s at)) _ _ z).1 in
      omega arith

  name_in : (at : ℕ) → at ≤ q → {e v : ℕ} → name_at s at ≡ Some (e, v) → e ≤ q
  unfolding name_at
  name_in at h z = let d = (parts at h).1 in let p = (fit_ends (is_name_start (byte_at s at)) _ _ z).1 in omega arith

  goes_on_lem : (c : ℕ) (x : Bool) {b : ℕ} → (c ≡ 34) ⊎ (c ≡ 39) → Fence b → goes_on c x b ≡ true
  goes_on_lem c true k brace = refl
  goes_on_lem c true k semicolon = refl
  goes_on_lem c false (inl e) brace = ap (λ (y : ℕ). goes_on y false 125) e
  goes_on_lem c false (inr e) brace = ap (λ (y : ℕ). goes_on y false 125) e
  goes_on_lem c false (inl e) semicolon = ap (λ (y : ℕ). goes_on y false 59) e
  goes_on_lem c false (inr e) semicolon = ap (λ (y : ℕ). goes_on y false 59) e

  quote_in : (c w at : ℕ) → (c ≡ 34) ⊎ (c ≡ 39) → {e v : ℕ} → quote_at c w s at ≡ Some (e, v) → e ≤ q + 1 → e ≤ q
  unfolding quote_at
  quote_in c w at k {e} z h =
      let close : ℕ = past_span (goes_on c) escapes false s (at + 1) in
      let p = (fit_ends (eqb (byte_at s at) c && ltb (close + 1) (length s)) (close + 1) w z).1 in
      let f = span_fails (goes_on c) escapes (never_past c) s (at + 1) false in
      elim (dec_lt close q) [ yes l ↦ omega arith | no l ↦ absurd (true≢false (sym (goes_on_lem c f.0 k fence) ∙ ap (λ (j : ℕ). goes_on c f.0 (byte_at s j)) {x = q} {y = close} (omega arith) ∙ f.1)) ]

  module _ (at : ℕ) {w a : ℕ} {n : Cursor} (upto : n.at ≤ q + 1) where
    or_in : (f : Fit) (d : Step) → ((e v : ℕ) → f ≡ Some (e, v) → e ≤ q + 1 → e ≤ q) → (d ≡ Ok (w, a, n) → (n.at ≤ q) × (a ≡ at)) → or_else at f d ≡ Ok (w, a, n) → (n.at ≤ q) × (a ≡ at)
    unfolding or_else taken
    or_in (Some (e, v)) d g k z = let y : e ≡ n.at = ap taken_end z in let u : at ≡ a = ap taken_start z in (let r = g e v refl (omega arith) in omega arith, sym u)
    or_in None d g k z = k z

    pick_in : (b : Bool) (i j k : ℕ) (d : Step) → (d ≡ Ok (w, a, n) → (n.at ≤ q) × (a ≡ at)) → cond b (refused i j k) d ≡ Ok (w, a, n) → (n.at ≤ q) × (a ≡ at)
    unfolding refused
    pick_in true i j k d f z = let v : ◌≡◌ {A = ℕ} 0 1 = cc in absurd (omega arith)
    pick_in false i j k d f z = f z

    none_in : refused 4 at (at + 1) ≡ Ok (w, a, n) → (n.at ≤ q) × (a ≡ at)
    unfolding refused
    none_in z = let v : ◌≡◌ {A = ℕ} 0 1 = cc in absurd (omega arith)

    pub ends_in : at + 1 ≤ q → token_at s at ≡ Ok (w, a, n) → (n.at ≤ q) × (a ≡ at)
    unfolding token_at
    ends_in h =
        let g : at ≤ q = omega arith in
        or_in _ _ (λ e v z u. ipv6_in at g z)
        (or_in _ _ (λ e v z u. ipv4_in at g z)
        (or_in _ _ (λ e v z u. two_in at h z)
        (or_in _ _ (λ e v z u. one_in at h z)
        (or_in _ _ (λ e v z u. as_in at h z)
        (or_in _ _ (λ e v z u. hex_in at h z)
        (or_in _ _ (λ e v z u. number_in at g z)
        (pick_in (pair_at s at 102 34) 5 at (at + 2) _
        (or_in _ _ (λ e v z u. quote_in 34 9 at (inl refl) z u)
        (or_in _ _ (λ e v z u. quote_in 39 10 at (inr refl) z u)
        (or_in _ _ (λ e v z u. name_in at g z) none_in))))))))))

-- The fence itself, in any source.
module _ (l : List ℕ) (q : ℕ) {b : ℕ} (fence : Fence b) (stands : byte_at l q ≡ b) where
  stays_at : (k : Class) → (k ≡ Digit) ⊎ ((k ≡ Figure) ⊎ ((k ≡ HexDigit) ⊎ ((k ≡ HexColon) ⊎ (k ≡ NamePart)))) → past_run (is_class k) l q ≡ q
  stays_at k n = past_done (is_class k) (outside k) l q (ap (is_class k) stands ∙ class_off k fence n)

  is_not : (v : ℕ) → v < 59 → {c : ℕ} → Fence c → eqb c v ≡ false
  is_not v h brace = ne_eqb 125 v (λ e. omega arith)
  is_not v h semicolon = ne_eqb 59 v (λ e. omega arith)

  no_digit : {c : ℕ} → Fence c → is_digit c ≡ false
  no_digit brace = refl
  no_digit semicolon = refl

  lone : (c d : ℕ) → Fence c → two_sign c d ≡ 0
  unfolding two_sign two_signs word_in texts.same
  lone c d brace = refl
  lone c d semicolon = refl

  no_ipv6 : ipv6_at l q ≡ None
  unfolding ipv6_at colons_at when_fit then_fit
  no_ipv6 = rw (stays_at HexDigit (inr (inr (inl refl))), ap (λ (x : ℕ). eqb x 58) stands ∙ is_not 58 (omega arith) fence) refl

  no_ipv4 : ipv4_at l q ≡ None
  unfolding ipv4_at period_at when_fit then_fit
  no_ipv4 = rw (ap is_digit stands ∙ no_digit fence) refl

  no_two : two_at l q ≡ None
  unfolding two_at sign_fit when_fit
  no_two = rw (ap (λ (x : ℕ). two_sign x (byte_at l (q + 1))) stands ∙ lone b (byte_at l (q + 1)) fence) refl

  sign : {c : ℕ} → Fence c → sign_fit (one_sign c) (q + 1) ≡ Some (q + 1, one_sign c)
  unfolding one_sign one_signs word_in sign_fit when_fit texts.same
  sign brace = refl
  sign semicolon = refl

  pub fence_token : token_at l q ≡ taken q (q + 1) (one_sign b)
  unfolding token_at or_else one_at
  fence_token = rw (no_ipv6, no_ipv4, no_two, ap (λ (x : ℕ). sign_fit (one_sign x) (q + 1)) stands ∙ sign fence) refl
