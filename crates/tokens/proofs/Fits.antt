-- How an answer of a rule, and a choice among rules, follows from the tests and the callees' answers.
use Rattle.std.specs.Prelude.{Some, None, MatchOption}
use mathlib.Core.Path.{◌≡◌, refl, sym, ap, ◌∙◌}
use Prim.Native.Nat.{ℕ}
use mathlib.Core.List.{List}
use mathlib.Core.Bool.{Bool, true, false, ◌&&◌, ◌||◌, not, cond}
use lib.Dec.{eqb}
use borrow.Author.Tests.{eq-eqb, ne_eqb}
use Rattle.chars.specs.Chars.{byte_at}
use Rattle.tokens.specs.Results.{Fit}
use Rattle.tokens.specs.Results.{Step}
use Rattle.tokens.specs.Rules.{when_fit, sign_fit, then_fit, or_else, taken}

-- what a callee answers is what its definition says, and the answer is known: so is what the definition says
pub so : {A : Type 0} {r d v : A} → r ≡ d → r ≡ v → d ≡ v
so e h = sym e ∙ h

pub both : {t u : Bool} → t ≡ true → u ≡ true → (t && u) ≡ true
both h g = rw (h, g)

pub not_first : {t : Bool} (u : Bool) → t ≡ false → (t && u) ≡ false
not_first u h = rw h

pub not_second : (t : Bool) {u : Bool} → u ≡ false → (t && u) ≡ false
not_second true h = h
not_second false h = refl

pub neither : {t u : Bool} → t ≡ false → u ≡ false → (t || u) ≡ false
neither h g = rw (h, g)

pub fails_second : (t : Bool) {u : Bool} (e w : ℕ) → u ≡ false → None ≡ when_fit (t && u) e w
unfolding when_fit
fails_second t e w h = rw (not_second t h)

-- a byte that was read is, or isn't, the one that a rule asks for
pub byte_is : {x v : ℕ} (s : List ℕ) (i : ℕ) → x ≡ byte_at s i → x ≡ v → eqb (byte_at s i) v ≡ true
byte_is s i e h = eq-eqb _ _ (so e h)

pub byte_isn't : {x v : ℕ} (s : List ℕ) (i : ℕ) → x ≡ byte_at s i → (x ≡ v → ⊥) → eqb (byte_at s i) v ≡ false
byte_isn't s i e h = ne_eqb _ _ λ g. h (e ∙ g)

pub fits : {t : Bool} {r e v w : ℕ} → t ≡ true → r ≡ e → v ≡ w → Some (r, v) ≡ when_fit t e w
unfolding when_fit
fits h g k = rw (h, g, k)

pub fails : {t : Bool} (e w : ℕ) → t ≡ false → None ≡ when_fit t e w
unfolding when_fit
fails e w h = rw h

pub a_sign : {r w : ℕ} (e : ℕ) → r ≡ w → (r ≡ 0 → ⊥) → Some (e, r) ≡ sign_fit w e
unfolding sign_fit
a_sign e h f = fits (ap not (ne_eqb _ _ λ g. f (h ∙ g))) refl h

pub no_sign : {r w : ℕ} (e : ℕ) → r ≡ w → r ≡ 0 → None ≡ sign_fit w e
unfolding sign_fit
no_sign e h f = fails e _ (ap not (eq-eqb _ _ (so h f)))

pub goes_on_lem : {f x : Fit} {e w : ℕ} (g : ℕ → Fit) → f ≡ Some (e, w) → x ≡ g e → x ≡ then_fit f g
unfolding then_fit
goes_on_lem g h k = rw h k

pub ends : {f : Fit} (g : ℕ → Fit) → f ≡ None → None ≡ then_fit f g
unfolding then_fit
ends g h = rw h

pub hit : {f : Fit} (at : ℕ) {e w : ℕ} {x : Step} (d : Step) → f ≡ Some (e, w) → x ≡ taken at e w → x ≡ or_else at f d
unfolding or_else
hit at d h g = rw h g

pub miss : {f : Fit} (at : ℕ) {d x : Step} → f ≡ None → x ≡ d → x ≡ or_else at f d
unfolding or_else
miss at h g = rw h g

-- a rule that fits, whatever the later rules say
pub found : {r f : Fit} (at : ℕ) {e w : ℕ} → r ≡ f → r ≡ Some (e, w) → (later d : Step) → or_else at r later ≡ or_else at f d
unfolding or_else
found at h g later d = ap (λ x. or_else at x later) g ∙ hit at d (so h g) refl

-- a rule that is asked where an earlier one doesn't fit, as `Option::or_else` asks it
pub either : (g : Fit) {r f d : Fit} {P : Type 0} (at : ℕ) → f ≡ d → MatchOption f P (λ x. r ≡ Some x) → (P → r ≡ g) → (later : Step) → or_else at r later ≡ or_else at d (or_else at g later)
unfolding or_else
either g {r} {f} {d} {P} at e h called later = go f h ∙ ap (λ x. or_else at x (or_else at g later)) e
  where
    go : (f : Fit) → MatchOption f P (λ x. r ≡ Some x) → or_else at r later ≡ or_else at f (or_else at g later)
    go None m = ap (λ x. or_else at x later) (called m)
    go (Some (e, w)) m = ap (λ x. or_else at x later) m

-- the last rule that is asked
pub also : {r f : Fit} (at : ℕ) → r ≡ f → (later : Step) → or_else at r later ≡ or_else at f later
also at h later = ap (λ x. or_else at x later) h

pub first : {A : Type 0} {t : Bool} {a x : A} (b : A) → t ≡ true → x ≡ a → x ≡ cond t a b
first b h g = rw h g

pub second : {A : Type 0} {t : Bool} (a : A) {b x : A} → t ≡ false → x ≡ b → x ≡ cond t a b
second a h g = rw h g
