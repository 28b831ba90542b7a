-- How a rule answers, and how a run or a test in a source stands to one in its copy.
use Rattle.std.specs.Prelude.{Some, None}
use mathlib.Core.Path.{◌≡◌, refl, sym, ap, ◌∙◌}
use mathlib.Core.Logic.{inl, inr}
use mathlib.Core.List.{List}
use mathlib.Core.Bool.{Bool, true, false, ◌&&◌, true≢false}
use Prim.Native.Nat.{ℕ, ◌+◌, ◌<◌, ◌≤◌}
use native.Mathlib.Decide.{dec_lt}
use native.Mathlib.Omega.{arith}
use lib.Dec.{eqb}
use Rattle.chars.specs.declared.Class.{Class}
use Rattle.chars.specs.declared.Class.TheVariants.{Digit, Figure}
use Rattle.chars.specs.Chars.{byte_at, is_class, is_digit}
use Rattle.chars.specs.Runs.{past_run}
use Rattle.chars.proofs.Runs.{outside}
use Rattle.tokens.proofs.Results.{fit_end, fit_word}
use Rattle.tokens.specs.Results.{Fit}
use Rattle.tokens.specs.Rules.{when_fit, then_fit}
use Rattle.respell.specs.Copies.{Copied}
use Rattle.respell.proofs.Runs.{run_copied, run_before}

pub both : (a b : Bool) → a ≡ true → b ≡ true → (a && b) ≡ true
both true b e f = f
both false b e f = e

-- what a rule that fits has found
pub fit_ends : (b : Bool) (c v : ℕ) {e w : ℕ} → when_fit b c v ≡ Some (e, w) → (b ≡ true) × (c ≡ e) × (v ≡ w)
unfolding when_fit
fit_ends true c v z = (refl, ap fit_end z, ap fit_word z)
fit_ends false c v z = let x : ◌≡◌ {A = ℕ} 0 1 = cc in absurd (omega arith)

pub fit : (b : Bool) (c e v : ℕ) → b ≡ true → c ≡ e → when_fit b c v ≡ Some (e, v)
unfolding when_fit
fit true c e v h k = ap (λ (x : ℕ). Some (x, v)) k
fit false c e v h k = absurd (true≢false (sym h))

pub no_fit : (b : Bool) (c v : ℕ) → b ≡ false → when_fit b c v ≡ None
unfolding when_fit
no_fit true c v h = absurd (true≢false h)
no_fit false c v h = refl

-- a rule whose test holds fits
pub fit_or : (b : Bool) (c v : ℕ) → when_fit b c v ≡ None → b ≡ true → ⊥
unfolding when_fit
fit_or true c v z h = let x : ◌≡◌ {A = ℕ} 0 1 = cc in omega arith
fit_or false c v z h = true≢false (sym h)

pub not_so : (b : Bool) → (b ≡ true → ⊥) → b ≡ false
not_so true h = absurd (h refl)
not_so false h = refl

pub none_fits : (f : Fit) → ((e w : ℕ) → f ≡ Some (e, w) → ⊥) → f ≡ None
none_fits (Some (e, w)) h = absurd (h e w refl)
none_fits None h = refl

pub then_ends : (f : Fit) (g : ℕ → Fit) {e w : ℕ} → then_fit f g ≡ Some (e, w) → (a : ℕ) × (v : ℕ) × (f ≡ Some (a, v)) × (g a ≡ Some (e, w))
unfolding then_fit
then_ends (Some (a, v)) g z = (a, v, refl, z)
then_ends None g z = let x : ◌≡◌ {A = ℕ} 0 1 = cc in absurd (omega arith)

pub then_goes : (f : Fit) (g : ℕ → Fit) {a v : ℕ} {x : Fit} → f ≡ Some (a, v) → g a ≡ x → then_fit f g ≡ x
unfolding then_fit
then_goes f g h k = ap (λ (y : Fit). then_fit y g) h ∙ k

pub then_none : (f : Fit) (g : ℕ → Fit) → f ≡ None → then_fit f g ≡ None
unfolding then_fit
then_none f g h = ap (λ (y : Fit). then_fit y g) h

pub never_both : (f : Fit) {e w : ℕ} → f ≡ None → f ≡ Some (e, w) → ⊥
never_both f h k = let x : ◌≡◌ {A = ℕ} 0 1 = cc in omega arith

pub digit_class : (b : ℕ) → is_digit b ≡ true → is_class Digit b ≡ true
unfolding is_class
digit_class b h = h

pub digit_figure : (b : ℕ) → is_digit b ≡ true → is_class Figure b ≡ true
unfolding is_class
digit_figure b h = rw h

-- a byte is v
abbrev pub is : ℕ → ℕ → Bool
is v b = eqb b v

module _ {s t : List ℕ} {lo q q' : ℕ} (copy : Copied s t lo q q') where
  module _ (k : Class) (off : is_class k (byte_at t q') ≡ false) where
    pub run_to : (i i' : ℕ) → lo ≤ i → i + q' ≡ i' + q → past_run (is_class k) s i ≤ q → past_run (is_class k) t i' + q ≡ past_run (is_class k) s i + q'
    run_to i i' l at h = run_copied (is_class k) (outside k) s t lo q q' copy.bytes i i' l at (inr (h, off))

    pub run_within : (i' : ℕ) → i' ≤ q' → past_run (is_class k) t i' ≤ q'
    run_within = run_before (is_class k) (outside k) t q' off

    pub run_back : (i i' : ℕ) → lo ≤ i → i + q' ≡ i' + q → past_run (is_class k) t i' < q' → past_run (is_class k) s i + q' ≡ past_run (is_class k) t i' + q
    run_back i i' l at h = run_copied (is_class k) (outside k) t s i' q' q back i' i (omega arith) (sym at) (inl h)
      where
        back : (j j' : ℕ) → i' ≤ j → j < q' → j + q ≡ j' + q' → byte_at s j' ≡ byte_at t j
        back j j' g n z = sym (copy.bytes j' j (omega arith) (omega arith) (sym z))

  -- the stop passes no test, so where one holds the place is before it
  pub short_of_stop : (p : ℕ → Bool) → p (byte_at t q') ≡ false → (j : ℕ) → j ≤ q' → p (byte_at t j) ≡ true → j < q'
  short_of_stop p off j h e = elim (dec_lt j q') [ yes g ↦ g | no g ↦ absurd (let z : j ≡ q' = omega arith in true≢false (sym e ∙ ap (λ (k : ℕ). p (byte_at t k)) z ∙ off)) ]

  pub test_to : (p : ℕ → Bool) (i i' : ℕ) {b : Bool} → lo ≤ i → i < q → i + q' ≡ i' + q → p (byte_at s i) ≡ b → p (byte_at t i') ≡ b
  test_to p i i' l h at e = ap p (copy.bytes i i' l h at) ∙ e

  pub test_back : (p : ℕ → Bool) (i i' : ℕ) {b : Bool} → lo ≤ i → i < q → i + q' ≡ i' + q → p (byte_at t i') ≡ b → p (byte_at s i) ≡ b
  test_back p i i' l h at e = ap p (sym (copy.bytes i i' l h at)) ∙ e
