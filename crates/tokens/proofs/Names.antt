-- The word of a name, from its text.
use Rattle.std.specs.Prelude.{Some}
use mathlib.Core.Path.{◌≡◌, refl, ◌∙◌}
use Prim.Native.Nat.{ℕ, ◌+◌, ◌<◌, ◌≤◌}
use mathlib.Core.List.{List}
use mathlib.Core.Bool.{Bool, true, false, ◌||◌}
use native.Mathlib.Omega.{arith}
use lib.ListN.{length}
use lib.Seq.{slice}
use lib.Dec.{eqb}
use Rattle.chars.specs.declared.Class.TheVariants.{NamePart}
use Rattle.chars.specs.Chars.{byte_at, is_class, is_letter, is_digit}
use Rattle.chars.specs.Runs.{past_run}
use Rattle.chars.proofs.Runs.{within, outside, past_more, past_gt, past_le}
use Rattle.tokens.specs.Words.{name_word}
use Rattle.tokens.specs.Rules.{is_name_start, name_at}
use Rattle.tokens.proofs.Fits.{fits}

starts_part : (l d u : Bool) → (l || u) ≡ true → ((l || d) || u) ≡ true
starts_part true d u h = refl
starts_part false true u h = refl
starts_part false false u h = h

-- its first byte is one of its parts, so that it ends where the run behind that byte does
pub name_more : (s : List ℕ) (at : ℕ) {e : ℕ} → is_name_start (byte_at s at) ≡ true → e ≡ past_run (is_class NamePart) s (at + 1) → e ≡ past_run (is_class NamePart) s at
unfolding is_class
name_more s at h to = to ∙ past_more (is_class NamePart) (outside NamePart) s at (starts_part (is_letter (byte_at s at)) (is_digit (byte_at s at)) (eqb (byte_at s at) 95) h)

pub name_in : (s : List ℕ) (at : ℕ) → is_name_start (byte_at s at) ≡ true → at < length s
name_in s at h = within is_name_start refl s at h

-- a name is not empty
pub name_inside : (s : List ℕ) (at : ℕ) {e : ℕ} → is_name_start (byte_at s at) ≡ true → e ≡ past_run (is_class NamePart) s at → (at < e) × (e ≤ length s)
unfolding is_class
name_inside s at h to =
    let k : at < length s = name_in s at h in (
      omega (arith, to, past_gt (is_class NamePart) (outside NamePart) s at (starts_part (is_letter (byte_at s at)) (is_digit (byte_at s at)) (eqb (byte_at s at) 95) h)),
      omega (arith, to, past_le (is_class NamePart) s at (omega (arith, k))),
    )

pub name_fits : (s : List ℕ) (at : ℕ) {e w : ℕ} → is_name_start (byte_at s at) ≡ true → e ≡ past_run (is_class NamePart) s at → w ≡ name_word (slice at e s) → Some (e, w) ≡ name_at s at
unfolding name_at
name_fits s at h to g = rw (← to) (fits h refl g)
