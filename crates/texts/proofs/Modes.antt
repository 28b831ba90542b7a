-- How the code's scan for the end of a piece follows its modes, byte by byte.
use mathlib.Core.Path.{◌≡◌, refl, sym, ap, subst, ◌∙◌}
use mathlib.Core.List.{List, ◌∷◌}
use mathlib.Core.Logic.{◌⊎◌, inl, inr}
use mathlib.Core.Bool.{Bool, true, false, ◌&&◌, cond}
use Prim.Native.Nat.{ℕ, suc, ◌+◌, ◌<◌, ◌≤◌}
use borrow.Author.Tests.{ltb-true, ltb-false}
use lib.Dec.{T, ltb}
use lib.ListN.{length, get_or, drop, drop_of_length-le}
use lib.Seq.{drop-cons}
use native.Mathlib.Decide.{dec_lt}
use native.Mathlib.Omega.{arith}
use Rattle.texts.specs.declared.Mode.{Mode}
use Rattle.texts.specs.declared.Mode.TheVariants.{Text}
use Rattle.texts.specs.Results.{Scanned}
use Rattle.texts.specs.declared.Part.{Part}
use Rattle.texts.specs.Parts.{part_at}
use Rattle.texts.specs.Modes.{mode_after, scans, ended_at, modes_from}
use Rattle.texts.proofs.Items.{stays, modes_part}

pub first : {A : Type 0} {t : Bool} {a x : A} (b : A) → t ≡ true → x ≡ a → x ≡ cond t a b
first b h g = rw h g

pub second : {A : Type 0} {t : Bool} (a : A) {b x : A} → t ≡ false → x ≡ b → x ≡ cond t a b
second a h g = rw h g

-- a mode by its name
pub as_mode : {m v : Mode} (b : ℕ) {r : Mode} → m ≡ v → r ≡ mode_after v b → r ≡ mode_after m b
as_mode b e h = rw e h

pub as_end : {m v : Mode} (at : ℕ) {r : Scanned} → m ≡ v → r ≡ ended_at v at → r ≡ ended_at m at
as_end at e h = rw e h

goes_one : (m : Mode) (at b : ℕ) (l : List ℕ) → scans m ≡ true → modes_from m at (b ∷ l) ≡ modes_from (mode_after m b) (at + 1) l
unfolding modes_from
goes_one m at b l e = subst (λ (t : Bool). elim t [ true ↦ modes_from (mode_after m b) (at + 1) l | false ↦ ended_at m at ] ≡ modes_from (mode_after m b) (at + 1) l) (sym e) refl

-- the loop's state: what is left gives the answer
pub record Scan (s : List ℕ) (at i : ℕ) (m : Mode) : Type 0 where
  pub left : modes_from m i (drop i s) ≡ part_at s at

pub scan_starts : (s : List ℕ) (at : ℕ) → Scan s at at Text
scan_starts s at = record { left = modes_part s at }

module _ {s : List ℕ} {at i : ℕ} {m : Mode} (g : Scan s at i m) where
  pub scan_goes : i < length s → {r : Bool} → r ≡ scans m → r ≡ true → {m' : Mode} → m' ≡ mode_after m (get_or s i 0) → Scan s at (i + 1) m'
  scan_goes h e k em = record {
    left = (let one : suc i ≡ i + 1 = omega arith in
        ap (λ (x : Mode). modes_from x (i + 1) (drop (i + 1) s)) em ∙ sym (goes_one m i (get_or s i 0) (drop (i + 1) s) (sym e ∙ k)) ∙ ap (modes_from m i) (sym (drop-cons s i 0 h ∙ ap (λ (n : ℕ). get_or s i 0 ∷ drop n s) one)) ∙ g.left);
  }

  pub scan_stops : {r : Bool} → r ≡ scans m → r ≡ false → {x : Scanned} → x ≡ ended_at m i → x ≡ part_at s at
  scan_stops e k q = q ∙ sym (stays m i (drop i s) (sym e ∙ k)) ∙ g.left

  -- at the source's end; a piece that would begin behind it has read nothing
  pub scan_ends : length s ≤ i → (length s < i → m ≡ Text) → {x : Scanned} → x ≡ ended_at m (length s) → x ≡ part_at s at
  unfolding modes_from
  scan_ends h k q = q ∙ here ∙ sym (ap (modes_from m i) (drop_of_length-le s {i = i} h)) ∙ g.left
    where
      here : ended_at m (length s) ≡ ended_at m i
      here = elim (dec_lt (length s) i) [
        | yes n ↦ ap (λ (x : Mode). ended_at x (length s)) (k n) ∙ sym (ap (λ (x : Mode). ended_at x i) (k n))
        | no n ↦ (let e : length s ≡ i = omega (arith, h, n) in ap (ended_at m) e)
      ]
