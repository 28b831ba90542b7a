-- A piece of text lies in the source, and something stands behind it: the `{` of a hole and a byte, or the quote.
use Rattle.std.specs.Prelude.{Some, None}
use mathlib.Core.Path.{◌≡◌, sym, subst}
use mathlib.Core.List.{List, [], ◌∷◌}
use mathlib.Core.Bool.{Bool, true, false, ◌||◌, cond}
use Prim.Native.Nat.{ℕ, suc, ◌+◌, ◌-◌, ◌≤◌}
use lib.Dec.{eqb}
use lib.ListN.{length, drop, length-drop, drop_of_length-le}
use native.Mathlib.Decide.{dec_le}
use native.Mathlib.Omega.{arith}
use Rattle.texts.specs.declared.Mode.{Mode}
use Rattle.texts.specs.declared.Mode.TheVariants.{Text, Escape, Letter, Code, Brace, Hole, Last, Torn}
use Rattle.texts.specs.Results.{Scanned}
use Rattle.texts.specs.declared.Part.{Part}
use Rattle.texts.specs.declared.Part.TheVariants.{Before, Ends}
use Rattle.texts.specs.Signs.{backslash, quote, open_brace, close_brace, small_u, capital_u}
use Rattle.texts.specs.Parts.{part_at}
use Rattle.texts.specs.Modes.{mode_after, scans, ended_at, modes_from}
use Rattle.texts.proofs.Items.{modes_part}

pub data Parted (base top : ℕ) : Scanned → Type 0 where
  parted_before : {e : ℕ} → base ≤ e → e + 2 ≤ top → Parted base top (Some (Before e))
  parted_ends : {e : ℕ} → base ≤ e → e + 1 ≤ top → Parted base top (Some (Ends e))
  parted_none : Parted base top None

-- how many bytes a mode stands behind
abbrev pub least : Mode → ℕ
least Text = 0
least Escape = 0
least Letter = 0
least Code = 0
least Brace = 1
least Hole = 2
least Last = 1
least Torn = 0

of_two : {n : ℕ} (b : Bool) (x y : Mode) → least x ≤ n → least y ≤ n → least (cond b x y) ≤ n
of_two true x y h k = h
of_two false x y h k = k

least_after : (m : Mode) (b : ℕ) → least (mode_after m b) ≤ least m + 1
unfolding mode_after
least_after Text b = of_two (eqb b backslash) Escape (cond (eqb b open_brace) Brace (cond (eqb b quote) Last Text)) (omega arith) (of_two (eqb b open_brace) Brace (cond (eqb b quote) Last Text) (omega arith) (of_two (eqb b quote) Last Text (omega arith) (omega arith)))
least_after Escape b = of_two (eqb b small_u || eqb b capital_u) Letter Text (omega arith) (omega arith)
least_after Letter b = of_two (eqb b open_brace) Code Torn (omega arith) (omega arith)
least_after Code b = of_two (eqb b close_brace) Text Code (omega arith) (omega arith)
least_after Brace b = of_two (eqb b open_brace) Text Hole (omega arith) (omega arith)
least_after Hole b = omega arith
least_after Last b = omega arith
least_after Torn b = omega arith

ended_in : (m : Mode) (base at top : ℕ) → base + least m ≤ at → at ≤ top → Parted base top (ended_at m at)
ended_in Text base at top h k = parted_none
ended_in Escape base at top h k = parted_none
ended_in Letter base at top h k = parted_none
ended_in Code base at top h k = parted_none
ended_in Brace base at top h k = parted_none
ended_in Hole base at top h k = parted_before {e = at - 2} (omega arith) (omega arith)
ended_in Last base at top h k = parted_ends {e = at - 1} (omega arith) (omega arith)
ended_in Torn base at top h k = parted_none

pub part_in : (m : Mode) (base at : ℕ) (l : List ℕ) → base + least m ≤ at → Parted base (at + length l) (modes_from m at l)
unfolding modes_from
part_in m base at [] h = ended_in m base at (at + 0) h (omega arith)
part_in m base at (b ∷ l) h = go (scans m) (part_in (mode_after m b) base (at + 1) l (let q = least_after m b in omega arith))
  where
    go : (t : Bool) → Parted base (at + 1 + length l) (modes_from (mode_after m b) (at + 1) l) → Parted base (at + suc (length l)) (elim t [ true ↦ modes_from (mode_after m b) (at + 1) l | false ↦ ended_at m at ])
    go true r = let e : at + 1 + length l ≡ at + suc (length l) = omega arith in subst (λ (n : ℕ). Parted base n (modes_from (mode_after m b) (at + 1) l)) e r
    go false r = ended_in m base at (at + suc (length l)) h (omega arith)

modes_lie : (s : List ℕ) (at : ℕ) → Parted at (length s) (modes_from Text at (drop at s))
unfolding modes_from
modes_lie s at = elim (dec_le at (length s)) [
  | yes h ↦ (let e : at + length (drop at s) ≡ length s = omega (arith, h, length-drop at s) in subst (λ (n : ℕ). Parted at n (modes_from Text at (drop at s))) e (part_in Text at at (drop at s) (omega arith)))
  | no h ↦ subst (λ (l : List ℕ). Parted at (length s) (modes_from Text at l)) (sym (drop_of_length-le s {i = at} (omega (arith, h)))) parted_none
]

pub part_lies : (s : List ℕ) (at : ℕ) → Parted at (length s) (part_at s at)
part_lies s at = subst (Parted at (length s)) (modes_part s at) (modes_lie s at)
