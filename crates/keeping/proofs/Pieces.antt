-- A piece of an f-string's text that ends before a `}` or `;` at which two texts agree, and up to it, is the same piece in both.
use Rattle.std.specs.Prelude.{Some, None}
use mathlib.Core.Path.{◌≡◌, refl, sym, ap, ◌∙◌, subst}
use mathlib.Core.List.{List, ◌∷◌}
use mathlib.Core.Bool.{Bool, true, false, true≢false}
use mathlib.Core.Logic.{◌⊎◌, inl, inr}
use Prim.Native.Nat.{ℕ, zero, suc, ◌+◌, ◌-◌, ◌<◌, ◌≤◌}
use native.Mathlib.Decide.{dec_lt}
use native.Mathlib.Numerals.{add-one}
use native.Mathlib.Omega.{arith}
use lib.ListN.{length, drop}
use lib.Seq.{drop-cons}
use Rattle.chars.specs.Chars.{byte_at}
use Rattle.chars.proofs.Runs.{byte_in}
use Rattle.texts.specs.declared.Mode.{Mode}
use Rattle.texts.specs.declared.Mode.TheVariants.{Text, Escape, Letter, Code, Brace, Hole, Last, Torn}
use Rattle.texts.specs.Results.{Scanned}
use Rattle.texts.specs.declared.Part.{Part}
use Rattle.texts.specs.declared.Part.TheVariants.{Before, Ends}
use Rattle.texts.specs.Parts.{part_at}
use Rattle.texts.specs.Modes.{mode_after, scans, ended_at, modes_from}
use Rattle.texts.proofs.Items.{stays, modes_part}
use Rattle.texts.proofs.Parts.{Parted, parted_before, parted_ends, parted_none, least, part_in, part_lies}
use Rattle.keeping.proofs.Fence.{Fence, brace, semicolon}

-- behind such a sign no `{` was read that might begin a hole
no_brace : (m : Mode) {b : ℕ} → Fence b → scans (mode_after m b) ≡ true → least (mode_after m b) ≡ 0
unfolding mode_after
no_brace Text brace e = refl
no_brace Text semicolon e = refl
no_brace Escape brace e = refl
no_brace Escape semicolon e = refl
no_brace Letter brace e = refl
no_brace Letter semicolon e = refl
no_brace Code brace e = refl
no_brace Code semicolon e = refl
no_brace Brace brace e = absurd (true≢false (sym e))
no_brace Brace semicolon e = absurd (true≢false (sym e))
no_brace Hole f e = absurd (true≢false (sym e))
no_brace Last f e = absurd (true≢false (sym e))
no_brace Torn f e = refl

goes : (m : Mode) (at b : ℕ) (l : List ℕ) → scans m ≡ true → modes_from m at (b ∷ l) ≡ modes_from (mode_after m b) (at + 1) l
unfolding modes_from
goes m at b l e = subst (λ (x : Bool). elim x [ true ↦ modes_from (mode_after m b) (at + 1) l | false ↦ ended_at m at ] ≡ modes_from (mode_after m b) (at + 1) l) (sym e) refl

-- a piece that ends before a place
abbrev pub Upto : ℕ → Scanned → Type 0
Upto q (Some (Before e)) = e ≤ q
Upto q (Some (Ends e)) = e ≤ q
Upto q None = ⊥

past : (q at top : ℕ) {p : Scanned} → q < at → Parted at top p → Upto q p → ⊥
past q at top h (parted_before k l) u = omega (arith, h, k, u)
past q at top h (parted_ends k l) u = omega (arith, h, k, u)
past q at top h parted_none u = u

front : (s : List ℕ) (i : ℕ) → i < length s → drop i s ≡ byte_at s i ∷ drop (i + 1) s
front s i h = drop-cons s i 0 h ∙ ap (λ (b : ℕ). b ∷ drop (suc i) s) (sym (byte_in s i h)) ∙ ap (λ (n : ℕ). byte_at s i ∷ drop n s) (sym (add-one i))

module _ (s t : List ℕ) (q : ℕ) (long : length s ≡ length t) (same : (i : ℕ) → i ≤ q → byte_at s i ≡ byte_at t i) (fence : Fence (byte_at s q)) (q_in : q < length s) where
  one_on : (l : List ℕ) (m : Mode) (at : ℕ) → at < length l → scans m ≡ true → modes_from m at (drop at l) ≡ modes_from (mode_after m (byte_at l at)) (at + 1) (drop (at + 1) l)
  one_on l m at h e = ap (modes_from m at) (front l at h) ∙ goes m at (byte_at l at) (drop (at + 1) l) e

  modes_upto : (n at : ℕ) (m : Mode) → at + n ≡ q + 1 → (q < at → scans m ≡ true → least m ≡ 0) → Upto q (modes_from m at (drop at s)) → modes_from m at (drop at t) ≡ modes_from m at (drop at s)
  modes_upto zero at m z h u = by (scans m) refl
    where
      by : (b : Bool) → scans m ≡ b → modes_from m at (drop at t) ≡ modes_from m at (drop at s)
      by false e = stays m at (drop at t) e ∙ sym (stays m at (drop at s) e)
      by true e = let k = h (omega arith) e in absurd (past q at (at + length (drop at s)) (omega arith) (part_in m at at (drop at s) (omega arith)) u)
  modes_upto (suc n) at m z h u = by (scans m) refl (modes_upto n)
    where
      next : at < q ⊎ (at ≡ q) → q < at + 1 → scans (mode_after m (byte_at s at)) ≡ true → least (mode_after m (byte_at s at)) ≡ 0
      next (inl k) g = absurd (omega (arith, k, g))
      next (inr k) g = no_brace m (subst (λ (i : ℕ). Fence (byte_at s i)) (sym k) fence)

      place : at < q ⊎ (at ≡ q)
      place = elim (dec_lt at q) [ yes k ↦ inl k | no k ↦ inr (omega arith) ]

      by : (b : Bool) → scans m ≡ b → ((at : ℕ) (m : Mode) → at + n ≡ q + 1 → (q < at → scans m ≡ true → least m ≡ 0) → Upto q (modes_from m at (drop at s)) → modes_from m at (drop at t) ≡ modes_from m at (drop at s)) → modes_from m at (drop at t) ≡ modes_from m at (drop at s)
      by false e ih = stays m at (drop at t) e ∙ sym (stays m at (drop at s) e)
      by true e ih =
          let x = one_on s m at (omega arith) e in
          one_on t m at (omega (arith, long, z, q_in)) e
          ∙ ap (λ (b : ℕ). modes_from (mode_after m b) (at + 1) (drop (at + 1) t)) (sym (same at (omega arith)))
          ∙ ih (at + 1) (mode_after m (byte_at s at)) (omega arith) (next place) (subst (Upto q) x u)
          ∙ sym x

  from : (at : ℕ) {p : Scanned} → Parted at (length s) p → Upto q p → at ≤ q
  from at (parted_before k l) u = omega (arith, k, u)
  from at (parted_ends k l) u = omega (arith, k, u)
  from at parted_none u = absurd u

  pub part_upto : (at : ℕ) → Upto q (part_at s at) → part_at t at ≡ part_at s at
  part_upto at u =
      let h = from at (part_lies s at) u in
      sym (modes_part t at) ∙ modes_upto (q + 1 - at) at Text (omega arith) (λ k e. refl) (subst (Upto q) (sym (modes_part s at)) u) ∙ modes_part s at
