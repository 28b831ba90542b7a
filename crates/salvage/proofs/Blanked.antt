-- Bytes replaced by spaces, and where the next line begins.
use mathlib.Core.Path.{◌≡◌, refl, sym, ap, ◌∙◌}
use mathlib.Core.List.{List, ◌++◌}
use mathlib.Core.Bool.{Bool, true, false, cond}
use mathlib.Core.Logic.{◌⊎◌, inl, inr}
use Prim.Native.Nat.{ℕ, zero, suc, ◌+◌, ◌-◌, ◌<◌, ◌≤◌}
use native.Mathlib.Decide.{dec_lt}
use native.Mathlib.Omega.{arith}
use lib.ListN.{length, take, drop, replicate, get_or, length-append, length-drop, length-replicate, get_or-replicate, get_or-append}
use lib.Seq.{length-take-le, get_or-take, get_or-drop, get_or-append-add}
use lib.Dec.{ltb}
use borrow.Author.Tests.{ltb-true}
use Rattle.chars.specs.Chars.{byte_at}
use Rattle.chars.proofs.Runs.{byte_in, byte_out}
use Rattle.grammar.specs.Refusals.{Refusal}
use Rattle.salvage.specs.Salvage.{line_at, line_from, next_line, search_from, end_of, space, blanked}

module _ (s : List ℕ) where
  from_bounds : (n i : ℕ) → i + n ≡ length s → (i ≤ line_from n s i) × (line_from n s i ≤ length s)
  unfolding line_from
  from_bounds zero i e = (omega arith, omega arith)
  from_bounds (suc n) i e = by (line_at s i) (from_bounds n (i + 1) (omega arith))
    where
      by : (b : Bool) → (i + 1 ≤ line_from n s (i + 1)) × (line_from n s (i + 1) ≤ length s) → (i ≤ elim b [ true ↦ i | false ↦ line_from n s (i + 1) ]) × (elim b [ true ↦ i | false ↦ line_from n s (i + 1) ] ≤ length s)
      by true h = (omega arith, omega arith)
      by false h = (let k = h.0 in omega arith, h.1)

  next_bounds : (i : ℕ) → (length s ≤ next_line s i) ⊎ (i ≤ next_line s i)
  unfolding next_line line_from
  next_bounds i = elim (dec_lt i (length s)) [ yes h ↦ inr (from_bounds (length s - i) i (omega arith)).0 | no h ↦ inl (over_it (length s - i) (omega arith)) ]
    where
      over_it : (n : ℕ) → n ≡ 0 → length s ≤ line_from n s i
      over_it zero e = omega arith
      over_it (suc n) e = absurd (omega (arith, e))

  next_in : (i : ℕ) → next_line s i ≤ length s
  unfolding next_line line_from
  next_in i = elim (dec_lt i (length s)) [ yes h ↦ (from_bounds (length s - i) i (omega arith)).1 | no h ↦ over_it (length s - i) (omega arith) ]
    where
      over_it : (n : ℕ) → n ≡ 0 → line_from n s i ≤ length s
      over_it zero e = omega arith
      over_it (suc n) e = absurd (omega (arith, e))

  search_behind : (first : ℕ) (r : Refusal) → first < search_from first r
  search_behind first r = by (ltb first r.start) refl
    where
      by : (b : Bool) → ltb first r.start ≡ b → first < cond b r.start (first + 1)
      by true e = ltb-true first r.start e
      by false e = omega arith

  -- a range isn't empty, and ends in the source
  pub end_bounds : (first : ℕ) (r : Refusal) → first < length s → (first < end_of s first r) × (end_of s first r ≤ length s)
  end_bounds first r h = (let k = search_behind first r in elim (next_bounds (search_from first r)) [ inl g ↦ omega arith | inr g ↦ omega arith ], next_in (search_from first r))

  module _ (from to : ℕ) (h : from ≤ to) (k : to ≤ length s) where
    front : length (take from s) ≡ from
    front = length-take-le from s (omega arith)

    pub blanked_length : length (blanked s from to) ≡ length s
    unfolding blanked
    blanked_length =
        let x = length-append (take from s) (replicate (to - from) space ++ drop to s) in
        let y = length-append (replicate (to - from) space) (drop to s) in
        let z = length-replicate (to - from) space in
        let w = length-drop to s in
        let v = front in
        omega arith

    got : (i : ℕ) → i < length s → byte_at (blanked s from to) i ≡ get_or (blanked s from to) i 0
    got i l = byte_in (blanked s from to) i (let e = blanked_length in omega arith)

    pub blanked_before : (i : ℕ) → i < from → byte_at (blanked s from to) i ≡ byte_at s i
    unfolding blanked
    blanked_before i l = let e = front in got i (omega arith) ∙ get_or-append (take from s) (replicate (to - from) space ++ drop to s) 0 i (omega arith) ∙ get_or-take from s i 0 l ∙ sym (byte_in s i (omega arith))

    -- behind the bytes before the range
    past : (n : ℕ) → get_or (blanked s from to) (from + n) 0 ≡ get_or (replicate (to - from) space ++ drop to s) n 0
    unfolding blanked
    past n = ap (λ (m : ℕ). get_or (blanked s from to) (m + n) 0) (sym front) ∙ get_or-append-add (take from s) (replicate (to - from) space ++ drop to s) n 0

    pub blanked_in : (i : ℕ) → from ≤ i → i < to → byte_at (blanked s from to) i ≡ space
    blanked_in i l m =
        let z = length-replicate (to - from) space in
        let e : i ≡ from + (i - from) = omega arith in
        got i (omega arith) ∙ ap (λ (n : ℕ). get_or (blanked s from to) n 0) e ∙ past (i - from) ∙ get_or-append (replicate (to - from) space) (drop to s) 0 (i - from) (omega arith) ∙ get_or-replicate (to - from) (i - from) space 0 (omega arith)

    pub blanked_behind : (i : ℕ) → to ≤ i → byte_at (blanked s from to) i ≡ byte_at s i
    blanked_behind i l = elim (dec_lt i (length s)) [
      | yes m ↦ (let e : i ≡ from + (i - from) = omega arith in
          let f : i - from ≡ length (replicate (to - from) space) + (i - to) = (let z = length-replicate (to - from) space in omega arith) in
          let g : to + (i - to) ≡ i = omega arith in
          got i m ∙ ap (λ (n : ℕ). get_or (blanked s from to) n 0) e ∙ past (i - from) ∙ ap (λ (n : ℕ). get_or (replicate (to - from) space ++ drop to s) n 0) f ∙ get_or-append-add (replicate (to - from) space) (drop to s) (i - to) 0 ∙ get_or-drop to s (i - to) 0 ∙ ap (λ (n : ℕ). get_or s n 0) g ∙ sym (byte_in s i m))
      | no m ↦ byte_out (blanked s from to) i (let e = blanked_length in omega arith) ∙ sym (byte_out s i (omega arith))
    ]
