-- Bytes and runs of a part of a source.
use mathlib.Core.Path.{◌≡◌, refl, sym, ap, ◌∙◌}
use Prim.Native.Nat.{ℕ, zero, suc, ◌+◌, ◌-◌, ◌≤◌, ◌<◌}
use mathlib.Core.List.{List, [], ◌∷◌}
use mathlib.Core.Bool.{Bool, true, false}
use native.Mathlib.Nat.{le_trans, le_of_eq}
use native.Mathlib.Omega.{arith}
use lib.ListN.{length, take, drop}
use lib.Seq.{slice, drop-drop, length-slice, length-take-le, get_or-take}
use Rattle.chars.specs.Chars.{byte_at}
use Rattle.chars.specs.Runs.{span, past_span, past_run}
use Rattle.chars.proofs.Runs.{byte_in, byte_out, byte_drop}
use Rattle.chars.proofs.Texts.{part_slice}

module _ (s : List ℕ) (a e : ℕ) (fits : e ≤ length s) where
  pub part_length : length (slice a e s) ≡ e - a
  part_length = length-slice a e s fits

  pub byte_part : (i : ℕ) → a + i < e → byte_at (slice a e s) i ≡ byte_at s (a + i)
  byte_part i h =
      byte_drop (take e s) a i
      ∙ byte_in (take e s) (a + i) (le_trans h (le_of_eq (sym (length-take-le e s fits))))
      ∙ get_or-take e s (a + i) 0 h
      ∙ sym (byte_in s (a + i) (le_trans h fits))

  pub byte_past : (i : ℕ) → e ≤ a + i → byte_at (slice a e s) i ≡ 256
  byte_past i h = byte_out (slice a e s) i (le_trans (le_of_eq part_length) (omega arith))

-- ---- runs
abbrev run : (ℕ → Bool) → List ℕ → ℕ
run p l = span (λ c b. p b) (λ c b. c) false l

module _ (p : ℕ → Bool) where
  -- a run that ends where the part does, or before
  run_take : (k : ℕ) (l : List ℕ) → run p l ≤ k → run p (take k l) ≡ run p l
  unfolding span
  run_take zero [] h = refl
  run_take (suc k) [] h = refl
  run_take zero (b ∷ l) h = go (p b) h
    where
      go : (t : Bool) → elim t [ true ↦ suc (run p l) | false ↦ 0 ] ≤ 0 → ◌≡◌ {A = ℕ} 0 (elim t [ true ↦ suc (run p l) | false ↦ 0 ])
      go true h = absurd (omega (arith, h))
      go false h = refl
  run_take (suc k) (b ∷ l) h = go (p b) (run_take k l) h
    where
      go : (t : Bool) → (run p l ≤ k → run p (take k l) ≡ run p l) → elim t [ true ↦ suc (run p l) | false ↦ 0 ] ≤ suc k
          → ◌≡◌ {A = ℕ} (elim t [ true ↦ suc (run p (take k l)) | false ↦ 0 ]) (elim t [ true ↦ suc (run p l) | false ↦ 0 ])
      go true f h = ap suc (f (omega (arith, h)))
      go false f h = refl

  -- a run that ends inside the part
  run_inside : (k : ℕ) (l : List ℕ) → run p (take k l) < length (take k l) → run p (take k l) ≡ run p l
  unfolding span
  run_inside zero [] h = refl
  run_inside zero (b ∷ l) h = absurd (omega (arith, h))
  run_inside (suc k) [] h = refl
  run_inside (suc k) (b ∷ l) h = go (p b) (run_inside k l) h
    where
      go : (t : Bool) → (run p (take k l) < length (take k l) → run p (take k l) ≡ run p l) → elim t [ true ↦ suc (run p (take k l)) | false ↦ 0 ] < suc (length (take k l))
          → ◌≡◌ {A = ℕ} (elim t [ true ↦ suc (run p (take k l)) | false ↦ 0 ]) (elim t [ true ↦ suc (run p l) | false ↦ 0 ])
      go true f h = ap suc (f (omega (arith, h)))
      go false f h = refl

  module _ (s : List ℕ) (a e : ℕ) (fits : e ≤ length s) (i : ℕ) where
    rest : drop i (slice a e s) ≡ take (e - (a + i)) (drop (a + i) s)
    rest = drop-drop i a (take e s) ∙ sym (part_slice (a + i) e s)

    pub past_part : a + i ≤ e → past_run p s (a + i) ≤ e → a + past_run p (slice a e s) i ≡ past_run p s (a + i)
    unfolding past_run past_span
    past_part k h =
        ap (λ (l : List ℕ). a + (i + run p l)) rest
        ∙ ap (λ (n : ℕ). a + (i + n)) (run_take (e - (a + i)) (drop (a + i) s) (omega (arith, k, h)))
        ∙ order a i (run p (drop (a + i) s))
      where
        order : (a i n : ℕ) → a + (i + n) ≡ a + i + n
        order a i n = omega arith

    pub past_inside : past_run p (slice a e s) i < length (slice a e s) → a + past_run p (slice a e s) i ≡ past_run p s (a + i)
    unfolding past_run past_span
    past_inside h =
        let g : i + run p (drop i (slice a e s)) < e - a = le_trans h (le_of_eq (part_length s a e fits)) in
        let q : run p (drop i (slice a e s)) ≡ run p (take (e - (a + i)) (drop (a + i) s)) = ap (run p) rest in
        ap (λ (l : List ℕ). a + (i + run p l)) rest
        ∙ ap (λ (n : ℕ). a + (i + n)) (run_inside (e - (a + i)) (drop (a + i) s) (le_trans (omega (arith, g, q)) (le_of_eq (sym (ap length (part_slice (a + i) e s) ∙ length-slice (a + i) e s fits)))))
        ∙ order a i (run p (drop (a + i) s))
      where
        order : (a i n : ℕ) → a + (i + n) ≡ a + i + n
        order a i n = omega arith
