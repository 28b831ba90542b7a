-- Places in a text.
use Rattle.std.specs.Prelude.{Option, Some, None, position, unwrap_or}
use Rattle.std.specs.List.{position_or_len}
use Rattle.std.proofs.lemmas.List.Recursion.{is_position_or_len}
use Rattle.std.proofs.lemmas.List.Sums.{prefix_len-le-length}
use mathlib.Core.Path.{◌≡◌, refl, sym, ap, ◌∙◌}
use Prim.Native.Nat.{ℕ, suc, ◌+◌, ◌-◌, ◌<◌, ◌≤◌, zero-le, suc-le-suc}
use mathlib.Core.List.{List, [], ◌∷◌}
use mathlib.Core.Bool.{Bool, true, false, not, cond}
use native.Mathlib.Nat.{le_refl, add-zero, add-suc, suc-add}
use native.Mathlib.Numerals.{add-one}
use native.Mathlib.Decide.{dec_lt}
use native.Mathlib.Omega.{arith}
use lib.ListN.{length, take, drop, length-drop, drop_of_length-le}
use lib.Seq.{drop-cons, take_all, get_or-drop}
use lib.Dec.{eqb, ltb}
use borrow.Author.Tests.{eq-eqb, ne_eqb, ltb-false}
use Rattle.chars.specs.Chars.{byte_at}
use Rattle.chars.proofs.Runs.{byte_in, byte_out}
use Rattle.numbers.specs.Texts.{ahead, until_byte}
use Rattle.numbers.proofs.Choices.{first, second}

-- the byte at a place behind the first `at` bytes
pub byte_behind : (s : List ℕ) (at n : ℕ) → byte_at (drop at s) n ≡ byte_at s (at + n)
byte_behind s at n = elim (dec_lt (at + n) (length s)) [
  | yes h ↦ byte_in (drop at s) n (rw length-drop (omega (arith, h))) ∙ get_or-drop at s n 0 ∙ sym (byte_in s (at + n) h)
  | no f ↦ byte_out (drop at s) n (rw length-drop (omega (arith, f))) ∙ sym (byte_out s (at + n) (omega (arith, f)))
]

pub ahead_here : {stop b : ℕ} (l : List ℕ) → b ≡ stop → 0 ≡ ahead stop (b ∷ l)
unfolding ahead
ahead_here l e = first _ (eq-eqb _ _ e) refl

pub ahead_more : {stop b : ℕ} (l : List ℕ) → (b ≡ stop → ⊥) → suc (ahead stop l) ≡ ahead stop (b ∷ l)
unfolding ahead
ahead_more l e = second _ (ne_eqb _ _ e) refl

pub ahead_le : (stop : ℕ) (l : List ℕ) → ahead stop l ≤ length l
unfolding ahead
ahead_le stop [] = zero-le
ahead_le stop (b ∷ l) = go (eqb b stop) (ahead_le stop l)
  where
    go : (t : Bool) → ahead stop l ≤ length l → cond t 0 (suc (ahead stop l)) ≤ suc (length l)
    go true h = zero-le
    go false h = suc-le-suc h

-- `position` and the end where there is none
ahead_is : (stop : ℕ) (l : List ℕ) → ahead stop l ≡ position_or_len (λ b. eqb b stop) l
unfolding ahead
ahead_is stop l = is_position_or_len (ahead stop) (λ b. eqb b stop) refl (λ b m. let e : suc (ahead stop m) ≡ 1 + ahead stop m = omega arith in ap (λ n. cond (eqb b stop) 0 n) e) l

pub or_end : {A : Type 0} (p : A → Bool) (l : List A) → unwrap_or (position p l) (length l) ≡ position_or_len p l
or_end p l = go (ltb (position_or_len p l) (length l)) refl
  where
    go : (b : Bool) → ltb (position_or_len p l) (length l) ≡ b → unwrap_or (cond b (Some (position_or_len p l)) None) (length l) ≡ position_or_len p l
    go true e = refl
    go false e = omega (arith, ltb-false _ _ e, prefix_len-le-length (λ x. not (p x)) l)

module _ (stop : ℕ) (t : List ℕ) (i : ℕ) where
  pub until_ge : i ≤ until_byte stop t i
  unfolding until_byte
  until_ge = omega arith

  pub until_found : {l : List ℕ} {r : Option ℕ} {n : ℕ} → l ≡ drop i t → r ≡ position (λ b. eqb b stop) l → n ≡ unwrap_or r (length l) → i + n ≡ until_byte stop t i
  unfolding until_byte
  until_found {l} e f g = ap (λ k. i + k) (g ∙ ap (λ r. unwrap_or r (length l)) f ∙ or_end (λ b. eqb b stop) l ∙ sym (ahead_is stop l) ∙ ap (ahead stop) e)

  pub until_end : length t ≤ i → i ≡ until_byte stop t i
  unfolding until_byte ahead
  until_end h = rw (drop_of_length-le t {i = i} h) (sym (add-zero i))

  module _ (h : i < length t) where
    pub until_here : byte_at t i ≡ stop → i ≡ until_byte stop t i
    unfolding until_byte
    until_here e = rw (drop-cons t i 0 h, ← ahead_here (drop (suc i) t) (sym (byte_in t i h) ∙ e)) (sym (add-zero i))

    pub until_more : (byte_at t i ≡ stop → ⊥) → until_byte stop t (i + 1) ≡ until_byte stop t i
    unfolding until_byte
    until_more e = rw (drop-cons t i 0 h, ← ahead_more (drop (suc i) t) (λ g. e (byte_in t i h ∙ g)), add-one) (simp (add-suc, suc-add))

-- the part of a text from a place to the end
pub tail_part : (t : List ℕ) (a : ℕ) → take (length t - a) (drop a t) ≡ drop a t
tail_part t a = take_all (length t - a) (drop a t) (rw length-drop (le_refl (length t - a)))
