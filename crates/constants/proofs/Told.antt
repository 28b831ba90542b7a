-- What an arm of the code knows, put into the definitions.
use Rattle.std.specs.Prelude.{Some, None, Option}
use mathlib.Core.Path.{◌≡◌, refl, sym, ap, ◌∙◌}
use mathlib.Core.List.{List}
use mathlib.Core.Bool.{Bool, true, false, ◌&&◌, ◌||◌, cond}
use Prim.Native.Nat.{ℕ, ◌≤◌}
use lib.Dec.{eqb, leb}
use borrow.Author.Tests.{le-leb, eq-eqb, ne_eqb}
use Rattle.numbers.proofs.Choices.{first, second}
use Rattle.floats.specs.Nearest.{format_of}
use Rattle.floats.specs.Bits.{bits_of}
use Rattle.literals.specs.Results.{Alone}
use Rattle.literals.specs.declared.Answer.{Answer}
use Rattle.literals.specs.Decimals.{few, numerator, denominator}
use Rattle.literals.specs.Answers.{alone_of, refusal, Permitted}
use Rattle.literals.proofs.Answered.{accepted, answer_for, answer_of, the_answer}
use Rattle.constants.specs.Types.{U64, F64, text_at, number_for, bits_for, float_number, float_bits, fine, float_fault}

-- ---- an integer's fault

pub integer_in : (w : ℕ) (b : Bool) {r : Option ℕ} → w ≤ 8 → r ≡ fine b → r ≡ fine (leb w U64 && b)
integer_in w b h e = e ∙ ap (λ (t : Bool). fine (t && b)) (sym (le-leb w 8 h))

-- ---- C-17's answer

number_of : (k : Alone) (t : List ℕ) → (answer_for k t).number ≡ number_for k t
unfolding answer_for number_for
number_of (Some w) t = go (few t)
  where
    go : (b : Bool) → (cond b (accepted w t (bits_of (format_of w) (numerator t) (denominator t))) (refusal 14 t)).number ≡ cond b 0 14
    go true = refl
    go false = refl
number_of None t = refl

pub bits_of_lem : (k : Alone) (t : List ℕ) → (answer_for k t).bits ≡ bits_for k t
unfolding answer_for bits_for
bits_of_lem (Some w) t = go (few t)
  where
    go : (b : Bool) → (cond b (accepted w t (bits_of (format_of w) (numerator t) (denominator t))) (refusal 14 t)).bits ≡ cond b (bits_of (format_of w) (numerator t) (denominator t)) 0
    go true = refl
    go false = refl
bits_of_lem None t = refl

module _ (s : List ℕ) (start end : ℕ) (t : List ℕ) (a : Answer) (e : t ≡ text_at s start end) (p : Permitted t a) where
  its : a ≡ answer_of (text_at s start end)
  its = the_answer t a p ∙ ap answer_of e

  -- the number and the bits that the definition has are those of C-17's answer
  pub number_said : a.number ≡ float_number s start end
  unfolding float_number answer_of
  number_said = ap (λ (x : Answer). x.number) its ∙ number_of (alone_of (text_at s start end)) (text_at s start end)

  pub bits_said : a.bits ≡ float_bits s start end
  unfolding float_bits answer_of
  bits_said = ap (λ (x : Answer). x.bits) its ∙ bits_of_lem (alone_of (text_at s start end)) (text_at s start end)

module _ (n m w detail : ℕ) (e : m ≡ n) where
  pub float_long : m ≡ 14 → Some 14 ≡ float_fault n w detail
  unfolding float_fault
  float_long h = first _ (eq-eqb n 14 (sym e ∙ h)) refl

  pub float_short : {r : Option ℕ} → (m ≡ 14 → ⊥) → r ≡ fine ((eqb m 0 && eqb w F64) && (eqb detail 0 || eqb detail F64)) → r ≡ float_fault n w detail
  unfolding float_fault
  float_short h g = second (Some 14) (ne_eqb n 14 (λ k. h (e ∙ k))) (g ∙ ap (λ (x : ℕ). fine ((eqb x 0 && eqb w F64) && (eqb detail 0 || eqb detail F64))) e)
