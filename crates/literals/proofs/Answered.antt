-- The answer: what is permitted, that there is one and only one, and how `float` gives it.
use Rattle.std.specs.Prelude.{Some, None}
use mathlib.Core.Path.{◌≡◌, refl, sym, ap, ◌∙◌, subst}
use Prim.Native.Nat.{ℕ, ◌^◌, ◌<◌}
use native.Mathlib.Nat.{lt_of_lt_of_le}
use mathlib.Core.List.{List}
use mathlib.Core.Bool.{Bool, true, false, cond}
use lib.ListN.{length}
use lib.Dec.{eqb, leb, ltb, lit≤}
use native.Mathlib.Omega.{arith}
use borrow.Author.Tests.{ltb-true, eqb-true}
use Rattle.chars.specs.Chars.{byte_at, is_digit}
use Rattle.numbers.proofs.Choices.{and_left}
use Rattle.values.specs.Results.{Worth}
use Rattle.floats.specs.Results.{Decimal}
use Rattle.floats.specs.declared.Width.{Width}
use Rattle.floats.specs.Bits.{bits_of}
use Rattle.floats.specs.Nearest.{Nearest, format_of}
use Rattle.floats.proofs.Closest.{bits_nearest, only_bits}
use Rattle.floats.proofs.Decimals.{ten_some}
use Rattle.literals.specs.Results.{Alone}
use Rattle.literals.specs.declared.Answer.{Answer}
use Rattle.literals.specs.Decimals.{after, digits, numerator, denominator, from_first, few}
use Rattle.literals.specs.Answers.{row_of, width_of, float_row, alone_of, size_of, refusal, Accepted, Counted, Says, Permitted}
use Rattle.literals.specs.Steps.{written_of}
use Rattle.literals.proofs.Figures.{all_below_lem, few_digits}
use Rattle.literals.proofs.Starts.{float_starts}

-- the answer that a float's bits make
abbrev pub accepted : Width → List ℕ → ℕ → Answer
accepted w t b = record { number = 0; start = 0; end = length t; width = size_of w; bits = b }

module _ (t : List ℕ) where
  -- a whole number of at most 19 digits, so that no float of either width overflows
  small : few t ≡ true → numerator t < 2 ^ 64
  unfolding few
  small h =
      lt_of_lt_of_le
      (ltb-true (numerator t) (10 ^ 19) (sym (few_digits (digits t) (all_below_lem t)) ∙ and_left (leb (length (from_first (digits t))) 19) (leb (length (after t)) 19) h))
      (lit≤ tt)

  module _ (w : Width) where
    bits : ℕ
    bits = bits_of (format_of w) (numerator t) (denominator t)

    near : few t ≡ true → Nearest (format_of w) (numerator t) (denominator t) bits
    unfolding bits
    near h = bits_nearest (format_of w) (numerator t) (denominator t) (ten_some (length (after t))) (small h)

    only : few t ≡ true → {b : ℕ} → Nearest (format_of w) (numerator t) (denominator t) b → b ≡ bits
    unfolding bits
    only h {b} n = only_bits (format_of w) (numerator t) (denominator t) (ten_some (length (after t))) (small h) b n

    accepts : few t ≡ true → Accepted w t (accepted w t bits)
    accepts h = record { number = refl; start = refl; end = refl; width = refl; nearest = near h }

    accepted_is : few t ≡ true → {a : Answer} → Accepted w t a → a ≡ accepted w t bits
    accepted_is h {a} x = same a.number a.start a.end a.width a.bits x.number x.start x.end x.width (only h x.nearest)
      where
        same : (n s e z b : ℕ) → n ≡ 0 → s ≡ 0 → e ≡ length t → z ≡ size_of w → b ≡ bits → ◌≡◌ {A = Answer} (record { number = n; start = s; end = e; width = z; bits = b }) (accepted w t bits)
        same n s e z b f g h k l = rw (f, g, h, k, l)

  -- ---- what `float` gives
  module _ {k : Alone} (is : k ≡ alone_of t) where
    pub no_float : k ≡ None → {a : Answer} → a ≡ refusal 7 t → Permitted t a
    unfolding Permitted
    no_float h {a} e = subst (λ (x : Alone). Says x t a) (sym h ∙ is) e

    module _ {w : Width} (h : k ≡ Some w) where
      pub begins : is_digit (byte_at t 0) ≡ true
      unfolding alone_of float_row
      begins = within (ltb 65535 (length t)) (sym is ∙ h)
        where
          never : {w : Width} → None ≡ Some w → ⊥
          never h = let z : ◌≡◌ {A = ℕ} 0 1 = cc in omega arith

          of_kind : (k v d : ℕ) → row_of t ≡ Some (record { kind = k; value = v; detail = d }) → (b : Bool) → eqb k 11 ≡ b → cond b (Some (width_of d)) None ≡ Some w → is_digit (byte_at t 0) ≡ true
          of_kind k v d r true g e = float_starts t (r ∙ ap (λ (x : ℕ). Some (record { kind = x; value = v; detail = d })) (eqb-true k 11 g))
          of_kind k v d r false g e = absurd (never e)

          of_row : (r : Worth) → row_of t ≡ r → float_row r ≡ Some w → is_digit (byte_at t 0) ≡ true
          of_row (Some x) r e = of_kind x.kind x.value x.detail r (eqb x.kind 11) refl e
          of_row None r e = absurd (never e)

          within : (b : Bool) → cond b None (float_row (row_of t)) ≡ Some w → is_digit (byte_at t 0) ≡ true
          within true e = absurd (never e)
          within false e = of_row (row_of t) refl e

      counted : (b : Bool) → few t ≡ b → (a : Answer) → Counted b w t a → Permitted t a
      unfolding Permitted
      counted b f a c = subst (λ (x : Alone). Says x t a) (sym h ∙ is) (subst (λ (y : Bool). Counted y w t a) (sym f) c)

      module _ {x : Decimal} (said : x ≡ written_of (format_of w) t) where
        pub long : x ≡ None → {a : Answer} → a ≡ refusal 14 t → Permitted t a
        unfolding written_of
        long e {a} g = go (few t) refl (sym said ∙ e)
          where
            never : {b : ℕ} → Some b ≡ None → ⊥
            never h = let z : ◌≡◌ {A = ℕ} 0 1 = cc in omega arith

            go : (b : Bool) → few t ≡ b → cond b (Some (bits_of (format_of w) (numerator t) (denominator t))) None ≡ None → Permitted t a
            go true f e = absurd (never e)
            go false f e = counted false f a g

        pub found : {b s : ℕ} → x ≡ Some b → s ≡ size_of w → Permitted t (record { number = 0; start = 0; end = length t; width = s; bits = b })
        unfolding written_of bits
        found {b} {s} e g = go (few t) refl (sym said ∙ e)
          where
            never : {y : ℕ} → None ≡ Some y → ⊥
            never h = let z : ◌≡◌ {A = ℕ} 0 1 = cc in omega arith

            same : {x y : ℕ} → Some x ≡ Some y → x ≡ y
            same e = cc

            go : (c : Bool) → few t ≡ c → cond c (Some (bits_of (format_of w) (numerator t) (denominator t))) None ≡ Some b
                → Permitted t (record { number = 0; start = 0; end = length t; width = s; bits = b })
            go true f e = counted true f _ (record { number = refl; start = refl; end = refl; width = g; nearest = subst (Nearest (format_of w) (numerator t) (denominator t)) (same e) (near w f) })
            go false f e = absurd (never e)

-- ---- one answer, and only one: this
unfoldable pub answer_for : Alone → List ℕ → Answer
answer_for (Some w) t = cond (few t) (accepted w t (bits_of (format_of w) (numerator t) (denominator t))) (refusal 14 t)
answer_for None t = refusal 7 t

unfoldable pub answer_of : List ℕ → Answer
answer_of t = answer_for (alone_of t) t

pub an_answer : (t : List ℕ) → Permitted t (answer_of t)
unfolding Permitted answer_of answer_for
an_answer t = go (alone_of t)
  where
    counts : (w : Width) (b : Bool) → few t ≡ b → Counted b w t (cond b (accepted w t (bits_of (format_of w) (numerator t) (denominator t))) (refusal 14 t))
    counts w true h = unfold bits in accepts t w h
    counts w false h = refl

    go : (k : Alone) → Says k t (answer_for k t)
    go (Some w) = counts w (few t) refl
    go None = refl

pub the_answer : (t : List ℕ) (a : Answer) → Permitted t a → a ≡ answer_of t
unfolding Permitted answer_of answer_for
the_answer t a = go (alone_of t)
  where
    counts : (w : Width) (b : Bool) → few t ≡ b → Counted b w t a → a ≡ cond b (accepted w t (bits_of (format_of w) (numerator t) (denominator t))) (refusal 14 t)
    counts w true h x = unfold bits in accepted_is t w h x
    counts w false h x = x

    go : (k : Alone) → Says k t a → a ≡ answer_for k t
    go (Some w) = counts w (few t) refl
    go None = λ x. x

pub one_answer : (t : List ℕ) (a b : Answer) → Permitted t a → Permitted t b → a ≡ b
one_answer t a b x y = the_answer t a x ∙ sym (the_answer t b y)
