-- How the answers of `row` and `one_float` follow from the tests.
use Rattle.std.specs.Prelude.{Some, None, Ok, Err}
use mathlib.Core.Path.{◌≡◌, refl, sym, ap, ◌∙◌}
use Prim.Native.Nat.{ℕ, ◌<◌, ◌≤◌, zero-le}
use mathlib.Core.List.{List}
use lib.ListN.{length}
use lib.Seq.{slice, take_all}
use lib.Dec.{eqb}
use native.Mathlib.Nat.{le_of_eq}
use borrow.Author.Tests.{eq-eqb, ne_eqb, lt-ltb, le-ltb}
use Rattle.tokens.specs.Results.{Step}
use Rattle.tokens.specs.declared.Cursor.{Cursor}
use Rattle.tokens.specs.declared.Refusal.{Refusal}
use Rattle.tokens.specs.Tokens.{step_at}
use Rattle.tokens.specs.Words.{code_of}
use Rattle.numbers.proofs.Choices.{not_left, not_right}
use Rattle.values.specs.Results.{Worth}
use Rattle.values.specs.Literals.{literal_of, literal_at}
use Rattle.values.proofs.Literals.{text_fits}
use Rattle.floats.specs.declared.Width.{Width}
use Rattle.literals.specs.Answers.{row_for, row_of, width_of, float_row, alone_of}

module _ (t : List ℕ) where
  pub at_front : {a : ℕ} {r : Step} → a ≡ 0 → r ≡ step_at t a → r ≡ step_at t 0
  at_front z h = h ∙ ap (step_at t) z

  pub no_token : {r : Refusal} → step_at t 0 ≡ Err r → None ≡ row_of t
  unfolding row_of row_for
  no_token h = rw h

  module _ {w a : ℕ} {n : Cursor} (h : step_at t 0 ≡ Ok (w, a, n)) where
    pub starts_later : (a ≡ 0 → ⊥) → None ≡ row_of t
    unfolding row_of row_for
    starts_later f = rw (h, not_left (eqb n.at (length t)) (ne_eqb a 0 f))

    pub ends_else : (n.at ≡ length t → ⊥) → None ≡ row_of t
    unfolding row_of row_for
    ends_else f = rw (h, not_right (eqb a 0) (ne_eqb n.at (length t) f))

    pub whole_text : {r : Worth} {c : ℕ} → a ≡ 0 → n.at ≡ length t → c ≡ code_of w → r ≡ literal_at c 0 n.at t → r ≡ row_of t
    unfolding row_of row_for
    whole_text {r} {c} s e q g = rw (h, eq-eqb a 0 s, eq-eqb n.at (length t) e) (g ∙ sym (text_fits c t 0 n.at zero-le (le_of_eq e)) ∙ ap (λ (c : ℕ). literal_of c (slice 0 n.at t)) q ∙ ap (literal_of (code_of w)) (take_all n.at t (le_of_eq (sym e))))

  pub too_long : 65535 < length t → None ≡ alone_of t
  unfolding alone_of
  too_long h = rw (lt-ltb 65535 (length t) h)

  module _ (h : length t ≤ 65535) {r : Worth} (is : r ≡ row_of t) where
    fits : float_row r ≡ alone_of t
    unfolding alone_of
    fits = rw (le-ltb 65535 (length t) h) (ap float_row is)

    pub no_row : r ≡ None → None ≡ alone_of t
    unfolding float_row
    no_row e = sym (ap float_row e) ∙ fits

    module _ {k v d : ℕ} (e : r ≡ Some (record { kind = k; value = v; detail = d })) where
      pub another : (k ≡ 11 → ⊥) → None ≡ alone_of t
      unfolding float_row
      another f = sym (ap float_row e ∙ rw (ne_eqb k 11 f) refl) ∙ fits

      pub a_float : k ≡ 11 → {w : Width} → w ≡ width_of d → Some w ≡ alone_of t
      unfolding float_row
      a_float f g = sym (ap float_row e ∙ rw (eq-eqb k 11 f, g) refl) ∙ fits
