-- What is skipped, a run of blanks or a comment at a time.
use mathlib.Core.Path.{◌≡◌, refl, sym, ap, ◌∙◌, subst}
use Prim.Native.Nat.{ℕ, suc, ◌+◌, ◌-◌, ◌<◌, ◌≤◌}
use mathlib.Core.List.{List, ◌∷◌}
use mathlib.Core.Bool.{Bool, true, false, ◌&&◌, not, cond}
use native.Mathlib.Nat.{add-zero, add-suc, suc-add}
use native.Mathlib.Numerals.{add-one}
use native.Mathlib.Decide.{dec_lt}
use native.Mathlib.Omega.{arith}
use lib.ListN.{length, drop, drop_of_length-le}
use lib.Seq.{drop-cons}
use lib.Dec.{eqb, ltb, leb}
use borrow.Author.Tests.{lt-ltb, le-ltb, lt-leb, ne_eqb, not-true}
use Rattle.chars.specs.declared.Class.TheVariants.{Blank, Line}
use Rattle.chars.specs.Chars.{byte_at, is_blank, is_class}
use Rattle.chars.specs.Runs.{past_run}
use Rattle.chars.proofs.Runs.{byte_in, byte_drop, within, inside, outside, past_ge, past_more, past_stops, through}
use Rattle.tokens.specs.Blanks.{skipped, skip_all, past_comment}
use Rattle.tokens.specs.Rules.{pair_at}
use Rattle.tokens.proofs.Pairs.{pair_first}
use Rattle.tokens.proofs.Fits.{not_first, not_second, neither}

-- past what is skipped from a place inside a comment
skip_in : List ℕ → ℕ → ℕ
skip_in s at = at + skipped true (drop at s)

-- the skipping of a list by its first byte
outside_blank : (b : ℕ) (l : List ℕ) → is_blank b ≡ true → skipped false (b ∷ l) ≡ suc (skipped false l)
unfolding skipped
outside_blank b l e =
    subst (λ t. elim t [ true ↦ suc (skipped false l) | false ↦ elim (eqb b 47 && eqb (byte_at l 0) 47) [ true ↦ suc (skipped true l) | false ↦ 0 ] ] ≡ suc (skipped false l)) (sym e) refl

outside_other : (b : ℕ) (l : List ℕ) {t : Bool} → is_blank b ≡ false → (eqb b 47 && eqb (byte_at l 0) 47) ≡ t → skipped false (b ∷ l) ≡ elim t [ true ↦ suc (skipped true l) | false ↦ 0 ]
unfolding skipped
outside_other b l {t} e h =
    subst (λ u. ◌≡◌ {A = ℕ} (elim u [ true ↦ suc (skipped false l) | false ↦ elim (eqb b 47 && eqb (byte_at l 0) 47) [ true ↦ suc (skipped true l) | false ↦ 0 ] ]) (elim t [ true ↦ suc (skipped true l) | false ↦ 0 ])) (sym e)
    (ap (λ (u : Bool). elim u [ true ↦ suc (skipped true l) | false ↦ 0 ]) h)

at_least : (e n : ℕ) → e ≤ cond (ltb e n) (e + 1) e
at_least e n = go (ltb e n)
  where
    go : (t : Bool) → e ≤ cond t (e + 1) e
    go true = omega arith
    go false = omega arith

-- a byte before which nothing is skipped
pub solid : (b : ℕ) → 32 < b → not (eqb b 47) ≡ true → (is_blank b ≡ false) × (eqb b 47 ≡ false)
solid b k h = (neither (not_second (leb 9 b) (lt-leb b 13 (omega (arith, k)))) (ne_eqb b 32 (λ e. omega (arith, k, e))), not-true (eqb b 47) h)

module _ (s : List ℕ) where
  -- the byte at a place inside, in front of the rest
  at_front : (i : ℕ) → i < length s → drop i s ≡ byte_at s i ∷ drop (suc i) s
  at_front i h = drop-cons s i 0 h ∙ ap (λ b. b ∷ drop (suc i) s) (sym (byte_in s i h))

  pub skip_blank : (i : ℕ) → is_class Blank (byte_at s i) ≡ true → skip_all s (i + 1) ≡ skip_all s i
  unfolding skip_all is_class
  skip_blank i e = rw (at_front i (within is_blank refl s i e), outside_blank (byte_at s i) (drop (suc i) s) e, add-one) (simp (add-suc, suc-add))

  skip_line : (i : ℕ) → is_class Line (byte_at s i) ≡ true → skip_in s (i + 1) ≡ skip_in s i
  unfolding skip_in skipped
  skip_line i e = rw (at_front i (within (is_class Line) (outside Line) s i e), e, add-one) (simp (add-suc, suc-add))

  look_ahead : (i : ℕ) → byte_at (drop (suc i) s) 0 ≡ byte_at s (i + 1)
  look_ahead i = byte_drop s (suc i) 0 ∙ ap (byte_at s) (omega arith)

  skip_slashes : (i : ℕ) → pair_at s i 47 47 ≡ true → skip_all s i ≡ skip_in s (i + 1)
  unfolding skip_all skip_in pair_at
  skip_slashes i e =
      rw (at_front i (inside s i refl (pair_first s i 47 47 e) (omega arith)), outside_other (byte_at s i) (drop (suc i) s) {t = true} (ap is_blank (pair_first s i 47 47 e)) (rw look_ahead e), add-one) (simp (add-suc, suc-add))

  -- past a comment's line nothing is inside it
  skip_ended : (e : ℕ) → is_class Line (byte_at s e) ≡ false → skip_in s e ≡ skip_all s (cond (ltb e (length s)) (e + 1) e)
  unfolding skip_all skip_in skipped
  skip_ended e f = elim (dec_lt e (length s)) [ yes h ↦ newline h | no k ↦ the_end (omega (arith, k)) ]
    where
      newline : e < length s → skip_in s e ≡ skip_all s (cond (ltb e (length s)) (e + 1) e)
      newline h = rw (lt-ltb _ _ h, at_front e h, f, add-one) (simp (add-suc, suc-add))

      the_end : length s ≤ e → skip_in s e ≡ skip_all s (cond (ltb e (length s)) (e + 1) e)
      the_end h = rw (le-ltb _ _ h, drop_of_length-le s {i = e} h) refl

  pub skip_comment : (i : ℕ) → pair_at s i 47 47 ≡ true → skip_all s (past_comment s i) ≡ skip_all s i
  unfolding past_comment is_class
  skip_comment i e =
      sym (skip_ended (past_run (is_class Line) s i) (past_stops (is_class Line) (outside Line) s i))
      ∙ through (is_class Line) (outside Line) s (skip_in s) skip_line i
      ∙ sym (skip_line i (ap (is_class Line) (pair_first s i 47 47 e)))
      ∙ sym (skip_slashes i e)

  pub skip_stops : (i : ℕ) → is_class Blank (byte_at s i) ≡ false → pair_at s i 47 47 ≡ false → i ≡ skip_all s i
  unfolding skip_all is_class pair_at skipped
  skip_stops i e f = elim (dec_lt i (length s)) [ yes h ↦ sym (stops h) | no k ↦ sym (rw (drop_of_length-le s {i = i} (omega (arith, k))) (add-zero i)) ]
    where
      stops : i < length s → skip_all s i ≡ i
      stops h = rw (at_front i h, outside_other (byte_at s i) (drop (suc i) s) {t = false} e (rw look_ahead f)) (add-zero i)

  -- where a byte was read and found to be no beginning of what is skipped
  pub skip_none : (i : ℕ) {x : ℕ} {t : Bool} → x ≡ byte_at s i → (t ≡ true → (is_blank x ≡ false) × (eqb x 47 ≡ false)) → t ≡ true → i ≡ skip_all s i
  unfolding is_class pair_at
  skip_none i e h g = skip_stops i (ap is_blank (sym e) ∙ (h g).0) (not_first _ (ap (λ b. eqb b 47) (sym e) ∙ (h g).1))

  -- the blanks from a place on change nothing
  pub skip_blanks : (i : ℕ) → skip_all s (past_run (is_class Blank) s i) ≡ skip_all s i
  skip_blanks = through (is_class Blank) (outside Blank) s (skip_all s) skip_blank

  pub comment_gt : (i : ℕ) → pair_at s i 47 47 ≡ true → i < past_comment s i
  unfolding past_comment is_class
  comment_gt i e = omega (arith, past_ge (is_class Line) s (i + 1), past_more (is_class Line) (outside Line) s i (ap (is_class Line) (pair_first s i 47 47 e)), at_least (past_run (is_class Line) s i) (length s))

  -- the loop that skips: blanks, then a comment and blanks as long as one stands there
  pub blanks_left : (at : ℕ) {i : ℕ} → i ≡ past_run (is_class Blank) s at → (skip_all s i ≡ skip_all s at) × (is_class Blank (byte_at s i) ≡ false)
  blanks_left at e = (ap (skip_all s) e ∙ skip_blanks at, ap (λ j. is_class Blank (byte_at s j)) e ∙ past_stops (is_class Blank) (outside Blank) s at)

  module _ (i : ℕ) (starts : pair_at s i 47 47 ≡ true) {e j : ℕ} (over : e ≡ past_comment s i) (to : j ≡ past_run (is_class Blank) s e) where
    pub comment_again : {n : ℕ} → skip_all s i ≡ n → (skip_all s j ≡ n) × (is_class Blank (byte_at s j) ≡ false)
    comment_again h = ((blanks_left e to).0 ∙ ap (skip_all s) over ∙ skip_comment i starts ∙ h, (blanks_left e to).1)

    pub comment_less : length s - j < length s - i
    comment_less = omega (arith, inside s i refl (pair_first s i 47 47 starts) (omega arith), comment_gt i starts, past_ge (is_class Blank) s e)
