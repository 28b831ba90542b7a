-- The step, from where what is skipped ends; and where a step is taken it goes on, inside the source.
use Rattle.std.specs.Prelude.{Some, None, Ok, Err}
use mathlib.Core.Path.{◌≡◌, refl, ap, ◌∙◌, subst}
use Prim.Native.Nat.{ℕ, ◌+◌, ◌<◌, ◌≤◌}
use mathlib.Core.List.{List}
use mathlib.Core.Bool.{Bool, true, false, ◌&&◌, ◌||◌, cond}
use native.Mathlib.Decide.{dec_lt}
use native.Mathlib.Omega.{arith}
use lib.ListN.{length}
use lib.Seq.{slice}
use lib.Dec.{eqb, ltb}
use borrow.Author.Tests.{lt-ltb, le-ltb, ltb-true, eqb-true, eqb-false, not-true}
use Rattle.chars.specs.declared.Class.TheVariants.{Digit, Figure, HexDigit, HexColon, NamePart}
use Rattle.chars.specs.Chars.{byte_at, is_class, is_digit}
use Rattle.chars.specs.Texts.{same}
use Rattle.chars.specs.Runs.{past_span, past_run}
use Rattle.chars.proofs.Runs.{byte_out, inside, within, outside, span_ge, past_ge, past_le, past_gt}
use Rattle.tokens.specs.Results.{Fit}
use Rattle.tokens.specs.declared.Cursor.{Cursor}
use Rattle.tokens.specs.Results.{Step}
use Rattle.tokens.specs.Words.{two_sign, two_signs, word_in, name_word}
use Rattle.tokens.specs.Blanks.{skip_all}
use Rattle.tokens.specs.Rules.{when_fit, sign_fit, then_fit, or_else, taken, refused, pair_at, colons_at, fraction_at, dotted_at, three_at, decimal_group, or_to, ipv6_at, period_at, ipv4_at, two_at, one_at, as_at, hex_at, number_at, goes_on, escapes, quote_at, is_name_start, name_at, token_at}
use Rattle.tokens.specs.Tokens.{step_at}
use Rattle.tokens.proofs.Fits.{first, second}
use Rattle.tokens.proofs.Pairs.{fst, snd, pair_inside}
use Rattle.tokens.proofs.Rules.{one_in, fraction_in}
use Rattle.tokens.proofs.Names.{name_inside}

module _ (s : List ℕ) (at : ℕ) {a : ℕ} (to : a ≡ skip_all s at) {r : Step} where
  pub step_inside : a < length s → r ≡ token_at s a → r ≡ step_at s at
  unfolding step_at
  step_inside h e = rw (← to) (first _ (lt-ltb _ _ h) e)

  pub step_end : length s ≤ a → r ≡ refused 11 (length s) (length s) → r ≡ step_at s at
  unfolding step_at
  step_end h e = rw (← to) (second _ (le-ltb _ _ h) e)

-- where a rule fits it goes on past its start and not past the end
abbrev GoodFit : List ℕ → ℕ → Fit → Type 0
GoodFit s at (Some (e, w)) = (at < e) × (e ≤ length s)
GoodFit s at None = Unit {0}

when_good : (s : List ℕ) (at : ℕ) (t : Bool) (e w : ℕ) → (t ≡ true → (at < e) × (e ≤ length s)) → GoodFit s at (when_fit t e w)
unfolding when_fit
when_good s at true e w h = h refl
when_good s at false e w h = tt

then_good : (s : List ℕ) (at : ℕ) (f : Fit) (g : ℕ → Fit) → GoodFit s at f → ((m : ℕ) → at < m → m ≤ length s → GoodFit s at (g m)) → GoodFit s at (then_fit f g)
unfolding then_fit
then_good s at (Some (m, w)) g h k = k m h.0 h.1
then_good s at None g h k = tt

wider : (s : List ℕ) (at m : ℕ) → at ≤ m → (f : Fit) → GoodFit s m f → GoodFit s at f
wider s at m h (Some (e, w)) k = (omega (arith, h, k), k.1)
wider s at m h None k = tt

and_false : (t : Bool) → (t && false) ≡ false
and_false true = refl
and_false false = refl

two_last : (a : ℕ) → two_sign a 256 ≡ 0
unfolding two_sign two_signs word_in same
two_last a = simp and_false

module _ (s : List ℕ) (at : ℕ) where
  colons_good : GoodFit s at (colons_at s at)
  unfolding colons_at
  colons_good =
      let a : ℕ = past_run (is_class HexDigit) s at in
      let b : ℕ = past_run (is_class HexDigit) s (a + 1) in
      when_good s at (eqb (byte_at s a) 58 && eqb (byte_at s b) 58) (past_run (is_class HexColon) s (b + 1)) 1 λ t.
      let h : b < length s = inside s b refl (eqb-true _ _ (snd (eqb (byte_at s a) 58) _ t)) (omega arith) in
      (omega (arith, past_ge (is_class HexDigit) s at, past_ge (is_class HexDigit) s (a + 1), past_ge (is_class HexColon) s (b + 1)), past_le (is_class HexColon) s (b + 1) (omega (arith, h)))

  dotted_good : GoodFit s at (dotted_at s at)
  unfolding dotted_at
  dotted_good = when_good s at (fraction_at s at) (past_run (is_class Digit) s (at + 1)) 1 λ t.
      (omega (arith, past_ge (is_class Digit) s (at + 1)), past_le (is_class Digit) s (at + 1) (omega (arith, fraction_in s at t)))

  period_good : GoodFit s at (period_at s at)
  unfolding period_at
  period_good =
      let e : ℕ = past_run (is_class Digit) s at in
      when_good s at (is_digit (byte_at s at) && eqb (byte_at s e) 46) (e + 1) 2 λ t.
      let h : e < length s = inside s e refl (eqb-true _ _ (snd (is_digit (byte_at s at)) _ t)) (omega arith) in
      (omega (arith, past_ge (is_class Digit) s at), omega (arith, h))

  two_good : GoodFit s at (two_at s at)
  unfolding two_at sign_fit
  two_good = when_good s at _ (at + 2) _ λ t. (omega arith, go (eqb-false _ _ (not-true _ t)))
    where
      go : (two_sign (byte_at s at) (byte_at s (at + 1)) ≡ 0 → ⊥) → at + 2 ≤ length s
      go f = elim (dec_lt (at + 1) (length s)) [ yes h ↦ omega (arith, h) | no k ↦ absurd (f (ap (two_sign (byte_at s at)) (byte_out s (at + 1) (omega (arith, k))) ∙ two_last (byte_at s at))) ]

  one_good : GoodFit s at (one_at s at)
  unfolding one_at sign_fit
  one_good = when_good s at _ (at + 1) _ λ t. (omega arith, omega (arith, one_in s at refl (eqb-false _ _ (not-true _ t))))

  as_good : GoodFit s at (as_at s at)
  unfolding as_at is_class
  as_good = when_good s at (pair_at s at 65 83 && is_digit (byte_at s (at + 2))) (past_run (is_class Digit) s (at + 2)) 5 λ t.
      (omega (arith, past_ge (is_class Digit) s (at + 2)), past_le (is_class Digit) s (at + 2) (omega (arith, pair_inside s at 65 83 (fst _ _ t) (omega arith))))

  hex_good : GoodFit s at (hex_at s at)
  unfolding hex_at
  hex_good = when_good s at (pair_at s at 48 120) (past_run (is_class HexDigit) s (at + 2)) 6 λ t.
      (omega (arith, past_ge (is_class HexDigit) s (at + 2)), past_le (is_class HexDigit) s (at + 2) (omega (arith, pair_inside s at 48 120 t (omega arith))))

  number_good : GoodFit s at (number_at s at)
  unfolding number_at is_class
  number_good =
      let whole : ℕ = past_run (is_class Figure) s at in
      let e : ℕ = cond (fraction_at s whole) (past_run (is_class Figure) s (whole + 1)) whole in
      when_good s at (is_digit (byte_at s at)) (past_run (is_class NamePart) s e) (cond (fraction_at s whole) 8 7) λ t.
      let h : at < length s = within is_digit refl s at t in
      let g : at < whole = past_gt (is_class Figure) (outside Figure) s at (or_left (is_digit (byte_at s at)) (eqb (byte_at s at) 95) t) in
      let k : whole ≤ length s = past_le (is_class Figure) s at (omega (arith, h)) in
      let f : (whole ≤ e) × (e ≤ length s) = fraction whole k (fraction_at s whole) refl in
      (omega (arith, past_ge (is_class NamePart) s e, g, f), past_le (is_class NamePart) s e f.1)
    where
      or_left : (a b : Bool) → a ≡ true → (a || b) ≡ true
      or_left a b h = rw h

      fraction : (whole : ℕ) → whole ≤ length s → (t : Bool) → fraction_at s whole ≡ t → (whole ≤ cond t (past_run (is_class Figure) s (whole + 1)) whole) × (cond t (past_run (is_class Figure) s (whole + 1)) whole ≤ length s)
      fraction whole k true f = (omega (arith, past_ge (is_class Figure) s (whole + 1)), past_le (is_class Figure) s (whole + 1) (omega (arith, fraction_in s whole f)))
      fraction whole k false f = (omega arith, k)

  quote_good : (q w : ℕ) → GoodFit s at (quote_at q w s at)
  unfolding quote_at
  quote_good q w =
      let close : ℕ = past_span (goes_on q) escapes false s (at + 1) in
      when_good s at (eqb (byte_at s at) q && ltb (close + 1) (length s)) (close + 1) w λ t.
      (omega (arith, span_ge (goes_on q) escapes false s (at + 1)), omega (arith, ltb-true (close + 1) (length s) (snd (eqb (byte_at s at) q) (ltb (close + 1) (length s)) t)))

  name_good : GoodFit s at (name_at s at)
  unfolding name_at
  name_good =
      let e : ℕ = past_run (is_class NamePart) s at in
      when_good s at (is_name_start (byte_at s at)) e (name_word (slice at e s)) λ t. name_inside s at t refl

three_good : (s : List ℕ) (at : ℕ) → GoodFit s at (three_at s at)
unfolding three_at
three_good s at =
    then_good s at (dotted_at s at) _ (dotted_good s at) λ a h h'.
    then_good s at (dotted_at s a) _ (wider s at a (omega (arith, h)) (dotted_at s a) (dotted_good s a)) λ b k k'.
    wider s at b (omega (arith, k)) (dotted_at s b) (dotted_good s b)

ending_good : (s : List ℕ) (at e : ℕ) → at < e → e ≤ length s → (t : Bool) (f : Fit) → GoodFit s at f → GoodFit s at (or_to (cond t f None) e)
unfolding or_to
ending_good s at e h k true (Some (r, w)) g = g
ending_good s at e h k true None g = (h, k)
ending_good s at e h k false f g = (h, k)

ipv6_good : (s : List ℕ) (at : ℕ) → GoodFit s at (ipv6_at s at)
unfolding ipv6_at
ipv6_good s at =
    then_good s at (colons_at s at) _ (colons_good s at) λ e h k.
    ending_good s at e h k (decimal_group s e) (three_at s e) (wider s at e (omega (arith, h)) (three_at s e) (three_good s e))

ipv4_good : (s : List ℕ) (at : ℕ) → GoodFit s at (ipv4_at s at)
unfolding ipv4_at
ipv4_good s at =
    then_good s at (period_at s at) _ (period_good s at) λ a h h'.
    then_good s at (period_at s a) _ (wider s at a (omega (arith, h)) (period_at s a) (period_good s a)) λ b k k'.
    then_good s at (period_at s b) _ (wider s at b (omega (arith, k)) (period_at s b) (period_good s b)) λ c g g'.
    (omega (arith, g, past_ge (is_class Digit) s c), past_le (is_class Digit) s c g')

-- a token is not empty, lies in the source at or behind the cursor, and the next cursor stands at its end
abbrev pub GoodStep : List ℕ → ℕ → Step → Type 0
GoodStep s at (Ok (w, a, next)) = (at ≤ a) × (a < next.at) × (next.at ≤ length s)
GoodStep s at (Err r) = Unit {0}

or_good : (s : List ℕ) (at a : ℕ) → at ≤ a → (f : Fit) → GoodFit s a f → (d : Step) → GoodStep s at d → GoodStep s at (or_else a f d)
unfolding or_else taken
or_good s at a h (Some (e, w)) k d g = (h, k.0, k.1)
or_good s at a h None k d g = g

pick_good : (s : List ℕ) (at : ℕ) (t : Bool) (a b : Step) → GoodStep s at a → GoodStep s at b → GoodStep s at (cond t a b)
pick_good s at true a b h k = h
pick_good s at false a b h k = k

token_good : (s : List ℕ) (at a : ℕ) → at ≤ a → GoodStep s at (token_at s a)
unfolding token_at refused
token_good s at a h =
    or_good s at a h _ (ipv6_good s a) _
    (or_good s at a h _ (ipv4_good s a) _
    (or_good s at a h _ (two_good s a) _
    (or_good s at a h _ (one_good s a) _
    (or_good s at a h _ (as_good s a) _
    (or_good s at a h _ (hex_good s a) _
    (or_good s at a h _ (number_good s a) _
    (pick_good s at (pair_at s a 102 34) _ _ tt
    (or_good s at a h _ (quote_good s a 34 9) _
    (or_good s at a h _ (quote_good s a 39 10) _
    (or_good s at a h _ (name_good s a) _ tt))))))))))

pub step_good : (s : List ℕ) (at : ℕ) → GoodStep s at (step_at s at)
unfolding step_at refused skip_all
step_good s at = pick_good s at (ltb (skip_all s at) (length s)) _ _ (token_good s at (skip_all s at) (omega arith)) tt

pub taken_good : (s : List ℕ) (at : ℕ) {w a : ℕ} {next : Cursor} → step_at s at ≡ Ok (w, a, next) → (at ≤ a) × (a < next.at) × (next.at ≤ length s)
taken_good s at e = subst (GoodStep s at) e (step_good s at)
