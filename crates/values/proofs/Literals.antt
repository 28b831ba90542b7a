-- The row of a literal, by its token's code and its text.
use Rattle.std.specs.Prelude.{Some, None}
use mathlib.Core.Path.{◌≡◌, refl, sym, ap, ◌∙◌}
use Prim.Native.Nat.{ℕ, ◌-◌, ◌<◌, ◌≤◌}
use mathlib.Core.List.{List}
use lib.Dec.{leb}
use lib.ListN.{length, take, drop}
use lib.Seq.{slice}
use borrow.Author.Tests.{le-leb, lt-leb}
use Rattle.numbers.proofs.Choices.{first, second, and, not_left, not_right}
use Rattle.chars.proofs.Texts.{part_slice}
use Rattle.addresses.specs.Results.{Quad}
use Rattle.strings.specs.Results.{Point}
use Rattle.values.specs.Results.{Worth}
use Rattle.values.specs.Literals.{from_value, from_quad, from_point, literal_of, literal_at}

pub at_code : {code n : ℕ} (text : List ℕ) {r : Worth} → code ≡ n → r ≡ literal_of n text → r ≡ literal_of code text
at_code text e h = h ∙ sym (ap (λ n. literal_of n text) e)

pub as_quad : (q : Quad) → from_value 14 q ≡ from_quad q
as_quad (Some v) = refl
as_quad None = refl

pub as_point : (p : Point) → from_value 17 p ≡ from_point p
as_point (Some c) = refl
as_point None = refl

-- a token's text, by the tests on its ends
module _ (code : ℕ) (s : List ℕ) (start end : ℕ) where
  pub text_fits : start ≤ end → end ≤ length s → literal_of code (slice start end s) ≡ literal_at code start end s
  unfolding literal_at
  text_fits h k = first _ (and (le-leb start end h) (le-leb end (length s) k)) refl

  pub text_inside : {r : Worth} → start ≤ end → end ≤ length s → r ≡ literal_of code (take (end - start) (drop start s)) → r ≡ literal_at code start end s
  text_inside h k e = e ∙ ap (literal_of code) (part_slice start end s) ∙ text_fits h k

  pub text_before : end < start → None ≡ literal_at code start end s
  unfolding literal_at
  text_before h = second _ (not_left _ (lt-leb start end h)) refl

  pub text_beyond : length s < end → None ≡ literal_at code start end s
  unfolding literal_at
  text_beyond h = second _ (not_right (leb start end) (lt-leb end (length s) h)) refl
