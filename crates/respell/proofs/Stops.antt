-- What is known of a byte that ends tokens.
use mathlib.Core.Path.{◌≡◌, refl, sym, ap, ◌∙◌}
use mathlib.Core.Bool.{Bool, true, false, ◌&&◌, ◌||◌, true≢false}
use Prim.Native.Nat.{ℕ}
use lib.Dec.{eqb}
use borrow.Author.Tests.{not-true, ne_eqb}
use Rattle.chars.specs.declared.Class.TheVariants.{Digit, Figure, HexDigit, HexColon, NamePart}
use Rattle.chars.specs.Chars.{is_class, is_digit, is_hex_digit, is_letter}
use Rattle.chars.specs.Texts as texts
use Rattle.tokens.specs.Words.{two_signs, word_in, two_sign}
use Rattle.grammar.specs.Grammar.{one_of}
use Rattle.respell.specs.Copies.{seconds, is_stop}

pub nor_l : (a b : Bool) → (a || b) ≡ false → a ≡ false
nor_l true b e = e
nor_l false b e = refl

pub nor_r : (a b : Bool) → (a || b) ≡ false → b ≡ false
nor_r true b e = absurd (true≢false e)
nor_r false b e = e

nor : (a b : Bool) → a ≡ false → b ≡ false → (a || b) ≡ false
nor true b e f = e
nor false b e f = f

and_none : (b : Bool) → (b && false) ≡ false
and_none true = refl
and_none false = refl

-- two numbers of which a test says different things
pub unlike : (p : ℕ → Bool) (b v : ℕ) → p b ≡ false → p v ≡ true → eqb b v ≡ false
unlike p b v h g = ne_eqb b v (λ e. true≢false (sym g ∙ ap p (sym e) ∙ h))

module _ (b : ℕ) (stop : is_stop b ≡ true) where
  none : (is_class HexColon b || (is_class NamePart b || one_of b seconds)) ≡ false
  unfolding is_stop
  none = not-true _ stop

  pub colon_off : is_class HexColon b ≡ false
  colon_off = nor_l _ _ none

  pub name_off : is_class NamePart b ≡ false
  name_off = nor_l _ _ (nor_r (is_class HexColon b) _ none)

  others : one_of b seconds ≡ false
  others = nor_r (is_class NamePart b) _ (nor_r (is_class HexColon b) _ none)

  pub hex_off : is_class HexDigit b ≡ false
  unfolding is_class
  hex_off = nor_l (is_hex_digit b) (eqb b 58) colon_off

  pub is_colon : eqb b 58 ≡ false
  unfolding is_class
  is_colon = nor_r (is_hex_digit b) (eqb b 58) colon_off

  pub no_digit : is_digit b ≡ false
  unfolding is_class
  no_digit = nor_r (is_letter b) (is_digit b) (nor_l (is_letter b || is_digit b) (eqb b 95) name_off)

  pub digit_off : is_class Digit b ≡ false
  unfolding is_class
  digit_off = no_digit

  pub figure_off : is_class Figure b ≡ false
  unfolding is_class
  figure_off = nor (is_digit b) (eqb b 95) no_digit (nor_r (is_letter b || is_digit b) (eqb b 95) name_off)

  pub is_dot : eqb b 46 ≡ false
  is_dot = nor_l (eqb b 46) _ others

  pub is_slash : eqb b 47 ≡ false
  is_slash = nor_l (eqb b 47) _ (nor_r (eqb b 46) _ others)

  pub no_second : (a : ℕ) → two_sign a b ≡ 0
  unfolding two_sign two_signs word_in texts.same
  no_second a =
      let o = nor_r (eqb b 47) _ (nor_r (eqb b 46) _ others) in
      let e = nor_l (eqb b 61) _ o in
      let p = nor_r (eqb b 61) _ o in
      let f = nor_l (eqb b 62) _ p in
      let r = nor_r (eqb b 62) _ p in
      let g = nor_l (eqb b 38) _ r in
      let h = nor_l (eqb b 124) _ (nor_r (eqb b 38) _ r) in
      simp (e, f, g, h, and_none)
