-- Two bytes at a place.
use mathlib.Core.Path.{◌≡◌, refl, sym}
use Prim.Native.Nat.{ℕ, ◌+◌, ◌<◌}
use mathlib.Core.List.{List}
use mathlib.Core.Bool.{Bool, true, false, ◌&&◌, ◌||◌, true≢false}
use lib.ListN.{length}
use lib.Dec.{eqb}
use borrow.Author.Tests.{eqb-true}
use Rattle.chars.specs.Chars.{byte_at}
use Rattle.chars.proofs.Runs.{inside}
use Rattle.tokens.specs.Rules.{pair_at}
use Rattle.tokens.proofs.Fits.{byte_is, byte_isn't}

pub fst : (t u : Bool) → (t && u) ≡ true → t ≡ true
fst true u h = refl
fst false u h = absurd (true≢false (sym h))

pub snd : (t u : Bool) → (t && u) ≡ true → u ≡ true
snd true u h = h
snd false u h = absurd (true≢false (sym h))

pub nor_first : (t u : Bool) → (t || u) ≡ false → t ≡ false
nor_first true u h = h
nor_first false u h = refl

pub nor_second : (t u : Bool) → (t || u) ≡ false → u ≡ false
nor_second true u h = absurd (true≢false h)
nor_second false u h = h

module _ (s : List ℕ) (at : ℕ) where
  pub pair_on : {x y a : ℕ} (b : ℕ) → x ≡ byte_at s at → x ≡ a → y ≡ byte_at s (at + 1) → eqb y b ≡ pair_at s at a b
  unfolding pair_at
  pair_on b e h g = rw (byte_is s at e h, g)

  pub pair_off : {x a : ℕ} (b : ℕ) → x ≡ byte_at s at → (x ≡ a → ⊥) → false ≡ pair_at s at a b
  unfolding pair_at
  pair_off b e h = rw (byte_isn't s at e h)

  pub pair_first : (a b : ℕ) → pair_at s at a b ≡ true → byte_at s at ≡ a
  unfolding pair_at
  pair_first a b h = eqb-true _ _ (fst _ _ h)

  pub pair_second : (a b : ℕ) → pair_at s at a b ≡ true → byte_at s (at + 1) ≡ b
  unfolding pair_at
  pair_second a b h = eqb-true _ _ (snd (eqb (byte_at s at) a) _ h)

  pub pair_inside : (a b : ℕ) → pair_at s at a b ≡ true → b < 256 → at + 1 < length s
  pair_inside a b h k = inside s (at + 1) refl (pair_second a b h) k
