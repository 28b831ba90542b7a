-- Pairs halved byte by byte: of two braces in a row the second goes.
use mathlib.Core.Path.{◌≡◌, refl, sym, ap, subst, ◌∙◌}
use mathlib.Core.List.{List, [], ◌∷◌}
use mathlib.Core.Bool.{Bool, true, false, ◌&&◌, cond}
use Prim.Native.Nat.{ℕ}
use lib.Dec.{T, eqb, eqb→eq, eqb_refl}
use Rattle.texts.specs.Texts.{halved}

-- the flag: the byte before is a brace that stays and has no second yet
unfoldable pub folded : ℕ → Bool → List ℕ → List ℕ
folded brace had [] = []
folded brace true (c ∷ cs) = let rest : List ℕ = folded brace false cs in cond (eqb c brace) rest (c ∷ rest)
folded brace false (c ∷ cs) = c ∷ folded brace (eqb c brace) cs

module _ (brace : ℕ) where
  -- a byte that is no brace stays
  apart : (c : ℕ) (cs : List ℕ) → eqb c brace ≡ false → c ∷ halved brace cs ≡ halved brace (c ∷ cs)
  unfolding halved
  apart c [] e = refl
  apart c (d ∷ cs) e = go (eqb c brace) e
    where
      go : (t : Bool) → t ≡ false → c ∷ halved brace (d ∷ cs) ≡ elim (t && eqb d brace) [ true ↦ brace ∷ halved brace cs | false ↦ c ∷ halved brace (d ∷ cs) ]
      go t q = rw q refl

  first_stays : (c : ℕ) (cs : List ℕ) → folded brace false cs ≡ halved brace cs → brace ∷ folded brace true cs ≡ halved brace (brace ∷ cs) → folded brace false (c ∷ cs) ≡ halved brace (c ∷ cs)
  unfolding folded
  first_stays c cs h k = go (eqb c brace) refl
    where
      go : (t : Bool) → eqb c brace ≡ t → c ∷ folded brace t cs ≡ halved brace (c ∷ cs)
      go true e = subst (λ (n : ℕ). n ∷ folded brace true cs ≡ halved brace (n ∷ cs)) (sym (eqb→eq c brace (rw e tt))) k
      go false e = ap (λ (l : List ℕ). c ∷ l) h ∙ apart c cs e

  second_goes : (c : ℕ) (cs : List ℕ) → folded brace false cs ≡ halved brace cs → brace ∷ folded brace true (c ∷ cs) ≡ halved brace (brace ∷ c ∷ cs)
  unfolding folded halved
  second_goes c cs h = go (eqb brace brace) (eqb_refl brace) (eqb c brace) refl
    where
      go : (a : Bool) → T a → (t : Bool) → eqb c brace ≡ t → brace ∷ cond t (folded brace false cs) (c ∷ folded brace false cs) ≡ elim (a && t) [ true ↦ brace ∷ halved brace cs | false ↦ brace ∷ halved brace (c ∷ cs) ]
      go true u true e = ap (λ (l : List ℕ). brace ∷ l) h
      go true u false e = ap (λ (l : List ℕ). brace ∷ l) (ap (λ (l : List ℕ). c ∷ l) h ∙ apart c cs e)
      go false u t e = absurd u

  both : (cs : List ℕ) → (folded brace false cs ≡ halved brace cs) × (brace ∷ folded brace true cs ≡ halved brace (brace ∷ cs))
  unfolding folded halved
  both [] = (refl, refl)
  both (c ∷ cs) = (first_stays c cs (both cs).0 (both cs).1, second_goes c cs (both cs).0)

  pub folded_halved : (cs : List ℕ) → folded brace false cs ≡ halved brace cs
  folded_halved cs = (both cs).0
