-- What a test says of a word, from what its function says and which way was taken.
use mathlib.Core.Path.{◌≡◌, sym, subst, ◌∙◌}
use mathlib.Core.Bool.{Bool, true, false, not}
use lib.Dec.{T}
use Rattle.grammar.proofs.Bools.{T→eq}

pub true_so : {b c : Bool} → b ≡ c → b ≡ true → T c
true_so e q = subst T (sym q ∙ e) tt

pub false_so : {b c : Bool} → b ≡ c → b ≡ false → T c → ⊥
false_so e q t = subst T (sym e ∙ q) t

pub not_true_so : {b c : Bool} → b ≡ c → not b ≡ true → T c → ⊥
not_true_so {b} e q t = subst (λ (x : Bool). T (not x)) (T→eq b (subst T (sym e) t)) (subst T (sym q) tt)

pub not_false_so : {b c : Bool} → b ≡ c → not b ≡ false → T c
not_false_so {b} e q = subst T e (so b q)
  where
    so : (b : Bool) → not b ≡ false → T b
    so true q = tt
    so false q = subst T q tt
