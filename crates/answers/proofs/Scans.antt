-- The numbers with which the lexer refuses.
use Rattle.std.specs.Prelude.{Ok, Err}
use mathlib.Core.Path.{◌≡◌, sym, subst, ◌∙◌}
use mathlib.Core.List.{List}
use mathlib.Core.Bool.{Bool, true, false, not}
use Prim.Native.Nat.{ℕ, ◌<◌}
use lib.Dec.{T, eqb, T_not}
use native.Mathlib.Omega.{arith}
use Rattle.tokens.specs.declared.Refusal.{Refusal}
use Rattle.tokens.specs.Results.{Step}
use Rattle.tokens.specs.Tokens.{step_at}
use Rattle.grammar.specs.Grammar.{wrong}
use Rattle.grammar.proofs.Demand.{is_refusal}
use Rattle.answers.specs.Source.{source, look_of, look_after}
use Rattle.answers.proofs.Ahead.{Steps, steps_over, steps_quote, steps_wrong, step_goes}

-- what stands at a place that is no token and not the end
number_of : (s : List ℕ) (at n a b : ℕ) → (source s).look at ≡ wrong n a b → n ≡ 4
number_of s at n a b e = go (step_at s at) (step_goes s at) e
  where
    after : (c q : Bool) (r : Refusal) → (T (not q) → r.number ≡ 4) → look_after c q r ≡ wrong n a b → n ≡ 4
    after true q r h f = let z : ◌≡◌ {A = ℕ} 0 1 = cc in absurd (omega arith)
    after false true r h f = let z : ◌≡◌ {A = ℕ} 0 1 = cc in absurd (omega arith)
    after false false r h f = let k : r.number ≡ n = cc in sym k ∙ h tt

    go : (k : Step) → Steps s at k → look_of s k ≡ wrong n a b → n ≡ 4
    go (Ok (w, a, next)) h q = let z : ◌≡◌ {A = ℕ} 0 1 = cc in absurd (omega arith)
    go (Err r) steps_over q = let z : ◌≡◌ {A = ℕ} 0 1 = cc in absurd (omega arith)
    go (Err r) (steps_quote h l m) q = after (eqb r.number 11) (eqb r.number 5) r (λ t. absurd (T_not (eqb r.number 5) t (subst (λ (x : ℕ). T (eqb x 5)) (sym h) tt))) q
    go (Err r) (steps_wrong h) q = after (eqb r.number 11) (eqb r.number 5) r (λ t. h) q

pub look_number : (s : List ℕ) (at n a b : ℕ) → (source s).look at ≡ wrong n a b → T (is_refusal n)
look_number s at n a b e = subst (λ (x : ℕ). T (is_refusal x)) (sym (number_of s at n a b e)) tt

pub look_few : (s : List ℕ) (at n a b : ℕ) → (source s).look at ≡ wrong n a b → n < 6
look_few s at n a b e = let q = number_of s at n a b e in omega arith
