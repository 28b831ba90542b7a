-- A test of every rule holds at every kind.
use mathlib.Core.Path.{◌≡◌, sym, subst}
use mathlib.Core.List.{List, [], ◌∷◌}
use mathlib.Core.Bool.{Bool, true, false, ◌&&◌, cond}
use Prim.Native.Nat.{ℕ}
use lib.Dec.{T, eqb, eqb→eq}
use Rattle.grammar.specs.Grammar.{Symbol, Rule, alternatives_in, In, here, there}
use Rattle.grammar.proofs.Bools.{and_l, and_r}

-- of a kind with all its alternatives
abbrev pub rules_pass : (ℕ → List (List Symbol) → Bool) → List Rule → Bool
rules_pass test [] = true
rules_pass test (r ∷ rs) = test r.kind r.alternatives && rules_pass test rs

pub rule_passes : (test : ℕ → List (List Symbol) → Bool) → ((n : ℕ) → T (test n [])) → (rs : List Rule) (n : ℕ) → T (rules_pass test rs) → T (test n (alternatives_in rs n))
rule_passes test none [] n t = none n
rule_passes test none (r ∷ rs) n t = go (eqb n r.kind) (eqb→eq n r.kind) (rule_passes test none rs n (and_r x (rules_pass test rs) t))
  where
    x : Bool
    x = test r.kind r.alternatives

    go : (b : Bool) → (T b → n ≡ r.kind) → T (test n (alternatives_in rs n)) → T (test n (cond b r.alternatives (alternatives_in rs n)))
    go true e h = subst (λ (y : ℕ). T (test y r.alternatives)) (sym (e tt)) (and_l x (rules_pass test rs) t)
    go false e h = h

-- of a kind with each of its alternatives
abbrev pub all_pass : (List Symbol → Bool) → List (List Symbol) → Bool
all_pass test [] = true
all_pass test (a ∷ ss) = test a && all_pass test ss

one_passes : {a : List Symbol} {ss : List (List Symbol)} (test : List Symbol → Bool) → In a ss → T (all_pass test ss) → T (test a)
one_passes test (here {a = a} {ss = ss}) t = and_l (test a) (all_pass test ss) t
one_passes test (there {b = a} {ss = ss} i) t = one_passes test i (and_r (test a) (all_pass test ss) t)

abbrev pub each_passes : (ℕ → List Symbol → Bool) → List Rule → Bool
each_passes test = rules_pass (λ n ss. all_pass (test n) ss)

pub passes_at : {a : List Symbol} (test : ℕ → List Symbol → Bool) (rs : List Rule) (n : ℕ) → T (each_passes test rs) → In a (alternatives_in rs n) → T (test n a)
passes_at test rs n t i = one_passes (test n) i (rule_passes (λ m ss. all_pass (test m) ss) (λ m. tt) rs n t)
