-- What an accepted constant says of its tree.
use Rattle.std.specs.Prelude.{Ok, Err, Option, Some, None}
use mathlib.Core.Path.{◌≡◌, refl, ap, sym, ◌∙◌}
use mathlib.Core.List.{List}
use mathlib.Core.Bool.{Bool, true, false, cond}
use Prim.Native.Nat.{ℕ}
use native.Mathlib.Omega.{arith}
use lib.Dec.{ltb}
use Rattle.chars.specs.declared.Answer.{Answer}
use Rattle.grammar.specs.Rows.{Row}
use Rattle.machine.specs.declared.Value.{Value}
use Rattle.constants.specs.Trees.{Forest, none, tree}
use Rattle.constants.specs.Types.{declared_of}
use Rattle.constants.specs.Meaning.{Outcome, is, stop, meaning}
use Rattle.constants.specs.Lists.{codes, fault_of, first_of}
use Rattle.constants.specs.Answers.{Constant, refusal, ended, checked, constant_of, typed}

module _ (v : Value) (w n : ℕ) where
  pub refused_is : {a : Answer} → ◌≡◌ {A = Constant} (Err a) (Ok (record { value = v; ty = w; count = n })) → ⊥
  refused_is e = let z : ◌≡◌ {A = ℕ} 0 1 = cc in omega arith

  ended_is : (x m : ℕ) (o : Outcome) → ended x m o ≡ Ok (record { value = v; ty = w; count = n }) → (o ≡ is v) × (x ≡ w) × (m ≡ n)
  unfolding ended
  ended_is x m (is u) e = (
    ap (λ (c : Constant). elim c [ Ok f ↦ is f.value | Err a ↦ is u ]) e,
    ap (λ (c : Constant). elim c [ Ok f ↦ f.ty | Err a ↦ x ]) e,
    ap (λ (c : Constant). elim c [ Ok f ↦ f.count | Err a ↦ m ]) e,
  )
  ended_is x m (stop a b) e = absurd (refused_is e)

  checked_is : (s : List ℕ) (room x : ℕ) (r : Row) (kids : Forest) (f : Option Answer) → checked s room x r kids f ≡ Ok (record { value = v; ty = w; count = n }) → (f ≡ None) × (meaning s x r kids ≡ is v) × (x ≡ w) × (r.size ≡ n)
  unfolding checked
  checked_is s room x r kids (Some a) e = absurd (refused_is e)
  checked_is s room x r kids None e = go (ltb room r.size) e
    where
      go : (c : Bool) → cond {A = Constant} c (Err (record { number = 10; start = 0; end = 0; count = r.size })) (ended x r.size (meaning s x r kids)) ≡ Ok (record { value = v; ty = w; count = n })
          → (◌≡◌ {A = Option Answer} None None) × (meaning s x r kids ≡ is v) × (x ≡ w) × (r.size ≡ n)
      go true e = absurd (refused_is e)
      go false e = let k = ended_is x r.size (meaning s x r kids) e in (refl, k.0, k.1, k.2)

  -- its type is declared, its tree has no fault and means its value, and it has an instruction for each row
  pub record Accepted (s : List ℕ) (y r : Row) (kids : Forest) : Type 0 where
    pub type_is : declared_of s y.kind y.start y.end ≡ Some w
    pub faultless : first_of (codes (fault_of s) w (tree r kids none)) ≡ None
    pub means : meaning s w r kids ≡ is v
    pub count_is : r.size ≡ n

  pub accepted_is : (s : List ℕ) (room : ℕ) (y r : Row) (kids : Forest) → constant_of s room y r kids ≡ Ok (record { value = v; ty = w; count = n }) → Accepted s y r kids
  unfolding constant_of typed
  accepted_is s room y r kids = go (ltb 1024 r.size) (declared_of s y.kind y.start y.end) refl
    where
      go : (b : Bool) (d : Option ℕ) → declared_of s y.kind y.start y.end ≡ d → cond {A = Constant} b (refusal 15 r.start r.end) (typed s room y r kids d) ≡ Ok (record { value = v; ty = w; count = n }) → Accepted s y r kids
      go true d q e = absurd (refused_is e)
      go false None q e = absurd (refused_is e)
      go false (Some x) q e =
          let k = checked_is s room x r kids (first_of (codes (fault_of s) x (tree r kids none))) e in
          record {
            type_is = q ∙ ap (λ (z : ℕ). Some z) k.2;
            faultless = ap (λ (z : ℕ). first_of (codes (fault_of s) z (tree r kids none))) (sym k.2) ∙ k.0;
            means = ap (λ (z : ℕ). meaning s z r kids) (sym k.2) ∙ k.1;
            count_is = k.3;
          }
