-- The turns of the search, from what its tests say of the last of n rows.
use mathlib.Core.Path.{◌≡◌, refl, sym, ap, ◌∙◌, subst}
use Prim.Native.Nat.{ℕ, zero, suc, ◌-◌, ◌<◌, ◌≤◌}
use mathlib.Core.List.{List}
use mathlib.Core.Bool.{Bool, true, false, ◌||◌}
use native.Mathlib.Omega.{arith}
use lib.Dec.{ltb, eqb}
use borrow.Author.Tests.{ltb-false, eqb-false}
use Rattle.chars.specs.declared.Answer.{Answer}
use Rattle.nodes.specs.declared.Node.{Node}
use Rattle.nodes.specs.Nodes.{node_at, holds, is_leaf, wrong_size}
use Rattle.nodes.specs.Search.{WRONG_SIZE, NO_LEAF, refusal, found, Search, none, wrong, leaf, before, past}

or_left : (a b : Bool) → a || b ≡ false → a ≡ false
or_left false b e = refl
or_left true b e = e

or_right : (a b : Bool) → a || b ≡ false → b ≡ false
or_right false b e = e
or_right true true e = e
or_right true false e = refl

above : (z : ℕ) → (z ≡ 0 → ⊥) → 0 < z
above zero f = absurd (f refl)
above (suc z) f = omega arith

-- a size that isn't wrong leads back, and not past the table's start
pub good_size : (n : ℕ) (r : Node) → wrong_size n r ≡ false → (0 < r.size) × (r.size ≤ n)
good_size n r e =
    let h = or_left (eqb r.size 0 || ltb n r.size) _ e in
    (above r.size (eqb-false r.size 0 (or_left (eqb r.size 0) _ h)), ltb-false n r.size (or_right (eqb r.size 0) _ h))

-- row i is the last of n rows
module _ (table : List ℕ) (position i n : ℕ) (last : suc i ≡ n) {r : Node} (row : r ≡ node_at table i) where
  -- the rows left are named as the search names them
  named : {a : Answer} → Search table position (suc i) a → Search table position n a
  named {a} s = subst (λ (m : ℕ). Search table position m a) last s

  module _ {w : Bool} (test : w ≡ wrong_size n r) where
    says : {b : Bool} → w ≡ b → wrong_size (suc i) (node_at table i) ≡ b
    says e = (λ j. wrong_size (last j) (sym row j)) ∙ sym test ∙ e

    pub at_wrong : w ≡ true → Search table position n (refusal WRONG_SIZE)
    at_wrong e = named (wrong (says e))

    pub back : w ≡ false → (0 < r.size) × (r.size ≤ n)
    back e = good_size n r (sym test ∙ e)

    module _ (good : w ≡ false) {h : Bool} (span : h ≡ holds position r) where
      spans : {b : Bool} → h ≡ b → holds position (node_at table i) ≡ b
      spans e = ap (holds position) (sym row) ∙ sym span ∙ e

      pub goes_past : h ≡ false → {a : Answer} → Search table position (n - r.size) a → Search table position n a
      goes_past e {a} s =
          let k : n - r.size ≡ suc i - (node_at table i).size = λ j. sym last j - (row j).size in
          named (past (says good) (spans e) (subst (λ (m : ℕ). Search table position m a) k s))

      module _ (inside : h ≡ true) {l : Bool} (none-under : l ≡ is_leaf r) where
        leafs : {b : Bool} → l ≡ b → is_leaf (node_at table i) ≡ b
        leafs e = ap is_leaf (sym row) ∙ sym none-under ∙ e

        pub at_leaf : l ≡ true → Search table position n (found i r)
        at_leaf e = named (subst (λ (x : Node). Search table position (suc i) (found i x)) (sym row) (leaf (says good) (spans inside) (leafs e)))

        pub goes_before : l ≡ false → {a : Answer} → Search table position i a → Search table position n a
        goes_before e s = named (before (says good) (spans inside) (leafs e) s)

pub no_row : (table : List ℕ) (position n : ℕ) → n ≤ 0 → Search table position n (refusal NO_LEAF)
no_row table position n h = let e : 0 ≡ n = omega arith in subst (λ (m : ℕ). Search table position m (refusal NO_LEAF)) e none
