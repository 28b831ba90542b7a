-- No place of a child asks for a level above 7.
use mathlib.Core.Path.{◌≡◌, refl}
use mathlib.Core.Bool.{Bool, true, false, cond}
use Prim.Native.Nat.{ℕ, ◌+◌, ◌<◌, ◌≤◌}
use lib.Dec.{eqb, leb, leb→le}
use native.Mathlib.Omega.{arith}
use Rattle.rows.specs.Kinds as kinds
use mathlib.Core.List.{[], ◌∷◌}
use Rattle.grammar.specs.Words.{open_brace, four_words}
use Rattle.canon.specs.Layout as canon
use Rattle.places.specs.Under.{under, under_operand}
use Rattle.layouts.proofs.Steps.{chosen}

record Low (c : canon.Place) : Type 0 where
  low : c.level < 8

either : {x y : canon.Place} (b : Bool) → Low x → Low y → Low (cond b x y)
either b h i = chosen Low b h i

asks_low : (c : canon.Place) (n : ℕ) → c.level ≡ n → n < 8 → Low c
asks_low c n e h = record { low = rw e h }

whole_low : Low canon.whole
whole_low = asks_low canon.whole 0 refl (omega arith)

head_low : Low canon.head
head_low = asks_low canon.head 0 refl (omega arith)

binary_small : (n d : ℕ) → n ≡ canon.binary_level d → n ≤ 5
binary_small n d e = go (leb d 2) refl (leb d 8) (leb d 10) e
  where
    go : (a : Bool) → leb d 2 ≡ a → (b c : Bool) → n ≡ cond a d (cond b 3 (cond c 4 5)) → n ≤ 5
    go true h b c q = let l = leb→le d 2 (rw h tt) in omega arith
    go false h true c q = omega arith
    go false h false true q = omega arith
    go false h false false q = omega arith

left_small : (d : ℕ) → canon.left_level d < 8
left_small d = go (eqb (canon.binary_level d) 3) (canon.binary_level d) (binary_small (canon.binary_level d) d refl)
  where
    go : (b : Bool) (n : ℕ) → n ≤ 5 → cond b 4 n < 8
    go true n h = omega arith
    go false n h = omega (arith, h)

operand_low : (k d : ℕ) (c : canon.Place) (p : ℕ) → Low (under_operand k d c p)
unfolding under_operand
operand_low k d c p =
    either (eqb k kinds.BINARY) (either (eqb p 0) (asks_low (canon.left (canon.left_level d) c) (canon.left_level d) refl (left_small d)) (either (eqb p 1) (asks_low (canon.right (canon.binary_level d + 1) c) (canon.binary_level d + 1) refl (let h = binary_small (canon.binary_level d) d refl in omega (arith, h))) whole_low))
    (either (eqb k kinds.NOT) (at 0 (canon.right 6 c) 6 refl (omega arith))
    (either (eqb k kinds.NEGATE) (at 0 (canon.right 6 c) 6 refl (omega arith))
    (either (eqb k kinds.CALL) (at 0 (canon.left 7 c) 7 refl (omega arith))
    (either (eqb k kinds.QUESTION) (at 0 (canon.left 7 c) 7 refl (omega arith))
    (either (eqb k kinds.ACCESS) (at 0 (canon.pathless (canon.left 7 c)) 7 refl (omega arith))
    (either (eqb k kinds.ASSIGN) (at 1 (canon.right 1 c) 1 refl (omega arith))
    (either (eqb k kinds.RETURN) (at 0 (canon.right 0 c) 0 refl (omega arith)) whole_low)))))))
  where
    at : (n : ℕ) (x : canon.Place) (l : ℕ) → x.level ≡ l → l < 8 → Low (cond (eqb p n) x canon.whole)
    at n x l e h = either (eqb p n) (asks_low x l e h) whole_low

under_so : (k v d : ℕ) (c : canon.Place) (p child : ℕ) (more : Bool) → Low (under k v d c p child more)
unfolding under
under_so k v d c p child more =
    either (eqb k kinds.IF) (either (eqb p 0) head_low whole_low)
    (either (eqb k kinds.WHILE) (either (eqb p 0) head_low whole_low)
    (either (eqb k kinds.FOR) (either (eqb p 1) head_low whole_low)
    (either (eqb k kinds.MATCH) (either (eqb p 0) head_low (asks_low (canon.with_more more) 0 refl (omega arith)))
    (either (eqb k kinds.ARM) (either (eqb p (cond (eqb v 0) 1 2)) (either (eqb child kinds.BLOCK) whole_low (asks_low (canon.asks 0 true (open_brace ∷ [])) 0 refl (omega arith))) whole_low)
    (either (eqb k kinds.BLOCK) (either (canon.is_four child) whole_low (asks_low (canon.asks 0 true four_words) 0 refl (omega arith))) (operand_low k d c p))))))

pub under_low : (k v d : ℕ) (c : canon.Place) (p child : ℕ) (more : Bool) (x : canon.Place) → x ≡ under k v d c p child more → x.level < 8
under_low k v d c p child more x e = rw e (under_so k v d c p child more).low

pub root_low : (x : canon.Place) → x ≡ canon.whole → x.level < 8
root_low x e = rw e whole_low.low
