-- C-15's answer: there is one to any table and any position, and only one.
use mathlib.Core.Path.{◌≡◌, refl, sym, ◌∙◌}
use mathlib.Core.Bool.{Bool, true, false, true≢false}
use mathlib.Core.List.{List}
use Prim.Native.Nat.{ℕ, zero, suc, ◌-◌, ◌≤◌}
use native.Mathlib.Omega.{arith}
use Rattle.chars.specs.declared.Answer.{Answer}
use Rattle.rows.specs.Rows.{room}
use Rattle.nodes.specs.Nodes.{node_at, holds, is_leaf, wrong_size}
use Rattle.nodes.specs.Search.{Search, none, wrong, leaf, before, past, Permitted}
use Rattle.nodes.proofs.Turns.{good_size}

-- no test says two things
clash : {A : Type 0} {b : Bool} → b ≡ true → b ≡ false → A
clash e f = absurd (true≢false (sym e ∙ f))

module _ (table : List ℕ) (position : ℕ) where
  one_search : {n : ℕ} {a b : Answer} → Search table position n a → Search table position n b → a ≡ b
  one_search none none = refl
  one_search (wrong e) (wrong f) = refl
  one_search (wrong e) (leaf f g h) = clash e f
  one_search (wrong e) (before f g h s) = clash e f
  one_search (wrong e) (past f g s) = clash e f
  one_search (leaf e g h) (wrong f) = clash f e
  one_search (leaf e g h) (leaf f k l) = refl
  one_search (leaf e g h) (before f k l s) = clash h l
  one_search (leaf e g h) (past f k s) = clash g k
  one_search (before e g h s) (wrong f) = clash f e
  one_search (before e g h s) (leaf f k l) = clash l h
  one_search (before e g h s) (before f k l t) = one_search s t
  one_search (before e g h s) (past f k t) = clash g k
  one_search (past e g s) (wrong f) = clash f e
  one_search (past e g s) (leaf f k l) = clash k g
  one_search (past e g s) (before f k l t) = clash k g
  one_search (past e g s) (past f k t) = one_search s t

  -- an answer where at most so many rows are left
  abbrev Up-to : ℕ → Type 0
  Up-to most = (n : ℕ) → n ≤ most → (a : Answer) × Search table position n a

  -- each turn leaves fewer
  one_turn : (most : ℕ) → Up-to most → Up-to (suc most)
  one_turn most again zero le = (_, none)
  one_turn most again (suc i) le = turn (wrong_size (suc i) (node_at table i)) (holds position (node_at table i)) (is_leaf (node_at table i)) refl refl refl
    where
      turn : (w h l : Bool) → wrong_size (suc i) (node_at table i) ≡ w → holds position (node_at table i) ≡ h → is_leaf (node_at table i) ≡ l → (a : Answer) × Search table position (suc i) a
      turn true h l e f g = (_, wrong e)
      turn false true true e f g = (_, leaf e f g)
      turn false true false e f g = let s = again i (omega (arith, le)) in (s.0, before e f g s.1)
      turn false false l e f g =
          let k = good_size (suc i) (node_at table i) e in
          let s = again (suc i - (node_at table i).size) (omega (arith, le, k.0)) in
          (s.0, past e f s.1)

  no_rows : Up-to 0
  no_rows zero le = (_, none)
  no_rows (suc i) le = absurd (omega (arith, le))

  up_to : (most : ℕ) → Up-to most
  up_to zero = no_rows
  up_to (suc most) = one_turn most (up_to most)

  pub one_answer : {a b : Answer} → Permitted table position a → Permitted table position b → a ≡ b
  one_answer s t = one_search s t

  pub an_answer : (a : Answer) × Permitted table position a
  an_answer = up_to (room table) (room table) (omega arith)
