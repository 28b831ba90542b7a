-- The rows of a reading are nested: over any source whose tokens lie one behind the other.
use mathlib.Core.Path.{◌≡◌, refl}
use mathlib.Core.List.{List, [], ◌∷◌}
use mathlib.Core.Bool.{Bool, true, false}
use Prim.Native.Nat.{ℕ, ◌≤◌}
use native.Mathlib.Omega.{arith}
use Rattle.grammar.specs.Grammar.{Token, found, Stream, Parts}
use Rattle.grammar.specs.Readings.{Text}
use Rattle.grammar.specs.Rows.{Row, Draft, blank, write, tree_row, rows_from, rows}
use Rattle.grammar.specs.Language.{roto, goal}
use Rattle.grammar.proofs.Subtrees.{rows_in}
use Rattle.spans.specs.Nested.{Nested, none}
use Rattle.spans.proofs.Order.{all_inside, nested_over}
use Rattle.spans.proofs.Table.{roto_filled, goal_filled}
use Rattle.spans.proofs.Laid.{Laid, Lies, laid}

module _ (S : Stream) (tests : Bool) (len : ℕ) (at : S.Place → ℕ) (tokens_lie : (x : Token) (i j : S.Place) → S.look i ≡ found x j → Lies len (at i) (at j) x) (pieces_lie : (x : Token) (i j : S.Place) → S.piece i ≡ found x j → Lies len (at i) (at j) x) where
  drafted : (tree : Bool) {i : S.Place} {p : Parts} → at i ≤ len → Text S (roto tests) (goal tree) i p → (hi : ℕ) × (hi ≤ len) × Laid (at i) hi false false (write p blank)
  drafted tree {i} {p} v t =
      let h = laid (roto tests) (roto_filled tests) S len at tokens_lie pieces_lie t.reads false false false (goal_filled tree) (at i) blank v (record { nested = none; order = omega arith; item = λ w. w; row = λ w. w }) in
      (at t.stop, h.0, h.1)

  -- a tree's row spans the source
  pub rows_nested : (tree : Bool) {i : S.Place} {p : Parts} → at i ≤ len → Text S (roto tests) (goal tree) i p → (roots : List Row) × Nested (rows tree len p) roots
  unfolding rows rows_from
  rows_nested true {i} {p} v t =
      let a : Draft = write p blank in
      let h = drafted true v t in
      let k = h.2 in
      (tree_row len a ∷ [], nested_over a.items (tree_row len a) k.nested refl refl (all_inside (tree_row len a) (at i) h.0 a.items (omega arith) h.1 k.order))
  rows_nested false {i} {p} v t = let h = drafted false v t in (rows_in (write p blank).items, h.2.nested)
