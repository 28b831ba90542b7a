-- "`return`, `accept`, `reject` take an expr exactly when the next token can begin one": where they take nothing, what stands next
-- begins no expr.
use mathlib.Core.Path.{◌≡◌}
use mathlib.Core.List.{List, [], ◌∷◌}
use mathlib.Core.Bool.{Bool, true, false, not, cond}
use mathlib.Core.Option.{Option, some}
use Prim.Native.Nat.{ℕ}
use lib.Dec.{T}
use native.Mathlib.Omega.{arith}
use Rattle.grammar.specs.Grammar.{Symbol, View, Stream}
use Rattle.grammar.specs.Kinds.{EXPR, RETURNED}
use Rattle.grammar.specs.Table.{a, nothing}
use Rattle.grammar.specs.Choice.{or_else, among, firsts, chosen}
use Rattle.grammar.specs.Runs.{view, Picks}
use Rattle.grammar.specs.Language.{roto}

taken_first : (b : Bool) (x : Symbol) (s : List Symbol) (o o' : Option (List Symbol)) → or_else (cond b (some (x ∷ s)) o) o' ≡ some [] → T (not b)
taken_first true x s o o' e = let z : ◌≡◌ {A = ℕ} 0 1 = cc in absurd (omega arith)
taken_first false x s o o' e = tt

begins_none : (tests r : Bool) (v : View) → chosen (roto tests) (RETURNED r) v ≡ some nothing → T (not (among v (firsts (roto tests) (EXPR r))))
unfolding roto
begins_none true true v e = taken_first (among v (firsts (roto true) (EXPR true))) _ _ _ _ e
begins_none true false v e = taken_first (among v (firsts (roto true) (EXPR false))) _ _ _ _ e
begins_none false true v e = taken_first (among v (firsts (roto false) (EXPR true))) _ _ _ _ e
begins_none false false v e = taken_first (among v (firsts (roto false) (EXPR false))) _ _ _ _ e

pub returns_nothing : (S : Stream) (tests r : Bool) (i : S.Place) → Picks S (roto tests) (RETURNED r) i nothing → T (not (among (view S (roto tests) i) (firsts (roto tests) (EXPR r))))
returns_nothing S tests r i e = begins_none tests r (view S (roto tests) i) e
