-- "A span runs from the first to the last byte of its tokens, but where a node begins or ends with a child, that child's row
-- gives that end." So a row's span lies in its parent's.
use Rattle.std.specs.Prelude.{◌≡◌, List, [], ◌∷◌, ◌++◌, suc, ◌≤◌, length}
use Rattle.grammar.specs.Rows.{Row}
use Rattle.grammar.specs.Subtrees.{total}

-- The span of the row r lies in that of the row p.
pub record Inside (p r : Row) : Type 0 where
  pub start : p.start ≤ r.start
  pub end : r.end ≤ p.end

pub data AllInside (p : Row) : List Row → Type 0 where
  nothing : AllInside p []
  also : {r : Row} {rs : List Row} → Inside p r → AllInside p rs → AllInside p (r ∷ rs)

-- The rows of some trees, one behind the other, and the trees' roots, as `Trees` (grammar/specs/Subtrees.antt) has them, where each
-- row's children lie in it.
pub data Nested : List Row → List Row → Type 0 where
  none : Nested [] []
  more : {all tops rs roots below kids : List Row} (r : Row) → Nested rs roots → Nested below kids → r.children ≡ length kids → r.size ≡ suc (total kids) → AllInside r kids → all ≡ rs ++ (below ++ (r ∷ [])) → tops ≡ roots ++ (r ∷ []) → Nested all tops
