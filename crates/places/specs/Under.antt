-- The place of a row's next child, by its phase (crates/layouts: how many children are behind, or what the last one was). Not to be believed: `phased` (layouts/proofs/)
-- ties it to `layout` (canon/specs/Layout.antt).
use Rattle.std.specs.Prelude.{[], ◌∷◌, Bool, true, cond, ℕ, ◌+◌, eqb}
use Rattle.rows.specs.Kinds as kinds
use Rattle.grammar.specs.Words.{open_brace}
use Rattle.canon.specs.Layout as canon

abbrev pub at_phase : ℕ → ℕ → canon.Place → canon.Place
at_phase n p c = cond (eqb p n) c canon.whole

abbrev pub operands_at : ℕ → ℕ → canon.Place → canon.Place
operands_at d p c = cond (eqb p 0) (canon.left (canon.left_level d) c) (cond (eqb p 1) (canon.right (canon.binary_level d + 1) c) canon.whole)

abbrev pub body_at : ℕ → canon.Place
body_at child = cond (eqb child kinds.BLOCK) canon.whole (canon.asks 0 true (open_brace ∷ []))

abbrev pub in_arm : ℕ → ℕ → ℕ → canon.Place
in_arm v p child = at_phase (cond (eqb v 0) 1 2) p (body_at child)

abbrev pub in_match : ℕ → Bool → canon.Place
in_match p more = cond (eqb p 0) canon.head (canon.with_more more)

unfoldable pub under_operand : ℕ → ℕ → canon.Place → ℕ → canon.Place
under_operand k d c p =
    cond (eqb k kinds.BINARY) (operands_at d p c)
    (cond (eqb k kinds.NOT) (at_phase 0 p (canon.right 6 c))
    (cond (eqb k kinds.NEGATE) (at_phase 0 p (canon.right 6 c))
    (cond (eqb k kinds.CALL) (at_phase 0 p (canon.left 7 c))
    (cond (eqb k kinds.QUESTION) (at_phase 0 p (canon.left 7 c))
    (cond (eqb k kinds.ACCESS) (at_phase 0 p (canon.pathless (canon.left 7 c)))
    (cond (eqb k kinds.ASSIGN) (at_phase 1 p (canon.right 1 c))
    (cond (eqb k kinds.RETURN) (at_phase 0 p (canon.right 0 c)) canon.whole)))))))

unfoldable pub under : ℕ → ℕ → ℕ → canon.Place → ℕ → ℕ → Bool → canon.Place
under k v d c p child more =
    cond (eqb k kinds.IF) (at_phase 0 p canon.head)
    (cond (eqb k kinds.WHILE) (at_phase 0 p canon.head)
    (cond (eqb k kinds.FOR) (at_phase 1 p canon.head)
    (cond (eqb k kinds.MATCH) (in_match p more)
    (cond (eqb k kinds.ARM) (in_arm v p child)
    (cond (eqb k kinds.BLOCK) (canon.statement child) (under_operand k d c p))))))
