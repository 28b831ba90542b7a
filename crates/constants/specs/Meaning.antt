-- C-18: "the meaning of the tree", with whole numbers, the kit's IEEE values and truth values (machine/specs/Values.antt).
use Rattle.std.specs.Prelude.{List, cond, ℕ, eqb, Option, Some, None}
use Rattle.rows.specs.Kinds as kinds
use Rattle.grammar.specs.Rows.{Row}
use Rattle.machine.specs.declared.Value.{Value}
use Rattle.machine.specs.Values.{literal_value, single_of, double_of}
use Rattle.constants.specs.Trees.{Forest, none, tree}
use Rattle.constants.specs.Types.{under, type_of, float_bits}

-- A value, or "integer divisor zero, at the row of the first such step".
-- kept: no Result with the machine's Stop, which may be Broken as no tree's meaning is; with a pair of numbers it would be no plainer.
pub data Outcome : Type 0 where
  is : Value → Outcome
  stop : ℕ → ℕ → Outcome

-- what a literal's row holds; a float's bits are C-17's, the nearest float to what its text writes
unfoldable pub held_of : List ℕ → ℕ → ℕ → ℕ → ℕ → ℕ
unfolding float_bits
held_of s kind start end value = let b : ℕ = float_bits s start end in cond (eqb kind kinds.FLOAT) b value

abbrev pub held : List ℕ → Row → ℕ
held s r = held_of s r.kind r.start r.end r.value

unfoldable pub stepped : Row → Option Value → Outcome
stepped r (Some v) = is v
stepped r None = stop r.start r.end

unfoldable pub of_one : ℕ → Row → Outcome → Outcome
of_one w r (is a) = is (single_of r.kind (type_of w) a)
of_one w r (stop s e) = stop s e

-- both sides are worked out, `&&` and `||` too
unfoldable pub of_two : ℕ → Row → Outcome → Outcome → Outcome
unfolding stepped
of_two w r (is a) (is b) = stepped r (double_of (type_of w) r.detail a b)
of_two w r (is a) (stop s e) = stop s e
of_two w r (stop s e) y = stop s e

-- The meaning of the tree of row r over kids, where the type w is wanted of it; s: the source, which has the floats' texts.
unfoldable pub meaning : List ℕ → ℕ → Row → Forest → Outcome
unfolding of_one of_two held_of under
meaning s w r none = is (literal_value r.kind (held s r))
meaning s w r (tree a ka none) = of_one w r (meaning s (under w r) a ka)
meaning s w r (tree a ka (tree b kb ts)) = of_two w r (meaning s (under w r) a ka) (meaning s (under w r) b kb)
