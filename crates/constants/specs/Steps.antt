-- What the functions inside promise: the same from the table's numbers, from the last row to the first. proofs/Whole.antt ties it to the tree.
use Rattle.std.specs.Prelude.{◌≡◌, List, [], ◌∷◌, ◌++◌, true, cond, ℕ, zero, suc, ◌+◌, ◌*◌, ◌-◌, ◌<◌, ◌≤◌, eqb, ltb, length, set, replicate, Option, Result, Some, None, Ok, Err}
use Rattle.std.specs.Option.{option_or}
use Rattle.rows.specs.Rows.{width}
use Rattle.grammar.specs.Rows.{Row}
use Rattle.machine.specs.declared.Instruction.{Instruction}
use Rattle.machine.specs.declared.Stop.{Stop}
use Rattle.machine.specs.declared.Value.{Value}
use Rattle.machine.specs.Machine.{exec, wide, most}
use Rattle.chars.specs.declared.Answer.{Answer}
use Rattle.constants.specs.declared.Row as code
use Rattle.constants.specs.Trees.{row_at}
use Rattle.constants.specs.Types.{BARE, compares, declared_of}
use Rattle.constants.specs.Lists.{instr_of, flat_list, fault_of}
use Rattle.constants.specs.Answers.{NOT_TAKEN, ZERO_DIVISOR, Constant, refusal, is_constant}

-- the code's row
abbrev pub row_of : code.Row → Row
row_of r = record { kind = r.kind; start = r.start; end = r.end; children = r.children; value = r.value; detail = r.detail; size = r.size }

unfoldable pub backward : {A : Type 0} → List A → List A
backward [] = []
backward (x ∷ xs) = backward xs ++ (x ∷ [])

-- ---- the type wanted, with a count of the rows still under a comparison

unfoldable pub wanted_of : ℕ → ℕ → ℕ
wanted_of w k = cond (eqb k 0) w BARE

unfoldable pub left_of : ℕ → ℕ → ℕ → ℕ → ℕ
left_of k kind detail size = cond (ltb 0 k) (k - 1) (cond (compares kind detail) (size - 1) 0)

unfoldable pub typed : {A : Type 0} → (ℕ → Row → A) → ℕ → ℕ → List Row → List A
unfolding compares
typed f w k [] = []
typed f w zero (r ∷ rs) = f w r ∷ typed f w (cond (compares r.kind r.detail) (r.size - 1) 0) rs
typed f w (suc k) (r ∷ rs) = f BARE r ∷ typed f w k rs

-- n rows of a table from the one numbered `first`, the last of them first
unfoldable pub backs_from : List ℕ → ℕ → ℕ → List Row
backs_from t first zero = []
backs_from t first (suc k) = row_at t (first + k) ∷ backs_from t first k

-- ---- the check: the last fault met

unfoldable pub latest : Option Answer → List (Option Answer) → Option Answer
latest h [] = h
latest h (x ∷ xs) = latest (option_or x h) xs

unfoldable pub fault_at : List ℕ → List ℕ → ℕ → ℕ → ℕ → Option Answer
fault_at s t first n w = latest None (typed (fault_of s) w 0 (backs_from t first n))

-- ---- the list

unfoldable pub stored : List ℕ → ℕ → ℕ → ℕ → ℕ → ℕ → ℕ → List ℕ
stored l i kind ty value start end =
    set (set (set (set (set l (i * wide) kind) (i * wide + 1) ty) (i * wide + 2) value) (i * wide + 3) start) (i * wide + 4) end

unfoldable pub codes_at : List ℕ → List ℕ → ℕ → ℕ → ℕ → List Instruction
codes_at s t first n w = backward (typed (instr_of s) w 0 (backs_from t first n))

unfoldable pub ran_to : ℕ → ℕ → Result Value Stop → Constant
ran_to w n (Ok v) = Ok (record { value = v; ty = w; count = n })
ran_to w n (Err (Stop.ZeroDivisor start end)) = refusal ZERO_DIVISOR start end
ran_to w n (Err Stop.Broken) = refusal NOT_TAKEN 0 0

unfoldable pub run_at : List ℕ → ℕ → List ℕ → ℕ → ℕ → ℕ → Constant
run_at s room t first n w = cond (ltb room n) (Err (record { number = 10; start = 0; end = 0; count = n })) (ran_to w n (exec (codes_at s t first n w) []))

-- ---- the constant of a row, and the row of a constant

unfoldable pub checked_at : List ℕ → ℕ → List ℕ → ℕ → ℕ → ℕ → Option Answer → Constant
checked_at s room t first n w (Some a) = Err a
checked_at s room t first n w None = run_at s room t first n w

unfoldable pub typed_at : List ℕ → ℕ → List ℕ → ℕ → ℕ → Row → Option ℕ → Constant
typed_at s room t first n y None = refusal NOT_TAKEN y.start y.end
typed_at s room t first n y (Some w) = checked_at s room t first n w (fault_at s t first n w)

unfoldable pub declared_at : List ℕ → List ℕ → ℕ → Option ℕ
declared_at s t i = declared_of s (row_at t i).kind (row_at t i).start (row_at t i).end

unfoldable pub sized_at : List ℕ → ℕ → List ℕ → ℕ → Row → Constant
sized_at s room t i e = cond (ltb most e.size) (refusal NOT_TAKEN e.start e.end) (typed_at s room t (i - e.size) e.size (row_at t (i - e.size - 1)) (declared_at s t (i - e.size - 1)))

unfoldable pub worked_at : List ℕ → ℕ → List ℕ → ℕ → Constant
worked_at s room t i = sized_at s room t i (row_at t (i - 1))

unfoldable pub found_from : List ℕ → ℕ → ℕ → ℕ → Option ℕ
found_from t i zero k = None
found_from t i (suc n) zero = cond (is_constant (row_at t i).kind (row_at t i).children) (Some i) (found_from t (suc i) n zero)
found_from t i (suc n) (suc k) = cond (is_constant (row_at t i).kind (row_at t i).children) (found_from t (suc i) n k) (found_from t (suc i) n (suc k))

unfoldable pub numbered_at : List ℕ → ℕ → List ℕ → Option ℕ → Constant
numbered_at s room t (Some i) = worked_at s room t i
numbered_at s room t None = refusal NOT_TAKEN 0 0

-- where a constant's row is, there are rows before it: its expression's, and its type's before those
abbrev pub Placed : List ℕ → ℕ → Type 0
Placed t i = (i * width ≤ length t) × (suc (row_at t (i - 1)).size ≤ i)

pub record Table (t : List ℕ) (count : ℕ) : Type 0 where
  pub long : count * width ≤ length t
  pub placed : (i : ℕ) → i < count → is_constant (row_at t i).kind (row_at t i).children ≡ true → Placed t i

-- what an accepted constant leaves in the list; a refused one leaves any numbers, as many
unfoldable pub WroteAt : List ℕ → List ℕ → ℕ → List ℕ → Constant → Type 0
WroteAt s t i l (Ok f) = l ≡ flat_list (codes_at s t (i - f.count) f.count f.ty) ++ replicate (length l - wide * f.count) 0
WroteAt s t i l (Err a) = Unit {0}

unfoldable pub WroteFor : List ℕ → List ℕ → Option ℕ → List ℕ → Constant → Type 0
WroteFor s t (Some i) l c = WroteAt s t i l c
WroteFor s t None l c = Unit {0}
