-- Instructions, one a row, and what running them gives: literals, whose kinds are below that of an operator, are put on the stack, an
-- operator takes two values, a sign one.
use Rattle.std.specs.Prelude.{List, [], ◌∷◌, ◌||◌, cond, ℕ, zero, suc, ◌+◌, ◌*◌, ◌/◌, eqb, ltb, length, get_or, Option, Result, Some, None, Ok, Err}
use Rattle.rows.specs.Kinds as kinds
use Rattle.machine.specs.declared.Instruction.{Instruction}
use Rattle.machine.specs.declared.Stop.{Stop}
use Rattle.machine.specs.declared.Value.{Value}
use Rattle.machine.specs.Values.{literal_value, single_of, double_of}

-- how an instruction leaves the stack, its top first, or why the list ends there

unfoldable pub topped : Instruction → Option Value → List Value → Result (List Value) Stop
topped x (Some v) st = Ok (v ∷ st)
topped x None st = Err (Stop.ZeroDivisor x.start x.end)

unfoldable pub double_on : Instruction → List Value → Result (List Value) Stop
unfolding topped
double_on x [] = Err Stop.Broken
double_on x (b ∷ []) = Err Stop.Broken
double_on x (b ∷ a ∷ st) = topped x (double_of x.ty x.value a b) st

unfoldable pub single_on : Instruction → List Value → Result (List Value) Stop
single_on x [] = Err Stop.Broken
single_on x (a ∷ st) = Ok (single_of x.kind x.ty a ∷ st)

unfoldable pub step_of : Instruction → List Value → Result (List Value) Stop
unfolding double_on single_on
step_of x st =
    cond (ltb x.kind kinds.BINARY) (Ok (literal_value x.kind x.value ∷ st))
    (cond (eqb x.kind kinds.BINARY) (double_on x st) (single_on x st))

unfoldable pub after : Result (List Value) Stop → (List Value → Result Value Stop) → Result Value Stop
after (Ok st) f = f st
after (Err e) f = Err e

unfoldable pub ended : List Value → Result Value Stop
ended [] = Err Stop.Broken
ended (v ∷ []) = Ok v
ended (v ∷ w ∷ st) = Err Stop.Broken

unfoldable pub exec : List Instruction → List Value → Result Value Stop
unfolding ended step_of after
exec [] st = ended st
exec (x ∷ xs) st = after (step_of x st) (exec xs)

-- ---- the list in memory: five numbers an instruction

abbrev pub wide : ℕ
wide = 5

-- "every expression of up to 1,024 rows"
abbrev pub most : ℕ
most = 1024

abbrev pub instr_at : List ℕ → ℕ → Instruction
instr_at l i =
    record { kind = get_or l (i * wide) 0; ty = get_or l (i * wide + 1) 0; value = get_or l (i * wide + 2) 0; start = get_or l (i * wide + 3) 0; end = get_or l (i * wide + 4) 0 }

unfoldable pub instrs : List ℕ → ℕ → ℕ → List Instruction
instrs l i zero = []
instrs l i (suc k) = instr_at l i ∷ instrs l (suc i) k

unfoldable pub ran_of : List ℕ → ℕ → Result Value Stop
unfolding exec instrs
ran_of l n = cond (ltb most n || ltb (length l / wide) n) (Err Stop.Broken) (exec (instrs l 0 n) [])
