-- "Translate the expression of a `const` into a flat list of stack instructions, one a row."
use Rattle.std.specs.Prelude.{List, [], ◌∷◌, ◌++◌, cond, ℕ, eqb, Option, None, option_map}
use Rattle.std.specs.Option.{option_or}
use Rattle.chars.specs.declared.Answer.{Answer}
use Rattle.rows.specs.Kinds as kinds
use Rattle.grammar.specs.Rows.{Row}
use Rattle.machine.specs.declared.Instruction.{Instruction}
use Rattle.constants.specs.Trees.{Forest, none, tree}
use Rattle.constants.specs.Types.{under, type_of, fault_number}
use Rattle.constants.specs.Meaning.{held_of, held}

-- the instruction of a row of which the type w is wanted
unfoldable pub instr_of : List ℕ → ℕ → Row → Instruction
unfolding type_of held_of
instr_of s w r =
    record { kind = r.kind; ty = type_of w; value = cond (eqb r.kind kinds.BINARY) r.detail (held s r); start = r.start; end = r.end }

-- what f makes of each row and the type wanted of it, in the table's order
unfoldable pub codes : {A : Type 0} → (ℕ → Row → A) → ℕ → Forest → List A
unfolding under
codes f w none = []
codes f w (tree r kids ts) = codes f (under w r) kids ++ (f w r ∷ codes f w ts)

-- an instruction's numbers, in order
abbrev pub numbers : Instruction → List ℕ
numbers x = x.kind ∷ x.ty ∷ x.value ∷ x.start ∷ x.end ∷ []

unfoldable pub flat_list : List Instruction → List ℕ
flat_list [] = []
flat_list (x ∷ xs) = numbers x ++ flat_list xs

-- ---- a row's fault: its refusal, if there is one

abbrev pub refused : ℕ → ℕ → ℕ → Answer
refused number start end = record { number = number; start = start; end = end; count = 0 }

unfoldable pub fault_of : List ℕ → ℕ → Row → Option Answer
unfolding fault_number
fault_of s w r =
    option_map (λ (number : ℕ). refused number r.start r.end) (fault_number s w r.kind r.start r.end r.children r.value r.detail)

-- "the first row in table order"
unfoldable pub first_of : List (Option Answer) → Option Answer
first_of [] = None
first_of (x ∷ xs) = option_or x (first_of xs)
