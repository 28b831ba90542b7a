-- C-18: the answer to a source and a constant's number, and the final content of both lent tables.
use Rattle.std.specs.Prelude.{◌≡◌, List, [], ◌∷◌, ◌++◌, Bool, true, ◌&&◌, cond, ℕ, suc, ◌-◌, ◌*◌, ◌/◌, ◌≤◌, eqb, ltb, replicate, Option, Result, Some, None, Ok, Err}
use Rattle.chars.specs.declared.Answer.{Answer}
use Rattle.rows.specs.Kinds as kinds
use Rattle.grammar.specs.Rows.{Row}
use Rattle.answers.specs.Entries as reader
use Rattle.machine.specs.Values.{bits_of}
use Rattle.machine.specs.Machine.{wide, most}
use Rattle.constants.specs.declared.Finished.{Finished}
use Rattle.constants.specs.Trees.{Forest, none, tree, rows_of, Grown, rows_from}
use Rattle.constants.specs.Types.{declared_of}
use Rattle.constants.specs.Meaning.{Outcome, is, stop, meaning}
use Rattle.constants.specs.Lists.{instr_of, codes, flat_list, refused, fault_of, first_of}

-- "new 15", "new 16, integer divisor zero"
abbrev pub NOT_TAKEN : ℕ
NOT_TAKEN = 15

abbrev pub ZERO_DIVISOR : ℕ
ZERO_DIVISOR = 16

-- a constant: finished, or refused
abbrev pub Constant : Type 0
Constant = Result Finished Answer

abbrev pub refusal : ℕ → ℕ → ℕ → Constant
refusal number start end = Err (refused number start end)

-- "An answer is number, place and a count", for each case of a constant; len: the source's bytes
abbrev pub answer_of : ℕ → Constant → Answer
answer_of len (Ok f) = record { number = 0; start = 0; end = len; count = f.count }
answer_of len (Err a) = a

-- the declared type of a constant and its value in 64 bits, as numbers; 0 for a refusal
abbrev pub type_for : Constant → ℕ
type_for (Ok f) = f.ty
type_for (Err a) = 0

abbrev pub value_bits : Constant → ℕ
value_bits (Ok f) = bits_of f.ty f.value
value_bits (Err a) = 0

-- ---- the constant with a number

-- `const name : type = expr ;`: a row with three trees under it
unfoldable pub is_constant : ℕ → ℕ → Bool
is_constant kind children = eqb kind kinds.CONST && eqb children 3

unfoldable pub constants : List Row → ℕ
unfolding is_constant
constants [] = 0
constants (r ∷ rs) = let n : ℕ = constants rs in cond (is_constant r.kind r.children) (suc n) n

-- Among the rows, the constant before which there are k others has a type with the row y and an expression with the row e over kids.
pub record Numbered (rs : List Row) (k : ℕ) (y e : Row) (kids : Forest) : Type 0 where
  pub front : List Row
  pub name : Row
  pub in_name : Forest
  pub in_type : Forest
  pub const : Row
  pub behind : List Row
  pub rows : rs ≡ front ++ (rows_of (tree name in_name (tree y in_type (tree e kids none))) ++ (const ∷ behind))
  pub kind : const.kind ≡ kinds.CONST
  pub grown : Grown (tree const (tree name in_name (tree y in_type (tree e kids none))) none)
  pub number : constants (front ++ rows_of (tree name in_name (tree y in_type (tree e kids none)))) ≡ k

-- ---- what it comes to

unfoldable pub ended : ℕ → ℕ → Outcome → Constant
ended w n (is v) = Ok (record { value = v; ty = w; count = n })
ended w n (stop start end) = refusal ZERO_DIVISOR start end

-- "then the first row in table order ..; 10 for the list; new 16"
unfoldable pub checked : List ℕ → ℕ → ℕ → Row → Forest → Option Answer → Constant
unfolding ended meaning
checked s room w e kids (Some a) = Err a
checked s room w e kids None =
    let c : Constant = ended w e.size (meaning s w e kids) in
    cond (ltb room e.size) (Err (record { number = 10; start = 0; end = 0; count = e.size })) c

-- where a type is declared
unfoldable pub typed : List ℕ → ℕ → Row → Row → Forest → Option ℕ → Constant
unfolding checked fault_of codes first_of
typed s room y e kids None = refusal NOT_TAKEN y.start y.end
typed s room y e kids (Some w) = checked s room w e kids (first_of (codes (fault_of s) w (tree e kids none)))

-- "more than 1,024 rows (at the expression's row), another declared type (at its row), in that order"; room: of the list
unfoldable pub constant_of : List ℕ → ℕ → Row → Row → Forest → Constant
unfolding typed declared_of
constant_of s room y e kids =
    let c : Constant = typed s room y e kids (declared_of s y.kind y.start y.end) in
    cond (ltb most e.size) (refusal NOT_TAKEN e.start e.end) c

-- "one a row", and zeros behind; w: the declared type
unfoldable pub list_of : List ℕ → ℕ → ℕ → Row → Forest → List ℕ
unfolding flat_list codes instr_of
list_of s size w e kids = flat_list (codes (instr_of s) w (tree e kids none)) ++ replicate (size - wide * e.size) 0

-- "Refused: zeros throughout."
abbrev pub left : ℕ → Constant → List ℕ → List ℕ
left size (Ok f) t = t
left size (Err a) t = replicate size 0

-- What may be answered to the source s and a constant's number k, from 0, and what then stands in a lent table of `size` numbers and in a lent list of `list`
-- numbers. The source is read as (a) reads it; `tests`: whether `test` is a declaration.
pub data Permitted (tests : Bool) (s : List ℕ) (k size list : ℕ) : Constant → List ℕ → List ℕ → Type 0 where
  -- "document 01's for the source"
  unread : {a : Answer} {t : List ℕ} → reader.Permitted tests true s size a t → (a.number ≡ 0 → ⊥) → Permitted tests s k size list (Err a) t (replicate list 0)
  -- "no such constant (at 0, 0)"
  absent : {a : Answer} {t : List ℕ} → reader.Permitted tests true s size a t → a.number ≡ 0 → constants (rows_from t 0 a.count) ≤ k
      → Permitted tests s k size list (refusal NOT_TAKEN 0 0) (replicate size 0) (replicate list 0)
  there : {a : Answer} {t : List ℕ} {y e : Row} {kids : Forest} {c : Constant} → reader.Permitted tests true s size a t → a.number ≡ 0 → Numbered (rows_from t 0 a.count) k y e kids
      → c ≡ constant_of s (list / wide) y e kids → Permitted tests s k size list c (left size c t) (left list c (list_of s list (type_for c) e kids))
