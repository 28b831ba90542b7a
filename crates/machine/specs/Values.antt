-- What a literal and an operator give. Where the types of a checked tree hold, the last clause of each is never met.
use Rattle.std.specs.Prelude.{[], ◌∷◌, Bool, false, not, ◌&&◌, ◌||◌, cond, ℕ, ◌^◌, eqb, get_or, neg_ℤ, ◌+ℤ◌, ◌-ℤ◌, ◌*ℤ◌, Float, Option, Some, None}
use Rattle.std.specs.Int.Signed.{lt_z}
use Rattle.std.specs.Float.Ieee as Ieee
use Rattle.std.specs.Float.{binary64}
use Rattle.std.specs.Float.Ieee.{of_bits, to_bits, nan_bits, is_nan}
use Rattle.rows.specs.Kinds as kinds
use Rattle.wholes.specs.Wholes.{span, lowest, number, quotient_of, remainder_of}
use Rattle.wholes.specs.declared.Integer.{Integer}
use Rattle.machine.specs.declared.Value.{Value}
use Rattle.machine.specs.declared.Op.{Op}
use Rattle.machine.specs.declared.Logic.{Logic}
use Rattle.machine.specs.declared.Order.{Order}
use Rattle.machine.specs.declared.Sum.{Sum}

-- document 01's details of row 20, and of row 10
unfoldable pub op_of : ℕ → Option Op
op_of n =
    get_or (None ∷ Some (Op.Joins Logic.Or) ∷ Some (Op.Joins Logic.And)
    ∷ Some (Op.Compares Order.Equal) ∷ Some (Op.Compares Order.Unequal) ∷ Some (Op.Compares Order.Less) ∷ Some (Op.Compares Order.AtMost) ∷ Some (Op.Compares Order.More) ∷ Some (Op.Compares Order.AtLeast)
    ∷ Some (Op.Counts Sum.Plus) ∷ Some (Op.Counts Sum.Minus) ∷ Some (Op.Counts Sum.Times) ∷ Some (Op.Counts Sum.Over) ∷ Some (Op.Counts Sum.Rest) ∷ []) n None

unfoldable pub integer_of : ℕ → Option Integer
integer_of n =
    get_or (None ∷ Some Integer.I8 ∷ Some Integer.I16 ∷ Some Integer.I32 ∷ Some Integer.I64
    ∷ Some Integer.U8 ∷ Some Integer.U16 ∷ Some Integer.U32 ∷ Some Integer.U64 ∷ []) n None

unfoldable pub literal_value : ℕ → ℕ → Value
literal_value kind v =
    cond (eqb kind kinds.INTEGER) (Value.Whole v)
    (cond (eqb kind kinds.FLOAT) (cond (nan_bits binary64 v) (Value.Truth false) (Value.Float (of_bits binary64 v)))
    (Value.Truth (eqb v 1)))

unfoldable pub negated_of : Option Integer → ℕ → Value
negated_of (Some t) a = Value.Whole (lowest (span t) (neg_ℤ (number t a)))
negated_of None a = Value.Whole a

unfoldable pub single_of : ℕ → ℕ → Value → Value
unfolding negated_of
single_of kind ty (Value.Whole a) = negated_of (integer_of ty) a
single_of kind ty (Value.Float a) = Value.Float (Ieee.neg a)
single_of kind ty (Value.Truth a) = Value.Truth (not a)

unfoldable pub part_of : Option ℕ → Option Value
part_of (Some n) = Some (Value.Whole n)
part_of None = None

-- "Integer sums, differences and products wrap at the declared width"
unfoldable pub whole_of : Sum → Integer → ℕ → ℕ → Option Value
unfolding part_of
whole_of Sum.Plus t a b = Some (Value.Whole (lowest (span t) (number t a +ℤ number t b)))
whole_of Sum.Minus t a b = Some (Value.Whole (lowest (span t) (number t a -ℤ number t b)))
whole_of Sum.Times t a b = Some (Value.Whole (lowest (span t) (number t a *ℤ number t b)))
whole_of Sum.Over t a b = part_of (quotient_of t a b)
whole_of Sum.Rest t a b = part_of (remainder_of t a b)

-- comparisons are of i64
unfoldable pub order_of : Order → ℕ → ℕ → Bool
order_of Order.Equal a b = eqb a b
order_of Order.Unequal a b = not (eqb a b)
order_of Order.Less a b = lt_z (number Integer.I64 a) (number Integer.I64 b)
order_of Order.AtMost a b = not (lt_z (number Integer.I64 b) (number Integer.I64 a))
order_of Order.More a b = lt_z (number Integer.I64 b) (number Integer.I64 a)
order_of Order.AtLeast a b = not (lt_z (number Integer.I64 a) (number Integer.I64 b))

-- "`f64` operators are Rattle's, `%` included"
unfoldable pub float_of : Sum → Float → Float → Float
float_of Sum.Plus a b = Ieee.add binary64 a b
float_of Sum.Minus a b = Ieee.sub binary64 a b
float_of Sum.Times a b = Ieee.mul binary64 a b
float_of Sum.Over a b = Ieee.div binary64 a b
float_of Sum.Rest a b = Ieee.rem binary64 a b

unfoldable pub join_of : Logic → Bool → Bool → Bool
join_of Logic.Or a b = a || b
join_of Logic.And a b = a && b

unfoldable pub wholes_of : Sum → Option Integer → ℕ → ℕ → Option Value
unfolding whole_of
wholes_of o (Some t) a b = whole_of o t a b
wholes_of o None a b = Some (Value.Truth false)

unfoldable pub numbers_of : Option Op → Option Integer → ℕ → ℕ → Option Value
unfolding wholes_of order_of
numbers_of (Some (Op.Joins o)) t a b = Some (Value.Truth false)
numbers_of (Some (Op.Compares o)) t a b = Some (Value.Truth (order_of o a b))
numbers_of (Some (Op.Counts o)) t a b = wholes_of o t a b
numbers_of None t a b = Some (Value.Truth false)

unfoldable pub floats_of : Option Op → Float → Float → Value
unfolding float_of
floats_of (Some (Op.Joins o)) a b = Value.Truth false
floats_of (Some (Op.Compares o)) a b = Value.Truth false
floats_of (Some (Op.Counts o)) a b = Value.Float (float_of o a b)
floats_of None a b = Value.Truth false

unfoldable pub truths_of : Option Op → Bool → Bool → Value
unfolding join_of
truths_of (Some (Op.Joins o)) a b = Value.Truth (join_of o a b)
truths_of (Some (Op.Compares o)) a b = Value.Truth false
truths_of (Some (Op.Counts o)) a b = Value.Truth false
truths_of None a b = Value.Truth false

unfoldable pub double_of : ℕ → ℕ → Value → Value → Option Value
unfolding numbers_of floats_of truths_of
double_of ty what (Value.Whole a) (Value.Whole b) = numbers_of (op_of what) (integer_of ty) a b
double_of ty what (Value.Whole a) (Value.Float b) = Some (Value.Whole a)
double_of ty what (Value.Whole a) (Value.Truth b) = Some (Value.Whole a)
double_of ty what (Value.Float a) (Value.Whole b) = Some (Value.Float a)
double_of ty what (Value.Float a) (Value.Float b) = Some (floats_of (op_of what) a b)
double_of ty what (Value.Float a) (Value.Truth b) = Some (Value.Float a)
double_of ty what (Value.Truth a) (Value.Whole b) = Some (Value.Truth a)
double_of ty what (Value.Truth a) (Value.Float b) = Some (Value.Truth a)
double_of ty what (Value.Truth a) (Value.Truth b) = Some (truths_of (op_of what) a b)

-- ---- a value in 64 bits: a whole number with its sign drawn out, a float's own, one pattern for every NaN, 1 for `true`

unfoldable pub extended_of : Option Integer → ℕ → ℕ
extended_of (Some t) a = lowest (2 ^ 64) (number t a)
extended_of None a = a

abbrev pub nan : ℕ
nan = 9221120237041090560

unfoldable pub float_bits : Float → ℕ
float_bits x = cond (is_nan x) nan (to_bits binary64 x)

unfoldable pub bits_of : ℕ → Value → ℕ
unfolding extended_of float_bits
bits_of ty (Value.Whole a) = extended_of (integer_of ty) a
bits_of ty (Value.Float x) = float_bits x
bits_of ty (Value.Truth b) = cond b 1 0
