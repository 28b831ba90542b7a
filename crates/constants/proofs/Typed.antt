-- A tree without faults has a value of the type that is wanted of it.
use Rattle.std.specs.Prelude.{Some, None, Option, Ok}
use mathlib.Core.Path.{◌≡◌, refl, sym, ap, ◌∙◌, subst}
use mathlib.Core.List.{List}
use mathlib.Core.Bool.{Bool, true, false, ◌&&◌, ◌||◌, cond}
use mathlib.Core.Logic.{◌⊎◌, inl, inr}
use Prim.Native.Nat.{ℕ, zero, suc, ◌/◌, ◌%◌, ◌<◌, ◌≤◌}
use native.Mathlib.Nat.{mod-lt, mod-le, lt_of_le_of_lt, lt_of_lt_of_le, le_trans, le_of_lt}
use native.Mathlib.Omega.{arith}
use lib.Dec.{eqb, leb, lit<, lit≤}
use lib.IntN.{ℤ, pos, negsuc, neg_ℤ, nat_abs, ◌+ℤ◌, ◌-ℤ◌, ◌*ℤ◌}
use lib.Signed.{quot_z, rem_z}
use lib.Ieee.{Float, binary64, of_bits, nan_bits, top}
use lib.Ieee.Bits.{nan_bits_above}
use borrow.Author.Tests.{eqb-true, leb-true, leb-false, le-ltb, ne_eqb}
use Rattle.grammar.specs.Rows.{Row}
use Rattle.numbers.specs.Numbers.{ceiling_of}
use Rattle.numbers.proofs.Choices.{and_left, and_right}
use Rattle.floats.specs.declared.Width.{Width}
use Rattle.floats.specs.Nearest.{format_of, infinite}
use Rattle.literals.specs.Results.{Alone}
use Rattle.literals.specs.Decimals.{few}
use Rattle.literals.specs.Answers.{alone_of, Says, Counted, Permitted as Answered}
use Rattle.literals.proofs.Answered.{answer_of, an_answer}
use Rattle.wholes.specs.declared.Integer.{Integer}
use Rattle.wholes.specs.Wholes.{span, lowest, number, or_none, quotient_of, remainder_of}
use Rattle.wholes.proofs.Laws.{some}
use Rattle.machine.specs.declared.Value.{Value}
use Rattle.machine.specs.declared.Op.{Op}
use Rattle.machine.specs.declared.Logic.{Logic}
use Rattle.machine.specs.declared.Order.{Order}
use Rattle.machine.specs.declared.Sum.{Sum}
use Rattle.machine.specs.Values.{op_of, integer_of, literal_value, negated_of, single_of, part_of, whole_of, wholes_of, numbers_of, floats_of, truths_of, double_of}
use Rattle.machine.specs.Machine.{wide}
use Rattle.constants.specs.Answers.{Constant, Permitted, unread, absent, there}
use Rattle.constants.specs.Trees.{Forest, none, tree, trees, Grown, grown_tree}
use Rattle.constants.specs.Types.{compares, under, type_of, named_of, declared_of, number_for, bits_for, float_number, float_bits, text_at, fine, integer_fault, float_fault, operator_fault}
use Rattle.constants.specs.Meaning.{Outcome, is, stop, held_of, stepped, of_one, of_two, meaning}
use Rattle.constants.specs.Lists.{codes, fault_of, first_of}
use Rattle.constants.specs.Fitting.{Fits, whole, float, truth}
use Rattle.constants.proofs.Told.{bits_of_lem}
use Rattle.constants.proofs.Accepted.{refused_is, accepted_is}
use Rattle.constants.proofs.Whole.{tree_grown}
use Rattle.constants.proofs.Faultless.{some_none, Taken, an_integer, a_float, a_bool, an_operator, a_not, a_minus, taken_row, few_operands, Fine, fine_tree, all_fine}

-- a value of the type, or a stop
pub data Typed (w : ℕ) : Outcome → Type 0 where
  typed_is : {v : Value} → Fits w v → Typed w (is v)
  typed_stop : {a e : ℕ} → Typed w (stop a e)

-- ---- tests that passed

fine_true : (b : Bool) → fine b ≡ None → b ≡ true
unfolding fine
fine_true true e = refl
fine_true false e = absurd (some_none e)

wants : (w k : ℕ) → fine (eqb w k) ≡ None → w ≡ k
wants w k e = eqb-true w k (fine_true (eqb w k) e)

or_true : (a b : Bool) → (a || b) ≡ true → (a ≡ true) ⊎ (b ≡ true)
or_true true b e = inl refl
or_true false b e = inr e

-- ---- the types

lowest_below : (m : ℕ) → 0 < m → (z : ℤ) → lowest m z < m
unfolding lowest
lowest_below m h (pos n) = mod-lt n h
lowest_below m h (negsuc n) = omega (arith, h)

whole_type : (w : ℕ) → w ≤ 8 → (t : Integer) × (integer_of (type_of w) ≡ Some t) × (ceiling_of w < span t)
unfolding integer_of type_of ceiling_of
whole_type zero h = (Integer.I64, refl, lit< tt)
whole_type (suc zero) h = (Integer.I8, refl, lit< tt)
whole_type (suc (suc zero)) h = (Integer.I16, refl, lit< tt)
whole_type (suc (suc (suc zero))) h = (Integer.I32, refl, lit< tt)
whole_type (suc (suc (suc (suc zero)))) h = (Integer.I64, refl, lit< tt)
whole_type (suc (suc (suc (suc (suc zero))))) h = (Integer.U8, refl, lit< tt)
whole_type (suc (suc (suc (suc (suc (suc zero)))))) h = (Integer.U16, refl, lit< tt)
whole_type (suc (suc (suc (suc (suc (suc (suc zero))))))) h = (Integer.U32, refl, lit< tt)
whole_type (suc (suc (suc (suc (suc (suc (suc (suc zero)))))))) h = (Integer.U64, refl, lit< tt)
whole_type (suc (suc (suc (suc (suc (suc (suc (suc (suc w))))))))) h = absurd (omega (arith, h))

no_float : {t : Integer} → integer_of 10 ≡ Some t → ⊥
unfolding integer_of
no_float e = let z : ◌≡◌ {A = ℕ} 0 1 = cc in omega arith

no_truth : {t : Integer} → integer_of 12 ≡ Some t → ⊥
unfolding integer_of
no_truth e = let z : ◌≡◌ {A = ℕ} 0 1 = cc in omega arith

as_whole : {w : ℕ} {v : Value} {t : Integer} → Fits w v → integer_of w ≡ Some t → (n : ℕ) × (v ≡ Value.Whole n)
as_whole (whole {n = n} e h) f = (n, refl)
as_whole float f = absurd (no_float f)
as_whole truth f = absurd (no_truth f)

as_float : {w : ℕ} {v : Value} → Fits w v → w ≡ 10 → (x : Float) × (v ≡ Value.Float x)
as_float (whole {t = t} e h) f = absurd (no_float {t = t} (ap integer_of (sym f) ∙ e))
as_float (float {x = x}) f = (x, refl)
as_float truth f = absurd (omega (arith, f))

as_truth : {w : ℕ} {v : Value} → Fits w v → w ≡ 12 → (b : Bool) × (v ≡ Value.Truth b)
as_truth (whole {t = t} e h) f = absurd (no_truth {t = t} (ap integer_of (sym f) ∙ e))
as_truth float f = absurd (omega (arith, f))
as_truth (truth {b = b}) f = (b, refl)

-- ---- literals

finite_64 : (w : Width) → infinite (format_of w) ≤ infinite binary64
finite_64 Width.F32 = lit≤ tt
finite_64 Width.F64 = lit≤ tt

no_nan : (b : ℕ) → b < infinite binary64 → nan_bits binary64 b ≡ false
no_nan b h = nan_bits_above binary64 b ∙ le-ltb (infinite binary64) (b % top binary64) (le_trans (mod-le b (top binary64)) (le_of_lt h))

float_finite : (t : List ℕ) → number_for (alone_of t) t ≡ 0 → bits_for (alone_of t) t < infinite binary64
unfolding Answered answer_of number_for
float_finite t e = subst (λ (b : ℕ). b < infinite binary64) (bits_of_lem (alone_of t) t) (go (alone_of t) (an_answer t) e)
  where
    counted : (w : Width) (b : Bool) → Counted b w t (answer_of t) → ◌≡◌ {A = ℕ} (cond b 0 14) 0 → (answer_of t).bits < infinite binary64
    counted w true c e = lt_of_lt_of_le c.nearest.finite (finite_64 w)
    counted w false c e = absurd (omega (arith, e))

    go : (k : Alone) → Says k t (answer_of t) → number_for k t ≡ 0 → (answer_of t).bits < infinite binary64
    go (Some w) x e = counted w (few t) x e
    go None x e = absurd (omega (arith, e))

integer_typed : (w value detail : ℕ) → integer_fault w value detail ≡ None → Fits (type_of w) (Value.Whole value)
unfolding integer_fault
integer_typed w value detail e =
    let h = fine_true (leb w 8 && ((eqb detail 0 || eqb detail w) && leb value (ceiling_of w))) e in
    let k = whole_type w (leb-true w 8 (and_left (leb w 8) ((eqb detail 0 || eqb detail w) && leb value (ceiling_of w)) h)) in
    let m = leb-true value (ceiling_of w) (and_right (eqb detail 0 || eqb detail w) (leb value (ceiling_of w)) (and_right (leb w 8) ((eqb detail 0 || eqb detail w) && leb value (ceiling_of w)) h)) in
    whole {t = k.0} k.1 (lt_of_le_of_lt m k.2)

float_typed : (s : List ℕ) (start end w detail : ℕ) → float_fault (float_number s start end) w detail ≡ None
    → Typed (type_of w) (is (cond (nan_bits binary64 (float_bits s start end)) (Value.Truth false) (Value.Float (of_bits binary64 (float_bits s start end)))))
unfolding float_fault float_number float_bits type_of
float_typed s start end w detail = go (eqb n 14)
  where
    n : ℕ
    n = number_for (alone_of (text_at s start end)) (text_at s start end)

    b : ℕ
    b = bits_for (alone_of (text_at s start end)) (text_at s start end)

    go : (t : Bool) → cond t (Some 14) (fine ((eqb n 0 && eqb w 10) && (eqb detail 0 || eqb detail 10))) ≡ None → Typed (type_of w) (is (cond (nan_bits binary64 b) (Value.Truth false) (Value.Float (of_bits binary64 b))))
    go true e = absurd (some_none e)
    go false e =
        let h = and_left (eqb n 0 && eqb w 10) (eqb detail 0 || eqb detail 10) (fine_true ((eqb n 0 && eqb w 10) && (eqb detail 0 || eqb detail 10)) e) in
        subst (λ (x : ℕ). Typed (type_of x) (is (cond (nan_bits binary64 b) (Value.Truth false) (Value.Float (of_bits binary64 b))))) (sym (eqb-true w 10 (and_right (eqb n 0) (eqb w 10) h)))
        (subst (λ (t : Bool). Typed 10 (is (cond t (Value.Truth false) (Value.Float (of_bits binary64 b))))) (sym (no_nan b (float_finite (text_at s start end) (eqb-true n 0 (and_left (eqb n 0) (eqb w 10) h))))) (typed_is float))

literal_typed : {s : List ℕ} {w start end value detail kind children : ℕ} → Taken s w start end value detail kind children → children ≡ 0 → Typed (type_of w) (is (literal_value kind (held_of s kind start end value)))
unfolding literal_value held_of type_of
literal_typed {w = w} {value = value} {detail = detail} (an_integer h) e = typed_is (integer_typed w value detail h)
literal_typed {s} {w} {start} {end} {detail = detail} (a_float h) e = float_typed s start end w detail h
literal_typed {s} {w} {value = value} (a_bool h) e = subst (λ (x : ℕ). Typed (type_of x) (is (Value.Truth (eqb value 1)))) (sym (wants w 12 h)) (typed_is truth)
literal_typed (an_operator h) e = absurd (omega (arith, e))
literal_typed (a_not h) e = absurd (omega (arith, e))
literal_typed (a_minus h) e = absurd (omega (arith, e))

-- ---- one operand

not_typed : (kind w : ℕ) → w ≡ 12 → (a : Value) → Fits (type_of w) a → Fits (type_of w) (single_of kind (type_of w) a)
unfolding single_of type_of
not_typed kind w q a f =
    let p = as_truth f (ap type_of q) in
    subst (λ (x : ℕ). Fits (type_of x) (single_of kind (type_of x) a)) (sym q) (subst (λ (v : Value). Fits 12 (single_of kind 12 v)) (sym p.1) truth)

minus_whole : (kind w : ℕ) → w ≤ 8 → (a : Value) → Fits (type_of w) a → Fits (type_of w) (single_of kind (type_of w) a)
unfolding single_of negated_of
minus_whole kind w h a f =
    let k = whole_type w h in
    let p = as_whole f k.1 in
    subst (λ (v : Value). Fits (type_of w) (single_of kind (type_of w) v)) (sym p.1)
    (subst (λ (i : Option Integer). Fits (type_of w) (negated_of i p.0)) (sym k.1) (whole {t = k.0} k.1 (lowest_below (span k.0) (some k.0) (neg_ℤ (number k.0 p.0)))))

minus_float : (kind w : ℕ) → w ≡ 10 → (a : Value) → Fits (type_of w) a → Fits (type_of w) (single_of kind (type_of w) a)
unfolding single_of type_of
minus_float kind w q a f =
    let p = as_float f (ap type_of q) in
    subst (λ (x : ℕ). Fits (type_of x) (single_of kind (type_of x) a)) (sym q) (subst (λ (v : Value). Fits 10 (single_of kind 10 v)) (sym p.1) float)

minus_typed : (kind w : ℕ) → (leb w 4 ≡ true) ⊎ (eqb w 10 ≡ true) → (a : Value) → Fits (type_of w) a → Fits (type_of w) (single_of kind (type_of w) a)
minus_typed kind w (inl h) a f = let k = leb-true w 4 h in minus_whole kind w (omega (arith, k)) a f
minus_typed kind w (inr h) a f = minus_float kind w (eqb-true w 10 h) a f

one_typed : {s : List ℕ} {w start end value detail kind children : ℕ} → Taken s w start end value detail kind children → children ≡ 1 → (a : Value) → Fits (type_of (cond (compares kind detail) 0 w)) a → Fits (type_of w) (single_of kind (type_of w) a)
unfolding compares
one_typed (an_integer h) e a f = absurd (omega (arith, e))
one_typed (a_float h) e a f = absurd (omega (arith, e))
one_typed (a_bool h) e a f = absurd (omega (arith, e))
one_typed (an_operator h) e a f = absurd (omega (arith, e))
one_typed {w = w} (a_not h) e a f = not_typed 21 w (wants w 12 h) a f
one_typed {w = w} (a_minus h) e a f = minus_typed 22 w (or_true (leb w 4) (eqb w 10) (fine_true (leb w 4 || eqb w 10) h)) a f

-- ---- two operands

data OpView (w detail : ℕ) : Type 0 where
  joins : (o : Logic) → w ≡ 12 → op_of detail ≡ Some (Op.Joins o) → compares 20 detail ≡ false → OpView w detail
  orders : (o : Order) → w ≡ 12 → op_of detail ≡ Some (Op.Compares o) → compares 20 detail ≡ true → OpView w detail
  sums : (o : Sum) → (w ≤ 8) ⊎ (w ≡ 10) → op_of detail ≡ Some (Op.Counts o) → compares 20 detail ≡ false → OpView w detail

low : (w d : ℕ) → 1 ≤ d → d ≤ 8 → w ≡ 12 → OpView w d
unfolding op_of compares
low w zero h k e = absurd (omega (arith, h))
low w (suc zero) h k e = joins Logic.Or e refl refl
low w (suc (suc zero)) h k e = joins Logic.And e refl refl
low w (suc (suc (suc zero))) h k e = orders Order.Equal e refl refl
low w (suc (suc (suc (suc zero)))) h k e = orders Order.Unequal e refl refl
low w (suc (suc (suc (suc (suc zero))))) h k e = orders Order.Less e refl refl
low w (suc (suc (suc (suc (suc (suc zero)))))) h k e = orders Order.AtMost e refl refl
low w (suc (suc (suc (suc (suc (suc (suc zero))))))) h k e = orders Order.More e refl refl
low w (suc (suc (suc (suc (suc (suc (suc (suc zero)))))))) h k e = orders Order.AtLeast e refl refl
low w (suc (suc (suc (suc (suc (suc (suc (suc (suc d))))))))) h k e = absurd (omega (arith, k))

high : (w d : ℕ) → 8 < d → d ≤ 13 → (w ≤ 8) ⊎ (w ≡ 10) → OpView w d
unfolding op_of compares
high w zero h k e = absurd (omega (arith, h))
high w (suc zero) h k e = absurd (omega (arith, h))
high w (suc (suc zero)) h k e = absurd (omega (arith, h))
high w (suc (suc (suc zero))) h k e = absurd (omega (arith, h))
high w (suc (suc (suc (suc zero)))) h k e = absurd (omega (arith, h))
high w (suc (suc (suc (suc (suc zero))))) h k e = absurd (omega (arith, h))
high w (suc (suc (suc (suc (suc (suc zero)))))) h k e = absurd (omega (arith, h))
high w (suc (suc (suc (suc (suc (suc (suc zero))))))) h k e = absurd (omega (arith, h))
high w (suc (suc (suc (suc (suc (suc (suc (suc zero)))))))) h k e = absurd (omega (arith, h))
high w (suc (suc (suc (suc (suc (suc (suc (suc (suc zero))))))))) h k e = sums Sum.Plus e refl refl
high w (suc (suc (suc (suc (suc (suc (suc (suc (suc (suc zero)))))))))) h k e = sums Sum.Minus e refl refl
high w (suc (suc (suc (suc (suc (suc (suc (suc (suc (suc (suc zero))))))))))) h k e = sums Sum.Times e refl refl
high w (suc (suc (suc (suc (suc (suc (suc (suc (suc (suc (suc (suc zero)))))))))))) h k e = sums Sum.Over e refl refl
high w (suc (suc (suc (suc (suc (suc (suc (suc (suc (suc (suc (suc (suc zero))))))))))))) h k e = sums Sum.Rest e refl refl
high w (suc (suc (suc (suc (suc (suc (suc (suc (suc (suc (suc (suc (suc (suc d)))))))))))))) h k e = absurd (omega (arith, k))

operator_view : (w d : ℕ) → operator_fault w d ≡ None → OpView w d
unfolding operator_fault
operator_view w d = go (leb d 8) refl
  where
    numeric : (leb w 8 ≡ true) ⊎ (eqb w 10 ≡ true) → (w ≤ 8) ⊎ (w ≡ 10)
    numeric (inl h) = inl (leb-true w 8 h)
    numeric (inr h) = inr (eqb-true w 10 h)

    go : (t : Bool) → leb d 8 ≡ t → cond t (fine (leb 1 d && eqb w 12)) (fine (leb d 13 && (leb w 8 || eqb w 10))) ≡ None → OpView w d
    go true q e =
        let h = fine_true (leb 1 d && eqb w 12) e in
        low w d (leb-true 1 d (and_left (leb 1 d) (eqb w 12) h)) (leb-true d 8 q) (eqb-true w 12 (and_right (leb 1 d) (eqb w 12) h))
    go false q e =
        let h = fine_true (leb d 13 && (leb w 8 || eqb w 10)) e in
        high w d (leb-false d 8 q) (leb-true d 13 (and_left (leb d 13) (leb w 8 || eqb w 10) h)) (numeric (or_true (leb w 8) (eqb w 10) (and_right (leb d 13) (leb w 8 || eqb w 10) h)))

module _ (r : Row) where
  part_typed : (ty : ℕ) (t : Integer) → integer_of ty ≡ Some t → (b : Bool) (z : ℤ) → Typed ty (stepped r (part_of (or_none b (lowest (span t) z))))
  unfolding part_of stepped or_none
  part_typed ty t g true z = typed_stop
  part_typed ty t g false z = typed_is (whole g (lowest_below (span t) (some t) z))

  sum_typed : (ty : ℕ) (o : Sum) (t : Integer) → integer_of ty ≡ Some t → (n m : ℕ) → Typed ty (stepped r (whole_of o t n m))
  unfolding whole_of part_of stepped quotient_of remainder_of or_none
  sum_typed ty Sum.Plus t g n m = typed_is (whole g (lowest_below (span t) (some t) (number t n +ℤ number t m)))
  sum_typed ty Sum.Minus t g n m = typed_is (whole g (lowest_below (span t) (some t) (number t n -ℤ number t m)))
  sum_typed ty Sum.Times t g n m = typed_is (whole g (lowest_below (span t) (some t) (number t n *ℤ number t m)))
  sum_typed ty Sum.Over t g n m = part_typed ty t g (eqb (nat_abs (number t m)) 0) (quot_z (number t n) (number t m))
  sum_typed ty Sum.Rest t g n m = part_typed ty t g (eqb (nat_abs (number t m)) 0) (rem_z (number t n) (number t m))

  wholes_typed : (ty d : ℕ) (o : Sum) (t : Integer) → op_of d ≡ Some (Op.Counts o) → integer_of ty ≡ Some t → (a b : Value) → Fits ty a → Fits ty b → Typed ty (stepped r (double_of ty d a b))
  unfolding double_of numbers_of wholes_of
  wholes_typed ty d o t f g a b x y =
      let p = as_whole x g in
      let q = as_whole y g in
      subst (λ (v : Value). Typed ty (stepped r (double_of ty d v b))) (sym p.1) (subst (λ (v : Value). Typed ty (stepped r (double_of ty d (Value.Whole p.0) v))) (sym q.1)
      (subst (λ (z : Option Op). Typed ty (stepped r (numbers_of z (integer_of ty) p.0 q.0))) (sym f) (subst (λ (i : Option Integer). Typed ty (stepped r (wholes_of o i p.0 q.0))) (sym g) (sum_typed ty o t g p.0 q.0))))

  floats_typed : (d : ℕ) (o : Sum) → op_of d ≡ Some (Op.Counts o) → (a b : Value) → Fits 10 a → Fits 10 b → Typed 10 (stepped r (double_of 10 d a b))
  unfolding double_of floats_of stepped
  floats_typed d o f a b x y =
      let p = as_float x refl in
      let q = as_float y refl in
      subst (λ (v : Value). Typed 10 (stepped r (double_of 10 d v b))) (sym p.1) (subst (λ (v : Value). Typed 10 (stepped r (double_of 10 d (Value.Float p.0) v))) (sym q.1)
      (subst (λ (z : Option Op). Typed 10 (stepped r (Some (floats_of z p.0 q.0)))) (sym f) (typed_is float)))

  orders_typed : (d : ℕ) (o : Order) → op_of d ≡ Some (Op.Compares o) → (a b : Value) → Fits 4 a → Fits 4 b → Typed 12 (stepped r (double_of 12 d a b))
  unfolding double_of numbers_of stepped integer_of
  orders_typed d o f a b x y =
      let p = as_whole {t = Integer.I64} x refl in
      let q = as_whole {t = Integer.I64} y refl in
      subst (λ (v : Value). Typed 12 (stepped r (double_of 12 d v b))) (sym p.1) (subst (λ (v : Value). Typed 12 (stepped r (double_of 12 d (Value.Whole p.0) v))) (sym q.1)
      (subst (λ (z : Option Op). Typed 12 (stepped r (numbers_of z (integer_of 12) p.0 q.0))) (sym f) (typed_is truth)))

  joins_typed : (d : ℕ) (o : Logic) → op_of d ≡ Some (Op.Joins o) → (a b : Value) → Fits 12 a → Fits 12 b → Typed 12 (stepped r (double_of 12 d a b))
  unfolding double_of truths_of stepped
  joins_typed d o f a b x y =
      let p = as_truth x refl in
      let q = as_truth y refl in
      subst (λ (v : Value). Typed 12 (stepped r (double_of 12 d v b))) (sym p.1) (subst (λ (v : Value). Typed 12 (stepped r (double_of 12 d (Value.Truth p.0) v))) (sym q.1)
      (subst (λ (z : Option Op). Typed 12 (stepped r (Some (truths_of z p.0 q.0)))) (sym f) (typed_is truth)))

  two_typed : (w d : ℕ) → OpView w d → (a b : Value) → Fits (type_of (cond (compares 20 d) 0 w)) a → Fits (type_of (cond (compares 20 d) 0 w)) b → Typed (type_of w) (stepped r (double_of (type_of w) d a b))
  unfolding type_of
  two_typed w d v a b = go v
    where
      kept : {c : Bool} {n : ℕ} → compares 20 d ≡ c → w ≡ n → (u : Value) → Fits (type_of (cond (compares 20 d) 0 w)) u → Fits (type_of (cond c 0 n)) u
      kept e q u = subst (λ (z : ℕ). Fits (type_of z) u) (λ i. cond (e i) 0 (q i))

      back : {n : ℕ} → w ≡ n → Typed (type_of n) (stepped r (double_of (type_of n) d a b)) → Typed (type_of w) (stepped r (double_of (type_of w) d a b))
      back q = subst (λ (z : ℕ). Typed (type_of z) (stepped r (double_of (type_of z) d a b))) (sym q)

      go : OpView w d → Fits (type_of (cond (compares 20 d) 0 w)) a → Fits (type_of (cond (compares 20 d) 0 w)) b → Typed (type_of w) (stepped r (double_of (type_of w) d a b))
      go (joins o q f e) x y = back {n = 12} q (joins_typed d o f a b (kept {n = 12} e q a x) (kept {n = 12} e q b y))
      go (orders o q f e) x y = back {n = 12} q (orders_typed d o f a b (kept {n = 12} e q a x) (kept {n = 12} e q b y))
      go (sums o (inl h) f e) x y = let k = whole_type w h in wholes_typed (type_of w) d o k.0 f k.1 a b (kept e refl a x) (kept e refl b y)
      go (sums o (inr q) f e) x y = back {n = 10} q (floats_typed d o f a b (kept {n = 10} e q a x) (kept {n = 10} e q b y))

two_operators : {s : List ℕ} {w start end value detail kind children : ℕ} → Taken s w start end value detail kind children → children ≡ 2 → (kind ≡ 20) × OpView w detail
two_operators (an_integer h) e = absurd (omega (arith, e))
two_operators (a_float h) e = absurd (omega (arith, e))
two_operators (a_bool h) e = absurd (omega (arith, e))
two_operators {w = w} {detail = detail} (an_operator h) e = (refl, operator_view w detail h)
two_operators (a_not h) e = absurd (omega (arith, e))
two_operators (a_minus h) e = absurd (omega (arith, e))

-- ---- the tree

of_one_lem : {s : List ℕ} (w : ℕ) (r : Row) → Taken s w r.start r.end r.value r.detail r.kind r.children → r.children ≡ 1 → {x : Outcome} → Typed (type_of (under w r)) x → Typed (type_of w) (of_one w r x)
unfolding of_one under
of_one_lem w r k c (typed_is {v = v} f) = typed_is (one_typed k c v f)
of_one_lem w r k c typed_stop = typed_stop

of_two_lem : {s : List ℕ} (w : ℕ) (r : Row) → Taken s w r.start r.end r.value r.detail r.kind r.children → r.children ≡ 2 → {x y : Outcome} → Typed (type_of (under w r)) x → Typed (type_of (under w r)) y → Typed (type_of w) (of_two w r x y)
unfolding of_two under
of_two_lem w r k c (typed_is {v = a} f) (typed_is {v = b} g) =
    let v = two_operators k c in
    let e = ap (λ (z : ℕ). type_of (cond (compares z r.detail) 0 w)) v.0 in
    two_typed r w r.detail v.1 a b (subst (λ (z : ℕ). Fits z a) e f) (subst (λ (z : ℕ). Fits z b) e g)
of_two_lem w r k c (typed_is f) typed_stop = typed_stop
of_two_lem w r k c typed_stop y = typed_stop

typed : (s : List ℕ) (w : ℕ) (r : Row) (kids : Forest) → r.children ≡ trees kids → Grown kids → fault_of s w r ≡ None → Fine s (under w r) kids → Typed (type_of w) (meaning s w r kids)
unfolding meaning trees
typed s w r none c g e f = literal_typed (taken_row s w r e) c
typed s w r (tree a ka none) c (grown_tree ca za ga gt) e (fine_tree ea fa ft) = of_one_lem w r (taken_row s w r e) c (typed s (under w r) a ka ca ga ea fa)
typed s w r (tree a ka (tree b kb none)) c (grown_tree ca za ga (grown_tree cb zb gb gt)) e (fine_tree ea fa (fine_tree eb fb ft)) =
    of_two_lem w r (taken_row s w r e) c (typed s (under w r) a ka ca ga ea fa) (typed s (under w r) b kb cb gb eb fb)
typed s w r (tree a ka (tree b kb (tree d kd ts))) c g e f = let h = few_operands (taken_row s w r e) in absurd (omega (arith, h, c))

its_value : {w : ℕ} {o : Outcome} {v : Value} → Typed w o → o ≡ is v → Fits w v
its_value {w} {o} {v} k e = go (subst (Typed w) e k)
  where
    go : {u : Value} → Typed w (is u) → Fits w u
    go (typed_is f) = f

-- a tree without faults has a value of the type wanted of it
pub typed_value : (s : List ℕ) (w : ℕ) (r : Row) (kids : Forest) → Grown (tree r kids none) → first_of (codes (fault_of s) w (tree r kids none)) ≡ None → {v : Value} → meaning s w r kids ≡ is v → Fits (type_of w) v
typed_value s w r kids g e {v} m = go g (all_fine s w (tree r kids none) e)
  where
    go : Grown (tree r kids none) → Fine s w (tree r kids none) → Fits (type_of w) v
    go (grown_tree c z k t) (fine_tree x y u) = its_value (typed s w r kids c k x y) m

-- ---- so every accepted constant holds a value of its declared type

own_type : (w : ℕ) → 0 < w → type_of w ≡ w
unfolding type_of
own_type w h = ap (λ (b : Bool). cond b 4 w) (ne_eqb w 0 (λ e. omega (arith, h, e)))

-- a declared type is not the one wanted under a comparison
one_more : (b : Bool) (n : ℕ) (rest : Option ℕ) → 0 < n → ((w : ℕ) → rest ≡ Some w → 0 < w) → (w : ℕ) → cond b (Some n) rest ≡ Some w → 0 < w
one_more true n rest h f w e = let k : n ≡ w = cc in omega (arith, h, k)
one_more false n rest h f w e = f w e

no_more : (w : ℕ) → ◌≡◌ {A = Option ℕ} None (Some w) → 0 < w
no_more w e = absurd (some_none (sym e))

named : (t : List ℕ) (w : ℕ) → named_of t ≡ Some w → 0 < w
unfolding named_of
named t = one_more _ 1 _ (lit< tt) (one_more _ 2 _ (lit< tt) (one_more _ 3 _ (lit< tt) (one_more _ 4 _ (lit< tt) (one_more _ 5 _ (lit< tt) (one_more _ 6 _ (lit< tt) (one_more _ 7 _ (lit< tt) (one_more _ 8 _ (lit< tt) (one_more _ 10 _ (lit< tt) (one_more _ 12 _ (lit< tt) no_more)))))))))

not_bare : (s : List ℕ) (kind start end w : ℕ) → declared_of s kind start end ≡ Some w → 0 < w
unfolding declared_of
not_bare s kind start end w = go (eqb kind 6)
  where
    go : (b : Bool) → cond b (named_of (text_at s start end)) None ≡ Some w → 0 < w
    go true e = named (text_at s start end) w e
    go false e = no_more w e

pub holds_type : (tests : Bool) (s : List ℕ) (k size list : ℕ) {c : Constant} {T L : List ℕ} → Permitted tests s k size list c T L → {v : Value} {w n : ℕ} → c ≡ Ok (record { value = v; ty = w; count = n }) → Fits w v
holds_type tests s k size list (unread p h) e = absurd (refused_is _ _ _ e)
holds_type tests s k size list (absent p z h) e = absurd (refused_is _ _ _ e)
holds_type tests s k size list (there {a = a} {t = t} {y = y} {e = x} {kids = kids} p z h u) {v} {w} {n} e =
    let d = accepted_is v w n s (list / wide) y x kids (sym u ∙ e) in
    subst (λ (z : ℕ). Fits z v) (own_type w (not_bare s y.kind y.start y.end w d.type_is)) (typed_value s w x kids (tree_grown t a.count k h) d.faultless d.means)
