use mathlib.Core.Path.{sym, subst}
use Prim.Native.Nat.{◌+◌, ◌<◌}
use lib.Dec.{T}
use lib.Ieee.{Float, binary64, fits, add}
use Rattle.remainders.specs.Amounts.{amount, divisor}
use Rattle.remainders.proofs.Left.{Amount, units, amount_of, divisor_amount, divisor_pos, pos_divisor, pos_twice, doubled, smaller, larger, ended, taken, falls}
use Rattle.remainders.proofs.+rest.Goals as goal

-- what a format holds, in units
whole : (x : Float) → T (fits binary64 x) → T (amount x) → Amount binary64 x (units binary64 x)
whole x t a = amount_of binary64 x t a

part : (y : Float) → T (fits binary64 y) → T (divisor y) → Amount binary64 y (units binary64 y)
part y t d = amount_of binary64 y t (divisor_amount y d)

pos : (y : Float) (t : T (fits binary64 y)) (d : T (divisor y)) → 0 < units binary64 y
pos y t d = divisor_pos binary64 y (units binary64 y) (part y t d).value d

pub returns-then-x-y : goal.returns-then-x-y
returns-then-x-y t c = smaller c.args.x c.args.y (units binary64 c.args.x) (units binary64 c.args.y) (whole c.args.x (subst T (sym c.well_formed.0.1) tt) c.requires.amount) (part c.args.y (subst T (sym c.well_formed.1.0.1) tt) c.requires.divisor) (pos c.args.y (subst T (sym c.well_formed.1.0.1) tt) c.requires.divisor) c.if-x-y.true

pub rest-r-requires : goal.rest-r-requires
rest-r-requires t c =
    let b = part c.args.y (subst T (sym c.well_formed.1.0.1) tt) c.requires.divisor in
    let p = pos c.args.y (subst T (sym c.well_formed.1.0.1) tt) c.requires.divisor in (
      falls t c.args.y (units binary64 c.args.y) b p c.if-y.true (sym c.decreases),
      (
        c.requires.amount,
        pos_divisor binary64 (add binary64 c.args.y c.args.y) (units binary64 c.args.y + units binary64 c.args.y) (doubled c.args.y (units binary64 c.args.y) b c.if-y.true).value (pos_twice (units binary64 c.args.y) p),
      ),
    )

pub returns-then-r-y : goal.returns-then-r-y
returns-then-r-y t c = ended c.args.x c.args.y c.rest-r.result (units binary64 c.args.x) (units binary64 c.args.y) (whole c.args.x (subst T (sym c.well_formed.0.1) tt) c.requires.amount) (part c.args.y (subst T (sym c.well_formed.1.0.1) tt) c.requires.divisor) (pos c.args.y (subst T (sym c.well_formed.1.0.1) tt) c.requires.divisor) c.if-y.true c.rest-r.ensures c.if-r-y.true

pub returns-then-y : goal.returns-then-y
returns-then-y t c = taken c.args.x c.args.y c.rest-r.result (units binary64 c.args.x) (units binary64 c.args.y) (whole c.args.x (subst T (sym c.well_formed.0.1) tt) c.requires.amount) (part c.args.y (subst T (sym c.well_formed.1.0.1) tt) c.requires.divisor) (pos c.args.y (subst T (sym c.well_formed.1.0.1) tt) c.requires.divisor) c.if-y.true c.rest-r.ensures c.if-r-y.false

pub returns : goal.returns
returns t c = larger c.args.x c.args.y (units binary64 c.args.x) (units binary64 c.args.y) (whole c.args.x (subst T (sym c.well_formed.0.1) tt) c.requires.amount) (part c.args.y (subst T (sym c.well_formed.1.0.1) tt) c.requires.divisor) (pos c.args.y (subst T (sym c.well_formed.1.0.1) tt) c.requires.divisor) c.if-x-y.false c.if-y.false
