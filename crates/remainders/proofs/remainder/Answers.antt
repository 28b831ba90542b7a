use mathlib.Core.Path.{sym, ◌∙◌}
use Rattle.remainders.proofs.Signs.{endless, by_nan, by_endless, abs_amount, abs_divisor, by_zero, negative, plain}
use Rattle.remainders.proofs.remainder.Goals as goal

pub returns-then-not-is_finite : goal.returns-then-not-is_finite
returns-then-not-is_finite c = endless c.args.a c.args.b (sym c.is_finite.ensures.value ∙ c.if-not-is_finite.true)

pub returns-then-is_nan : goal.returns-then-is_nan
returns-then-is_nan c = by_nan c.args.a c.args.b (sym c.is_finite.ensures.value ∙ c.if-not-is_finite.false) (sym c.is_nan.ensures.value ∙ c.if-is_nan.true)

pub returns-then-not-is_finite-2 : goal.returns-then-not-is_finite-2
returns-then-not-is_finite-2 c = by_endless c.args.a c.args.b (sym c.is_finite.ensures.value ∙ c.if-not-is_finite.false) (sym c.is_nan.ensures.value ∙ c.if-is_nan.false) (sym c.is_finite-2.ensures.value ∙ c.if-not-is_finite-2.true)

pub rest-r-requires-clause-amount : goal.rest-r-requires-clause-amount
rest-r-requires-clause-amount c = abs_amount c.args.a c.abs.result (sym c.is_finite.ensures.value ∙ c.if-not-is_finite.false) c.abs.ensures.value

pub rest-r-requires-clause-divisor : goal.rest-r-requires-clause-divisor
rest-r-requires-clause-divisor c = abs_divisor c.args.b c.abs-y.result (sym c.is_finite-2.ensures.value ∙ c.if-not-is_finite-2.false) c.abs-y.ensures.value c.if-y.true

pub returns-then-is_sign_negative : goal.returns-then-is_sign_negative
returns-then-is_sign_negative c =
    negative c.args.a c.args.b c.abs.result c.abs-y.result c.rest-r.result (sym c.is_finite.ensures.value ∙ c.if-not-is_finite.false) (sym c.is_finite-2.ensures.value ∙ c.if-not-is_finite-2.false) c.abs.ensures.value c.abs-y.ensures.value c.rest-r.ensures (sym c.if-is_sign_negative.true ∙ c.is_sign_negative.ensures)

pub returns-then-y : goal.returns-then-y
returns-then-y c =
    plain c.args.a c.args.b c.abs.result c.abs-y.result c.rest-r.result (sym c.is_finite.ensures.value ∙ c.if-not-is_finite.false) (sym c.is_finite-2.ensures.value ∙ c.if-not-is_finite-2.false) c.abs.ensures.value c.abs-y.ensures.value c.rest-r.ensures (sym c.if-is_sign_negative.false ∙ c.is_sign_negative.ensures)

pub returns : goal.returns
returns c = by_zero c.args.a c.args.b c.abs-y.result (sym c.is_finite.ensures.value ∙ c.if-not-is_finite.false) (sym c.is_finite-2.ensures.value ∙ c.if-not-is_finite-2.false) c.abs-y.ensures.value c.if-y.false
