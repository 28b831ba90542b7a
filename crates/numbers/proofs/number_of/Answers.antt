use Rattle.std.proofs.Common.{◌+◌, ◌∷◌, refl, sym, ap, ◌∙◌, arith}
use Rattle.numbers.specs.Digits.{number_from, number_of, radix_of}
use Rattle.chars.proofs.Runs.{byte_in}
use borrow.Author.Tests.{eq-eqb}
use Rattle.numbers.proofs.Choices.{and}
use Rattle.numbers.proofs.Digits.{no_gap, left, left_gap, left_digit, left_end, add_is, add_none, from_end, from_nothing}
use Rattle.numbers.proofs.number_of.Goals as goal

pub loop-b-init : goal.loop-b-init
unfolding number_of
loop-b-init c = record { number = refl; most = omega arith; count = omega arith }

pub loop-b-preserved-then-b-eq-UNDERSCORE : goal.loop-b-preserved-then-b-eq-UNDERSCORE
loop-b-preserved-then-b-eq-UNDERSCORE c = record {
  number = ap (number_from (radix_of c.args.base) c.args.limit c.loop-b.value c.loop-b.digits) (left_gap c.args.gaps c.args.t.now c.loop-b.b-index c.loop-b-test.true (sym (byte_in c.args.t.now c.loop-b.b-index c.loop-b-test.true)) (and c.if-gaps.true (eq-eqb _ 95 c.if-b-eq-UNDERSCORE.true))) ∙ c.loop-b.invariant.number;
  most = c.loop-b.invariant.most;
  count = omega arith;
}

pub returns-in_err-value : goal.returns-in_err-value
returns-in_err-value c =
    c.from_residual.ensures
    ∙ add_none c.args.base c.args.limit c.loop-b.value c.loop-b.digits c.digit.result (left c.args.gaps c.args.t.now (c.loop-b.b-index + 1)) (sym c.in_err-value.ensures)
    ∙ ap (number_from (radix_of c.args.base) c.args.limit c.loop-b.value c.loop-b.digits) (ap (λ d. d ∷ left c.args.gaps c.args.t.now (c.loop-b.b-index + 1)) c.digit.ensures ∙ left_digit c.args.gaps c.args.t.now c.loop-b.b-index c.loop-b-test.true (c.from.ensures ∙ sym (byte_in c.args.t.now c.loop-b.b-index c.loop-b-test.true)) (no_gap c.from.ensures c.else-gaps.either))
    ∙ c.loop-b.invariant.number

pub overflow_add-digits : goal.overflow_add-digits
overflow_add-digits c = omega arith

pub loop-b-preserved : goal.loop-b-preserved
loop-b-preserved c =
    let more = add_is c.args.base c.args.limit c.loop-b.value c.loop-b.digits c.digit.result (left c.args.gaps c.args.t.now (c.loop-b.b-index + 1)) (sym c.in_ok-value.ensures) in
    record {
      number =
          sym more.0
          ∙ ap (number_from (radix_of c.args.base) c.args.limit c.loop-b.value c.loop-b.digits) (ap (λ d. d ∷ left c.args.gaps c.args.t.now (c.loop-b.b-index + 1)) c.digit.ensures ∙ left_digit c.args.gaps c.args.t.now c.loop-b.b-index c.loop-b-test.true (c.from.ensures ∙ sym (byte_in c.args.t.now c.loop-b.b-index c.loop-b-test.true)) (no_gap c.from.ensures c.else-gaps.either))
          ∙ c.loop-b.invariant.number;
      most = more.1;
      count = omega arith;
    }

pub returns-then-digits-eq0 : goal.returns-then-digits-eq0
returns-then-digits-eq0 c = from_nothing _ _ _ _ c.loop-b.invariant.most c.if-digits-eq0.true ∙ ap (number_from (radix_of c.args.base) c.args.limit c.loop-b.value c.loop-b.digits) (left_end c.args.gaps c.args.t.now _ (omega arith)) ∙ c.loop-b.invariant.number

pub returns-else-digits-eq0 : goal.returns-else-digits-eq0
returns-else-digits-eq0 c = from_end _ _ _ _ c.loop-b.invariant.most (omega arith) ∙ ap (number_from (radix_of c.args.base) c.args.limit c.loop-b.value c.loop-b.digits) (left_end c.args.gaps c.args.t.now _ (omega arith)) ∙ c.loop-b.invariant.number
