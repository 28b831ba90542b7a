use Rattle.std.proofs.Common.{rules, ◌+◌, length, drop, refl, ap, ◌∙◌, arith, eqb}
use Rattle.std.specs.Slice.Iter.{split_rest, split_done, split_callee}
use Rattle.std.proofs.lemmas.Iterator.Splits.{YieldsList-from_slice_split}
use Rattle.std.proofs.lemmas.Iterator.Consumers.{YieldsList-turn, YieldsList-end}
use Rattle.std.proofs.lemmas.List.{length_push}
use borrow.Author.Tests.{tests}
use Rattle.addresses.specs.Groups.{separator_of, parts, values_of, heard}
use Rattle.addresses.proofs.Parts.{turn_of, end_of, turn_full, turn_bad, turn_fits, turn_next, turns_out}
use Rattle.addresses.proofs.joined.Goals as goal

pub loop-part-init : goal.loop-part-init
loop-part-init c = record { number = refl; few = λ h. absurd (omega (arith, h)) }

pub returns-then-n-ge-GROUPS : goal.returns-then-n-ge-GROUPS
returns-then-n-ge-GROUPS c =
    let turn =
    turn_of c.args.form c.args.t.now c.separator-separator.ensures
    (YieldsList-turn (YieldsList-from_slice_split _ (λ b. eqb b c.separator-separator.result) c.args.t.now
    (ap split_rest c.into_iter-part-iterator.ensures.into_iter_gives ∙ c.split-part-items.ensures.rest)
    (ap split_done c.into_iter-part-iterator.ensures.into_iter_gives ∙ c.split-part-items.ensures.done)
    (ap split_callee c.into_iter-part-iterator.ensures.into_iter_gives ∙ c.split-part-items.ensures.closure)
    (λ x b q k. search (rules, tests)))
    c.loop-part.yielded _ c.loop-part.yielded_by _ _ c.in-Some.part c.in-Some.is c.next.ensures.steps) in
    turn_full c.args.form (parts (separator_of c.args.form) c.args.t.now) (length c.loop-part.yielded) c.loop-part.n c.loop-part.w turn c.if-n-ge-GROUPS.true ∙ c.loop-part.invariant.number

pub returns-in_err-value : goal.returns-in_err-value
returns-in_err-value c =
    let turn =
    turn_of c.args.form c.args.t.now c.separator-separator.ensures
    (YieldsList-turn (YieldsList-from_slice_split _ (λ b. eqb b c.separator-separator.result) c.args.t.now
    (ap split_rest c.into_iter-part-iterator.ensures.into_iter_gives ∙ c.split-part-items.ensures.rest)
    (ap split_done c.into_iter-part-iterator.ensures.into_iter_gives ∙ c.split-part-items.ensures.done)
    (ap split_callee c.into_iter-part-iterator.ensures.into_iter_gives ∙ c.split-part-items.ensures.closure)
    (λ x b q k. search (rules, tests)))
    c.loop-part.yielded _ c.loop-part.yielded_by _ _ c.in-Some.part c.in-Some.is c.next.ensures.steps) in
    c.from_residual.ensures ∙ turn_bad c.args.form (parts (separator_of c.args.form) c.args.t.now) (length c.loop-part.yielded) c.loop-part.n c.loop-part.w turn c.group.ensures c.in_err-value.was ∙ c.loop-part.invariant.number

pub push-w-requires : goal.push-w-requires
push-w-requires c =
    let turn =
    turn_of c.args.form c.args.t.now c.separator-separator.ensures
    (YieldsList-turn (YieldsList-from_slice_split _ (λ b. eqb b c.separator-separator.result) c.args.t.now
    (ap split_rest c.into_iter-part-iterator.ensures.into_iter_gives ∙ c.split-part-items.ensures.rest)
    (ap split_done c.into_iter-part-iterator.ensures.into_iter_gives ∙ c.split-part-items.ensures.done)
    (ap split_callee c.into_iter-part-iterator.ensures.into_iter_gives ∙ c.split-part-items.ensures.closure)
    (λ x b q k. search (rules, tests)))
    c.loop-part.yielded _ c.loop-part.yielded_by _ _ c.in-Some.part c.in-Some.is c.next.ensures.steps) in
    turn_fits c.args.form (parts (separator_of c.args.form) c.args.t.now) (length c.loop-part.yielded) c.loop-part.n c.loop-part.w turn c.group.ensures c.in_ok-value.was

pub loop-part-preserved : goal.loop-part-preserved
loop-part-preserved c =
    let turn =
    turn_of c.args.form c.args.t.now c.separator-separator.ensures
    (YieldsList-turn (YieldsList-from_slice_split _ (λ b. eqb b c.separator-separator.result) c.args.t.now
    (ap split_rest c.into_iter-part-iterator.ensures.into_iter_gives ∙ c.split-part-items.ensures.rest)
    (ap split_done c.into_iter-part-iterator.ensures.into_iter_gives ∙ c.split-part-items.ensures.done)
    (ap split_callee c.into_iter-part-iterator.ensures.into_iter_gives ∙ c.split-part-items.ensures.closure)
    (λ x b q k. search (rules, tests)))
    c.loop-part.yielded _ c.loop-part.yielded_by _ _ c.in-Some.part c.in-Some.is c.next.ensures.steps) in
    let count = length_push c.loop-part.yielded c.in-Some.part in
    record {
      number =
          ap (λ k. heard c.args.form (c.loop-part.n + 1) c.push-w.result (values_of c.args.form (drop k (parts (separator_of c.args.form) c.args.t.now)))) count
          ∙ turn_next c.args.form (parts (separator_of c.args.form) c.args.t.now) (length c.loop-part.yielded) c.loop-part.n c.loop-part.w turn c.group.ensures c.in_ok-value.was c.push-w.ensures
          ∙ c.loop-part.invariant.number;
      few = λ h. omega arith;
    }

pub returns : goal.returns
returns c =
    let done =
    end_of c.args.form c.args.t.now c.separator-separator.ensures
    (YieldsList-end (YieldsList-from_slice_split _ (λ b. eqb b c.separator-separator.result) c.args.t.now
    (ap split_rest c.into_iter-part-iterator.ensures.into_iter_gives ∙ c.split-part-items.ensures.rest)
    (ap split_done c.into_iter-part-iterator.ensures.into_iter_gives ∙ c.split-part-items.ensures.done)
    (ap split_callee c.into_iter-part-iterator.ensures.into_iter_gives ∙ c.split-part-items.ensures.closure)
    (λ x b q k. search (rules, tests)))
    c.loop-part.yielded _ c.loop-part.yielded_by _ _ c.in-None.is c.next.ensures.steps).1 in
    turns_out c.args.form c.args.t.now (length c.loop-part.yielded) c.loop-part.n c.loop-part.w done c.loop-part.invariant.few ∙ c.loop-part.invariant.number
