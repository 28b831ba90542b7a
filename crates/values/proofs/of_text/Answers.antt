use mathlib.Core.Path.{refl, ap, ◌∙◌}
use borrow.Author.Tests.{ne_eqb}
use Rattle.numbers.proofs.Choices.{second}
use Rattle.values.specs.Literals.{literal_of, from_value, from_address, from_number, from_amount, from_size}
use Rattle.values.proofs.Literals.{at_code, as_quad, as_point}
use borrow.Author.Rules.{rules}
use Rattle.values.proofs.of_text.Goals as goal

pub returns-in-1 : goal.returns-in-1
unfolding literal_of
returns-in-1 c = at_code c.args.t.now c.in-1.is (c.from_address.ensures ∙ ap (from_address) c.ipv6.ensures)

pub returns-in-2 : goal.returns-in-2
unfolding literal_of
returns-in-2 c = at_code c.args.t.now c.in-2.is (c.from_value.ensures ∙ ap (from_value 14) c.ipv4.ensures ∙ as_quad _)

pub returns-in-5 : goal.returns-in-5
unfolding literal_of
returns-in-5 c = at_code c.args.t.now c.in-5.is (c.from_number.ensures ∙ ap (from_number 13) c.as_number.ensures)

pub returns-in-6 : goal.returns-in-6
unfolding literal_of
returns-in-6 c = at_code c.args.t.now c.in-6.is (c.from_number-in-6.ensures ∙ ap (from_number 10) c.hex.ensures)

pub returns-in-7 : goal.returns-in-7
unfolding literal_of
returns-in-7 c = at_code c.args.t.now c.in-7.is (c.from_amount.ensures ∙ ap (from_amount) c.integer.ensures)

pub returns-in-8 : goal.returns-in-8
unfolding literal_of
returns-in-8 c = at_code c.args.t.now c.in-8.is (c.from_amount-in-8.ensures ∙ ap (from_amount) c.float.ensures)

pub returns-in-9 : goal.returns-in-9
unfolding literal_of
returns-in-9 c = at_code c.args.t.now c.in-9.is (c.from_size.ensures ∙ ap (from_size) c.string.ensures)

pub returns-in-10 : goal.returns-in-10
unfolding literal_of
returns-in-10 c = at_code c.args.t.now c.in-10.is (c.from_value-in-10.ensures ∙ ap (from_value 17) c.char_of.ensures ∙ as_point _)

pub returns-in-12 : goal.returns-in-12
unfolding literal_of
returns-in-12 c = at_code c.args.t.now c.in-12.is c.bool_of.ensures

pub returns-in_default : goal.returns-in_default
unfolding literal_of
returns-in_default c = second _ (ne_eqb _ _ c.in_default.in_default-own.rest.0.0.0.0.0.0.0.0.1) (second _ (ne_eqb _ _ c.in_default.in_default-own.rest.0.0.0.0.0.0.0.1) (second _ (ne_eqb _ _ c.in_default.in_default-own.rest.0.0.0.0.0.0.1) (second _ (ne_eqb _ _ c.in_default.in_default-own.rest.0.0.0.0.0.1) (second _ (ne_eqb _ _ c.in_default.in_default-own.rest.0.0.0.0.1) (second _ (ne_eqb _ _ c.in_default.in_default-own.rest.0.0.0.1) (second _ (ne_eqb _ _ c.in_default.in_default-own.rest.0.0.1) (second _ (ne_eqb _ _ c.in_default.in_default-own.rest.0.1) (second _ (ne_eqb _ _ c.in_default.in_default-own.rest.1) (refl)))))))))
