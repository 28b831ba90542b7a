use Rattle.std.proofs.Common.{rules, ◌≡◌, drop, ◌∙◌, arith, eqb}
use Rattle.std.specs.Prelude.{position}
use Rattle.std.proofs.lemmas.Iterator.{YieldsList-from_slice}
use Rattle.std.proofs.lemmas.Iterator.Search.{position_from_yields_List}
use mathlib.Core.Logic.{inl, inr}
use borrow.Author.Tests.{tests}
use Rattle.numbers.proofs.Texts.{tail_part, until_end, until_found}
use Rattle.numbers.proofs.until.Goals as goal

pub returns-in_default : goal.returns-in_default
returns-in_default c = until_end _ c.args.t.now c.args.at (elim c.in_default.ensures.lookup.0 [ inl h ↦ omega (arith, h) | inr h ↦ omega (arith, h) ])

pub returns : goal.returns
returns c =
    let rest : c.in-Some.rest.now ≡ drop c.args.at c.args.t.now = c.in-Some.ensures.lookup.0.2 ∙ tail_part c.args.t.now c.args.at in
    let found : c.position.result ≡ position (λ b. eqb b c.args.stop) c.in-Some.rest.now =
    position_from_yields_List (λ b. eqb b c.args.stop) _ _ c.position.result c.position.ensures.ran (YieldsList-from_slice c.in-Some.rest.now c.iter.ensures.rest) (λ x b q k. search (rules, tests)) in
    until_found c.args.stop c.args.t.now c.args.at rest found c.unwrap_or.ensures
