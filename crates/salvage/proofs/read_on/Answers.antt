use mathlib.Core.Path.{sym, ap, ◌∙◌}
use mathlib.Core.Bool.{false}
use Prim.Native.Nat.{ℕ, ◌-◌}
use native.Mathlib.Omega.{arith}
use Rattle.grammar.specs.Grammar.{one_of}
use Rattle.parser.specs.declared.Here.{Here}
use Rattle.parser.specs.Places.{next_of}
use Rattle.promises.specs.Firsts.{firsts_by}
use Rattle.promises.proofs.Tests.{true_so, false_so}
use Rattle.salvage.proofs.Onward.{Onward, goes_on, counts_few, at_broken, reaches_end, reaches_other, reaches_broken, goes_again, later_on, sum_few}
use borrow.Author.Rules.{rules}
use Rattle.salvage.proofs.read_on.Goals as goal

pub loop-table-init : goal.loop-table-init
loop-table-init c = goes_on _ _ _ c.requires.0 c.requires.1 c.look-here.ensures

pub declare-r-requires : goal.declare-r-requires
declare-r-requires c = c.loop-table.invariant.stands

pub returns-in_default : goal.returns-in_default
returns-in_default c = reaches_broken c.loop-table.invariant (true_so (c.begins_declaration.ensures ∙ ap (λ (w : ℕ). one_of w (firsts_by false)) c.word.ensures) c.loop-table-test.true) c.declare-r.ensures c.in_default.is c.broken_by.ensures

pub overflow_add-rows : goal.overflow_add-rows
overflow_add-rows c = omega (arith, sum_few c.loop-table.invariant (true_so (c.begins_declaration.ensures ∙ ap (λ (w : ℕ). one_of w (firsts_by false)) c.word.ensures) c.loop-table-test.true) c.declare-r.ensures c.in-Ok.is)

pub overflow_add-children : goal.overflow_add-children
overflow_add-children c = omega (arith, counts_few c.loop-table.invariant)

pub loop-table-smaller : goal.loop-table-smaller
loop-table-smaller c = let e = ap (λ (y : Here). next_of y) c.afresh-here.ensures in let l = later_on c.loop-table.invariant (true_so (c.begins_declaration.ensures ∙ ap (λ (w : ℕ). one_of w (firsts_by false)) c.word.ensures) c.loop-table-test.true) c.declare-r.ensures c.in-Ok.is in omega (arith, e, l, counts_few c.loop-table.invariant)

pub loop-table-preserved : goal.loop-table-preserved
loop-table-preserved c = goes_again c.loop-table.invariant (true_so (c.begins_declaration.ensures ∙ ap (λ (w : ℕ). one_of w (firsts_by false)) c.word.ensures) c.loop-table-test.true) c.declare-r.ensures c.in-Ok.is c.afresh-here.ensures

pub returns-then-word-ne-NONE : goal.returns-then-word-ne-NONE
returns-then-word-ne-NONE c = reaches_other c.loop-table.invariant (false_so (c.begins_declaration.ensures ∙ ap (λ (w : ℕ). one_of w (firsts_by false)) c.word.ensures) c.loop-table-test.false) (λ e. c.if-word-ne-NONE.true (c.word-2.ensures ∙ e)) c.unusable.ensures c.broken_by-then-word-ne-NONE.ensures

pub returns : goal.returns
returns c = reaches_end c.loop-table.invariant (sym c.word-2.ensures ∙ c.if-word-ne-NONE.false)
