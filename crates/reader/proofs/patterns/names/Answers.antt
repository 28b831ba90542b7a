use borrow.Author.Rules.{rules}
use native.Mathlib.Omega.{arith}
use mathlib.Core.Path.{refl, ◌∙◌, sym, ap}
use lib.ListN.{length}
use Prim.Native.Nat.{◌+◌, ◌-◌}
use Rattle.promises.proofs.Tests.{true_so, false_so}
use Rattle.promises.proofs.Answered.{handed, kept_either}
use Rattle.promises.proofs.Lists.{Loops, loop_begins, loop_more, loop_falls, loop_room, loop_refused, loop_ends, loop_closes, list_unopened, list_opened, opened_on, no_limits, names_list}
use Rattle.parser.specs.Counted.{counts, opened}
use Rattle.parser.specs.declared.Limits.{Limits}
use Rattle.parser.specs.Places.{next_of}
use mathlib.Core.List.{◌∷◌, []}
use Rattle.parser.proofs.Steps.{never_refused, took_done}
use Rattle.parser.proofs.Standing.{is_word}
use Rattle.grammar.specs.Grammar.{one_of}
use Rattle.grammar.specs.Words.{names}
use Rattle.reader.proofs.patterns.names.Goals as goal

pub returns-in_err-opening : goal.returns-in_err-opening
returns-in_err-opening c = rw (handed c.from_residual.ensures.1, ← c.in_err-opening.was) (list_unopened names_list 42 43 (tt) c.open.ensures c.in_err-opening.was)

pub loop-table-init : goal.loop-table-init
loop-table-init c = λ l. loop_begins names_list (opened_on 42 _ (tt) c.requires c.open.ensures c.in_ok-opening.was).0

pub identifier-requires : goal.identifier-requires
identifier-requires c = (c.loop-table.invariant no_limits).stands

pub returns-in_err-next : goal.returns-in_err-next
returns-in_err-next c = rw (handed c.from_residual-in_err-next.ensures.1, ← c.in_err-next.was) (list_opened names_list 42 43 (tt) c.open.ensures c.in_ok-opening.was refl (loop_refused names_list (c.loop-table.invariant (opened c.args.limits)) 43 _ (true_so (c.is_name.ensures ∙ ap (λ w. one_of w names) c.word.ensures) c.loop-table-test.true) (c.identifier.ensures.0 (counts (opened c.args.limits))) c.in_err-next.was))

pub overflow_add-children : goal.overflow_add-children
overflow_add-children c = omega (arith, loop_room names_list (c.loop-table.invariant no_limits) (omega arith))

pub returns-then-word-ne-COMMA : goal.returns-then-word-ne-COMMA
returns-then-word-ne-COMMA c = list_opened names_list 42 43 (tt) c.open.ensures c.in_ok-opening.was refl (loop_ends names_list (c.loop-table.invariant (opened c.args.limits)) 43 _ (tt) (true_so (c.is_name.ensures ∙ ap (λ w. one_of w names) c.word.ensures) c.loop-table-test.true) (c.identifier.ensures.0 (counts (opened c.args.limits))) c.in_ok-next.was (λ e. c.if-word-ne-COMMA.true (c.word-in-loop-table.ensures ∙ e)) c.close.ensures)

pub returns-in_err-after : goal.returns-in_err-after
returns-in_err-after c = never_refused _ _ (48 ∷ []) tt (is_word (sym c.word-in-loop-table.ensures ∙ c.if-word-ne-COMMA.false)) c.take.ensures c.in_err-after.was

pub loop-table-smaller : goal.loop-table-smaller
loop-table-smaller c = loop_falls names_list (c.loop-table.invariant no_limits) (c.identifier.ensures.0 (counts no_limits)) c.in_ok-next.was (sym c.word-in-loop-table.ensures ∙ c.if-word-ne-COMMA.false) (took_done _ _ c.take.ensures c.in_ok-after.was).here

pub loop-table-preserved : goal.loop-table-preserved
loop-table-preserved c = λ l. loop_more names_list (c.loop-table.invariant l) (true_so (c.is_name.ensures ∙ ap (λ w. one_of w names) c.word.ensures) c.loop-table-test.true) (c.identifier.ensures.0 (counts l)) c.in_ok-next.was (sym c.word-in-loop-table.ensures ∙ c.if-word-ne-COMMA.false) (took_done _ _ c.take.ensures c.in_ok-after.was).here

pub returns : goal.returns
returns c = list_opened names_list 42 43 (tt) c.open.ensures c.in_ok-opening.was refl (loop_closes names_list (c.loop-table.invariant (opened c.args.limits)) 43 _ (tt) (false_so (c.is_name.ensures ∙ ap (λ w. one_of w names) c.word.ensures) c.loop-table-test.false) c.close-2.ensures)
