use mathlib.Core.List.{[], ◌∷◌}
use Rattle.grammar.specs.Words.{dot}
use Prim.Native.Nat.{◌+◌, ◌-◌}
use lib.ListN.{length}
use native.Mathlib.Omega.{arith}
use Rattle.grammar.specs.Limits.{zeros}
use Rattle.parser.proofs.Standing.{past_word, is_word}
use Rattle.parser.proofs.Going.{few_rows}
use Rattle.promises.proofs.Answered.{handed, kept_either}
use Rattle.promises.proofs.Leaves.{row_is}
use Rattle.promises.proofs.Paths.{Goes, path_begins, path_refused, path_fails, path_more, path_onward, path_ends, undotted_done}
use borrow.Author.Rules.{rules}
use Rattle.parser.specs.Places.{next_of}
use mathlib.Core.Path.{sym, ◌∙◌}
use Rattle.parser.proofs.Steps.{never_refused, took_done}
use Rattle.reader.proofs.names.path.Goals as goal

pub path_item-requires : goal.path_item-requires
path_item-requires c = c.requires

pub returns-in_err-first : goal.returns-in_err-first
returns-in_err-first c = rw (handed c.from_residual.ensures.1, ← c.in_err-first.was) ((λ d. path_refused _ _ _ d c.requires c.path_item.ensures c.in_err-first.was, tt))

pub loop-here-init : goal.loop-here-init
loop-here-init c = λ d i t b. b

pub returns-in_err-behind : goal.returns-in_err-behind
returns-in_err-behind c = never_refused _ _ (49 ∷ []) tt (is_word (sym c.word.ensures ∙ c.loop-here-test.true)) c.take.ensures c.in_err-behind.was

pub path_item-requires-in-loop-here : goal.path_item-requires-in-loop-here
path_item-requires-in-loop-here c = (past_word (dot ∷ []) (c.loop-here.invariant zeros _ _ (path_begins _ _ _ zeros c.requires c.path_item.ensures c.in_ok-first.was)).going.stands tt (is_word (sym c.word.ensures ∙ c.loop-here-test.true)) (took_done _ _ c.take.ensures c.in_ok-behind.was).here).0

pub returns-in_err-found : goal.returns-in_err-found
returns-in_err-found c = rw (handed c.from_residual-in_err-found.ensures.1, ← c.in_err-found.was) ((λ d. path_fails _ _ _ d (c.loop-here.invariant d _ _ (path_begins _ _ _ d c.requires c.path_item.ensures c.in_ok-first.was)) (sym c.word.ensures ∙ c.loop-here-test.true) (took_done _ _ c.take.ensures c.in_ok-behind.was).here c.path_item-in-loop-here.ensures c.in_err-found.was, tt))

pub overflow_add-children : goal.overflow_add-children
overflow_add-children c = omega (arith, few_rows (c.loop-here.invariant zeros _ _ (path_begins _ _ _ zeros c.requires c.path_item.ensures c.in_ok-first.was)).going)

pub loop-here-smaller : goal.loop-here-smaller
loop-here-smaller c = omega (arith, path_onward _ _ _ zeros (c.loop-here.invariant zeros _ _ (path_begins _ _ _ zeros c.requires c.path_item.ensures c.in_ok-first.was)) (sym c.word.ensures ∙ c.loop-here-test.true) (took_done _ _ c.take.ensures c.in_ok-behind.was).here c.path_item-in-loop-here.ensures c.in_ok-found.was)

pub loop-here-preserved : goal.loop-here-preserved
loop-here-preserved c = λ d i t b. path_more _ _ _ d (c.loop-here.invariant d i t b) (sym c.word.ensures ∙ c.loop-here-test.true) (took_done _ _ c.take.ensures c.in_ok-behind.was).here c.path_item-in-loop-here.ensures c.in_ok-found.was

pub returns : goal.returns
returns c = (λ d. path_ends _ _ _ d (c.loop-here.invariant d _ _ (path_begins _ _ _ d c.requires c.path_item.ensures c.in_ok-first.was)) (λ e. c.loop-here-test.false (c.word.ensures ∙ e)) (row_is _ _ _ c.plain_row.ensures c.finish.ensures).0 (row_is _ _ _ c.plain_row.ensures c.finish.ensures).1, undotted_done c.finish.ensures.0 (λ e. c.loop-here-test.false (c.word.ensures ∙ e)))
