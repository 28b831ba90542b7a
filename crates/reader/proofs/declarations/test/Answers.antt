use mathlib.Core.List.{[], ◌∷◌}
use Rattle.parser.proofs.Standing.{past_word, is_word}
use Rattle.promises.proofs.Imports.{limited}
use Rattle.promises.proofs.Declarations.{test_unnamed, test_named, test_no_block, test_read}
use Rattle.promises.proofs.Answered.{handed, kept_either}
use borrow.Author.Rules.{rules}
use Rattle.parser.proofs.Steps.{never_refused, took_done}
use Rattle.promises.proofs.Leaves.{start_is}
use Rattle.reader.proofs.declarations.test.Goals as goal

pub returns-in_err-word : goal.returns-in_err-word
returns-in_err-word c = never_refused _ _ (80 ∷ []) tt (is_word c.requires.1) c.take.ensures c.in_err-word.was

pub identifier-requires : goal.identifier-requires
identifier-requires c = (past_word (80 ∷ []) c.requires.0 tt (is_word c.requires.1) (took_done _ _ c.take.ensures c.in_ok-word.was).here).0

pub returns-in_err-next : goal.returns-in_err-next
returns-in_err-next c = rw (handed c.from_residual-in_err-next.ensures.1, ← c.in_err-next.was) (test_unnamed _ c.args.limits _ _ c.requires.0 c.requires.1 (took_done _ _ c.take.ensures c.in_ok-word.was).here c.identifier.ensures.0 c.in_err-next.was)

pub block-requires : goal.block-requires
block-requires c = (test_named _ c.args.limits _ _ c.requires.0 c.requires.1 (took_done _ _ c.take.ensures c.in_ok-word.was).here c.identifier.ensures.0 c.in_ok-next.was).stands

pub returns-in_err-body : goal.returns-in_err-body
returns-in_err-body c = rw (handed c.from_residual-in_err-body.ensures.1, ← c.in_err-body.was) (test_no_block _ c.args.limits _ _ c.requires.0 c.requires.1 (took_done _ _ c.take.ensures c.in_ok-word.was).here c.identifier.ensures.0 c.in_ok-next.was (limited c.plain-after.ensures c.block.ensures) c.in_err-body.was)

pub returns : goal.returns
returns c = test_read _ c.args.limits _ _ c.requires.0 c.requires.1 (took_done _ _ c.take.ensures c.in_ok-word.was).here c.identifier.ensures.0 c.in_ok-next.was (limited c.plain-after.ensures c.block.ensures) c.in_ok-body.was (start_is c.args.here (took_done _ _ c.take.ensures c.in_ok-word.was).node c.plain_row.ensures) c.finish.ensures
