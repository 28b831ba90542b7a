use mathlib.Core.List.{[], ◌∷◌}
use Rattle.parser.proofs.Standing.{past_word, is_word}
use Rattle.promises.proofs.Imports.{limited}
use Rattle.promises.proofs.Declarations.{const_unnamed, const_no_colon, const_colon, const_untyped, const_no_equals, const_equals, const_no_value, const_unended, const_read}
use Rattle.promises.proofs.Answered.{handed, kept_either}
use borrow.Author.Rules.{rules}
use Rattle.parser.proofs.Steps.{never_refused, took_done}
use Rattle.promises.proofs.Leaves.{start_is}
use Rattle.reader.proofs.declarations.constant.Goals as goal

pub returns-in_err-word : goal.returns-in_err-word
returns-in_err-word c = never_refused _ _ (61 ∷ []) tt (is_word c.requires.1) c.take.ensures c.in_err-word.was

pub identifier-requires : goal.identifier-requires
identifier-requires c = (past_word (61 ∷ []) c.requires.0 tt (is_word c.requires.1) (took_done _ _ c.take.ensures c.in_ok-word.was).here).0

pub returns-in_err-next : goal.returns-in_err-next
returns-in_err-next c = rw (handed c.from_residual-in_err-next.ensures.1, ← c.in_err-next.was) (const_unnamed _ c.args.limits _ _ c.requires.0 c.requires.1 (took_done _ _ c.take.ensures c.in_ok-word.was).here c.identifier.ensures.0 c.in_err-next.was)

pub returns-in_err-next-2 : goal.returns-in_err-next-2
returns-in_err-next-2 c = rw (handed c.from_residual-in_err-next-2.ensures.1, ← c.in_err-next-2.was) (const_no_colon _ c.args.limits _ _ c.requires.0 c.requires.1 (took_done _ _ c.take.ensures c.in_ok-word.was).here c.identifier.ensures.0 c.in_ok-next.was c.expect.ensures c.in_err-next-2.was)

pub type_expr-requires : goal.type_expr-requires
type_expr-requires c = (const_colon _ c.args.limits _ _ c.requires.0 c.requires.1 (took_done _ _ c.take.ensures c.in_ok-word.was).here c.identifier.ensures.0 c.in_ok-next.was c.expect.ensures c.in_ok-next-2.was).stands

pub returns-in_err-next-3 : goal.returns-in_err-next-3
returns-in_err-next-3 c = rw (handed c.from_residual-in_err-next-3.ensures.1, ← c.in_err-next-3.was) (const_untyped _ c.args.limits _ _ c.requires.0 c.requires.1 (took_done _ _ c.take.ensures c.in_ok-word.was).here c.identifier.ensures.0 c.in_ok-next.was c.expect.ensures c.in_ok-next-2.was (limited c.plain-after.ensures c.type_expr.ensures) c.in_err-next-3.was)

pub returns-in_err-next-4 : goal.returns-in_err-next-4
returns-in_err-next-4 c = rw (handed c.from_residual-in_err-next-4.ensures.1, ← c.in_err-next-4.was) (const_no_equals _ c.args.limits _ _ c.requires.0 c.requires.1 (took_done _ _ c.take.ensures c.in_ok-word.was).here c.identifier.ensures.0 c.in_ok-next.was c.expect.ensures c.in_ok-next-2.was (limited c.plain-after.ensures c.type_expr.ensures) c.in_ok-next-3.was c.expect-2.ensures c.in_err-next-4.was)

pub expr-requires : goal.expr-requires
expr-requires c = (const_equals _ c.args.limits _ _ c.requires.0 c.requires.1 (took_done _ _ c.take.ensures c.in_ok-word.was).here c.identifier.ensures.0 c.in_ok-next.was c.expect.ensures c.in_ok-next-2.was (limited c.plain-after.ensures c.type_expr.ensures) c.in_ok-next-3.was c.expect-2.ensures c.in_ok-next-4.was).stands

pub returns-in_err-next-5 : goal.returns-in_err-next-5
returns-in_err-next-5 c = rw (handed c.from_residual-in_err-next-5.ensures.1, ← c.in_err-next-5.was) (const_no_value _ c.args.limits _ _ c.requires.0 c.requires.1 (took_done _ _ c.take.ensures c.in_ok-word.was).here c.identifier.ensures.0 c.in_ok-next.was c.expect.ensures c.in_ok-next-2.was (limited c.plain-after.ensures c.type_expr.ensures) c.in_ok-next-3.was c.expect-2.ensures c.in_ok-next-4.was (limited c.plain-after.ensures c.expr.ensures) c.in_err-next-5.was)

pub returns-in_err-ending : goal.returns-in_err-ending
returns-in_err-ending c = rw (handed c.from_residual-in_err-ending.ensures.1, ← c.in_err-ending.was) (const_unended _ c.args.limits _ _ c.requires.0 c.requires.1 (took_done _ _ c.take.ensures c.in_ok-word.was).here c.identifier.ensures.0 c.in_ok-next.was c.expect.ensures c.in_ok-next-2.was (limited c.plain-after.ensures c.type_expr.ensures) c.in_ok-next-3.was c.expect-2.ensures c.in_ok-next-4.was (limited c.plain-after.ensures c.expr.ensures) c.in_ok-next-5.was c.expect-3.ensures c.in_err-ending.was)

pub returns : goal.returns
returns c = const_read _ c.args.limits _ _ c.requires.0 c.requires.1 (took_done _ _ c.take.ensures c.in_ok-word.was).here c.identifier.ensures.0 c.in_ok-next.was c.expect.ensures c.in_ok-next-2.was (limited c.plain-after.ensures c.type_expr.ensures) c.in_ok-next-3.was c.expect-2.ensures c.in_ok-next-4.was (limited c.plain-after.ensures c.expr.ensures) c.in_ok-next-5.was c.expect-3.ensures c.in_ok-ending.was (start_is c.args.here (took_done _ _ c.take.ensures c.in_ok-word.was).node c.plain_row.ensures) c.finish.ensures
