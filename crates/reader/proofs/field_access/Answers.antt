use Rattle.promises.proofs.Answered.{handed}
use mathlib.Core.List.{[], ◌∷◌}
use Rattle.parser.proofs.Standing.{past_word, is_word}
use Rattle.promises.proofs.Operands.{access_stops, accessed}
use borrow.Author.Rules.{rules}
use Rattle.parser.proofs.Steps.{never_refused, took_done}
use Rattle.reader.proofs.field_access.Goals as goal

pub returns-in_err-next : goal.returns-in_err-next
returns-in_err-next c = never_refused _ _ (49 ∷ []) tt (is_word c.requires.1) c.take.ensures c.in_err-next.was

pub identifier-requires : goal.identifier-requires
identifier-requires c = (past_word (49 ∷ []) c.requires.0 tt (is_word c.requires.1) (took_done _ _ c.take.ensures c.in_ok-next.was).here).0

pub returns-in_err-name : goal.returns-in_err-name
returns-in_err-name c = rw (handed c.from_residual-in_err-name.ensures.1, ← c.in_err-name.was) ((access_stops _ _ _ _ c.args.since c.requires.0 c.requires.1 (took_done _ _ c.take.ensures c.in_ok-next.was).here c.identifier.ensures.0 c.in_err-name.was).0, tt)

pub returns : goal.returns
returns c = accessed _ _ _ _ c.args.since c.requires.0 c.requires.1 (took_done _ _ c.take.ensures c.in_ok-next.was).here c.identifier.ensures.0 c.in_ok-name.was c.plain_row.ensures c.finish.ensures.0 c.finish.ensures.1
