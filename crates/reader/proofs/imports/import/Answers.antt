use Rattle.promises.proofs.Answered.{handed}
use mathlib.Core.List.{[], ◌∷◌}
use Rattle.parser.proofs.Standing.{past_word, is_word}
use Rattle.promises.proofs.Imports.{limited, import_refused, import_unended, import_read}
use borrow.Author.Rules.{rules}
use Rattle.parser.proofs.Steps.{never_refused, took_done}
use Rattle.reader.proofs.imports.import.Goals as goal

pub returns-in_err-next : goal.returns-in_err-next
returns-in_err-next c = never_refused _ _ (70 ∷ []) tt (is_word c.requires.1) c.take.ensures c.in_err-next.was

pub imported-requires : goal.imported-requires
imported-requires c = (past_word (70 ∷ []) c.requires.0 tt (is_word c.requires.1) (took_done _ _ c.take.ensures c.in_ok-next.was).here).0

pub returns-in_err-found : goal.returns-in_err-found
returns-in_err-found c = rw (handed c.from_residual-in_err-found.ensures.1, ← c.in_err-found.was) (import_refused _ c.args.limits _ _ c.requires.0 c.requires.1 (took_done _ _ c.take.ensures c.in_ok-next.was).here (limited c.plain.ensures c.imported.ensures) c.in_err-found.was)

pub returns-in_err-behind : goal.returns-in_err-behind
returns-in_err-behind c = rw (handed c.from_residual-in_err-behind.ensures.1, ← c.in_err-behind.was) (import_unended _ c.args.limits _ _ c.requires.0 c.requires.1 (took_done _ _ c.take.ensures c.in_ok-next.was).here (limited c.plain.ensures c.imported.ensures) c.in_ok-found.was c.expect.ensures c.in_err-behind.was)

pub returns : goal.returns
returns c = import_read _ c.args.limits _ _ c.requires.0 c.requires.1 (took_done _ _ c.take.ensures c.in_ok-next.was).here (limited c.plain.ensures c.imported.ensures) c.in_ok-found.was c.expect.ensures c.in_ok-behind.was
