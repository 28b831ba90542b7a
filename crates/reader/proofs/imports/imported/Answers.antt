use Rattle.promises.proofs.Answered.{handed}
use Rattle.promises.proofs.Imports.{imported_refused, imported_read}
use borrow.Author.Rules.{rules}
use Rattle.reader.proofs.imports.imported.Goals as goal

pub import_path-requires : goal.import_path-requires
import_path-requires c = c.requires

pub returns-in_err-found : goal.returns-in_err-found
returns-in_err-found c = rw (handed c.from_residual.ensures.1, ← c.in_err-found.was) (imported_refused _ _ _ _ c.requires c.import_path.ensures c.in_err-found.was)

pub returns : goal.returns
returns c = imported_read _ _ _ _ c.requires c.import_path.ensures c.in_ok-found.was c.plain_row.ensures c.finish.ensures
