use Rattle.promises.proofs.Answered.{handed}
use borrow.Author.Rules.{rules}
use Rattle.promises.specs.Firsts.{joined_read, joined_table}
use mathlib.Core.Path.{refl}
use Rattle.promises.proofs.Leaves.{row_is, detailed}
use Rattle.reader.proofs.joined.Goals as goal

pub returns-in_err-found : goal.returns-in_err-found
unfolding joined_read joined_table
returns-in_err-found c = rw (handed c.from_residual.ensures.1, ← c.in_err-found.was) (rw c.in_err-found.was (refl, refl))

pub returns : goal.returns
unfolding joined_read joined_table
returns c = rw c.in_ok-found.was (row_is _ _ _ (detailed c.detail_row-row.ensures c.binary_detail.ensures) c.finish.ensures)
