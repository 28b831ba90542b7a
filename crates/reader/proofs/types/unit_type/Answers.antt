use Rattle.promises.proofs.Answered.{handed}
use Rattle.promises.proofs.Types.{unit_unopened, unit_unclosed, unit_read}
use borrow.Author.Rules.{rules}
use Rattle.reader.proofs.types.unit_type.Goals as goal

pub returns-in_err-opening : goal.returns-in_err-opening
returns-in_err-opening c = rw (handed c.from_residual.ensures.1, ← c.in_err-opening.was) (unit_unopened c.args.limits c.requires.0 c.requires.1 c.open.ensures c.in_err-opening.was)

pub returns-in_err-closing : goal.returns-in_err-closing
returns-in_err-closing c = rw (handed c.from_residual-in_err-closing.ensures.1, ← c.in_err-closing.was) (unit_unclosed c.args.limits c.requires.0 c.requires.1 c.open.ensures c.in_ok-opening.was c.expect.ensures c.in_err-closing.was)

pub returns : goal.returns
returns c = unit_read c.args.limits c.requires.0 c.requires.1 c.open.ensures c.in_ok-opening.was c.expect.ensures c.in_ok-closing.was c.plain_row.ensures c.finish.ensures.0 c.finish.ensures.1
