use Rattle.promises.proofs.Answered.{handed}
use Rattle.promises.proofs.Leaves.{closed_not, closed_is, row_is}
use borrow.Author.Rules.{rules}
use Rattle.reader.proofs.parts.braced.Goals as goal

pub returns-in_err-brace : goal.returns-in_err-brace
returns-in_err-brace c = rw (handed c.from_residual.ensures.1, ← c.in_err-brace.was) (closed_not _ _ _ tt c.expect.ensures _ (λ n. record { kind = c.args.kind; start = c.args.start; end = n; children = c.args.children; value = c.args.value; detail = 0 }) c.args.since c.in_err-brace.was)

pub returns : goal.returns
returns c = closed_is _ _ _ tt c.expect.ensures _ (λ n. record { kind = c.args.kind; start = c.args.start; end = n; children = c.args.children; value = c.args.value; detail = 0 }) c.args.since c.in_ok-brace.was (row_is _ _ _ c.valued_row.ensures c.finish.ensures)
