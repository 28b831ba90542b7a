use Rattle.promises.proofs.Answered.{handed}
use borrow.Author.Rules.{rules}
use Rattle.parser.specs.Places.{plain_row}
use Rattle.parser.proofs.Steps.{never_refused}
use Rattle.promises.proofs.Leaves.{row_is, wrote_past}
use Rattle.reader.proofs.names.leaf.Goals as goal

pub returns-in_err-token : goal.returns-in_err-token
returns-in_err-token c = rw (handed c.from_residual.ensures.1, ← c.in_err-token.was) (λ w l m. never_refused _ _ w l m c.take.ensures c.in_err-token.was)

pub returns : goal.returns
returns c = λ w l m. wrote_past _ _ _ _ (λ n. plain_row c.args.kind n.start n.end 0) c.take.ensures c.in_ok-token.was (row_is _ _ _ c.plain_row-row.ensures c.finish.ensures)
