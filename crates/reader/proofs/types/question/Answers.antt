use Rattle.promises.proofs.Answered.{handed}
use borrow.Author.Rules.{rules}
use Rattle.parser.specs.Places.{plain_row}
use Rattle.parser.proofs.Steps.{never_refused}
use Rattle.promises.proofs.Leaves.{row_is, wrote_past}
use Rattle.reader.proofs.types.question.Goals as goal

pub returns-in_err-mark : goal.returns-in_err-mark
returns-in_err-mark c = rw (handed c.from_residual.ensures.1, ← c.in_err-mark.was) (λ w l m. never_refused _ _ w l m c.take.ensures c.in_err-mark.was)

pub returns : goal.returns
returns c = λ w l m. wrote_past _ _ _ _ (λ n. plain_row c.args.kind c.args.left.start n.end 1) c.take.ensures c.in_ok-mark.was (row_is _ _ _ c.plain_row.ensures c.finish.ensures)
