use borrow.Author.Rules.{rules}
use Rattle.promises.proofs.Chains.{linked_out, linked_in}
use Rattle.reader.proofs.else_if.Goals as goal
use Rattle.reader.proofs.else_if.Goals.{then-limits-eq0, else-limits-eq0}

pub returns : goal.returns
returns c = elim c.if-limits-eq0.branch [ then-limits-eq0 u ↦ linked_out _ _ c.args.limits u.if-limits-eq0.true u.left-is c.deeper.ensures | else-limits-eq0 u ↦ linked_in _ _ c.args.limits u.if-limits-eq0.false u.left-is c.deeper.ensures ]
