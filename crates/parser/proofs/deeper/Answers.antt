use Rattle.parser.proofs.Laws.{under_in, under_out, under_none}
use borrow.Author.Rules.{rules}
use Rattle.parser.proofs.deeper.Goals as goal

pub returns-in_default : goal.returns-in_default
returns-in_default c = under_none c.args.s.now c.args.here c.args.left c.in_default.is c.unusable.ensures

pub returns-then-left-eq0 : goal.returns-then-left-eq0
returns-then-left-eq0 c = under_out c.args.s.now c.args.here c.args.left c.if-left-eq0.true c.in-Ok.is c.refuse.ensures

pub returns : goal.returns
returns c = under_in c.args.s.now c.args.here c.args.left c.if-left-eq0.false c.in-Ok.is c.take.ensures
