use Rattle.parser.proofs.Laws.{bump_more, bump_same}
use borrow.Author.Rules.{rules}
use Rattle.parser.proofs.row_more.Goals as goal

pub returns-then-n-lt-MANY_ROWS : goal.returns-then-n-lt-MANY_ROWS
returns-then-n-lt-MANY_ROWS c = bump_more 300000 c.args.n c.if-n-lt-MANY_ROWS.true

pub returns-else-n-lt-MANY_ROWS : goal.returns-else-n-lt-MANY_ROWS
returns-else-n-lt-MANY_ROWS c = bump_same 300000 c.args.n c.if-n-lt-MANY_ROWS.false
