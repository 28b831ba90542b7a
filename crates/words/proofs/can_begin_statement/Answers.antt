use lib.Dec.{eqb}
use Rattle.words.proofs.Tests.{tail2}
use borrow.Author.Rules.{rules}
use Rattle.words.proofs.can_begin_statement.Goals as goal

pub returns : goal.returns
returns c = tail2 (eqb c.args.word 70) (eqb c.args.word 72) c.can_begin_expr.ensures
