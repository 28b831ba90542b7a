use Rattle.words.proofs.Tests.{begins_expr}
use borrow.Author.Rules.{rules}
use Rattle.words.proofs.can_begin_expr.Goals as goal

pub returns : goal.returns
returns c = begins_expr c.args.word c.is_literal.ensures c.is_path_item.ensures c.is_four.ensures
