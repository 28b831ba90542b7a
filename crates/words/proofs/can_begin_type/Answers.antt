use lib.Dec.{eqb}
use Rattle.words.proofs.Tests.{tail3}
use borrow.Author.Rules.{rules}
use Rattle.words.proofs.can_begin_type.Goals as goal

pub returns : goal.returns
returns c = tail3 (eqb c.args.word 52) (eqb c.args.word 42) (eqb c.args.word 40) c.is_path_item.ensures
