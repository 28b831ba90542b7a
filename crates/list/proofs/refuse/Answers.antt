use Rattle.list.specs.States.{failed}
use Rattle.list.proofs.refuse.Goals as goal

pub returns : goal.returns
unfolding failed
returns c = rw c.count_tokens.ensures
