use mathlib.Core.Path.{refl}
use Rattle.nodes.specs.Nodes.{node_at}
use Rattle.nodes.proofs.Node.at.Goals as goal

pub returns : goal.returns
unfolding node_at
returns c = refl
