use mathlib.Core.Path.{ap}
use mathlib.Core.Path.{ap}
use mathlib.Core.Path.{ap}
use mathlib.Core.Path.{ap}
use lib.Dec.{eqb}
use mathlib.Core.Bool.{◌||◌}
use Rattle.tokens.proofs.is_name_start.Goals as goal

pub returns : goal.returns
returns c = ap (λ t. t || eqb c.args.b 95) c.is_letter.ensures
