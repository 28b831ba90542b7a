use mathlib.Core.Path.{refl}
use mathlib.Core.Path.{refl}
use mathlib.Core.Path.{refl}
use mathlib.Core.Path.{refl}
use Rattle.tokens.specs.Rules.{refused}
use Rattle.tokens.proofs.refuse.Goals as goal

pub returns : goal.returns
unfolding refused
returns c = refl
