use mathlib.Core.Path.{refl}
use Rattle.tokens.specs.Rules.{taken}
use Rattle.tokens.proofs.bump.Goals as goal

pub returns : goal.returns
unfolding taken
returns c = refl
