use mathlib.Core.Path.{refl}
use Rattle.layouts.specs.Packed.{place_in}
use Rattle.layouts.proofs.place_of.Goals as goal

pub returns : goal.returns
unfolding place_in
returns c = rw c.of.ensures refl
