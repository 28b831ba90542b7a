use native.Mathlib.Omega.{arith}
use native.Mathlib.Nat.{mod-lt}
use lib.Dec.{lit<}
use Rattle.addresses.proofs.Parts.{push_dotted, push_hexed, push_fits}
use Rattle.addresses.proofs.Parts.{push_dotted, push_hexed}
use mathlib.Core.Path.{refl}
use Rattle.addresses.specs.Groups.{push_of}
use Rattle.addresses.proofs.push.Goals as goal

pub overflow_add-result-in-Hexed : goal.overflow_add-result-in-Hexed
overflow_add-result-in-Hexed c = record { fits = push_fits (mod-lt _ (lit< tt)) (omega arith) }

pub returns-in-Dotted : goal.returns-in-Dotted
unfolding push_of
returns-in-Dotted c = push_dotted _ _ c.in-Dotted.is refl

pub returns-in-Hexed : goal.returns-in-Hexed
unfolding push_of
returns-in-Hexed c = push_hexed _ _ c.in-Hexed.is refl
