use mathlib.Core.Path.{◌≡◌}
use Rattle.std.specs.Prelude.{take}
use Rattle.sink.specs.Told.{written, fed}
use Rattle.sink.proofs.put_all.Given as goal

abbrev pub invariant-loop-b : goal.invariant-loop-b
invariant-loop-b l = written l.text l.to ≡ fed (written l.initial.text l.at) (take l.b-index l.t)
