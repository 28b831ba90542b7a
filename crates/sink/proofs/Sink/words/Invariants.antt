use mathlib.Core.Path.{◌≡◌}
use Rattle.std.specs.Prelude.{take}
use Rattle.sink.specs.Told.{state, telling}
use Rattle.sink.proofs.Feeds.{digits}
use Rattle.sink.proofs.Sink.words.Given as goal

abbrev pub invariant-loop-digit : goal.invariant-loop-digit
invariant-loop-digit l = state l.text l.self ≡ telling (state l.initial.text l.initial.self) (digits (take l.digit-index l.digit-items))
