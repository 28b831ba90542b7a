use mathlib.Core.Path.{refl}
use Prim.Native.Nat.{◌/◌, ◌%◌}
use native.Mathlib.Omega.{arith}
use Rattle.sink.specs.Told.{telling}
use Rattle.sink.proofs.Feeds.{digit_more, four_digits}
use Rattle.sink.proofs.Sink.words.Goals as goal

pub loop-digit-init : goal.loop-digit-init
unfolding telling
loop-digit-init c = refl

pub loop-digit-preserved : goal.loop-digit-preserved
loop-digit-preserved c = digit_more _ _ _ _ c.loop-digit.digit-index (omega arith) c.loop-digit.invariant c.word_of.ensures

pub returns : goal.returns
returns c = let p = c.args.packed in four_digits _ _ c.loop-digit.digit-index (p % 128) (p / 128 % 128) (p / 16384 % 128) _ _ (omega arith) c.round.ensures.0 c.loop-digit.invariant
