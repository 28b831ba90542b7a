use Rattle.numbers.specs.Numbers.{ceiling_of}
use Rattle.constants.proofs.Told.{integer_in}
use Rattle.constants.specs.Types.{integer_fault}
use Rattle.constants.proofs.integer_fault.Goals as goal

pub returns-then-w-le-U64 : goal.returns-then-w-le-U64
unfolding integer_fault ceiling_of
returns-then-w-le-U64 c = integer_in _ _ c.if-w-le-U64.true c.fine.ensures
