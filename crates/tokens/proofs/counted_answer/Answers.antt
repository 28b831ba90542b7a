use mathlib.Core.Path.{refl}
use mathlib.Core.Path.{refl}
use mathlib.Core.Path.{refl}
use mathlib.Core.Path.{refl}
use Rattle.tokens.proofs.Fits.{first, second}
use borrow.Author.Tests.{le-leb, lt-leb}
use Rattle.tokens.proofs.counted_answer.Goals as goal

pub returns-then-count-room : goal.returns-then-count-room
returns-then-count-room c = first _ (le-leb _ _ c.if-count-room.true) refl

pub returns-else-count-room : goal.returns-else-count-room
returns-else-count-room c = second _ (lt-leb _ _ c.if-count-room.false) refl
