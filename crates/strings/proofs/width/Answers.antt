use Rattle.strings.proofs.Utf8.{width_one, width_two, width_three, width_four}
use Rattle.strings.proofs.width.Goals as goal

pub returns-then-c-lt-TWO_BYTES : goal.returns-then-c-lt-TWO_BYTES
returns-then-c-lt-TWO_BYTES c = width_one _ c.if-c-lt-TWO_BYTES.true

pub returns-then-c-lt-THREE_BYTES : goal.returns-then-c-lt-THREE_BYTES
returns-then-c-lt-THREE_BYTES c = width_two _ c.if-c-lt-TWO_BYTES.false c.if-c-lt-THREE_BYTES.true

pub returns-then-c-lt-FOUR_BYTES : goal.returns-then-c-lt-FOUR_BYTES
returns-then-c-lt-FOUR_BYTES c = width_three _ c.if-c-lt-TWO_BYTES.false c.if-c-lt-THREE_BYTES.false c.if-c-lt-FOUR_BYTES.true

pub returns-else-c-lt-FOUR_BYTES : goal.returns-else-c-lt-FOUR_BYTES
returns-else-c-lt-FOUR_BYTES c = width_four _ c.if-c-lt-TWO_BYTES.false c.if-c-lt-THREE_BYTES.false c.if-c-lt-FOUR_BYTES.false
