use mathlib.Core.Path.{ap, ◌∙◌}
use native.Mathlib.Omega.{arith}
use lib.ListN.{length-set}
use lib.Seq.{sets}
use Rattle.strings.proofs.Utf8.{width_one, width_two, width_three, width_four, utf8_one, utf8_two, utf8_three, utf8_four, sets_two, sets_three, sets_four}
use Rattle.strings.proofs.emit.Goals as goal

pub bounds-out-at : goal.bounds-out-at
bounds-out-at c = omega (arith, c.requires.1, width_one c.args.c c.if-c-lt-TWO_BYTES.true)

pub bounds-out-at-then-c-lt-THREE_BYTES : goal.bounds-out-at-then-c-lt-THREE_BYTES
bounds-out-at-then-c-lt-THREE_BYTES c = omega (arith, c.requires.1, width_two c.args.c c.if-c-lt-TWO_BYTES.false c.if-c-lt-THREE_BYTES.true)

pub bounds-out-at-then-c-lt-THREE_BYTES-2 : goal.bounds-out-at-then-c-lt-THREE_BYTES-2
bounds-out-at-then-c-lt-THREE_BYTES-2 c = simp length-set (omega (arith, c.requires.1, width_two c.args.c c.if-c-lt-TWO_BYTES.false c.if-c-lt-THREE_BYTES.true))

pub bounds-out-at-then-c-lt-FOUR_BYTES : goal.bounds-out-at-then-c-lt-FOUR_BYTES
bounds-out-at-then-c-lt-FOUR_BYTES c = omega (arith, c.requires.1, width_three c.args.c c.if-c-lt-TWO_BYTES.false c.if-c-lt-THREE_BYTES.false c.if-c-lt-FOUR_BYTES.true)

pub bounds-out-at-then-c-lt-FOUR_BYTES-2 : goal.bounds-out-at-then-c-lt-FOUR_BYTES-2
bounds-out-at-then-c-lt-FOUR_BYTES-2 c = simp length-set (omega (arith, c.requires.1, width_three c.args.c c.if-c-lt-TWO_BYTES.false c.if-c-lt-THREE_BYTES.false c.if-c-lt-FOUR_BYTES.true))

pub bounds-out-at-then-c-lt-FOUR_BYTES-3 : goal.bounds-out-at-then-c-lt-FOUR_BYTES-3
bounds-out-at-then-c-lt-FOUR_BYTES-3 c = simp length-set (omega (arith, c.requires.1, width_three c.args.c c.if-c-lt-TWO_BYTES.false c.if-c-lt-THREE_BYTES.false c.if-c-lt-FOUR_BYTES.true))

pub bounds-out-at-else-c-lt-FOUR_BYTES : goal.bounds-out-at-else-c-lt-FOUR_BYTES
bounds-out-at-else-c-lt-FOUR_BYTES c = omega (arith, c.requires.1, width_four c.args.c c.if-c-lt-TWO_BYTES.false c.if-c-lt-THREE_BYTES.false c.if-c-lt-FOUR_BYTES.false)

pub bounds-out-at-else-c-lt-FOUR_BYTES-2 : goal.bounds-out-at-else-c-lt-FOUR_BYTES-2
bounds-out-at-else-c-lt-FOUR_BYTES-2 c = simp length-set (omega (arith, c.requires.1, width_four c.args.c c.if-c-lt-TWO_BYTES.false c.if-c-lt-THREE_BYTES.false c.if-c-lt-FOUR_BYTES.false))

pub bounds-out-at-else-c-lt-FOUR_BYTES-3 : goal.bounds-out-at-else-c-lt-FOUR_BYTES-3
bounds-out-at-else-c-lt-FOUR_BYTES-3 c = simp length-set (omega (arith, c.requires.1, width_four c.args.c c.if-c-lt-TWO_BYTES.false c.if-c-lt-THREE_BYTES.false c.if-c-lt-FOUR_BYTES.false))

pub bounds-out-at-else-c-lt-FOUR_BYTES-4 : goal.bounds-out-at-else-c-lt-FOUR_BYTES-4
bounds-out-at-else-c-lt-FOUR_BYTES-4 c = simp length-set (omega (arith, c.requires.1, width_four c.args.c c.if-c-lt-TWO_BYTES.false c.if-c-lt-THREE_BYTES.false c.if-c-lt-FOUR_BYTES.false))

pub returns-then-c-lt-TWO_BYTES : goal.returns-then-c-lt-TWO_BYTES
returns-then-c-lt-TWO_BYTES c = ap (sets c.args.out.now c.args.at) (utf8_one c.args.c c.if-c-lt-TWO_BYTES.true)

pub returns-then-c-lt-THREE_BYTES : goal.returns-then-c-lt-THREE_BYTES
returns-then-c-lt-THREE_BYTES c = sets_two c.args.out.now c.args.at _ _ ∙ ap (sets c.args.out.now c.args.at) (utf8_two c.args.c c.if-c-lt-TWO_BYTES.false c.if-c-lt-THREE_BYTES.true)

pub returns-then-c-lt-FOUR_BYTES : goal.returns-then-c-lt-FOUR_BYTES
returns-then-c-lt-FOUR_BYTES c = sets_three c.args.out.now c.args.at _ _ _ ∙ ap (sets c.args.out.now c.args.at) (utf8_three c.args.c c.if-c-lt-TWO_BYTES.false c.if-c-lt-THREE_BYTES.false c.if-c-lt-FOUR_BYTES.true)

pub returns-else-c-lt-FOUR_BYTES : goal.returns-else-c-lt-FOUR_BYTES
returns-else-c-lt-FOUR_BYTES c = sets_four c.args.out.now c.args.at _ _ _ _ ∙ ap (sets c.args.out.now c.args.at) (utf8_four c.args.c c.if-c-lt-TWO_BYTES.false c.if-c-lt-THREE_BYTES.false c.if-c-lt-FOUR_BYTES.false)
