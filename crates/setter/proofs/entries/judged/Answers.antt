use native.Mathlib.Omega.{arith}
use Rattle.setter.proofs.Said.{short, back_limit, judge_long, judge_deep, judge_room, judge_fits}
use Rattle.setter.proofs.entries.judged.Goals as goal

pub returns-then-sink-gt-MOST_BYTES : goal.returns-then-sink-gt-MOST_BYTES
returns-then-sink-gt-MOST_BYTES c = judge_long c.args.sink c.requires.spoken (omega arith)

pub read_back-back-requires : goal.read_back-back-requires
read_back-back-requires c = record { standing = c.requires.standing; short = short c.args.sink c.requires.spoken (omega arith); count_in_bounds = c.requires.count_in_bounds }

pub returns-then-back-eq-TOO_DEEP : goal.returns-then-back-eq-TOO_DEEP
returns-then-back-eq-TOO_DEEP c = judge_deep c.args.sink c.requires.spoken (omega arith) (back_limit (short c.args.sink c.requires.spoken (omega arith)) c.read_back-back.ensures) c.if-back-eq-TOO_DEEP.true

pub returns-then-room-sink : goal.returns-then-room-sink
returns-then-room-sink c = judge_room c.args.sink c.requires.spoken (omega arith) (back_limit (short c.args.sink c.requires.spoken (omega arith)) c.read_back-back.ensures) c.if-back-eq-TOO_DEEP.false (omega arith) c.no_room.ensures

pub returns : goal.returns
returns c = judge_fits c.args.sink c.requires.spoken (omega arith) (back_limit (short c.args.sink c.requires.spoken (omega arith)) c.read_back-back.ensures) c.if-back-eq-TOO_DEEP.false (omega arith)
