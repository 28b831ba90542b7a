use native.Mathlib.Omega.{arith}
use Rattle.strings.proofs.Quotes.{no_room, long_enough, room_holds, decoded, no_string, too_long}
use borrow.Author.Rules.{rules}
use Rattle.strings.proofs.decode.Goals as goal

pub returns-then-out-count : goal.returns-then-out-count
returns-then-out-count c = let all = no_room c.args.s.now c.args.out.now (c.fill.ensures.after (search rules)) c.if-n-le-MOST_BYTES.true c.string.ensures c.in-Some.is c.if-out-count.true in record { value = all.0; out_after = all.1 }

pub overflow_sub-n : goal.overflow_sub-n
overflow_sub-n c = omega (arith, long_enough c.args.s.now c.args.out.now (c.fill.ensures.after (search rules)) c.if-n-le-MOST_BYTES.true c.string.ensures c.in-Some.is)

pub slice_bounds-write-count : goal.slice_bounds-write-count
slice_bounds-write-count c = omega (arith, long_enough c.args.s.now c.args.out.now (c.fill.ensures.after (search rules)) c.if-n-le-MOST_BYTES.true c.string.ensures c.in-Some.is)

pub slice_bounds-write-start : goal.slice_bounds-write-start
slice_bounds-write-start c = omega (arith, long_enough c.args.s.now c.args.out.now (c.fill.ensures.after (search rules)) c.if-n-le-MOST_BYTES.true c.string.ensures c.in-Some.is)

pub write-requires : goal.write-requires
write-requires c = room_holds c.args.s.now c.args.out.now (c.fill.ensures.after (search rules)) c.if-n-le-MOST_BYTES.true c.string.ensures c.in-Some.is c.if-out-count.false

pub returns-in-Some : goal.returns-in-Some
returns-in-Some c = let all = decoded c.args.s.now c.args.out.now (c.fill.ensures.after (search rules)) c.if-n-le-MOST_BYTES.true c.string.ensures c.in-Some.is c.if-out-count.false c.write.ensures in record { value = all.0; out_after = all.1 }

pub returns-in_default : goal.returns-in_default
returns-in_default c = let all = no_string c.args.s.now c.args.out.now (c.fill.ensures.after (search rules)) c.if-n-le-MOST_BYTES.true c.string.ensures c.in_default.is in record { value = all.0; out_after = all.1 }

pub returns-else-n-le-MOST_BYTES : goal.returns-else-n-le-MOST_BYTES
returns-else-n-le-MOST_BYTES c = let all = too_long c.args.s.now c.args.out.now (c.fill.ensures.after (search rules)) c.if-n-le-MOST_BYTES.false in record { value = all.0; out_after = all.1 }
