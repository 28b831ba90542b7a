use Rattle.std.proofs.Common.{length}
use Rattle.list.proofs.Writing.{begun_good, after, done}
use Rattle.list.proofs.tokens.Goals as goal

pub loop-state-init : goal.loop-state-init
loop-state-init c = rw c.begin-state.ensures (begun_good c.args.s.now (length c.args.list.now) c.args.list.now)

pub loop-state-smaller : goal.loop-state-smaller
loop-state-smaller c =
    rw c.next-next.ensures
    (after c.args.s.now (length c.args.list.now) c.loop-state.state c.loop-state.list c.loop-state.auto.list c.loop-state-test.true c.loop-state.invariant).1

pub loop-state-preserved : goal.loop-state-preserved
loop-state-preserved c =
    rw c.next-next.ensures
    (after c.args.s.now (length c.args.list.now) c.loop-state.state c.loop-state.list c.loop-state.auto.list c.loop-state-test.true c.loop-state.invariant).0

pub returns : goal.returns
returns c = done c.args.s.now (length c.args.list.now) c.loop-state.state c.loop-state.list c.loop-state.auto.list c.loop-state-test.false c.loop-state.invariant
