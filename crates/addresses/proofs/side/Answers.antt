use Rattle.addresses.proofs.Sides.{side_empty, side_groups}
use Rattle.addresses.proofs.side.Goals as goal

pub returns-then-t-eq0 : goal.returns-then-t-eq0
returns-then-t-eq0 c = side_empty _ _ c.args.t.now c.if-t-eq0.true c.requires

pub returns : goal.returns
returns c = side_groups _ _ c.args.t.now c.if-t-eq0.false c.joined.ensures
