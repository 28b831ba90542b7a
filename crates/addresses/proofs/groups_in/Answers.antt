use Rattle.addresses.proofs.Sides.{gap_room, groups_short, groups_full}
use Rattle.addresses.proofs.groups_in.Goals as goal

pub shortened-requires : goal.shortened-requires
shortened-requires c = record { at_in_bounds = gap_room c.args.t.now c.gap_at-at.ensures c.if-at-t.true; whole_bound = c.requires }

pub returns-then-at-t : goal.returns-then-at-t
returns-then-at-t c = groups_short c.requires c.args.t.now c.gap_at-at.ensures c.if-at-t.true c.shortened.ensures

pub returns : goal.returns
returns c = groups_full c.requires c.args.t.now c.gap_at-at.ensures c.if-at-t.false c.joined.ensures c.only.ensures
