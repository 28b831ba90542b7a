use mathlib.Core.Path.{sym, ◌∙◌}
use native.Mathlib.Omega.{arith}
use lib.ListN.{length, drop}
use lib.Seq.{length-take-le}
use Rattle.chars.proofs.Runs.{last_le}
use Rattle.numbers.proofs.Choices.{so}
use Rattle.addresses.proofs.Ends.{half_fits, whole_le, end_le, wide_none, wide_both}
use Rattle.addresses.proofs.ipv6.Goals as goal

pub quad_behind-quad-requires : goal.quad_behind-quad-requires
quad_behind-quad-requires c = omega (arith, last_le 58 c.args.t.now (length c.args.t.now), c.behind_last-at.ensures)

pub slice_bounds-groups_in-end : goal.slice_bounds-groups_in-end
slice_bounds-groups_in-end c = sym (length-take-le c.end_with-end.result c.args.t.now (omega (arith, c.end_with-end.ensures, end_le c.args.t.now c.behind_last-at.result (omega (arith, last_le 58 c.args.t.now (length c.args.t.now), c.behind_last-at.ensures)) c.quad_behind-quad.result)))

pub groups_in-requires : goal.groups_in-requires
groups_in-requires c = omega (arith, c.whole_with.ensures, whole_le c.quad_behind-quad.result)

pub returns-in_err-wide : goal.returns-in_err-wide
returns-in_err-wide c = c.from_residual.ensures ∙ wide_none c.args.t.now c.behind_last-at.ensures c.quad_behind-quad.ensures c.end_with-end.ensures c.whole_with.ensures (so c.groups_in.ensures c.in_err-wide.was)

pub both-requires : goal.both-requires
both-requires c = half_fits (drop c.behind_last-at.result c.args.t.now) c.quad_behind-quad.result c.quad_behind-quad.ensures

pub returns : goal.returns
returns c = wide_both c.args.t.now c.behind_last-at.ensures c.quad_behind-quad.ensures c.end_with-end.ensures c.whole_with.ensures (so c.groups_in.ensures c.in_ok-wide.was) c.both.ensures
