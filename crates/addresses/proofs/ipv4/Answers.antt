use mathlib.Core.Path.{◌∙◌}
use Rattle.addresses.proofs.Sides.{quad_none, quad_is, quad_not}
use Rattle.addresses.proofs.ipv4.Goals as goal

pub returns-in_err-count : goal.returns-in_err-count
returns-in_err-count c = c.from_residual.ensures ∙ quad_none c.args.t.now c.joined.ensures c.in_err-count.was

pub returns-then-count-eq4 : goal.returns-then-count-eq4
returns-then-count-eq4 c = quad_is c.args.t.now c.joined.ensures c.in_ok-count.was c.if-count-eq4.true

pub returns-else-count-eq4 : goal.returns-else-count-eq4
returns-else-count-eq4 c = quad_not c.args.t.now c.joined.ensures c.in_ok-count.was c.if-count-eq4.false
