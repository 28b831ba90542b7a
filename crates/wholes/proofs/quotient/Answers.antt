use Rattle.std.proofs.Common.{nat_abs, refl}
use Rattle.wholes.proofs.Signs.{no_quotient, alike, unlike, same_sign, other_sign}
use Rattle.wholes.specs.Wholes.{number}
use Rattle.wholes.proofs.quotient.Goals as goal

pub returns-then-d-eq0 : goal.returns-then-d-eq0
returns-then-d-eq0 c = no_quotient c.args.t c.args.a c.args.b _ (nat_abs (number c.args.t c.args.a)) c.magnitude-d.ensures refl c.if-d-eq0.true

pub returns-then-negative : goal.returns-then-negative
returns-then-negative c = alike c.args.t c.args.a c.args.b _ _ c.magnitude-d.ensures c.magnitude.ensures c.if-d-eq0.false _ _ refl (same_sign _ _ c.negative.ensures c.negative-2.ensures c.if-negative.true) c.reduced.ensures

pub returns-else-negative : goal.returns-else-negative
returns-else-negative c = unlike c.args.t c.args.a c.args.b _ _ c.magnitude-d.ensures c.magnitude.ensures c.if-d-eq0.false _ _ refl (other_sign _ _ c.negative.ensures c.negative-2.ensures c.if-negative.false) c.negated.ensures
