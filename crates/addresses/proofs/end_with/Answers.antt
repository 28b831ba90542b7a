use Rattle.addresses.proofs.Ends.{end_quad, end_plain}
use Rattle.addresses.proofs.end_with.Goals as goal

pub returns-in-Some : goal.returns-in-Some
returns-in-Some c = end_quad _ _ c.in-Some.is c.front.ensures

pub returns-in-None : goal.returns-in-None
returns-in-None c = end_plain c.args.t.now _ c.in-None.is
