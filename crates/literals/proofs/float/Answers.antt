use Rattle.literals.proofs.float.Goals as goal
-- `literals::float` meets its contract.
use Rattle.literals.proofs.Answered.{no_float, begins, found, long}

pub returns-in_default : goal.returns-in_default
returns-in_default c = no_float c.args.t.now c.one_float.ensures c.in_default.is c.refused.ensures

pub written-requires : goal.written-requires
written-requires c = begins c.args.t.now c.one_float.ensures c.in-Some.is

pub returns-in-Some-written : goal.returns-in-Some-written
returns-in-Some-written c = found c.args.t.now c.one_float.ensures c.in-Some.is c.written.ensures c.in-Some-written.is c.size.ensures

pub returns-in-None : goal.returns-in-None
returns-in-None c = long c.args.t.now c.one_float.ensures c.in-Some.is c.written.ensures c.in-None.is c.refused-in-None.ensures
