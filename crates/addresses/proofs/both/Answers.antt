use native.Mathlib.Omega.{arith}
use Rattle.addresses.proofs.Ends.{halves_fit, both_plain, both_quad}
use Rattle.addresses.proofs.both.Goals as goal

pub returns-in_default : goal.returns-in_default
returns-in_default c = both_plain _ c.in_default.is

pub push-seven-requires : goal.push-seven-requires
push-seven-requires c = omega (arith, halves_fit c.in-Some.is c.requires)

pub push-requires : goal.push-requires
push-requires c = omega (arith, halves_fit c.in-Some.is c.requires)

pub returns : goal.returns
returns c = both_quad _ c.in-Some.is c.push-seven.ensures c.push.ensures
