use Rattle.std.proofs.Common.{ap, refl, Err}
use Rattle.constants.proofs.Search.{found_placed, row_says, none_says, row_wrote, none_wrote}
use Rattle.constants.proofs.numbered.Goals as goal

pub worked_out-requires : goal.worked_out-requires
worked_out-requires c = found_placed _ _ _ _ _ c.requires c.find.ensures c.in-Some.is

pub returns-in-Some : goal.returns-in-Some
returns-in-Some c = (row_says _ _ _ _ _ _ c.find.ensures c.in-Some.is c.worked_out.ensures.0, c.worked_out.ensures.1, row_wrote _ c.args.number _ _ _ _ c.find.ensures _ _ c.in-Some.is c.worked_out.ensures.2)

pub returns-in-None : goal.returns-in-None
returns-in-None c = (none_says _ _ _ _ _ _ c.find.ensures c.in-None.is (ap Err c.refused.ensures), refl, none_wrote _ c.args.number _ _ _ _ c.find.ensures _ _ c.in-None.is)
