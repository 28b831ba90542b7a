use Rattle.std.specs.Prelude.{Ok}
use mathlib.Core.Path.{ap, sym}
use borrow.Author.Rules.{rules}
use Rattle.promises.specs.Firsts.{ended_by}
use Rattle.promises.proofs.Answered.{handed, ended_on}
use Rattle.reader.proofs.parts.ended.Goals as goal

pub returns-in_err-next : goal.returns-in_err-next
returns-in_err-next c = ended_on c.in_err-next.was (handed c.from_residual.ensures.1)

pub returns : goal.returns
unfolding ended_by
returns c = ap ended_by (sym c.in_ok-next.was)
