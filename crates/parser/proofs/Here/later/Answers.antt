use mathlib.Core.Path.{ap}
use borrow.Author.Rules.{rules}
use Rattle.parser.proofs.Here.later.Goals as goal

pub returns : goal.returns
returns c = ap (λ n. record { step = c.args.self.step; place = c.args.self.place; rows = n }) c.row_more.ensures
