use mathlib.Core.Path.{ap}
use Rattle.parser.specs.Places.{here_at}
use borrow.Author.Rules.{rules}
use Rattle.parser.proofs.look.Goals as goal

pub returns : goal.returns
unfolding here_at
returns c = ap (λ k. record { step = k; place = c.args.cursor.at; rows = c.args.rows }) c.step-step.ensures.0
