use mathlib.Core.Path.{ap}
use borrow.Author.Rules.{rules}
use Rattle.parser.proofs.Limits.signed.Goals as goal

pub returns : goal.returns
returns c = ap (λ n. record { brackets = c.args.self.brackets; signs = n; chain = c.args.self.chain; heads = c.args.self.heads }) c.one_less.ensures
