use mathlib.Core.Path.{refl}
use native.Mathlib.Omega.{arith}
use Rattle.parser.proofs.Laws.{lessened_full, lessened_is}
use borrow.Author.Rules.{rules}
use Rattle.parser.proofs.one_less.Goals as goal

pub returns-then-n-gt-LIMIT : goal.returns-then-n-gt-LIMIT
returns-then-n-gt-LIMIT c = lessened_full c.args.n c.if-n-gt-LIMIT.true

pub returns-then-n-gt0 : goal.returns-then-n-gt0
returns-then-n-gt0 c = lessened_is c.args.n _ c.if-n-gt-LIMIT.false refl

pub returns-else-n-gt0 : goal.returns-else-n-gt0
returns-else-n-gt0 c = lessened_is c.args.n 0 c.if-n-gt-LIMIT.false (omega (arith, c.if-n-gt0.false))
