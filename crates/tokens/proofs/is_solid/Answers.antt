use mathlib.Core.Path.{sym}
use mathlib.Core.Bool.{true≢false}
use Rattle.tokens.proofs.Blanks.{solid}
use Rattle.tokens.proofs.is_solid.Goals as goal

pub returns-then-b-le-SPACE : goal.returns-then-b-le-SPACE
returns-then-b-le-SPACE c = λ h. absurd (true≢false (sym h))

pub returns : goal.returns
returns c = solid c.args.b c.if-b-le-SPACE.false
