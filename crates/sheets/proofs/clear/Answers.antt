use native.Mathlib.Omega.{arith}
use Prim.Native.Nat.{◌-◌}
use mathlib.Core.Path.{ap, ◌∙◌}
use Prim.Native.Nat.{ℕ}
use lib.ListN.{length, replicate}
use borrow.Author.Rules.{rules}
use Rattle.sheets.proofs.Stores.{zeros_put}
use Rattle.sheets.proofs.clear.Goals as goal

pub returns : goal.returns
returns c = zeros_put c.args.file.now c.args.from (length c.args.file.now - c.args.from) (c.fill.ensures.after (search rules) ∙ ap (λ (n : ℕ). replicate n 0) (search rules)) (omega arith)
