use mathlib.Core.Path.{ap, ◌∙◌}
use Prim.Native.Nat.{ℕ}
use lib.Dec.{eqb}
use Rattle.sheets.proofs.Loads.{named_there, named_not}
use Rattle.sheets.proofs.names.Goals as goal

pub returns-then-i-indexes : goal.returns-then-i-indexes
returns-then-i-indexes c = ap (λ (x : ℕ). eqb x c.args.row) c.short_at.ensures ∙ named_there c.args.i _ _ c.args.row c.if-i-indexes.true

pub returns-else-i-indexes : goal.returns-else-i-indexes
returns-else-i-indexes c = named_not c.args.i _ _ c.args.row c.if-i-indexes.false
