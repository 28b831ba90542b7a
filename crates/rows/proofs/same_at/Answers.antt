use mathlib.Core.Path.{refl}
use Rattle.rows.proofs.Compares.{same_in, same_out}
use Rattle.rows.proofs.same_at.Goals as goal

pub returns-then-n-table : goal.returns-then-n-table
returns-then-n-table c = same_in _ _ _ _ c.if-n-table.true refl

pub returns : goal.returns
returns c = same_out _ _ _ _ c.if-n-table.false
