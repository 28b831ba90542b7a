use Rattle.rows.proofs.Compares.{lowered_less, lowered_before}
use Rattle.rows.proofs.note.Goals as goal

pub returns-then-n-table : goal.returns-then-n-table
returns-then-n-table c = lowered_less _ _ c.if-n-table.true

pub returns-else-n-table : goal.returns-else-n-table
returns-else-n-table c = lowered_before _ _ c.if-n-table.false
