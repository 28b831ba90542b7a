use Rattle.std.proofs.Common.{sym, rules, arith}
use Rattle.rows.proofs.Zeros.{filled, no_zeros}
use Rattle.rows.proofs.clear.Goals as goal

pub returns-then-from-table : goal.returns-then-from-table
returns-then-from-table c = filled c.args.table.now c.args.from c.if-from-table.true (c.fill.ensures.after (search rules))

pub returns-else-from-table : goal.returns-else-from-table
returns-else-from-table c = sym (no_zeros _ _ (omega arith))
