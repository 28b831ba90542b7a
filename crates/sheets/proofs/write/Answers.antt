use mathlib.Core.Path.{refl, sym}
use native.Mathlib.Omega.{arith}
use lib.ListN.{length}
use Rattle.sheets.proofs.Accounts.{refuses_with, its_table, bounds, over_with, writes_with}
use borrow.Author.Rules.{rules}
use Rattle.sheets.proofs.write.Goals as goal

pub returns-then-a-ne-NONE : goal.returns-then-a-ne-NONE
returns-then-a-ne-NONE c = refuses_with c.args.s.now (length c.args.table.now) (length c.args.file.now) c.args.file.now c.tree-a.ensures c.if-a-ne-NONE.true refl c.clear.ensures

pub of-indexes-requires : goal.of-indexes-requires
of-indexes-requires c = its_table c.args.s.now (length c.args.table.now) c.tree-a.ensures c.if-a-ne-NONE.false

pub overflow_mul-need : goal.overflow_mul-need
overflow_mul-need c = let q = bounds c.args.s.now (length c.args.table.now) c.tree-a.ensures c.if-a-ne-NONE.false in let b = c.of-indexes.ensures.1 (its_table c.args.s.now (length c.args.table.now) c.tree-a.ensures c.if-a-ne-NONE.false) in omega (arith, q.0, q.1, q.2, b.count)

pub overflow_mul-need-2 : goal.overflow_mul-need-2
overflow_mul-need-2 c = let q = bounds c.args.s.now (length c.args.table.now) c.tree-a.ensures c.if-a-ne-NONE.false in let b = c.of-indexes.ensures.1 (its_table c.args.s.now (length c.args.table.now) c.tree-a.ensures c.if-a-ne-NONE.false) in omega (arith, q.0, q.1, q.2, b.count)

pub overflow_add-need-3 : goal.overflow_add-need-3
overflow_add-need-3 c = let q = bounds c.args.s.now (length c.args.table.now) c.tree-a.ensures c.if-a-ne-NONE.false in let b = c.of-indexes.ensures.1 (its_table c.args.s.now (length c.args.table.now) c.tree-a.ensures c.if-a-ne-NONE.false) in omega (arith, q.0, q.1, q.2, b.count)

pub overflow_add-need-4 : goal.overflow_add-need-4
overflow_add-need-4 c = let q = bounds c.args.s.now (length c.args.table.now) c.tree-a.ensures c.if-a-ne-NONE.false in let b = c.of-indexes.ensures.1 (its_table c.args.s.now (length c.args.table.now) c.tree-a.ensures c.if-a-ne-NONE.false) in omega (arith, q.0, q.1, q.2, b.count)

pub overflow_add-need-5 : goal.overflow_add-need-5
overflow_add-need-5 c = let q = bounds c.args.s.now (length c.args.table.now) c.tree-a.ensures c.if-a-ne-NONE.false in let b = c.of-indexes.ensures.1 (its_table c.args.s.now (length c.args.table.now) c.tree-a.ensures c.if-a-ne-NONE.false) in omega (arith, q.0, q.1, q.2, b.count)

pub returns-then-file-need : goal.returns-then-file-need
returns-then-file-need c = rw c.nowhere.ensures (over_with c.args.s.now (length c.args.table.now) c.tree-a.ensures c.if-a-ne-NONE.false (length c.args.file.now) c.args.file.now (c.of-indexes.ensures.1 (its_table c.args.s.now (length c.args.table.now) c.tree-a.ensures c.if-a-ne-NONE.false)).count refl c.if-file-need.true (search rules) refl c.clear-then-file-need.ensures c.clear-then-file-need-2.ensures)

pub put_sections-requires : goal.put_sections-requires
put_sections-requires c = (its_table c.args.s.now (length c.args.table.now) c.tree-a.ensures c.if-a-ne-NONE.false, sym (c.of-indexes.ensures.1 (its_table c.args.s.now (length c.args.table.now) c.tree-a.ensures c.if-a-ne-NONE.false)).count, omega arith)

pub returns : goal.returns
returns c = writes_with c.args.s.now (length c.args.table.now) c.tree-a.ensures c.if-a-ne-NONE.false (length c.args.file.now) c.args.file.now (λ i h. search rules) (c.of-indexes.ensures.1 (its_table c.args.s.now (length c.args.table.now) c.tree-a.ensures c.if-a-ne-NONE.false)).count refl c.if-file-need.false refl c.put_sections.ensures
