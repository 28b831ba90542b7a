use mathlib.Core.Path.{refl}
use native.Mathlib.Omega.{arith}
use Rattle.sheets.proofs.Firsts.{begun, begins}
use Rattle.sheets.proofs.declarations.Declarations.of.Goals as goal

pub overflow_mul-result : goal.overflow_mul-result
overflow_mul-result c = let b = begun c.args.table.now c.args.rows c.requires in omega (arith, b.some, b.inside)

pub overflow_add-result : goal.overflow_add-result
overflow_add-result c = let b = begun c.args.table.now c.args.rows c.requires in omega (arith, b.some, b.inside)

pub offset_bounds-table-row : goal.offset_bounds-table-row
offset_bounds-table-row c = let b = begun c.args.table.now c.args.rows c.requires in omega (arith, b.some, b.inside)

pub bounds-table-row : goal.bounds-table-row
bounds-table-row c = let b = begun c.args.table.now c.args.rows c.requires in omega (arith, b.some, b.inside)

pub returns : goal.returns
returns c = (refl, begins c.args.table.now c.args.rows)
