use mathlib.Core.Path.{sym}
use Prim.Native.Nat.{◌*◌}
use lib.Seq.{length-take-le}
use native.Mathlib.Omega.{arith}
use Rattle.sheets.proofs.Firsts.{begun}
use Rattle.sheets.proofs.Accounts.{sections_put}
use Rattle.sheets.proofs.put_sections.Goals as goal

pub put_rows-requires : goal.put_rows-requires
put_rows-requires c = let b = begun c.args.table.now c.args.rows c.requires.0 in let l = length-take-le (c.args.rows * 7) c.args.table.now (omega (arith, b.inside)) in omega (arith, l, c.requires.2)

pub slice_bounds-put_rows-end : goal.slice_bounds-put_rows-end
slice_bounds-put_rows-end c = let b = begun c.args.table.now c.args.rows c.requires.0 in sym (length-take-le (c.args.rows * 7) c.args.table.now (omega (arith, b.inside)))

pub put_indexes-requires : goal.put_indexes-requires
put_indexes-requires c = (c.requires.0, omega (arith, c.requires.1, c.requires.2))

pub overflow_add-behind-4 : goal.overflow_add-behind-4
overflow_add-behind-4 c = omega (arith, c.requires.2, c.well_formed, c.ranges)

pub overflow_mul-indexes : goal.overflow_mul-indexes
overflow_mul-indexes c = omega (arith, c.requires.2, c.well_formed, c.ranges)

pub overflow_add-behind-5 : goal.overflow_add-behind-5
overflow_add-behind-5 c = omega (arith, c.requires.2, c.well_formed, c.ranges)

pub returns : goal.returns
returns c = λ d. sections_put c.args.s.now c.args.table.now c.args.file.now _ _ _ _ _ _ _ c.args.rows c.args.indexes c.requires.0 d c.requires.1 c.put_short.ensures c.put.ensures c.put_short-2.ensures c.put_rows.ensures c.put_short-3.ensures (c.put_indexes.ensures d) c.clear.ensures
