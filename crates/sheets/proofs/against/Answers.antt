use mathlib.Core.Path.{refl}
use native.Mathlib.Omega.{arith}
use lib.ListN.{length-set}
use Rattle.sheets.proofs.Sources.{against_in, against_out}
use Rattle.sheets.proofs.against.Goals as goal

pub slice_bounds-put_rows-end : goal.slice_bounds-put_rows-end
slice_bounds-put_rows-end c = simp length-set (omega arith)

pub returns-then-behind-table : goal.returns-then-behind-table
returns-then-behind-table c = against_in c.args.source.now c.args.table.now c.args.behind c.if-behind-table.true c.put_rows.ensures refl

pub returns : goal.returns
returns c = against_out c.args.source.now c.args.table.now c.args.behind c.if-behind-table.false c.put_rows-2.ensures refl
