use native.Mathlib.Omega.{arith}
use Rattle.sheets.proofs.Sources.{ap_compared, source_refused, no_room, word_there, row_differs, rows_many, rows_right}
use Rattle.sheets.proofs.compare.Goals as goal

pub returns-then-read-ne-NONE : goal.returns-then-read-ne-NONE
returns-then-read-ne-NONE c = source_refused c.args.rows.now c.args.table.now _ _ _ _ _ _ _ c.room-most.ensures c.min-behind.ensures c.load.ensures c.against-read.ensures c.if-read-ne-NONE.true

pub returns-then-most-read : goal.returns-then-most-read
returns-then-most-read c = ap_compared c.nowhere.ensures (no_room c.args.rows.now c.args.table.now _ _ _ _ _ _ _ c.room-most.ensures c.min-behind.ensures c.load.ensures c.against-read.ensures c.if-read-ne-NONE.false c.if-most-read.true)

pub bounds-table-behind : goal.bounds-table-behind
bounds-table-behind c = let w = word_there c.args.rows.now c.args.table.now _ _ _ _ _ _ _ c.room-most.ensures c.min-behind.ensures c.load.ensures c.against-read.ensures c.if-read-ne-NONE.false c.if-most-read.false in omega (arith, w)

pub returns-then-first-read : goal.returns-then-first-read
returns-then-first-read c = ap_compared c.differs.ensures (row_differs c.args.rows.now c.args.table.now _ _ _ _ _ _ _ c.room-most.ensures c.min-behind.ensures c.load.ensures c.against-read.ensures c.if-read-ne-NONE.false c.if-most-read.false c.if-first-read.true)

pub differs-requires-then-read-count : goal.differs-requires-then-read-count
differs-requires-then-read-count c = omega (arith, c.if-read-count.true, c.well_formed)

pub returns-then-read-count : goal.returns-then-read-count
returns-then-read-count c = ap_compared c.differs-then-read-count.ensures (rows_many c.args.rows.now c.args.table.now _ _ _ _ _ _ _ c.room-most.ensures c.min-behind.ensures c.load.ensures c.against-read.ensures c.if-read-ne-NONE.false c.if-most-read.false c.if-first-read.false c.if-read-count.true)

pub returns : goal.returns
returns c = rows_right c.args.rows.now c.args.table.now _ _ _ _ _ _ _ c.room-most.ensures c.min-behind.ensures c.load.ensures c.against-read.ensures c.if-read-ne-NONE.false c.if-most-read.false c.if-first-read.false c.if-read-count.false
