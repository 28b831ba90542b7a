use mathlib.Core.Path.{refl}
use Rattle.salvage.proofs.Drops.{keeps_all, keeps_many, keeps_rows}
use borrow.Author.Rules.{rules}
use Rattle.salvage.proofs.kept.Goals as goal

pub returns-then-count-ranges : goal.returns-then-count-ranges
returns-then-count-ranges c = keeps_all c.args.table.now c.args.ranges.now c.if-read-eq-NONE.true c.if-count-ranges.true c.with_ranges.ensures refl c.clear.ensures

pub returns-then-read-eq-NONE : goal.returns-then-read-eq-NONE
returns-then-read-eq-NONE c = keeps_many c.args.table.now c.args.ranges.now c.if-read-eq-NONE.true c.if-count-ranges.false c.with_ranges-then-read-eq-NONE.ensures c.clear-then-read-eq-NONE.ensures c.clear-then-read-eq-NONE-2.ensures

pub returns : goal.returns
returns c = keeps_rows c.args.table.now c.args.ranges.now c.if-read-eq-NONE.false c.with_ranges-2.ensures c.clear-2.ensures c.clear-3.ensures
