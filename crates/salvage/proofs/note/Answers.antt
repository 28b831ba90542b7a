use native.Mathlib.Omega.{arith}
use lib.ListN.{length-set}
use Rattle.salvage.proofs.Stores.{noted_in, noted_out}
use borrow.Author.Rules.{rules}
use Rattle.salvage.proofs.note.Goals as goal

pub bounds-ranges-at-then-n-ranges : goal.bounds-ranges-at-then-n-ranges
bounds-ranges-at-then-n-ranges c = simp length-set (omega arith)

pub bounds-ranges-at-then-n-ranges-2 : goal.bounds-ranges-at-then-n-ranges-2
bounds-ranges-at-then-n-ranges-2 c = simp length-set (omega arith)

pub bounds-ranges-at-then-n-ranges-3 : goal.bounds-ranges-at-then-n-ranges-3
bounds-ranges-at-then-n-ranges-3 c = simp length-set (omega arith)

pub bounds-ranges-at-then-n-ranges-4 : goal.bounds-ranges-at-then-n-ranges-4
bounds-ranges-at-then-n-ranges-4 c = simp length-set (omega arith)

pub returns-then-n-ranges : goal.returns-then-n-ranges
returns-then-n-ranges c = noted_in c.args.ranges.now c.args.n c.args.start c.args.end c.args.why c.if-n-ranges.true

pub returns-else-n-ranges : goal.returns-else-n-ranges
returns-else-n-ranges c = noted_out c.args.ranges.now c.args.n c.args.start c.args.end c.args.why c.if-n-ranges.false
