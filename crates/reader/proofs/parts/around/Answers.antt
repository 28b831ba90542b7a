use mathlib.Core.Path.{◌≡◌, refl, ◌∙◌}
use lib.ListN.{length}
use native.Mathlib.Omega.{arith}
use borrow.Author.Rules.{rules}
use Rattle.promises.specs.Promises.{over_read, over_table}
use Rattle.promises.proofs.Answered.{handed, not_both}
use Rattle.promises.proofs.Overs.{over_row_lem, over_stays, over_finish}
use Rattle.promises.proofs.Leaves.{row_is}
use Rattle.reader.proofs.parts.around.Goals as goal

pub returns-in_err-found : goal.returns-in_err-found
returns-in_err-found c = rw (handed c.from_residual.ensures.1, ← c.in_err-found.was) (over_stays _ _ _ _ _ _ c.in_err-found.was)

pub loop-n-init : goal.loop-n-init
loop-n-init c = (refl, refl, refl)

pub returns-in_err-over : goal.returns-in_err-over
returns-in_err-over c = rw (handed c.from_residual-in_err-over.ensures.1, ← c.in_err-over.was) (not_both c.finish.ensures.0 c.in_err-over.was)

pub loop-n-preserved : goal.loop-n-preserved
loop-n-preserved c = let k = row_is _ _ _ c.detail_row-row.ensures c.finish.ensures in let x = over_row_lem _ _ _ _ _ c.loop-n.n c.loop-n.found c.loop-n.here c.loop-n.table c.loop-n-test.true refl c.place_in.ensures c.rows_in.ensures c.detail_in.ensures k.0 k.1 c.in_ok-over.was in (x.0 ∙ c.loop-n.invariant.0, x.1 ∙ c.loop-n.invariant.1, c.finish.auto.table ∙ c.loop-n.invariant.2)

pub returns : goal.returns
returns c = over_finish c.args.starts.now c.args.sinces.now c.args.details.now c.args.kind c.args.children c.loop-n.n c.args.count c.loop-n.found c.loop-n.here c.loop-n.table c.args.table.now c.in_ok-found.was c.loop-n-test.false c.loop-n.invariant.0 c.loop-n.invariant.1
