use mathlib.Core.Path.{sym, ◌∙◌}
use mathlib.Core.Bool.{false}
use native.Mathlib.Omega.{arith}
use lib.Seq.{length-take-le}
use Rattle.salvage.proofs.Fine.{short}
use Rattle.salvage.proofs.Fresh.{is_fresh}
use Rattle.salvage.proofs.Drops.{salvage_early, salvage_kept}
use Rattle.salvage.proofs.Next.{whole_part, treed_few, treed_permits}
use borrow.Author.Rules.{rules}
use Rattle.salvage.proofs.salvage.Goals as goal

pub read_kept-all-requires : goal.read_kept-all-requires
read_kept-all-requires c = (short _ (sym c.check_source.ensures.0 ∙ c.in-Ok.is), whole_part c.args.table.now)

pub overflow_add-all : goal.overflow_add-all
overflow_add-all c = let f = short _ (sym c.check_source.ensures.0 ∙ c.in-Ok.is) in let l = c.read_kept-all.ensures.0.text in let n = treed_few c.read_kept-all.ensures.1 (omega (arith, f, l)) in omega (arith, n)

pub returns-in-Err : goal.returns-in-Err
returns-in-Err c = salvage_early c.args.s.now c.args.table.now c.args.ranges.now (sym c.check_source.ensures.0 ∙ c.in-Err.is) c.refused.ensures c.clear.ensures c.with_ranges.ensures

pub returns-in-Ok : goal.returns-in-Ok
returns-in-Ok c = salvage_kept c.args.s.now c.args.table.now c.args.ranges.now (sym c.check_source.ensures.0 ∙ c.in-Ok.is) c.read_kept-all.ensures.0 (treed_permits _ c.args.table.now (is_fresh false (sym c.check_source.ensures.0 ∙ c.in-Ok.is) c.read_kept-all.ensures.0.salvage).fine c.read_kept-all.ensures.1 c.counted-read.ensures) c.kept.ensures (search rules)
