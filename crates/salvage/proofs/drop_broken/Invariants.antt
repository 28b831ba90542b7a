use native.Mathlib.Omega.{arith}
use mathlib.Core.Path.{◌≡◌, refl, ap, ◌∙◌}
use Prim.Native.Nat.{◌-◌}
use lib.ListN.{length}
use Rattle.salvage.specs.Salvage.{next_line}
use Rattle.salvage.specs.Steps.{Drops}
use Rattle.salvage.specs.Rows.{Upto}
use borrow.Author.Rules.{rules}
use Rattle.salvage.proofs.Drops.{none_dropped, all_dropped, lies, one_dropped, ended, broke}
use Rattle.salvage.proofs.Next.{first_upto, next_upto}
use Rattle.salvage.proofs.drop_broken.Given as goal

abbrev pub invariant-loop-first : goal.invariant-loop-first
invariant-loop-first l = Drops l.initial.s l.initial.ranges l.s l.at l.ranges l.count × Upto l.s l.at l.table l.rows l.children × (length l.table ≡ length l.initial.table)

abbrev pub decreases-loop-first : goal.decreases-loop-first
decreases-loop-first l = length l.initial.s - l.at
