use Rattle.std.specs.Prelude.{Ok}
use mathlib.Core.Path.{◌≡◌, refl, ◌∙◌}
use lib.ListN.{length}
use native.Mathlib.Omega.{arith}
use borrow.Author.Rules.{rules}
use Rattle.promises.specs.Promises.{over_read, over_table}
use Rattle.promises.proofs.Answered.{not_both}
use Rattle.promises.proofs.Overs.{over_row_lem, over_stays, over_finish}
use Rattle.promises.proofs.Leaves.{row_is}
use Rattle.reader.proofs.parts.around.Given as goal

abbrev pub invariant-loop-n : goal.invariant-loop-n
invariant-loop-n l = (over_read l.starts l.details l.kind l.children l.n (Ok (l.found, l.here)) ≡ over_read l.starts l.details l.kind l.children l.count (Ok (l.initial.found, l.initial.here))) × (over_table l.starts l.sinces l.details l.kind l.children l.n (Ok (l.found, l.here)) l.table ≡ over_table l.starts l.sinces l.details l.kind l.children l.count (Ok (l.initial.found, l.initial.here)) l.initial.table) × (length l.table ≡ length l.initial.table)
