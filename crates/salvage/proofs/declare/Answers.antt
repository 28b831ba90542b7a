use mathlib.Core.Path.{◌≡◌, subst, sym}
use Prim.Native.Nat.{ℕ, ◌≤◌}
use lib.ListN.{length}
use Rattle.salvage.specs.Rows.{part_from}
use Rattle.salvage.proofs.Rows.{part_bound}
use Rattle.salvage.proofs.Onward.{declares_so}
use borrow.Author.Rules.{rules}
use Rattle.salvage.proofs.declare.Goals as goal

from_in : (size n : ℕ) {from : ℕ} → from ≡ part_from size n → from ≤ size
from_in size n e = subst (λ (i : ℕ). i ≤ size) (sym e) (part_bound size n)

pub offset_bounds-table-from : goal.offset_bounds-table-from
offset_bounds-table-from c = let h = from_in (length c.args.table.now) c.args.rows c.part_from-from.ensures in search (h, rules)

pub slice_bounds-declaration-count : goal.slice_bounds-declaration-count
slice_bounds-declaration-count c = let h = from_in (length c.args.table.now) c.args.rows c.part_from-from.ensures in search (h, rules)

pub returns : goal.returns
returns c = declares_so _ c.args.table.now c.args.here c.args.rows _ c.part_from-from.ensures c.all.ensures c.declaration.ensures
