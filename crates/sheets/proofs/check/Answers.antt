use mathlib.Core.Path.{refl, sym, subst}
use mathlib.Core.Bool.{true}
use native.Mathlib.Omega.{arith}
use Prim.Native.Nat.{◌/◌}
use lib.ListN.{length, replicate}
use Rattle.chars.specs.declared.Answer.{Answer}
use Rattle.sheets.specs.Checks.{refusing, Checks}
use Rattle.sheets.proofs.Loads.{indexes_inside}
use Rattle.sheets.proofs.Widths.{numbers_length}
use Rattle.sheets.proofs.Firsts.{differ_most}
use Rattle.sheets.proofs.Accounts.{refusing_with, not_filled, source_or_row, right_rows, tabled, index_differs, room_there, accepting_with}
use borrow.Author.Rules.{rules}
use Rattle.sheets.proofs.check.Goals as goal

pub returns-in_default : goal.returns-in_default
returns-in_default c = refusing_with c.args.file.now c.args.table.now c.args.table.now (rw c.nowhere.ensures at c.refused.ensures) refl (not_filled c.args.file.now (length c.args.table.now) c.in_default.ensures)

pub returns-then-a-ne-NONE : goal.returns-then-a-ne-NONE
returns-then-a-ne-NONE c = refusing_with c.args.file.now c.args.table.now _ c.refused-then-a-ne-NONE.ensures (search rules) (source_or_row c.args.file.now (λ i h. omega (arith, c.type_inv.file i)) (length c.args.table.now) c.in-Some.ensures c.compare-a.ensures c.if-a-ne-NONE.true)

pub misnamed-requires : goal.misnamed-requires
misnamed-requires c = tabled c.args.file.now (λ i h. omega (arith, c.type_inv.file i)) (length c.args.table.now) c.in-Some.ensures (right_rows c.args.file.now (λ i h. omega (arith, c.type_inv.file i)) (length c.args.table.now) c.in-Some.ensures c.compare-a.ensures c.if-a-ne-NONE.false)

pub differs-requires : goal.differs-requires
differs-requires c =
    let m = differ_most (c.in-Some-misnamed.ensures (tabled c.args.file.now (λ i h. omega (arith, c.type_inv.file i)) (length c.args.table.now) c.in-Some.ensures (right_rows c.args.file.now (λ i h. omega (arith, c.type_inv.file i)) (length c.args.table.now) c.in-Some.ensures c.compare-a.ensures c.if-a-ne-NONE.false))) in
    let n = numbers_length 4 c.in-Some.parts.indexes.now 0 (length c.in-Some.parts.indexes.now / 4) in
    let k = indexes_inside c.args.file.now c.in-Some.ensures in
    omega (arith, m, n, k, c.well_formed)

pub returns-in-Some-misnamed : goal.returns-in-Some-misnamed
returns-in-Some-misnamed c = refusing_with c.args.file.now c.args.table.now _ c.refused-in-Some-misnamed.ensures (search rules) (subst (λ (x : Answer). Checks true c.args.file.now (length c.args.table.now) (refusing x) (replicate (length c.args.table.now) 0)) (sym c.differs.ensures) (index_differs c.args.file.now (λ i h. omega (arith, c.type_inv.file i)) (length c.args.table.now) c.in-Some.ensures (right_rows c.args.file.now (λ i h. omega (arith, c.type_inv.file i)) (length c.args.table.now) c.in-Some.ensures c.compare-a.ensures c.if-a-ne-NONE.false) (c.in-Some-misnamed.ensures (tabled c.args.file.now (λ i h. omega (arith, c.type_inv.file i)) (length c.args.table.now) c.in-Some.ensures (right_rows c.args.file.now (λ i h. omega (arith, c.type_inv.file i)) (length c.args.table.now) c.in-Some.ensures c.compare-a.ensures c.if-a-ne-NONE.false)))))

pub tests-requires : goal.tests-requires
tests-requires c = let r = room_there c.args.file.now (λ i h. omega (arith, c.type_inv.file i)) (length c.args.table.now) c.in-Some.ensures (right_rows c.args.file.now (λ i h. omega (arith, c.type_inv.file i)) (length c.args.table.now) c.in-Some.ensures c.compare-a.ensures c.if-a-ne-NONE.false) (search rules) in omega (arith, r)

pub returns : goal.returns
returns c = accepting_with c.args.file.now (λ i h. omega (arith, c.type_inv.file i)) (length c.args.table.now) c.in-Some.ensures (right_rows c.args.file.now (λ i h. omega (arith, c.type_inv.file i)) (length c.args.table.now) c.in-Some.ensures c.compare-a.ensures c.if-a-ne-NONE.false) (search rules) (c.in_default-misnamed.ensures (tabled c.args.file.now (λ i h. omega (arith, c.type_inv.file i)) (length c.args.table.now) c.in-Some.ensures (right_rows c.args.file.now (λ i h. omega (arith, c.type_inv.file i)) (length c.args.table.now) c.in-Some.ensures c.compare-a.ensures c.if-a-ne-NONE.false))) c.clear.ensures c.tests.ensures
