use mathlib.Core.Path.{subst, sym}
use Prim.Native.Nat.{ℕ, ◌-◌, ◌*◌, ◌+◌}
use lib.ListN.{get_or}
use Rattle.sheets.specs.Walks.{Walking}
use native.Mathlib.Omega.{arith}
use Rattle.sheets.proofs.Firsts.{behind}
use Rattle.sheets.proofs.declarations.DeclarationsIterator.next.Goals as goal

pub overflow_mul-self : goal.overflow_mul-self
overflow_mul-self c = let b = behind _ _ _ c.requires (omega arith) in omega (arith, b.some, b.inside, b.size)

pub overflow_add-self : goal.overflow_add-self
overflow_add-self c = let b = behind _ _ _ c.requires (omega arith) in omega (arith, b.some, b.inside, b.size)

pub offset_bounds-self-row : goal.offset_bounds-self-row
offset_bounds-self-row c = let b = behind _ _ _ c.requires (omega arith) in omega (arith, b.some, b.inside, b.size)

pub bounds-self-row : goal.bounds-self-row
bounds-self-row c = let b = behind _ _ _ c.requires (omega arith) in omega (arith, b.some, b.inside, b.size)

pub overflow_sub-self : goal.overflow_sub-self
overflow_sub-self c = let b = behind _ _ _ c.requires (omega arith) in omega (arith, b.some, b.inside, b.size)

pub returns-clause-goes : goal.returns-clause-goes
returns-clause-goes c =
    let g = behind _ _ _ c.requires (omega arith) in
    let w = subst (λ (l : ℕ). Walking c.args.self.now.table.now (c.args.self.now.row - get_or c.args.self.now.table.now ((c.args.self.now.row - 1) * 7 + 6) 0) l) (sym c.in_ok-self.ensures.1) g.next in
    record { on = λ f. (w, tt, omega arith); keeps = w; rests = λ f. tt }
