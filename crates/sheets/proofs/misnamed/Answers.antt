use mathlib.Core.Path.{sym, subst, ◌∙◌}
use mathlib.Core.List.{◌∷◌, []}
use Prim.Native.Nat.{ℕ, ◌/◌}
use native.Mathlib.Omega.{arith}
use lib.ListN.{length}
use Rattle.std.specs.Prelude.{Some}
use Rattle.sheets.specs.Steps.{indexes_in}
use Rattle.sheets.proofs.Widths.{numbers_length}
use Rattle.sheets.proofs.Firsts.{begun_at, one_back, number_back, walks, Firsts, firsts_start, firsts_same, firsts_differ, firsts_all}
use Rattle.sheets.proofs.misnamed.Goals as goal

pub loop-i-init : goal.loop-i-init
loop-i-init c =
    let b = c.of-declarations.ensures.1 c.requires in
    let r = begun_at c.requires c.of-declarations.ensures.0 b in
    let f : Firsts (indexes_in c.args.indexes.now) [] c.of-declarations.result.left c.surplus-first.result = firsts_start (indexes_in c.args.indexes.now) _ (numbers_length 4 c.args.indexes.now 0 (length c.args.indexes.now / 4)) c.surplus-first.ensures in
    rw c.into_iter-i-iterator.ensures.into_iter_gives (walks c.requires c.of-declarations.ensures.0 b, tt, c.requires, [], r, f)

pub loop-i-preserved-then-not-names : goal.loop-i-preserved-then-not-names
loop-i-preserved-then-not-names c =
    let s = c.in-Some.ensures.steps in
    let b = number_back _ _ _ _ _ _ s.1 in
    let l = c.loop-i.invariant in
    (c.in-Some.ensures.goes.keeps, tt, l.2, _ ∷ l.3, one_back l.4 s, subst (λ (n : ℕ). Firsts (indexes_in c.args.indexes.now) (c.in-Some.row ∷ l.3) n (Some c.in-Some.i)) b.1 (firsts_differ c.args.indexes.now _ _ _ _ _ b.0 l.5 (sym c.names.ensures ∙ c.if-not-names.true)))

pub loop-i-preserved : goal.loop-i-preserved
loop-i-preserved c =
    let s = c.in-Some.ensures.steps in
    let b = number_back _ _ _ _ _ _ s.1 in
    let l = c.loop-i.invariant in
    (c.in-Some.ensures.goes.keeps, tt, l.2, _ ∷ l.3, one_back l.4 s, subst (λ (n : ℕ). Firsts (indexes_in c.args.indexes.now) (c.in-Some.row ∷ l.3) n c.loop-i.first) b.1 (firsts_same c.args.indexes.now _ _ _ _ _ b.0 l.5 (sym c.names.ensures ∙ c.if-not-names.false)))

pub returns : goal.returns
returns c = λ d. let l = c.loop-i.invariant in let e = c.in-None.ensures.steps.1 in firsts_all (indexes_in c.args.indexes.now) l.3 c.loop-i.i-iterator.left l.2 d (omega (arith, e)) l.4.walk l.5
