use mathlib.Core.Path.{sym, subst}
use mathlib.Core.List.{List}
use mathlib.Core.Bool.{true}
use Prim.Native.Nat.{ℕ, ◌+◌}
use Rattle.setter.specs.Waiting.{Kept, ClosedBy}
use Rattle.setter.proofs.Turns.{closes, closes_none}
use Rattle.setter.proofs.close.Goals as goal

pub returns-then-pair : goal.returns-then-pair
returns-then-pair c = let a = c.args in let e = c.push.ensures in let h = c.requires in let y = closes a.plan.now a.top h in (subst (λ (p : List ℕ). Kept a.plan.now p a.top) (sym e) y.0, rw c.if-pair.true (subst (λ (p : List ℕ). ClosedBy true p a.top (a.top + 1)) (sym e) y.1))

pub returns : goal.returns
returns c = rw c.if-pair.false (closes_none _ _)
