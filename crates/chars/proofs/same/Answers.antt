use mathlib.Core.Path.{refl, sym, ◌∙◌}
use native.Mathlib.Omega.{arith}
use Rattle.chars.proofs.Texts.{same_length, same_more, same_stops, same_end}
use Rattle.chars.proofs.same.Goals as goal

pub returns-then-t-u : goal.returns-then-t-u
returns-then-t-u c = sym (same_length _ _ c.if-t-u.true)

pub loop-i-init : goal.loop-i-init
loop-i-init c = (refl, omega arith)

pub bounds-t-i : goal.bounds-t-i
bounds-t-i c = omega arith

pub bounds-u-i : goal.bounds-u-i
bounds-u-i c = omega arith

pub returns-then-t-i : goal.returns-then-t-i
returns-then-t-i c = same_stops _ _ _ c.loop-i-test.true (omega arith) c.if-t-i.true ∙ c.loop-i.invariant.0

pub loop-i-smaller : goal.loop-i-smaller
loop-i-smaller c = omega arith

pub loop-i-preserved : goal.loop-i-preserved
loop-i-preserved c = (same_more _ _ _ c.loop-i-test.true (omega arith) c.if-t-i.false ∙ c.loop-i.invariant.0, omega arith)

pub returns : goal.returns
returns c = same_end _ _ _ c.loop-i-test.false (omega arith) ∙ c.loop-i.invariant.0
