use native.Mathlib.Omega.{arith}
use mathlib.Core.Path.{refl, sym, ◌∙◌}
use Rattle.salvage.proofs.Lines.{next_here, next_on, next_end}
use Rattle.salvage.proofs.next_line.Goals as goal

pub loop-i-init : goal.loop-i-init
loop-i-init c = refl

pub returns-then-line_at : goal.returns-then-line_at
returns-then-line_at c = next_here _ _ c.loop-i-test.true (sym c.line_at.ensures ∙ c.if-line_at.true) ∙ c.loop-i.invariant

pub loop-i-preserved : goal.loop-i-preserved
loop-i-preserved c = next_on _ _ c.loop-i-test.true (sym c.line_at.ensures ∙ c.if-line_at.false) ∙ c.loop-i.invariant

pub returns : goal.returns
returns c = next_end _ _ (omega (arith, c.loop-i-test.false)) ∙ c.loop-i.invariant
