use mathlib.Core.Path.{◌∙◌}
use native.Mathlib.Omega.{arith}
use Rattle.std.proofs.Common.{◌≡◌, ◌+◌, ◌-◌}
use Rattle.chars.proofs.Runs.{last_here, last_back, last_none}
use Rattle.chars.proofs.behind_last.Goals as goal

pub returns-then-byte_at-c : goal.returns-then-byte_at-c
returns-then-byte_at-c c =
    let e : c.loop-i.i - 1 + 1 ≡ c.loop-i.i = omega arith in
    e ∙ last_here _ _ _ (omega arith) c.byte_at.ensures c.if-byte_at-c.true ∙ c.loop-i.invariant

pub loop-i-preserved : goal.loop-i-preserved
loop-i-preserved c = last_back _ _ _ (omega arith) c.byte_at.ensures c.if-byte_at-c.false ∙ c.loop-i.invariant

pub returns : goal.returns
returns c = last_none _ _ _ (omega arith) ∙ c.loop-i.invariant
