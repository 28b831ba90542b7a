use mathlib.Core.Path.{sym, ◌∙◌}
use native.Mathlib.Omega.{arith}
use Rattle.chars.proofs.Runs.{inside}
use Rattle.tokens.proofs.Pairs.{pair_on, pair_off}
use Rattle.tokens.proofs.pair_at.Goals as goal

pub overflow_add-at : goal.overflow_add-at
overflow_add-at c = omega (arith, inside c.args.s.now c.args.at c.byte_at.ensures c.if-byte_at-from.true (omega arith))

pub returns-then-byte_at-from : goal.returns-then-byte_at-from
returns-then-byte_at-from c = rw c.from-then-byte_at-from.ensures (pair_on _ _ _ c.byte_at.ensures (c.if-byte_at-from.true ∙ c.from.ensures) c.byte_at-then-byte_at-from.ensures)

pub returns-else-byte_at-from : goal.returns-else-byte_at-from
returns-else-byte_at-from c = pair_off _ _ _ c.byte_at.ensures λ e. c.if-byte_at-from.false (e ∙ sym c.from.ensures)
