use Rattle.std.proofs.Common.{sym, ◌∙◌}
use Rattle.chars.proofs.Runs.{byte_in, byte_out}
use Rattle.chars.proofs.byte_at.Goals as goal

pub returns-then-at-s : goal.returns-then-at-s
returns-then-at-s c = c.from.ensures ∙ sym (byte_in _ _ c.if-at-s.true)

pub returns-else-at-s : goal.returns-else-at-s
returns-else-at-s c = sym (byte_out _ _ c.if-at-s.false)
