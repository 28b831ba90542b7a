use Rattle.tokens.proofs.Rules.{line_on, line_off}
use Rattle.tokens.proofs.past_comment.Goals as goal

pub returns-then-end-s : goal.returns-then-end-s
returns-then-end-s c = line_on _ _ c.past_line-end.ensures c.if-end-s.true

pub returns-else-end-s : goal.returns-else-end-s
returns-else-end-s c = line_off _ _ c.past_line-end.ensures c.if-end-s.false
