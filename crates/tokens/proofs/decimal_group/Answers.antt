use Rattle.tokens.proofs.Rules.{group_some, group_none}
use Rattle.tokens.proofs.decimal_group.Goals as goal

pub returns-then-group-end : goal.returns-then-group-end
returns-then-group-end c = group_some _ _ c.behind_last-group.ensures c.if-group-end.true c.past.ensures

pub returns-else-group-end : goal.returns-else-group-end
returns-else-group-end c = group_none _ _ c.behind_last-group.ensures c.if-group-end.false
