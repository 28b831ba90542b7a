use Rattle.tokens.proofs.Tables.{this, later, no_more}
use Rattle.tokens.specs.Words.{page, under, keyword_under}
use Rattle.tokens.proofs.keywords.four_letters.Goals as goal

pub returns-then-same : goal.returns-then-same
unfolding keyword_under under page
returns-then-same c = this _ _ _ _ c.same.ensures c.if-same.true

pub returns-then-same-2 : goal.returns-then-same-2
unfolding keyword_under under page
returns-then-same-2 c = later _ _ _ _ c.same.ensures c.if-same.false (this _ _ _ _ c.same-2.ensures c.if-same-2.true)

pub returns-then-same-3 : goal.returns-then-same-3
unfolding keyword_under under page
returns-then-same-3 c = later _ _ _ _ c.same.ensures c.if-same.false (later _ _ _ _ c.same-2.ensures c.if-same-2.false (this _ _ _ _ c.same-3.ensures c.if-same-3.true))

pub returns : goal.returns
unfolding keyword_under under page
returns c = later _ _ _ _ c.same.ensures c.if-same.false (later _ _ _ _ c.same-2.ensures c.if-same-2.false (later _ _ _ _ c.same-3.ensures c.if-same-3.false (no_more _ _)))
