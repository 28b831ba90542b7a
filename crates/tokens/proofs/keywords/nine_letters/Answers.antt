use Rattle.tokens.proofs.Tables.{this, later, no_more}
use Rattle.tokens.specs.Words.{page, under, keyword_under}
use Rattle.tokens.proofs.keywords.nine_letters.Goals as goal

pub returns-then-same : goal.returns-then-same
unfolding keyword_under under page
returns-then-same c = this _ _ _ _ c.same.ensures c.if-same.true

pub returns : goal.returns
unfolding keyword_under under page
returns c = later _ _ _ _ c.same.ensures c.if-same.false (no_more _ _)
