use mathlib.Core.Path.{refl}
use Rattle.tokens.proofs.Fits.{so, first, second}
use Rattle.tokens.proofs.Tables.{this, later}
use Rattle.tokens.specs.Words.{name_word, keywords, keyword_of}
use Rattle.tokens.proofs.keywords.name_word.Goals as goal

pub returns-then-same : goal.returns-then-same
unfolding name_word
returns-then-same c = first _ (so c.same.ensures c.if-same.true) refl

pub returns-then-same-2 : goal.returns-then-same-2
unfolding name_word keywords
returns-then-same-2 c = second _ (so c.same.ensures c.if-same.false) (this _ _ _ _ c.same-2.ensures c.if-same-2.true)

pub returns-then-same-3 : goal.returns-then-same-3
unfolding name_word keywords
returns-then-same-3 c = second _ (so c.same.ensures c.if-same.false) (later _ _ _ _ c.same-2.ensures c.if-same-2.false (this _ _ _ _ c.same-3.ensures c.if-same-3.true))

pub returns : goal.returns
unfolding name_word keywords keyword_of
returns c = second _ (so c.same.ensures c.if-same.false) (later _ _ _ _ c.same-2.ensures c.if-same-2.false (later _ _ _ _ c.same-3.ensures c.if-same-3.false c.keyword.ensures))
