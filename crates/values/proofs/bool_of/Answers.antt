use mathlib.Core.Path.{refl}
use Rattle.chars.specs.Texts.{bytes}
use Rattle.numbers.proofs.Choices.{so, first, second}
use Rattle.values.specs.Literals.{bool_of}
use borrow.Author.Rules.{rules}
use Rattle.values.proofs.bool_of.Goals as goal

pub returns-then-same : goal.returns-then-same
unfolding bool_of bytes
returns-then-same c = first _ (so c.same.ensures c.if-same.true) refl

pub returns-then-same-2 : goal.returns-then-same-2
unfolding bool_of bytes
returns-then-same-2 c = second _ (so c.same.ensures c.if-same.false) (first _ (so c.same-2.ensures c.if-same-2.true) refl)

pub returns : goal.returns
unfolding bool_of bytes
returns c = second _ (so c.same.ensures c.if-same.false) (second _ (so c.same-2.ensures c.if-same-2.false) refl)
