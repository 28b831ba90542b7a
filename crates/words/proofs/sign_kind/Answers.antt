use mathlib.Core.Path.{refl}
use borrow.Author.Tests.{eq-eqb, ne_eqb}
use Rattle.words.proofs.Tests.{first, second}
use Rattle.words.proofs.sign_kind.Goals as goal

pub returns-then-word-eq-BANG : goal.returns-then-word-eq-BANG
returns-then-word-eq-BANG c = first _ (eq-eqb _ _ c.if-word-eq-BANG.true) refl

pub returns-else-word-eq-BANG : goal.returns-else-word-eq-BANG
returns-else-word-eq-BANG c = second _ (ne_eqb _ _ c.if-word-eq-BANG.false) refl
