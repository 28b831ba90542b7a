use mathlib.Core.Path.{refl}
use borrow.Author.Tests.{eq-eqb, ne_eqb}
use Rattle.words.proofs.Tests.{first, second}
use Rattle.words.proofs.closing_of.Goals as goal

pub returns-then-bracket-eq-ROUND_LEFT : goal.returns-then-bracket-eq-ROUND_LEFT
returns-then-bracket-eq-ROUND_LEFT c = first _ (eq-eqb _ _ c.if-bracket-eq-ROUND_LEFT.true) refl

pub returns-else-bracket-eq-ROUND_LEFT : goal.returns-else-bracket-eq-ROUND_LEFT
returns-else-bracket-eq-ROUND_LEFT c = second _ (ne_eqb _ _ c.if-bracket-eq-ROUND_LEFT.false) refl
