use borrow.Author.Tests.{eq-eqb, ne_eqb}
use mathlib.Core.Path.{refl}
use borrow.Author.Rules.{rules}
use Rattle.reader.proofs.chained_level.Goals as goal

pub returns-then-level-eq-COMPARISON : goal.returns-then-level-eq-COMPARISON
returns-then-level-eq-COMPARISON c = rw (eq-eqb _ _ c.if-level-eq-COMPARISON.true) refl

pub returns-else-level-eq-COMPARISON : goal.returns-else-level-eq-COMPARISON
returns-else-level-eq-COMPARISON c = rw (ne_eqb _ _ c.if-level-eq-COMPARISON.false) refl
