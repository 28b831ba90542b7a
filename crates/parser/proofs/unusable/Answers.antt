use mathlib.Core.Path.{refl}
use Rattle.parser.proofs.Laws.{unused_taken, unused_quote, unused_other}
use borrow.Author.Rules.{rules}
use Rattle.parser.proofs.unusable.Goals as goal

pub returns-then-why-eq-F_STRING : goal.returns-then-why-eq-F_STRING
returns-then-why-eq-F_STRING c = unused_quote c.in-Err.is c.if-why-eq-F_STRING.true c.refuse-then-why-eq-F_STRING.ensures

pub returns-in-Ok : goal.returns-in-Ok
returns-in-Ok c = unused_taken c.in-Ok.is c.refuse.ensures

pub returns-else-why-eq-F_STRING : goal.returns-else-why-eq-F_STRING
returns-else-why-eq-F_STRING c = unused_other c.in-Err.is c.if-why-eq-F_STRING.false refl
