use mathlib.Core.Path.{refl}
use borrow.Author.Tests.{ne_eqb}
use Rattle.words.proofs.return_detail.Goals as goal

pub returns-in-77 : goal.returns-in-77
returns-in-77 c = rw c.in-77.is refl

pub returns-in-60 : goal.returns-in-60
returns-in-60 c = rw c.in-60.is refl

pub returns-in-76 : goal.returns-in-76
returns-in-76 c = rw c.in-76.is refl

pub returns-in_default : goal.returns-in_default
returns-in_default c = rw (ne_eqb _ _ c.in_default.in_default-own.rest.0.0.1, ne_eqb _ _ c.in_default.in_default-own.rest.0.1, ne_eqb _ _ c.in_default.in_default-own.rest.1) refl
