use mathlib.Core.Path.{refl}
use borrow.Author.Tests.{ne_eqb}
use Rattle.words.proofs.assign_detail.Goals as goal

pub returns-in-28 : goal.returns-in-28
returns-in-28 c = rw c.in-28.is refl

pub returns-in-29 : goal.returns-in-29
returns-in-29 c = rw c.in-29.is refl

pub returns-in-30 : goal.returns-in-30
returns-in-30 c = rw c.in-30.is refl

pub returns-in-31 : goal.returns-in-31
returns-in-31 c = rw c.in-31.is refl

pub returns-in-32 : goal.returns-in-32
returns-in-32 c = rw c.in-32.is refl

pub returns-in_default : goal.returns-in_default
returns-in_default c = rw (ne_eqb _ _ c.in_default.in_default-own.rest.0.0.0.0.1, ne_eqb _ _ c.in_default.in_default-own.rest.0.0.0.1, ne_eqb _ _ c.in_default.in_default-own.rest.0.0.1, ne_eqb _ _ c.in_default.in_default-own.rest.0.1, ne_eqb _ _ c.in_default.in_default-own.rest.1) refl
