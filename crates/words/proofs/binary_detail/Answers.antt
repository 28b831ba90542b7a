use Rattle.grammar.specs.Words.{binary_signs}
use Rattle.words.proofs.Tests.{no_place, not_in}
use mathlib.Core.Path.{refl}
use Rattle.words.proofs.binary_detail.Goals as goal

pub returns-in-26 : goal.returns-in-26
returns-in-26 c = rw c.in-26.is refl

pub returns-in-25 : goal.returns-in-25
returns-in-25 c = rw c.in-25.is refl

pub returns-in-20 : goal.returns-in-20
returns-in-20 c = rw c.in-20.is refl

pub returns-in-22 : goal.returns-in-22
returns-in-22 c = rw c.in-22.is refl

pub returns-in-58 : goal.returns-in-58
returns-in-58 c = rw c.in-58.is refl

pub returns-in-23 : goal.returns-in-23
returns-in-23 c = rw c.in-23.is refl

pub returns-in-59 : goal.returns-in-59
returns-in-59 c = rw c.in-59.is refl

pub returns-in-24 : goal.returns-in-24
returns-in-24 c = rw c.in-24.is refl

pub returns-in-54 : goal.returns-in-54
returns-in-54 c = rw c.in-54.is refl

pub returns-in-53 : goal.returns-in-53
returns-in-53 c = rw c.in-53.is refl

pub returns-in-55 : goal.returns-in-55
returns-in-55 c = rw c.in-55.is refl

pub returns-in-56 : goal.returns-in-56
returns-in-56 c = rw c.in-56.is refl

pub returns-in-57 : goal.returns-in-57
returns-in-57 c = rw c.in-57.is refl

pub returns-in_default : goal.returns-in_default
returns-in_default c = no_place c.args.word binary_signs (not_in c.args.word binary_signs (c.in_default.in_default-own.rest.0.0.0.0.0.0.0.0.0.0.0.0.1, (c.in_default.in_default-own.rest.0.0.0.0.0.0.0.0.0.0.0.1, (c.in_default.in_default-own.rest.0.0.0.0.0.0.0.0.0.0.1, (c.in_default.in_default-own.rest.0.0.0.0.0.0.0.0.0.1, (c.in_default.in_default-own.rest.0.0.0.0.0.0.0.0.1, (c.in_default.in_default-own.rest.0.0.0.0.0.0.0.1, (c.in_default.in_default-own.rest.0.0.0.0.0.0.1, (c.in_default.in_default-own.rest.0.0.0.0.0.1, (c.in_default.in_default-own.rest.0.0.0.0.1, (c.in_default.in_default-own.rest.0.0.0.1, (c.in_default.in_default-own.rest.0.0.1, (c.in_default.in_default-own.rest.0.1, (c.in_default.in_default-own.rest.1, tt))))))))))))))
