use mathlib.Core.Path.{refl}
use Rattle.parser.proofs.Laws.{refused_over, refused_quote, refused_other}
use Rattle.parser.proofs.word_of_refused.Goals as goal

pub returns-in-11 : goal.returns-in-11
returns-in-11 c = refused_over c.args.number c.in-11.is refl

pub returns-in-5 : goal.returns-in-5
returns-in-5 c = refused_quote c.args.number c.in-5.is refl

pub returns-in_default : goal.returns-in_default
returns-in_default c = refused_other c.args.number c.in_default.in_default-own.rest.0.1 c.in_default.in_default-own.rest.1 refl
