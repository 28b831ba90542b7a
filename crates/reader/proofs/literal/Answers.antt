use borrow.Author.Rules.{rules}
use Rattle.grammar.specs.Words.{literals}
use Rattle.parser.proofs.Steps.{never_refused}
use Rattle.promises.proofs.Wholes.{token_none, token_read}
use Rattle.parser.proofs.Laws.{took_refused}
use Rattle.reader.proofs.literal.Goals as goal

pub returns-in_default : goal.returns-in_default
returns-in_default c = λ d. never_refused c.args.s.now c.args.here literals tt c.requires.1 (took_refused _ c.in_default.is c.unusable.ensures) c.unusable.ensures

pub returns-in_default-literal_at : goal.returns-in_default-literal_at
returns-in_default-literal_at c = λ d. token_none _ d _ _ c.requires.0 c.requires.1 c.in-Ok.is c.code_of.ensures c.literal_at.ensures.0 c.in_default-literal_at.is c.refuse.ensures

pub returns : goal.returns
returns c = λ d. token_read _ d _ _ c.requires.0 c.requires.1 c.in-Ok.is c.code_of.ensures c.literal_at.ensures.0 c.in-Some.is c.look.ensures c.finish.ensures
