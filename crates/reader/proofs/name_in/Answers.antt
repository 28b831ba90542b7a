use borrow.Author.Rules.{rules}
use Rattle.grammar.specs.Words.{'in'}
use Rattle.parser.specs.Places.{expected}
use Rattle.promises.proofs.Answered.{handed, not_both, done_is}
use mathlib.Core.Path.{ap, refl, ◌∙◌}
use Rattle.reader.proofs.name_in.Goals as goal

pub identifier-requires : goal.identifier-requires
identifier-requires c = c.requires

pub returns-in_err-next : goal.returns-in_err-next
returns-in_err-next c = rw (handed c.from_residual.ensures.1, ← c.in_err-next.was) (record { first = _; name = c.identifier.ensures.0; stops = λ e. refl; goes = λ e. not_both e c.in_err-next.was })

pub returns : goal.returns
returns c = record { first = _; name = c.identifier.ensures.0; stops = λ e. not_both c.in_ok-next.was e; goes = λ e. c.expect.ensures ∙ ap (λ z. expected c.args.s.now z 'in') (done_is c.in_ok-next.was e).1 }
