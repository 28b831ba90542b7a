use mathlib.Core.Path.{sym, ◌∙◌}
use Rattle.parser.proofs.Laws.{expected_is, expected_not}
use borrow.Author.Rules.{rules}
use Rattle.parser.proofs.expect.Goals as goal

pub returns-then-word : goal.returns-then-word
returns-then-word c = expected_not c.args.s.now c.args.here c.args.word (λ e. c.if-word.true (c.word.ensures ∙ e)) c.unusable.ensures

pub returns : goal.returns
returns c = expected_is c.args.s.now c.args.here c.args.word (sym c.word.ensures ∙ c.if-word.false) c.take.ensures
