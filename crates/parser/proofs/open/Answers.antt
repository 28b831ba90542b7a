use mathlib.Core.Path.{sym, ◌∙◌}
use Rattle.parser.proofs.Laws.{opening_is, opening_not}
use borrow.Author.Rules.{rules}
use Rattle.parser.proofs.open.Goals as goal

pub returns-then-word-bracket : goal.returns-then-word-bracket
returns-then-word-bracket c = opening_not c.args.s.now c.args.here c.args.bracket c.args.limits.brackets (λ e. c.if-word-bracket.true (c.word.ensures ∙ e)) c.unusable.ensures

pub returns : goal.returns
returns c = opening_is c.args.s.now c.args.here c.args.bracket c.args.limits.brackets (sym c.word.ensures ∙ c.if-word-bracket.false) c.deeper.ensures
