use mathlib.Core.Path.{sym, ◌∙◌}
use Rattle.parser.proofs.Laws.{closing_is, closing_not, took_taken, took_refused, list_taken}
use borrow.Author.Rules.{rules}
use Rattle.parser.proofs.close.Goals as goal

pub returns-then-word : goal.returns-then-word
returns-then-word c = closing_not c.args.s.now c.args.here c.args.word c.args.start c.args.children (λ e. c.if-word.true (c.word.ensures ∙ e)) c.unusable.ensures

pub returns-in_default : goal.returns-in_default
returns-in_default c = closing_is c.args.s.now c.args.here c.args.word c.args.start c.args.children (sym c.word.ensures ∙ c.if-word.false) (took_refused _ c.in_default.is c.unusable-in_default.ensures)

pub returns : goal.returns
returns c = closing_is c.args.s.now c.args.here c.args.word c.args.start c.args.children (sym c.word.ensures ∙ c.if-word.false) (took_taken _ c.in-Ok.is (list_taken c.args.s.now c.args.here c.args.start c.args.children c.in-Ok.is c.look.ensures))
