use Rattle.promises.proofs.Answered.{handed}
use Rattle.parser.specs.Places.{here_at}
use Rattle.parser.specs.Counted.{counts}
use mathlib.Core.Bool.{false}
use Rattle.promises.proofs.Imports.{limited}
use Rattle.promises.proofs.Wholes.{finished_long, first_stands, expression_refused, expression_left, expression_read}
use borrow.Author.Rules.{rules}
use mathlib.Core.Path.{sym, ap, ◌∙◌}
use Rattle.reader.proofs.expression.Goals as goal

pub returns-then-s-gt-MOST_BYTES : goal.returns-then-s-gt-MOST_BYTES
returns-then-s-gt-MOST_BYTES c = finished_long false false _ _ c.if-s-gt-MOST_BYTES.true c.refuse.ensures

pub expr-requires : goal.expr-requires
expr-requires c = first_stands _ c.if-s-gt-MOST_BYTES.false (c.look-first.ensures ∙ ap (λ n. here_at c.args.s.now n 0) c.new.ensures)

pub returns-in_err-found : goal.returns-in_err-found
unfolding counts
returns-in_err-found c = rw (handed c.from_residual.ensures.1, ← c.in_err-found.was) (expression_refused false _ _ c.if-s-gt-MOST_BYTES.false (c.look-first.ensures ∙ ap (λ n. here_at c.args.s.now n 0) c.new.ensures) (limited c.all.ensures c.expr.ensures) c.in_err-found.was)

pub returns-then-word-ne-NONE : goal.returns-then-word-ne-NONE
unfolding counts
returns-then-word-ne-NONE c = expression_left false _ _ c.if-s-gt-MOST_BYTES.false (c.look-first.ensures ∙ ap (λ n. here_at c.args.s.now n 0) c.new.ensures) (limited c.all.ensures c.expr.ensures) c.in_ok-found.was (λ e. c.if-word-ne-NONE.true (c.word.ensures ∙ e)) c.unusable.ensures

pub returns : goal.returns
unfolding counts
returns c = expression_read false _ _ c.if-s-gt-MOST_BYTES.false (c.look-first.ensures ∙ ap (λ n. here_at c.args.s.now n 0) c.new.ensures) (limited c.all.ensures c.expr.ensures) c.in_ok-found.was (sym c.word.ensures ∙ c.if-word-ne-NONE.false)
