use Rattle.parser.specs.Places.{here_at, next_of}
use Rattle.parser.specs.Counted.{counts}
use mathlib.Core.Bool.{true}
use Prim.Native.Nat.{◌-◌}
use native.Mathlib.Omega.{arith}
use Rattle.promises.proofs.Tests.{true_so, false_so}
use Rattle.promises.proofs.Answered.{handed, further}
use Rattle.promises.proofs.Imports.{limited}
use Rattle.promises.proofs.Wholes.{Declares, finished_kept, finished_long, tree_begins, tree_few, tree_refused, tree_left, tree_read, tree_more}
use borrow.Author.Rules.{rules}
use mathlib.Core.Path.{sym, ap, ◌∙◌}
use Rattle.grammar.specs.Grammar.{one_of}
use Rattle.promises.specs.Firsts.{firsts_by}
use Rattle.reader.proofs.tree.Goals as goal

pub returns-then-s-gt-MOST_BYTES : goal.returns-then-s-gt-MOST_BYTES
returns-then-s-gt-MOST_BYTES c = finished_long _ true _ _ c.if-s-gt-MOST_BYTES.true c.refuse.ensures

pub loop-limits-init : goal.loop-limits-init
loop-limits-init c = λ i t b. b

pub declaration-requires : goal.declaration-requires
declaration-requires c = (c.loop-limits.invariant _ _ (tree_begins _ _ _ c.if-s-gt-MOST_BYTES.false (c.look-here.ensures ∙ ap (λ n. here_at c.args.s.now n 0) c.new.ensures))).going.stands

pub returns-in_err-next : goal.returns-in_err-next
unfolding counts
returns-in_err-next c = rw (handed c.from_residual.ensures.1, ← c.in_err-next.was) (tree_refused _ _ _ c.if-s-gt-MOST_BYTES.false (c.look-here.ensures ∙ ap (λ n. here_at c.args.s.now n 0) c.new.ensures) (c.loop-limits.invariant _ _ (tree_begins _ _ _ c.if-s-gt-MOST_BYTES.false (c.look-here.ensures ∙ ap (λ n. here_at c.args.s.now n 0) c.new.ensures))) (true_so (c.begins_declaration.ensures ∙ ap (λ w. one_of w (firsts_by c.args.tests)) c.word.ensures) c.loop-limits-test.true) (limited c.all-limits.ensures c.declaration.ensures) c.in_err-next.was)

pub overflow_add-children : goal.overflow_add-children
overflow_add-children c = omega (arith, tree_few _ _ _ c.if-s-gt-MOST_BYTES.false (c.look-here.ensures ∙ ap (λ n. here_at c.args.s.now n 0) c.new.ensures) (c.loop-limits.invariant _ _ (tree_begins _ _ _ c.if-s-gt-MOST_BYTES.false (c.look-here.ensures ∙ ap (λ n. here_at c.args.s.now n 0) c.new.ensures))))

pub loop-limits-smaller : goal.loop-limits-smaller
loop-limits-smaller c = omega (arith, tree_few _ _ _ c.if-s-gt-MOST_BYTES.false (c.look-here.ensures ∙ ap (λ n. here_at c.args.s.now n 0) c.new.ensures) (c.loop-limits.invariant _ _ (tree_begins _ _ _ c.if-s-gt-MOST_BYTES.false (c.look-here.ensures ∙ ap (λ n. here_at c.args.s.now n 0) c.new.ensures))), (further c.declaration.ensures c.in_ok-next.was).next)

pub loop-limits-preserved : goal.loop-limits-preserved
unfolding counts
loop-limits-preserved c = λ i t b. tree_more (c.loop-limits.invariant i t b) (true_so (c.begins_declaration.ensures ∙ ap (λ w. one_of w (firsts_by c.args.tests)) c.word.ensures) c.loop-limits-test.true) (limited c.all-limits.ensures c.declaration.ensures) c.in_ok-next.was

pub returns-then-word-ne-NONE : goal.returns-then-word-ne-NONE
returns-then-word-ne-NONE c = tree_left _ _ _ c.if-s-gt-MOST_BYTES.false (c.look-here.ensures ∙ ap (λ n. here_at c.args.s.now n 0) c.new.ensures) (c.loop-limits.invariant _ _ (tree_begins _ _ _ c.if-s-gt-MOST_BYTES.false (c.look-here.ensures ∙ ap (λ n. here_at c.args.s.now n 0) c.new.ensures))) (false_so (c.begins_declaration.ensures ∙ ap (λ w. one_of w (firsts_by c.args.tests)) c.word.ensures) c.loop-limits-test.false) (λ e. c.if-word-ne-NONE.true (c.word-2.ensures ∙ e)) c.unusable.ensures

pub returns : goal.returns
returns c = tree_read _ _ _ c.if-s-gt-MOST_BYTES.false (c.look-here.ensures ∙ ap (λ n. here_at c.args.s.now n 0) c.new.ensures) (c.loop-limits.invariant _ _ (tree_begins _ _ _ c.if-s-gt-MOST_BYTES.false (c.look-here.ensures ∙ ap (λ n. here_at c.args.s.now n 0) c.new.ensures))) (sym c.word-2.ensures ∙ c.if-word-ne-NONE.false) c.plain_row.ensures c.finish.ensures
