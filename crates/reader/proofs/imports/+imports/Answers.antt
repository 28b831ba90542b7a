use Prim.Native.Nat.{ℕ, ◌-◌, ◌<◌}
use Rattle.grammar.specs.Grammar.{one_of}
use Rattle.grammar.specs.Limits.{zeros}
use Rattle.grammar.specs.Words.{path_items}
use Rattle.parser.proofs.Going.{few_rows}
use Rattle.parser.proofs.Standing.{is_word}
use Rattle.parser.proofs.Steps.{never_refused, took_done}
use Rattle.parser.specs.Places.{next_of}
use Rattle.promises.proofs.Answered.{handed, kept_either, further}
use Rattle.promises.proofs.Blocks.{closed_by}
use Rattle.promises.proofs.Imports.{Counting, closed_kept, Gathers, counting_few, counting_more, grouped_of, group_inner, group_starts, group_opens, group_unopened, group_refused, group_more, group_ends, Goes, path_begins, path_refused, path_onward, path_grouped, path_neither, path_fails, path_more, path_ends}
use Rattle.promises.proofs.Tests.{true_so, false_so}
use borrow.Author.Rules.{rules}
use borrow.Author.Tests.{not-true, not-false}
use lib.ListN.{length}
use mathlib.Core.List.{◌∷◌, []}
use mathlib.Core.Path.{◌≡◌, refl, ◌∙◌, sym, ap}
use native.Mathlib.Omega.{arith}
use Rattle.reader.proofs.imports.+imports.Goals as goal

pub import_group-returns-in_err-inside : goal.import_group-returns-in_err-inside
import_group-returns-in_err-inside t c = rw (handed c.from_residual.ensures.1, ← c.in_err-inside.was) (grouped_of (λ d₀ n i t₀ d e w j k b. group_unopened _ k b c.requires.1 c.open.ensures c.in_err-inside.was))

pub import_group-loop-next-init : goal.import_group-loop-next-init
import_group-loop-next-init t c = ((group_starts _ _ _ c.open.ensures c.in_ok-inside.was c.requires.0 c.requires.2).0, refl, λ d₀ n i t d k b. b)

pub import_group-import_path-requires : goal.import_group-import_path-requires
import_group-import_path-requires t c = (omega (arith, c.decreases, (group_starts _ _ _ c.open.ensures c.in_ok-inside.was c.requires.0 c.requires.2).1, c.loop-next.invariant.0.ahead, counting_few c.loop-next.invariant.0), c.loop-next.invariant.0.stands)

pub import_group-returns-in_err-next : goal.import_group-returns-in_err-next
import_group-returns-in_err-next t c = rw (handed c.from_residual-in_err-next.ensures.1, ← c.in_err-next.was) (grouped_of (λ d₀ n i t₀ d e w j k b. group_refused _ (group_inner _ _ _ c.open.ensures c.in_ok-inside.was k c.opened-inner.ensures) (c.loop-next.invariant.2 d₀ n i t₀ d (group_inner _ _ _ c.open.ensures c.in_ok-inside.was k c.opened-inner.ensures) (group_opens _ k b c.requires.1 c.open.ensures c.in_ok-inside.was)) c.import_path.ensures c.in_err-next.was))

pub import_group-overflow_add-children : goal.import_group-overflow_add-children
import_group-overflow_add-children t c = omega (arith, counting_few c.loop-next.invariant.0)

pub import_group-returns-then-word-ne-COMMA : goal.import_group-returns-then-word-ne-COMMA
import_group-returns-then-word-ne-COMMA t c = grouped_of (λ d₀ n i t₀ d e w j k b. group_ends _ (group_inner _ _ _ c.open.ensures c.in_ok-inside.was k c.opened-inner.ensures) (c.loop-next.invariant.2 d₀ n i t₀ d (group_inner _ _ _ c.open.ensures c.in_ok-inside.was k c.opened-inner.ensures) (group_opens _ k b c.requires.1 c.open.ensures c.in_ok-inside.was)) c.import_path.ensures c.in_ok-next.was (λ e. c.if-word-ne-COMMA.true (c.word.ensures ∙ e)) (refl) (closed_by refl j c.braced.ensures))

pub import_group-returns-in_err-after : goal.import_group-returns-in_err-after
import_group-returns-in_err-after t c = never_refused _ _ (48 ∷ []) tt (is_word (sym c.word.ensures ∙ c.if-word-ne-COMMA.false)) c.take.ensures c.in_err-after.was

pub import_group-loop-next-smaller : goal.import_group-loop-next-smaller
import_group-loop-next-smaller t c = omega (arith, (counting_more c.loop-next.invariant.0 c.import_path.ensures c.in_ok-next.was (sym c.word.ensures ∙ c.if-word-ne-COMMA.false) (took_done _ _ c.take.ensures c.in_ok-after.was).here).1, counting_few (counting_more c.loop-next.invariant.0 c.import_path.ensures c.in_ok-next.was (sym c.word.ensures ∙ c.if-word-ne-COMMA.false) (took_done _ _ c.take.ensures c.in_ok-after.was).here).0)

pub import_group-loop-next-preserved : goal.import_group-loop-next-preserved
import_group-loop-next-preserved t c = ((counting_more c.loop-next.invariant.0 c.import_path.ensures c.in_ok-next.was (sym c.word.ensures ∙ c.if-word-ne-COMMA.false) (took_done _ _ c.take.ensures c.in_ok-after.was).here).0, kept_either c.import_path.ensures ∙ c.loop-next.invariant.1, λ d₀ n i t₀ d k b. group_more _ k (c.loop-next.invariant.2 d₀ n i t₀ d k b) c.import_path.ensures c.in_ok-next.was (sym c.word.ensures ∙ c.if-word-ne-COMMA.false) (took_done _ _ c.take.ensures c.in_ok-after.was).here)

pub import_path-path_item-requires : goal.import_path-path_item-requires
import_path-path_item-requires t c = c.requires

pub import_path-returns-in_err-first : goal.import_path-returns-in_err-first
import_path-returns-in_err-first t c = rw (handed c.from_residual.ensures.1, ← c.in_err-first.was) (path_refused _ _ _ _ c.requires c.path_item.ensures c.in_err-first.was)

pub import_path-loop-limits-init : goal.import_path-loop-limits-init
import_path-loop-limits-init t c = λ i t b. b

pub import_path-returns-in_err-behind : goal.import_path-returns-in_err-behind
import_path-returns-in_err-behind t c = never_refused _ _ (49 ∷ []) tt (is_word (sym c.word.ensures ∙ c.loop-limits-test.true)) c.take.ensures c.in_err-behind.was

pub import_path-import_group-requires : goal.import_path-import_group-requires
import_path-import_group-requires t c = (omega (arith, c.decreases, path_onward _ _ _ _ (c.loop-limits.invariant _ _ (path_begins _ _ _ _ c.requires c.path_item.ensures c.in_ok-first.was)) (sym c.word.ensures ∙ c.loop-limits-test.true) (took_done _ _ c.take.ensures c.in_ok-behind.was).here), ((path_onward _ _ _ _ (c.loop-limits.invariant _ _ (path_begins _ _ _ _ c.requires c.path_item.ensures c.in_ok-first.was)) (sym c.word.ensures ∙ c.loop-limits-test.true) (took_done _ _ c.take.ensures c.in_ok-behind.was).here).0, (sym c.word-in-loop-limits.ensures ∙ c.if-word-eq-CURLY_LEFT.true), (path_onward _ _ _ _ (c.loop-limits.invariant _ _ (path_begins _ _ _ _ c.requires c.path_item.ensures c.in_ok-first.was)) (sym c.word.ensures ∙ c.loop-limits-test.true) (took_done _ _ c.take.ensures c.in_ok-behind.was).here).1))

pub import_path-returns-then-word-eq-CURLY_LEFT : goal.import_path-returns-then-word-eq-CURLY_LEFT
import_path-returns-then-word-eq-CURLY_LEFT t c = path_grouped _ _ _ _ (c.loop-limits.invariant _ _ (path_begins _ _ _ _ c.requires c.path_item.ensures c.in_ok-first.was)) (sym c.word.ensures ∙ c.loop-limits-test.true) (took_done _ _ c.take.ensures c.in_ok-behind.was).here c.import_group.ensures

pub import_path-returns-then-not-is_path_item : goal.import_path-returns-then-not-is_path_item
import_path-returns-then-not-is_path_item t c = path_neither _ _ _ _ (c.loop-limits.invariant _ _ (path_begins _ _ _ _ c.requires c.path_item.ensures c.in_ok-first.was)) (sym c.word.ensures ∙ c.loop-limits-test.true) (took_done _ _ c.take.ensures c.in_ok-behind.was).here (λ e. c.if-word-eq-CURLY_LEFT.false (c.word-in-loop-limits.ensures ∙ e)) (false_so (c.is_path_item.ensures ∙ ap (λ w. one_of w path_items) c.word-in-loop-limits-2.ensures) c.if-not-is_path_item.true) c.unusable.ensures

pub import_path-path_item-requires-in-loop-limits : goal.import_path-path_item-requires-in-loop-limits
import_path-path_item-requires-in-loop-limits t c = (path_onward _ _ _ _ (c.loop-limits.invariant _ _ (path_begins _ _ _ _ c.requires c.path_item.ensures c.in_ok-first.was)) (sym c.word.ensures ∙ c.loop-limits-test.true) (took_done _ _ c.take.ensures c.in_ok-behind.was).here).0

pub import_path-returns-in_err-found : goal.import_path-returns-in_err-found
import_path-returns-in_err-found t c = rw (handed c.from_residual-in_err-found.ensures.1, ← c.in_err-found.was) (path_fails _ _ _ _ (c.loop-limits.invariant _ _ (path_begins _ _ _ _ c.requires c.path_item.ensures c.in_ok-first.was)) (sym c.word.ensures ∙ c.loop-limits-test.true) (took_done _ _ c.take.ensures c.in_ok-behind.was).here (true_so (c.is_path_item.ensures ∙ ap (λ w. one_of w path_items) c.word-in-loop-limits-2.ensures) c.if-not-is_path_item.false) c.path_item-in-loop-limits.ensures c.in_err-found.was)

pub import_path-overflow_add-children : goal.import_path-overflow_add-children
import_path-overflow_add-children t c = omega (arith, few_rows (c.loop-limits.invariant _ _ (path_begins _ _ _ _ c.requires c.path_item.ensures c.in_ok-first.was)).going)

pub import_path-loop-limits-smaller : goal.import_path-loop-limits-smaller
import_path-loop-limits-smaller t c = omega (arith, path_onward _ _ _ _ (c.loop-limits.invariant _ _ (path_begins _ _ _ _ c.requires c.path_item.ensures c.in_ok-first.was)) (sym c.word.ensures ∙ c.loop-limits-test.true) (took_done _ _ c.take.ensures c.in_ok-behind.was).here, (further (c.path_item-in-loop-limits.ensures zeros) c.in_ok-found.was).next)

pub import_path-loop-limits-preserved : goal.import_path-loop-limits-preserved
import_path-loop-limits-preserved t c = λ i t b. path_more _ _ _ _ (c.loop-limits.invariant i t b) (sym c.word.ensures ∙ c.loop-limits-test.true) (took_done _ _ c.take.ensures c.in_ok-behind.was).here (true_so (c.is_path_item.ensures ∙ ap (λ w. one_of w path_items) c.word-in-loop-limits-2.ensures) c.if-not-is_path_item.false) c.path_item-in-loop-limits.ensures c.in_ok-found.was

pub import_path-returns : goal.import_path-returns
import_path-returns t c = path_ends _ _ _ _ (c.loop-limits.invariant _ _ (path_begins _ _ _ _ c.requires c.path_item.ensures c.in_ok-first.was)) (λ e. c.loop-limits-test.false (c.word.ensures ∙ e)) c.plain_row.ensures c.finish.ensures
