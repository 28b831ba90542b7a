use Prim.Native.Nat.{ℕ, ◌+◌, ◌-◌, ◌*◌, ◌<◌}
use Rattle.grammar.specs.Grammar.{one_of}
use Rattle.grammar.specs.Limits.{zeros}
use Rattle.grammar.specs.Words.{path_items, names}
use Rattle.parser.proofs.Going.{few_rows, kept_length}
use Rattle.parser.proofs.Standing.{is_word}
use Rattle.parser.proofs.Steps.{never_refused, took_done}
use Rattle.parser.specs.Counted.{counts}
use Rattle.parser.specs.Places.{next_of}
use Rattle.promises.proofs.Answered.{handed, put_behind, further, falls_on, falls_same, not_both}
use Rattle.promises.proofs.Lists.{Loops, loop_begins, loop_more, loop_falls, loop_room, loop_refused, loop_ends, loop_closes, list_unopened, list_opened, opened_on, typed_names_list, types_list}
use Rattle.promises.proofs.Tests.{true_so, false_so}
use Rattle.promises.proofs.Types.{never_read, base_refused, base_read, base_alone, brackets_refused, brackets_read, brackets_ended, fields_refused, fields_read, no_type, Marks, type_begins, type_refused, type_marks, type_ends, mark_falls, name_refused, colon_missed, colon_read, typed_refused, typed_read, bracket_solid, closed_by, bracket_lexed, closing_lexed}
use Rattle.promises.specs.Firsts.{type_firsts}
use borrow.Author.Rules.{rules}
use lib.ListN.{length}
use mathlib.Core.List.{◌∷◌, []}
use mathlib.Core.Logic.{inr}
use mathlib.Core.Path.{sym, ◌∙◌, refl, ap}
use native.Mathlib.Omega.{arith}
use Rattle.reader.proofs.types.+types.Goals as goal

pub path_type-path-requires : goal.path_type-path-requires
path_type-path-requires t c = c.requires.0

pub path_type-returns-in_err-base : goal.path_type-returns-in_err-base
path_type-returns-in_err-base t c = rw (handed c.from_residual.ensures.1, ← c.in_err-base.was) (base_refused c.args.limits c.requires.0 c.requires.1 c.path.ensures.0 c.in_err-base.was)

pub path_type-returns-then-word-ne-SQUARE_LEFT : goal.path_type-returns-then-word-ne-SQUARE_LEFT
path_type-returns-then-word-ne-SQUARE_LEFT t c = base_alone c.args.limits c.requires.0 c.requires.1 c.path.ensures.0 c.in_ok-base.was (λ e. c.if-word-ne-SQUARE_LEFT.true (c.word.ensures ∙ e)) c.plain_row.ensures c.finish.ensures.0 c.finish.ensures.1

pub path_type-types-requires : goal.path_type-types-requires
path_type-types-requires t c = (falls_on _ 8 7 _ c.decreases (further (c.path.ensures.0 zeros) c.in_ok-base.was).next (base_read c.args.limits c.requires.0 c.requires.1 c.path.ensures.0 c.in_ok-base.was).stands (omega arith), (base_read c.args.limits c.requires.0 c.requires.1 c.path.ensures.0 c.in_ok-base.was).stands)

pub path_type-returns-in_err-list : goal.path_type-returns-in_err-list
path_type-returns-in_err-list t c = rw (handed c.from_residual-in_err-list.ensures.1, ← c.in_err-list.was) (brackets_refused c.args.limits c.requires.0 c.requires.1 c.path.ensures.0 c.in_ok-base.was (sym c.word.ensures ∙ c.if-word-ne-SQUARE_LEFT.false) c.types.ensures c.in_err-list.was)

pub path_type-overflow_add-list : goal.path_type-overflow_add-list
path_type-overflow_add-list t c = omega (arith, few_rows (brackets_read c.args.limits c.requires.0 c.requires.1 c.path.ensures.0 c.in_ok-base.was (sym c.word.ensures ∙ c.if-word-ne-SQUARE_LEFT.false) c.types.ensures c.in_ok-list.was))

pub path_type-returns : goal.path_type-returns
path_type-returns t c = brackets_ended c.args.limits c.requires.0 c.requires.1 c.path.ensures.0 c.in_ok-base.was (sym c.word.ensures ∙ c.if-word-ne-SQUARE_LEFT.false) c.types.ensures c.in_ok-list.was c.valued_row-row.ensures c.finish-2.ensures.0 c.finish-2.ensures.1

pub record_type-typed_names-requires : goal.record_type-typed_names-requires
record_type-typed_names-requires t c = (falls_same _ 8 7 _ c.decreases (omega arith), (c.requires.0, inr refl))

pub record_type-returns-in_err-list : goal.record_type-returns-in_err-list
record_type-returns-in_err-list t c = rw (handed c.from_residual.ensures.1, ← c.in_err-list.was) (fields_refused c.requires.0 c.requires.1 c.typed_names.ensures c.in_err-list.was)

pub record_type-returns : goal.record_type-returns
record_type-returns t c = fields_read c.requires.0 c.requires.1 c.typed_names.ensures c.in_ok-list.was c.plain_row-row.ensures c.finish.ensures.0 c.finish.ensures.1

pub type_base-returns-then-word-eq-BANG : goal.type_base-returns-then-word-eq-BANG
type_base-returns-then-word-eq-BANG t c = let k = sym c.word.ensures ∙ c.if-word-eq-BANG.true in let w = c.leaf.ensures (52 ∷ []) tt (is_word k) in never_read c.requires k refl refl w.0 (put_behind _ _ _ _ _ w.1) (counts c.args.limits)

pub type_base-unit_type-requires : goal.type_base-unit_type-requires
type_base-unit_type-requires t c = (c.requires, (sym c.word-2.ensures ∙ c.if-word-eq-ROUND_LEFT.true))

pub type_base-returns-then-word-eq-ROUND_LEFT : goal.type_base-returns-then-word-eq-ROUND_LEFT
type_base-returns-then-word-eq-ROUND_LEFT t c = c.unit_type.ensures

pub type_base-record_type-requires : goal.type_base-record_type-requires
type_base-record_type-requires t c = (falls_same _ 9 8 _ c.decreases (omega arith), (c.requires, (sym c.word-3.ensures ∙ c.if-word-eq-CURLY_LEFT.true)))

pub type_base-returns-then-word-eq-CURLY_LEFT : goal.type_base-returns-then-word-eq-CURLY_LEFT
type_base-returns-then-word-eq-CURLY_LEFT t c = c.record_type.ensures

pub type_base-path_type-requires : goal.type_base-path_type-requires
type_base-path_type-requires t c = (falls_same _ 9 8 _ c.decreases (omega arith), (c.requires, true_so (c.is_path_item.ensures ∙ ap (λ w. one_of w path_items) c.word-4.ensures) c.if-is_path_item.true))

pub type_base-returns-then-is_path_item : goal.type_base-returns-then-is_path_item
type_base-returns-then-is_path_item t c = c.path_type.ensures

pub type_base-returns : goal.type_base-returns
type_base-returns t c = no_type c.requires (λ e. c.if-word-eq-BANG.false (c.word.ensures ∙ e)) (λ e. c.if-word-eq-ROUND_LEFT.false (c.word-2.ensures ∙ e)) (λ e. c.if-word-eq-CURLY_LEFT.false (c.word-3.ensures ∙ e)) (false_so (c.is_path_item.ensures ∙ ap (λ w. one_of w path_items) c.word-4.ensures) c.if-is_path_item.false) c.unusable.ensures

pub type_expr-type_base-requires : goal.type_expr-type_base-requires
type_expr-type_base-requires t c = (falls_same _ 10 9 _ c.decreases (omega arith), c.requires)

pub type_expr-returns-in_err-first : goal.type_expr-returns-in_err-first
type_expr-returns-in_err-first t c = rw (handed c.from_residual.ensures.1, ← c.in_err-first.was) (type_refused c.requires c.type_base.ensures c.in_err-first.was)

pub type_expr-loop-at-init : goal.type_expr-loop-at-init
type_expr-loop-at-init t c = λ f e n g. g

pub type_expr-returns-in_err-marked : goal.type_expr-returns-in_err-marked
type_expr-returns-in_err-marked t c = rw (handed c.from_residual-in_err-marked.ensures.1, ← c.in_err-marked.was) (not_both (c.question.ensures (51 ∷ []) tt (is_word (sym c.word.ensures ∙ c.loop-at-test.true))).0 c.in_err-marked.was)

pub type_expr-loop-at-smaller : goal.type_expr-loop-at-smaller
type_expr-loop-at-smaller t c = mark_falls (c.loop-at.invariant _ refl refl (type_begins c.requires c.type_base.ensures c.in_ok-first.was)) (sym c.word.ensures ∙ c.loop-at-test.true) (c.question.ensures (51 ∷ []) tt (is_word (sym c.word.ensures ∙ c.loop-at-test.true))).0 c.in_ok-marked.was

pub type_expr-loop-at-preserved : goal.type_expr-loop-at-preserved
type_expr-loop-at-preserved t c = λ f e n g. type_marks e n (c.loop-at.invariant f e n g) (sym c.word.ensures ∙ c.loop-at-test.true) (c.question.ensures (51 ∷ []) tt (is_word (sym c.word.ensures ∙ c.loop-at-test.true))).0 (c.question.ensures (51 ∷ []) tt (is_word (sym c.word.ensures ∙ c.loop-at-test.true))).1 c.in_ok-marked.was

pub type_expr-returns : goal.type_expr-returns
type_expr-returns t c = type_ends (c.loop-at.invariant _ refl refl (type_begins c.requires c.type_base.ensures c.in_ok-first.was)) (λ e. c.loop-at-test.false (c.word.ensures ∙ e)) refl

pub typed_name-identifier-requires : goal.typed_name-identifier-requires
typed_name-identifier-requires t c = c.requires

pub typed_name-returns-in_err-name : goal.typed_name-returns-in_err-name
typed_name-returns-in_err-name t c = rw (handed c.from_residual.ensures.1, ← c.in_err-name.was) (name_refused c.args.limits c.requires c.identifier.ensures.0 c.in_err-name.was)

pub typed_name-returns-in_err-next : goal.typed_name-returns-in_err-next
typed_name-returns-in_err-next t c = rw (handed c.from_residual-in_err-next.ensures.1, ← c.in_err-next.was) (colon_missed c.args.limits c.requires c.identifier.ensures.0 c.in_ok-name.was c.expect.ensures c.in_err-next.was)

pub typed_name-type_expr-requires : goal.typed_name-type_expr-requires
typed_name-type_expr-requires t c = (falls_on _ 11 10 _ c.decreases (omega (arith, (colon_read c.args.limits c.requires c.identifier.ensures.0 c.in_ok-name.was c.expect.ensures c.in_ok-next.was).spares, (colon_read c.args.limits c.requires c.identifier.ensures.0 c.in_ok-name.was c.expect.ensures c.in_ok-next.was).counted)) (colon_read c.args.limits c.requires c.identifier.ensures.0 c.in_ok-name.was c.expect.ensures c.in_ok-next.was).stands (omega arith), (colon_read c.args.limits c.requires c.identifier.ensures.0 c.in_ok-name.was c.expect.ensures c.in_ok-next.was).stands)

pub typed_name-returns-in_err-ty : goal.typed_name-returns-in_err-ty
typed_name-returns-in_err-ty t c = rw (handed c.from_residual-in_err-ty.ensures.1, ← c.in_err-ty.was) (typed_refused c.args.limits c.requires c.identifier.ensures.0 c.in_ok-name.was c.expect.ensures c.in_ok-next.was c.plain.ensures c.type_expr.ensures c.in_err-ty.was)

pub typed_name-returns : goal.typed_name-returns
typed_name-returns t c = typed_read c.args.limits c.requires c.identifier.ensures.0 c.in_ok-name.was c.expect.ensures c.in_ok-next.was c.plain.ensures c.type_expr.ensures c.in_ok-ty.was c.plain_row.ensures c.finish.ensures.0 c.finish.ensures.1

pub typed_names-returns-in_err-opening : goal.typed_names-returns-in_err-opening
typed_names-returns-in_err-opening t c = rw (handed c.from_residual.ensures.1, ← c.in_err-opening.was) (list_unopened typed_names_list _ _ (bracket_lexed c.requires.1) c.open.ensures c.in_err-opening.was)

pub typed_names-loop-inner-init : goal.typed_names-loop-inner-init
typed_names-loop-inner-init t c = loop_begins typed_names_list (opened_on _ _ (bracket_solid c.requires.1) c.requires.0 c.open.ensures c.in_ok-opening.was).0

pub typed_names-typed_name-requires : goal.typed_names-typed_name-requires
typed_names-typed_name-requires t c = (falls_on _ 7 11 _ c.decreases (omega (arith, (opened_on _ _ (bracket_solid c.requires.1) c.requires.0 c.open.ensures c.in_ok-opening.was), c.loop-inner.invariant.next)) c.loop-inner.invariant.stands (omega arith), c.loop-inner.invariant.stands)

pub typed_names-returns-in_err-next : goal.typed_names-returns-in_err-next
typed_names-returns-in_err-next t c = rw (handed c.from_residual-in_err-next.ensures.1, ← c.in_err-next.was) (list_opened typed_names_list _ _ (bracket_lexed c.requires.1) c.open.ensures c.in_ok-opening.was c.opened-inner.ensures (loop_refused typed_names_list c.loop-inner.invariant _ _ (true_so (c.is_name.ensures ∙ ap (λ w. one_of w names) c.word.ensures) c.loop-inner-test.true) c.typed_name.ensures c.in_err-next.was))

pub typed_names-overflow_add-children : goal.typed_names-overflow_add-children
typed_names-overflow_add-children t c = omega (arith, loop_room typed_names_list c.loop-inner.invariant (omega arith))

pub typed_names-returns-then-word-ne-COMMA : goal.typed_names-returns-then-word-ne-COMMA
typed_names-returns-then-word-ne-COMMA t c = list_opened typed_names_list _ _ (bracket_lexed c.requires.1) c.open.ensures c.in_ok-opening.was c.opened-inner.ensures (loop_ends typed_names_list c.loop-inner.invariant _ _ (closing_lexed c.requires.1) (true_so (c.is_name.ensures ∙ ap (λ w. one_of w names) c.word.ensures) c.loop-inner-test.true) c.typed_name.ensures c.in_ok-next.was (λ e. c.if-word-ne-COMMA.true (c.word-in-loop-inner.ensures ∙ e)) (closed_by _ _ _ _ c.closing_of-closing.ensures c.close.ensures))

pub typed_names-returns-in_err-after : goal.typed_names-returns-in_err-after
typed_names-returns-in_err-after t c = never_refused _ _ (48 ∷ []) tt (is_word (sym c.word-in-loop-inner.ensures ∙ c.if-word-ne-COMMA.false)) c.take.ensures c.in_err-after.was

pub typed_names-loop-inner-smaller : goal.typed_names-loop-inner-smaller
typed_names-loop-inner-smaller t c = loop_falls typed_names_list c.loop-inner.invariant c.typed_name.ensures c.in_ok-next.was (sym c.word-in-loop-inner.ensures ∙ c.if-word-ne-COMMA.false) (took_done _ _ c.take.ensures c.in_ok-after.was).here

pub typed_names-loop-inner-preserved : goal.typed_names-loop-inner-preserved
typed_names-loop-inner-preserved t c = loop_more typed_names_list c.loop-inner.invariant (true_so (c.is_name.ensures ∙ ap (λ w. one_of w names) c.word.ensures) c.loop-inner-test.true) c.typed_name.ensures c.in_ok-next.was (sym c.word-in-loop-inner.ensures ∙ c.if-word-ne-COMMA.false) (took_done _ _ c.take.ensures c.in_ok-after.was).here

pub typed_names-returns : goal.typed_names-returns
typed_names-returns t c = list_opened typed_names_list _ _ (bracket_lexed c.requires.1) c.open.ensures c.in_ok-opening.was c.opened-inner.ensures (loop_closes typed_names_list c.loop-inner.invariant _ _ (closing_lexed c.requires.1) (false_so (c.is_name.ensures ∙ ap (λ w. one_of w names) c.word.ensures) c.loop-inner-test.false) (closed_by _ _ _ _ c.closing_of-closing.ensures c.close-2.ensures))

pub types-returns-in_err-opening : goal.types-returns-in_err-opening
types-returns-in_err-opening t c = rw (handed c.from_residual.ensures.1, ← c.in_err-opening.was) (list_unopened types_list 44 45 (tt) c.open.ensures c.in_err-opening.was)

pub types-loop-inner-init : goal.types-loop-inner-init
types-loop-inner-init t c = loop_begins types_list (opened_on 44 _ (tt) c.requires c.open.ensures c.in_ok-opening.was).0

pub types-type_expr-requires : goal.types-type_expr-requires
types-type_expr-requires t c = (falls_on _ 7 10 _ c.decreases (omega (arith, (opened_on 44 _ (tt) c.requires c.open.ensures c.in_ok-opening.was), c.loop-inner.invariant.next)) c.loop-inner.invariant.stands (omega arith), c.loop-inner.invariant.stands)

pub types-returns-in_err-next : goal.types-returns-in_err-next
types-returns-in_err-next t c = rw (handed c.from_residual-in_err-next.ensures.1, ← c.in_err-next.was) (list_opened types_list 44 45 (tt) c.open.ensures c.in_ok-opening.was c.opened-inner.ensures (loop_refused types_list c.loop-inner.invariant 45 _ (true_so (c.can_begin_type.ensures ∙ ap (λ w. one_of w type_firsts) c.word.ensures) c.loop-inner-test.true) c.type_expr.ensures c.in_err-next.was))

pub types-overflow_add-children : goal.types-overflow_add-children
types-overflow_add-children t c = omega (arith, loop_room types_list c.loop-inner.invariant (omega arith))

pub types-returns-then-word-ne-COMMA : goal.types-returns-then-word-ne-COMMA
types-returns-then-word-ne-COMMA t c = list_opened types_list 44 45 (tt) c.open.ensures c.in_ok-opening.was c.opened-inner.ensures (loop_ends types_list c.loop-inner.invariant 45 _ (tt) (true_so (c.can_begin_type.ensures ∙ ap (λ w. one_of w type_firsts) c.word.ensures) c.loop-inner-test.true) c.type_expr.ensures c.in_ok-next.was (λ e. c.if-word-ne-COMMA.true (c.word-in-loop-inner.ensures ∙ e)) c.close.ensures)

pub types-returns-in_err-after : goal.types-returns-in_err-after
types-returns-in_err-after t c = never_refused _ _ (48 ∷ []) tt (is_word (sym c.word-in-loop-inner.ensures ∙ c.if-word-ne-COMMA.false)) c.take.ensures c.in_err-after.was

pub types-loop-inner-smaller : goal.types-loop-inner-smaller
types-loop-inner-smaller t c = loop_falls types_list c.loop-inner.invariant c.type_expr.ensures c.in_ok-next.was (sym c.word-in-loop-inner.ensures ∙ c.if-word-ne-COMMA.false) (took_done _ _ c.take.ensures c.in_ok-after.was).here

pub types-loop-inner-preserved : goal.types-loop-inner-preserved
types-loop-inner-preserved t c = loop_more types_list c.loop-inner.invariant (true_so (c.can_begin_type.ensures ∙ ap (λ w. one_of w type_firsts) c.word.ensures) c.loop-inner-test.true) c.type_expr.ensures c.in_ok-next.was (sym c.word-in-loop-inner.ensures ∙ c.if-word-ne-COMMA.false) (took_done _ _ c.take.ensures c.in_ok-after.was).here

pub types-returns : goal.types-returns
types-returns t c = list_opened types_list 44 45 (tt) c.open.ensures c.in_ok-opening.was c.opened-inner.ensures (loop_closes types_list c.loop-inner.invariant 45 _ (tt) (false_so (c.can_begin_type.ensures ∙ ap (λ w. one_of w type_firsts) c.word.ensures) c.loop-inner-test.false) c.close-2.ensures)
