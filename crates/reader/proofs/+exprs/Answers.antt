use Rattle.std.specs.Prelude.{Ok}
use Prim.Native.Nat.{◌-◌, ℕ, ◌+◌, ◌*◌, ◌<◌}
use Rattle.grammar.specs.Grammar.{one_of}
use Rattle.grammar.specs.Kinds.{F_STRING, AFTER_EXPR, AFTER_FOUR}
use Rattle.grammar.specs.Limits.{zeros}
use Rattle.grammar.specs.Rows.{detail_for}
use Rattle.grammar.specs.Words.{assign_signs, four_words, literals, path_items, names, open_brace, return_words}
use Rattle.parser.proofs.Going.{few_rows, last}
use Rattle.parser.proofs.Laws.{took_here, word_taken, start_refused, start_taken, stepped_here, under_on, under_out}
use Rattle.parser.proofs.Standing.{is_word, past_word, next_small, f_quote_untaken, start_small, never_untaken}
use Rattle.parser.proofs.Steps.{never_refused, took_done, under_done}
use Rattle.parser.specs.Counted.{counts}
use Rattle.parser.specs.Going.{Stands}
use Rattle.parser.specs.Places.{next_of, word_of, start_of, token_node}
use Rattle.parser.specs.declared.Here.{Here}
use Rattle.parser.specs.declared.Limits.{Limits}
use Rattle.parser.specs.declared.Node.{Node}
use Rattle.promises.proofs.Alternatives.{expr_off, operand_four_on, operand_literal_on, operand_parens_on, operand_string_on, four_for_on, four_if_on, four_match_on, four_off, four_while_on, after_expr_on, after_four_semicolon_on, statement_import_on, statement_let_on}
use Rattle.promises.proofs.Answered.{handed, ended_on, last_on, kept_either, further, not_both, none_fits, read_as, rows_small}
use Rattle.promises.proofs.Arms.{arm_arrow, arm_arrow_fails, arm_ends, arm_fails, arm_guard_fails, arm_guarded, arm_pattern_fails, body_block, body_expr, body_fails, guard_ends, guard_fails, guard_none, Gone, arm_further, armed, arms_end, arms_fail, arms_last, gone_few, gone_on, gone_start}
use Rattle.promises.proofs.Blocks.{block_inside, block_read, block_refused, beyond, beyond_both, beyond_of, let_expr, let_name, let_nameless, let_read, let_signless, let_type, let_types, let_unended, let_untyped, let_valueless, behind_expr, behind_four, beyond_ended, beyond_with, beyond_without, ends_four, ends_last, ends_with, four_refused, no_statement, whole_statement, Round, ended_less, four_less, round_ended, round_few, round_first, round_four, stmts_end, stmts_fails, stmts_last}
use Rattle.promises.proofs.Chains.{Links, links_begin, links_behind, links_else, links_end, links_fails, links_long, links_on}
use Rattle.promises.proofs.Exprs.{expr_assigned, expr_behind, expr_eight, expr_fails, expr_plain, expr_refused, operand_first, is_return, no_return, no_sign, tightest, goes_on, negate_deep, negate_ends, negate_fails, operand_goes, sign_of}
use Rattle.promises.proofs.Heads.{test_block, test_fails, else_block_fails, else_ends, else_fails, four_deep, four_past, head_answers, head_ends, head_fails, head_on, last_four, name_in_fails, name_in_on, name_in_past, heads, match_ends, match_expr_fails, match_fails, opening_past}
use Rattle.promises.proofs.Leaves.{detailed, row_is, plain_from, start_is}
use Rattle.promises.proofs.Levels.{Chained, behind_level, chained_again, chained_begins, level_below, level_ends, level_from, levels_alone, levels_behind, levels_end, levels_fails, levels_few, levels_less, levels_now, levels_refused, levels_untaken}
use Rattle.promises.proofs.Lists.{Loops, exprs_list, list_opened, list_unopened, loop_begins, loop_closes, loop_ends, loop_more, loop_refused, fields_list}
use Rattle.promises.proofs.Operands.{Accesses, access_ends, access_on, operand_stands, closed_onward, loop_few, opening_stands, place_near, refused_onward, atom_block, atom_braces, atom_read, atom_unused, braces_fields, braces_named, braces_shut, braces_stated, field_nameless, field_read, field_signless, field_stands, field_stops, parens_open, parens_read, parens_shut, parens_stops, path_alone, path_stops, record_read, record_shut, where_records, call_stops, called, last_sign, questioned, fields_last, fields_over, fields_stop}
use Rattle.promises.proofs.Partly.{partly_of, stops_answer}
use Rattle.promises.proofs.Returns.{Returns, return_elsewhere, return_small, return_there, returns_bare, returns_begin, returns_behind, returns_deep, returns_fails, returns_on, returns_valued}
use Rattle.promises.proofs.Spelled.{Spelling, behind_piece, hole_again, hole_fails, hole_further, hole_inside, hole_shut, hole_unclosed, spelling_begins, string_ends, string_few, string_torn}
use Rattle.promises.proofs.Tests.{false_so, true_so}
use Rattle.promises.specs.Firsts.{postfix_signs, expr_firsts, arm_end, level_of, sign_words, sign_kind, few, ends_return, statement_firsts}
use Rattle.promises.specs.Promises.{the, Beyond}
use borrow.Author.Rules.{rules}
use borrow.Author.Tests.{not-false, not-true}
use lib.Dec.{T}
use lib.ListN.{length}
use mathlib.Core.List.{[], ◌∷◌}
use mathlib.Core.Logic.{inr, ◌≢◌, inl}
use mathlib.Core.Path.{◌≡◌, ◌∙◌, ap, refl, sym, subst}
use native.Mathlib.Omega.{arith}
use Rattle.promises.proofs.Blocks.{expr_refused as statement_refused}
use Rattle.reader.proofs.+exprs.Goals as goal
use Rattle.reader.proofs.+exprs.Goals.{operand-then-signed+in-Ok+else-limits-eq0, operand-else-signed, operand-then-signed-2, operand-else-signed-2}

pub access-atom-requires : goal.access-atom-requires
access-atom-requires t c = (omega (arith, c.decreases), c.requires)

pub access-returns-in_err-first : goal.access-returns-in_err-first
access-returns-in_err-first t c = rw (handed c.from_residual.ensures.1, ← c.in_err-first.was) (stops_answer c.atom.ensures c.in_err-first.was)

pub access-returns-then-not-is_postfix : goal.access-returns-then-not-is_postfix
access-returns-then-not-is_postfix t c = access_ends (partly_of c.atom.ensures c.in_ok-first.was) (false_so (c.is_postfix.ensures ∙ ap (λ w. one_of w postfix_signs) c.word.ensures) c.if-not-is_postfix.true) refl

pub access-loop-at-init : goal.access-loop-at-init
access-loop-at-init t c = (λ f b i n u. u, refl)

pub access-postfix-requires : goal.access-postfix-requires
access-postfix-requires t c = (let k = (operand_stands (c.loop-at.invariant.0 _ _ refl refl (partly_of c.atom.ensures c.in_ok-first.was))).1 in omega (arith, c.decreases, k), ((operand_stands (c.loop-at.invariant.0 _ _ refl refl (partly_of c.atom.ensures c.in_ok-first.was))).0, true_so ((c.is_postfix-in-loop-at.ensures ∙ ap (λ w. one_of w postfix_signs) c.word-in-loop-at.ensures)) c.loop-at-test.true))

pub access-returns-in_err-found : goal.access-returns-in_err-found
access-returns-in_err-found t c = rw (handed c.from_residual-in_err-found.ensures.1, ← c.in_err-found.was) (stops_answer (c.postfix.ensures.0 _ _ refl refl (c.loop-at.invariant.0 _ _ refl refl (partly_of c.atom.ensures c.in_ok-first.was))) c.in_err-found.was)

pub access-loop-at-smaller : goal.access-loop-at-smaller
access-loop-at-smaller t c = let k = access_on (c.loop-at.invariant.0 _ _ refl refl (partly_of c.atom.ensures c.in_ok-first.was)) c.postfix.ensures c.in_ok-found.was in omega (arith, k)

pub access-loop-at-preserved : goal.access-loop-at-preserved
access-loop-at-preserved t c = (λ f b i n u. partly_of (c.postfix.ensures.0 f b i n (c.loop-at.invariant.0 f b i n u)) c.in_ok-found.was, c.postfix.auto.table ∙ c.loop-at.invariant.1)

pub access-returns : goal.access-returns
access-returns t c = access_ends (c.loop-at.invariant.0 _ _ refl refl (partly_of c.atom.ensures c.in_ok-first.was)) (false_so (c.is_postfix-in-loop-at.ensures ∙ ap (λ w. one_of w postfix_signs) c.word-in-loop-at.ensures) c.loop-at-test.false) refl

pub arguments-returns-in_err-opening : goal.arguments-returns-in_err-opening
arguments-returns-in_err-opening t c = rw (handed c.from_residual.ensures.1, ← c.in_err-opening.was) ((list_unopened exprs_list 42 43 tt c.open.ensures c.in_err-opening.was, tt, tt))

pub arguments-loop-inner-init : goal.arguments-loop-inner-init
arguments-loop-inner-init t c = loop_begins exprs_list (opening_stands 42 _ tt c.requires c.open.ensures c.in_ok-opening.was).0

pub arguments-expr-requires : goal.arguments-expr-requires
arguments-expr-requires t c = (let a = (opening_stands 42 _ tt c.requires c.open.ensures c.in_ok-opening.was).1 in let b = c.loop-inner.invariant.next in let k = place_near c.loop-inner.invariant.stands in omega (arith, c.decreases, a, b, k), c.loop-inner.invariant.stands)

pub arguments-returns-in_err-next : goal.arguments-returns-in_err-next
arguments-returns-in_err-next t c = rw (handed c.from_residual-in_err-next.ensures.1, ← c.in_err-next.was) ((list_opened exprs_list 42 43 tt c.open.ensures c.in_ok-opening.was c.opened-inner.ensures (loop_refused exprs_list c.loop-inner.invariant 43 _ (true_so ((c.can_begin_expr.ensures ∙ ap (λ w. one_of w expr_firsts) c.word.ensures)) c.loop-inner-test.true) c.expr.ensures c.in_err-next.was), tt, tt))

pub arguments-overflow_add-children : goal.arguments-overflow_add-children
arguments-overflow_add-children t c = let k = loop_few exprs_list c.loop-inner.invariant (omega arith) in omega (arith, k)

pub arguments-returns-then-word-ne-COMMA : goal.arguments-returns-then-word-ne-COMMA
arguments-returns-then-word-ne-COMMA t c = (list_opened exprs_list 42 43 tt c.open.ensures c.in_ok-opening.was c.opened-inner.ensures (loop_ends exprs_list c.loop-inner.invariant 43 _ tt (true_so ((c.can_begin_expr.ensures ∙ ap (λ w. one_of w expr_firsts) c.word.ensures)) c.loop-inner-test.true) c.expr.ensures c.in_ok-next.was ((λ e. c.if-word-ne-COMMA.true (c.word-in-loop-inner.ensures ∙ e))) c.close.ensures), (closed_onward 43 _ _ c.args.at _ tt (further c.expr.ensures c.in_ok-next.was).stands (let a = (opening_stands 42 _ tt c.requires c.open.ensures c.in_ok-opening.was).1 in let b = c.loop-inner.invariant.next in let k = (further c.expr.ensures c.in_ok-next.was).next in omega (arith, a, b, k)) (loop_few exprs_list c.loop-inner.invariant (omega arith)) c.close.ensures).0, (closed_onward 43 _ _ c.args.at _ tt (further c.expr.ensures c.in_ok-next.was).stands (let a = (opening_stands 42 _ tt c.requires c.open.ensures c.in_ok-opening.was).1 in let b = c.loop-inner.invariant.next in let k = (further c.expr.ensures c.in_ok-next.was).next in omega (arith, a, b, k)) (loop_few exprs_list c.loop-inner.invariant (omega arith)) c.close.ensures).1)

pub arguments-returns-in_err-after : goal.arguments-returns-in_err-after
arguments-returns-in_err-after t c = never_refused _ _ (48 ∷ []) tt (is_word (sym c.word-in-loop-inner.ensures ∙ c.if-word-ne-COMMA.false)) c.take.ensures c.in_err-after.was

pub arguments-loop-inner-smaller : goal.arguments-loop-inner-smaller
arguments-loop-inner-smaller t c = let w = loop_more exprs_list c.loop-inner.invariant (true_so ((c.can_begin_expr.ensures ∙ ap (λ w. one_of w expr_firsts) c.word.ensures)) c.loop-inner-test.true) c.expr.ensures c.in_ok-next.was ((sym c.word-in-loop-inner.ensures ∙ c.if-word-ne-COMMA.false)) ((took_done _ _ c.take.ensures c.in_ok-after.was).here) in let a = (further c.expr.ensures c.in_ok-next.was).next in let b = (past_word (48 ∷ []) (further c.expr.ensures c.in_ok-next.was).stands tt (is_word ((sym c.word-in-loop-inner.ensures ∙ c.if-word-ne-COMMA.false))) ((took_done _ _ c.take.ensures c.in_ok-after.was).here)).1 in let k = place_near w.stands in omega (arith, a, b, k)

pub arguments-loop-inner-preserved : goal.arguments-loop-inner-preserved
arguments-loop-inner-preserved t c = loop_more exprs_list c.loop-inner.invariant (true_so ((c.can_begin_expr.ensures ∙ ap (λ w. one_of w expr_firsts) c.word.ensures)) c.loop-inner-test.true) c.expr.ensures c.in_ok-next.was ((sym c.word-in-loop-inner.ensures ∙ c.if-word-ne-COMMA.false)) ((took_done _ _ c.take.ensures c.in_ok-after.was).here)

pub arguments-returns : goal.arguments-returns
arguments-returns t c = (list_opened exprs_list 42 43 tt c.open.ensures c.in_ok-opening.was c.opened-inner.ensures (loop_closes exprs_list c.loop-inner.invariant 43 _ tt (false_so ((c.can_begin_expr.ensures ∙ ap (λ w. one_of w expr_firsts) c.word.ensures)) c.loop-inner-test.false) c.close-2.ensures), (closed_onward 43 _ _ c.args.at _ tt c.loop-inner.invariant.stands (let a = (opening_stands 42 _ tt c.requires c.open.ensures c.in_ok-opening.was).1 in let b = c.loop-inner.invariant.next in omega (arith, a, b)) (let k = loop_few exprs_list c.loop-inner.invariant (omega arith) in omega (arith, k)) c.close-2.ensures).0, (closed_onward 43 _ _ c.args.at _ tt c.loop-inner.invariant.stands (let a = (opening_stands 42 _ tt c.requires c.open.ensures c.in_ok-opening.was).1 in let b = c.loop-inner.invariant.next in omega (arith, a, b)) (let k = loop_few exprs_list c.loop-inner.invariant (omega arith) in omega (arith, k)) c.close-2.ensures).1)

pub arm-pattern-requires : goal.arm-pattern-requires
arm-pattern-requires t c = c.requires.0

pub arm-returns-in_err-matched : goal.arm-returns-in_err-matched
arm-returns-in_err-matched t c = arm_pattern_fails c.args.limits c.requires.0 c.pattern.ensures c.in_err-matched.was (last_on c.in_err-matched.was (handed c.from_residual.ensures.1))

pub arm-guard-requires : goal.arm-guard-requires
arm-guard-requires t c = let x = further c.pattern.ensures c.in_ok-matched.was in (omega (arith, x.next, next_small x.stands, x.stands.short, c.decreases), x.stands)

pub arm-returns-in_err-test : goal.arm-returns-in_err-test
arm-returns-in_err-test t c = arm_guard_fails c.args.limits c.requires.0 c.pattern.ensures c.in_ok-matched.was c.guard.ensures c.in_err-test.was (last_on c.in_err-test.was (handed c.from_residual-in_err-test.ensures.1))

pub arm-returns-in_err-begin : goal.arm-returns-in_err-begin
arm-returns-in_err-begin t c = arm_arrow_fails c.args.limits c.requires.0 c.pattern.ensures c.in_ok-matched.was c.guard.ensures c.in_ok-test.was c.expect.ensures c.in_err-begin.was (last_on c.in_err-begin.was (handed c.from_residual-in_err-begin.ensures.1))

pub arm-body-requires : goal.arm-body-requires
arm-body-requires t c = let x = arm_arrow c.args.limits c.requires.0 c.pattern.ensures c.in_ok-matched.was c.guard.ensures c.in_ok-test.was c.expect.ensures c.in_ok-begin.was in (omega (arith, few_rows x, c.decreases), x.stands)

pub arm-returns-in_err-body : goal.arm-returns-in_err-body
arm-returns-in_err-body t c = arm_fails c.args.limits c.requires.0 c.pattern.ensures c.in_ok-matched.was c.guard.ensures c.in_ok-test.was c.expect.ensures c.in_ok-begin.was c.plain.ensures c.body.ensures c.in_err-body.was (last_on c.in_err-body.was (handed c.from_residual-in_err-body.ensures.1))

pub arm-overflow_add-test : goal.arm-overflow_add-test
arm-overflow_add-test t c = omega (arith, (arm_guarded c.args.limits c.requires.0 c.pattern.ensures c.in_ok-matched.was c.guard.ensures c.in_ok-test.was).one)

pub arm-returns-in_err-next : goal.arm-returns-in_err-next
arm-returns-in_err-next t c = not_both c.finish.ensures.0 c.in_err-next.was

pub arm-returns : goal.arm-returns
arm-returns t c = arm_ends c.args.limits c.requires.0 c.pattern.ensures c.in_ok-matched.was c.guard.ensures c.in_ok-test.was c.expect.ensures c.in_ok-begin.was c.plain.ensures c.body.ensures c.in_ok-body.was c.valued_row-row.ensures c.finish.ensures.0 c.finish.ensures.1 c.in_ok-next.was c.requires.1 (c.arm_comma.ensures ∙ ap (arm_end c.args.s.now c.in_ok-next.next) c.word.ensures)

pub assign_expr-returns-then-not-can_begin_expr : goal.assign_expr-returns-then-not-can_begin_expr
assign_expr-returns-then-not-can_begin_expr t c = none_fits (expr_off c.args.records) c.requires.0 (false_so ((c.can_begin_expr.ensures ∙ ap (λ w. one_of w expr_firsts) c.word.ensures)) c.if-not-can_begin_expr.true) c.unusable.ensures

pub assign_expr-binop_expr-requires : goal.assign_expr-binop_expr-requires
assign_expr-binop_expr-requires t c = (omega (arith, c.decreases), (c.requires.0, (omega arith, omega arith)))

pub assign_expr-returns-in_err-left : goal.assign_expr-returns-in_err-left
assign_expr-returns-in_err-left t c = rw (handed c.from_residual.ensures.1, ← c.in_err-left.was) (expr_refused _ c.args.limits c.args.records _ _ c.requires.0 (operand_first (word_of c.args.here) (true_so ((c.can_begin_expr.ensures ∙ ap (λ w. one_of w expr_firsts) c.word.ensures)) c.if-not-can_begin_expr.false) c.requires.1) c.binop_expr.ensures c.in_err-left.was)

pub assign_expr-returns-then-not-is_assign : goal.assign_expr-returns-then-not-is_assign
assign_expr-returns-then-not-is_assign t c = expr_plain _ c.args.limits c.args.records _ _ c.requires.0 (operand_first (word_of c.args.here) (true_so ((c.can_begin_expr.ensures ∙ ap (λ w. one_of w expr_firsts) c.word.ensures)) c.if-not-can_begin_expr.false) c.requires.1) c.binop_expr.ensures c.in_ok-left.was (false_so ((c.is_assign.ensures ∙ ap (λ w. one_of w assign_signs) c.word-2.ensures)) c.if-not-is_assign.true) refl

pub assign_expr-returns-then-left-ne-PATH : goal.assign_expr-returns-then-left-ne-PATH
assign_expr-returns-then-left-ne-PATH t c = expr_eight _ c.args.limits c.args.records _ _ c.requires.0 (operand_first (word_of c.args.here) (true_so ((c.can_begin_expr.ensures ∙ ap (λ w. one_of w expr_firsts) c.word.ensures)) c.if-not-can_begin_expr.false) c.requires.1) c.binop_expr.ensures c.in_ok-left.was (true_so ((c.is_assign.ensures ∙ ap (λ w. one_of w assign_signs) c.word-2.ensures)) c.if-not-is_assign.false) c.if-left-ne-PATH.true c.refuse.ensures

pub assign_expr-returns-in_err-next : goal.assign_expr-returns-in_err-next
assign_expr-returns-in_err-next t c = never_refused _ _ assign_signs tt (true_so (c.is_assign.ensures ∙ ap (λ w. one_of w assign_signs) c.word-2.ensures) c.if-not-is_assign.false) c.take.ensures c.in_err-next.was

pub assign_expr-binop_expr-requires-2 : goal.assign_expr-binop_expr-requires-2
assign_expr-binop_expr-requires-2 t c = let x = expr_behind _ c.args.limits c.args.records _ _ c.requires.0 (operand_first (word_of c.args.here) (true_so ((c.can_begin_expr.ensures ∙ ap (λ w. one_of w expr_firsts) c.word.ensures)) c.if-not-can_begin_expr.false) c.requires.1) c.binop_expr.ensures c.in_ok-left.was (true_so ((c.is_assign.ensures ∙ ap (λ w. one_of w assign_signs) c.word-2.ensures)) c.if-not-is_assign.false) c.if-left-ne-PATH.false ((took_done _ _ c.take.ensures c.in_ok-next.was).here) in (omega (arith, c.decreases, x.1), (x.0, (omega arith, omega arith)))

pub assign_expr-returns-in_err-right : goal.assign_expr-returns-in_err-right
assign_expr-returns-in_err-right t c = rw (handed c.from_residual-in_err-right.ensures.1, ← c.in_err-right.was) (expr_fails _ c.args.limits c.args.records _ _ c.requires.0 (operand_first (word_of c.args.here) (true_so ((c.can_begin_expr.ensures ∙ ap (λ w. one_of w expr_firsts) c.word.ensures)) c.if-not-can_begin_expr.false) c.requires.1) c.binop_expr.ensures c.in_ok-left.was (true_so ((c.is_assign.ensures ∙ ap (λ w. one_of w assign_signs) c.word-2.ensures)) c.if-not-is_assign.false) c.if-left-ne-PATH.false ((took_done _ _ c.take.ensures c.in_ok-next.was).here) c.plain.ensures c.binop_expr-2.ensures c.in_err-right.was)

pub assign_expr-returns : goal.assign_expr-returns
assign_expr-returns t c = let w = row_is _ _ _ (detailed c.detail_row-row.ensures (c.assign_detail.ensures ∙ ap (λ w. detail_for 26 w) c.word-3.ensures)) c.finish.ensures in expr_assigned _ c.args.limits c.args.records _ _ c.requires.0 (operand_first (word_of c.args.here) (true_so (c.can_begin_expr.ensures ∙ ap (λ w. one_of w expr_firsts) c.word.ensures) c.if-not-can_begin_expr.false) c.requires.1) c.binop_expr.ensures c.in_ok-left.was (true_so (c.is_assign.ensures ∙ ap (λ w. one_of w assign_signs) c.word-2.ensures) c.if-not-is_assign.false) c.if-left-ne-PATH.false (took_done _ _ c.take.ensures c.in_ok-next.was).here c.plain.ensures c.binop_expr-2.ensures c.in_ok-right.was w.0 w.1

pub atom-literal-requires : goal.atom-literal-requires
atom-literal-requires t c = (c.requires.0, true_so ((c.is_literal.ensures ∙ ap (λ w. one_of w literals) c.word.ensures)) c.if-is_literal.true)

pub atom-returns-then-is_literal : goal.atom-returns-then-is_literal
atom-returns-then-is_literal t c = atom_read _ _ _ _ _ c.requires.0 (operand_literal_on c.args.records) refl (true_so ((c.is_literal.ensures ∙ ap (λ w. one_of w literals) c.word.ensures)) c.if-is_literal.true) (c.literal.ensures _)

pub atom-path_expr-requires : goal.atom-path_expr-requires
atom-path_expr-requires t c = (omega (arith, c.decreases), (c.requires.0, true_so ((c.is_path_item.ensures ∙ ap (λ w. one_of w path_items) c.word-2.ensures)) c.if-is_path_item.true))

pub atom-returns-then-is_path_item : goal.atom-returns-then-is_path_item
atom-returns-then-is_path_item t c = c.path_expr.ensures

pub atom-f_string-requires : goal.atom-f_string-requires
atom-f_string-requires t c = (omega (arith, c.decreases), (c.requires.0, (sym c.word-3.ensures ∙ c.if-word-eq-F_QUOTE.true)))

pub atom-returns-then-word-eq-F_QUOTE : goal.atom-returns-then-word-eq-F_QUOTE
atom-returns-then-word-eq-F_QUOTE t c = atom_read _ _ _ _ _ c.requires.0 (operand_string_on c.args.records) refl (is_word ((sym c.word-3.ensures ∙ c.if-word-eq-F_QUOTE.true))) c.f_string.ensures

pub atom-parens-requires : goal.atom-parens-requires
atom-parens-requires t c = (omega (arith, c.decreases), c.requires.0)

pub atom-returns-then-word-eq-ROUND_LEFT : goal.atom-returns-then-word-eq-ROUND_LEFT
atom-returns-then-word-eq-ROUND_LEFT t c = atom_read _ _ _ _ _ c.requires.0 (operand_parens_on c.args.records) refl (is_word ((sym c.word-4.ensures ∙ c.if-word-eq-ROUND_LEFT.true))) c.parens.ensures

pub atom-braces-requires : goal.atom-braces-requires
atom-braces-requires t c = (omega (arith, c.decreases), c.requires.0)

pub atom-returns-then-records : goal.atom-returns-then-records
atom-returns-then-records t c = atom_braces _ _ _ _ _ c.requires.0 (true_so refl c.if-records.true) ((sym c.word-5.ensures ∙ c.if-word-eq-CURLY_LEFT.true)) c.braces.ensures

pub atom-block-requires : goal.atom-block-requires
atom-block-requires t c = (omega (arith, c.decreases), c.requires.0)

pub atom-returns-then-word-eq-CURLY_LEFT : goal.atom-returns-then-word-eq-CURLY_LEFT
atom-returns-then-word-eq-CURLY_LEFT t c = atom_block _ _ _ _ _ c.requires.0 (false_so refl c.if-records.false) ((sym c.word-5.ensures ∙ c.if-word-eq-CURLY_LEFT.true)) c.block.ensures

pub atom-four-requires : goal.atom-four-requires
atom-four-requires t c = (omega (arith, c.decreases), c.requires.0)

pub atom-returns-then-is_four : goal.atom-returns-then-is_four
atom-returns-then-is_four t c = atom_read _ _ _ _ _ c.requires.0 (operand_four_on c.args.records) refl (true_so ((c.is_four.ensures ∙ ap (λ w. one_of w four_words) c.word-6.ensures)) c.if-is_four.true) c.four.ensures

pub atom-returns : goal.atom-returns
atom-returns t c = atom_unused _ _ _ _ _ c.requires.0 c.requires.1.0 c.requires.1.1 ((λ e. c.if-word-eq-ROUND_LEFT.false (c.word-4.ensures ∙ e))) ((λ e. c.if-word-eq-CURLY_LEFT.false (c.word-5.ensures ∙ e))) ((λ e. c.if-word-eq-F_QUOTE.false (c.word-3.ensures ∙ e))) (false_so ((c.is_literal.ensures ∙ ap (λ w. one_of w literals) c.word.ensures)) c.if-is_literal.false) (false_so ((c.is_path_item.ensures ∙ ap (λ w. one_of w path_items) c.word-2.ensures)) c.if-is_path_item.false) (false_so ((c.is_four.ensures ∙ ap (λ w. one_of w four_words) c.word-6.ensures)) c.if-is_four.false) c.unusable.ensures

pub binop_expr-factor-requires : goal.binop_expr-factor-requires
binop_expr-factor-requires t c = (omega (arith, c.decreases, c.requires.1), (c.requires.0, (omega arith, omega arith)))

pub binop_expr-returns-in_err-first : goal.binop_expr-returns-in_err-first
binop_expr-returns-in_err-first t c = rw (handed c.from_residual.ensures.1, ← c.in_err-first.was) (levels_refused _ c.args.records c.args.limits _ c.args.up c.requires.1.0 c.requires.1.1 _ _ c.requires.0 refl c.factor.ensures c.in_err-first.was)

pub binop_expr-returns-then-binary_level-up : goal.binop_expr-returns-then-binary_level-up
binop_expr-returns-then-binary_level-up t c = levels_alone _ c.args.records c.args.limits _ c.args.up c.requires.1.0 c.requires.1.1 _ _ c.requires.0 refl c.factor.ensures c.in_ok-first.was (level_below (c.binary_level.ensures ∙ ap (λ w. level_of w) c.word.ensures) c.if-binary_level-up.true) refl

pub binop_expr-loop-tight-init : goal.binop_expr-loop-tight-init
binop_expr-loop-tight-init t c = chained_begins c.args.up c.requires.1.1

pub binop_expr-returns-then-sign-up : goal.binop_expr-returns-then-sign-up
binop_expr-returns-then-sign-up t c = levels_end _ c.args.records _ c.args.up c.requires.1.0 c.requires.1.1 c.requires.0 (behind_level _ c.args.records c.args.limits _ c.args.up c.requires.1.0 c.requires.1.1 _ _ c.requires.0 c.plain-after.ensures c.factor.ensures) (levels_now _ c.args.records c.args.limits _ c.args.up c.requires.1.0 c.requires.1.1 _ _ c.requires.0 c.plain-after.ensures c.factor.ensures c.in_ok-first.was c.loop-tight.invariant) (level_ends (c.binary_level-sign.ensures ∙ ap (λ w. level_of w) c.word-in-loop-tight.ensures) c.if-sign-up.true) refl

pub binop_expr-returns-in_default : goal.binop_expr-returns-in_default
binop_expr-returns-in_default t c = levels_untaken _ c.args.records _ c.args.up c.requires.1.0 c.requires.1.1 c.requires.0 (behind_level _ c.args.records c.args.limits _ c.args.up c.requires.1.0 c.requires.1.1 _ _ c.requires.0 c.plain-after.ensures c.factor.ensures) (levels_now _ c.args.records c.args.limits _ c.args.up c.requires.1.0 c.requires.1.1 _ _ c.requires.0 c.plain-after.ensures c.factor.ensures c.in_ok-first.was c.loop-tight.invariant) (c.binary_level-sign.ensures ∙ ap (λ w. level_of w) c.word-in-loop-tight.ensures) (level_from c.if-sign-up.false).0 (level_from c.if-sign-up.false).1 c.in_default.is

pub binop_expr-factor-right-requires : goal.binop_expr-factor-right-requires
binop_expr-factor-right-requires t c = let x = levels_behind _ c.args.records _ c.args.up c.requires.1.0 c.requires.1.1 c.requires.0 (behind_level _ c.args.records c.args.limits _ c.args.up c.requires.1.0 c.requires.1.1 _ _ c.requires.0 c.plain-after.ensures c.factor.ensures) (levels_now _ c.args.records c.args.limits _ c.args.up c.requires.1.0 c.requires.1.1 _ _ c.requires.0 c.plain-after.ensures c.factor.ensures c.in_ok-first.was c.loop-tight.invariant) (c.binary_level-sign.ensures ∙ ap (λ w. level_of w) c.word-in-loop-tight.ensures) (level_from c.if-sign-up.false).0 (level_from c.if-sign-up.false).1 (took_here _ c.loop-tight.here c.in-Ok.is c.look-behind.ensures) in let n = levels_few _ c.args.records _ c.args.up c.requires.1.0 c.requires.1.1 c.requires.0 (behind_level _ c.args.records c.args.limits _ c.args.up c.requires.1.0 c.requires.1.1 _ _ c.requires.0 c.plain-after.ensures c.factor.ensures) (levels_now _ c.args.records c.args.limits _ c.args.up c.requires.1.0 c.requires.1.1 _ _ c.requires.0 c.plain-after.ensures c.factor.ensures c.in_ok-first.was c.loop-tight.invariant) (c.binary_level-sign.ensures ∙ ap (λ w. level_of w) c.word-in-loop-tight.ensures) (level_from c.if-sign-up.false).0 (level_from c.if-sign-up.false).1 (took_here _ c.loop-tight.here c.in-Ok.is c.look-behind.ensures) in (omega (arith, c.decreases, x.1, x.2, n), (x.0, n))

pub binop_expr-returns-in_err-both : goal.binop_expr-returns-in_err-both
binop_expr-returns-in_err-both t c = rw (handed c.from_residual-in_err-both.ensures.1, ← c.in_err-both.was) (levels_fails _ c.args.records _ c.args.up c.requires.1.0 c.requires.1.1 c.requires.0 (behind_level _ c.args.records c.args.limits _ c.args.up c.requires.1.0 c.requires.1.1 _ _ c.requires.0 c.plain-after.ensures c.factor.ensures) (levels_now _ c.args.records c.args.limits _ c.args.up c.requires.1.0 c.requires.1.1 _ _ c.requires.0 c.plain-after.ensures c.factor.ensures c.in_ok-first.was c.loop-tight.invariant) (c.binary_level-sign.ensures ∙ ap (λ w. level_of w) c.word-in-loop-tight.ensures) (level_from c.if-sign-up.false).0 (level_from c.if-sign-up.false).1 (took_here _ c.loop-tight.here c.in-Ok.is c.look-behind.ensures) c.factor-right.ensures (word_taken c.in-Ok.is) c.joined.ensures.0 c.joined.ensures.1 c.in_err-both.was)

pub binop_expr-loop-tight-smaller : goal.binop_expr-loop-tight-smaller
binop_expr-loop-tight-smaller t c = let x = levels_less _ c.args.records _ c.args.up c.requires.1.0 c.requires.1.1 c.requires.0 (behind_level _ c.args.records c.args.limits _ c.args.up c.requires.1.0 c.requires.1.1 _ _ c.requires.0 c.plain-after.ensures c.factor.ensures) (levels_now _ c.args.records c.args.limits _ c.args.up c.requires.1.0 c.requires.1.1 _ _ c.requires.0 c.plain-after.ensures c.factor.ensures c.in_ok-first.was c.loop-tight.invariant) (c.binary_level-sign.ensures ∙ ap (λ w. level_of w) c.word-in-loop-tight.ensures) (level_from c.if-sign-up.false).0 (level_from c.if-sign-up.false).1 (took_here _ c.loop-tight.here c.in-Ok.is c.look-behind.ensures) c.factor-right.ensures (word_taken c.in-Ok.is) c.joined.ensures.0 c.joined.ensures.1 c.in_ok-both.was in omega (arith, x.0, x.1)

pub binop_expr-loop-tight-preserved : goal.binop_expr-loop-tight-preserved
binop_expr-loop-tight-preserved t c = chained_again _ c.args.records _ c.args.up c.requires.1.0 c.requires.1.1 c.loop-tight.invariant (c.binary_level-sign.ensures ∙ ap (λ w. level_of w) c.word-in-loop-tight.ensures) (level_from c.if-sign-up.false).0 (level_from c.if-sign-up.false).1 (took_here _ c.loop-tight.here c.in-Ok.is c.look-behind.ensures) c.factor-right.ensures (word_taken c.in-Ok.is) c.joined.ensures.0 c.joined.ensures.1 c.in_ok-both.was c.chained_level-tight.ensures

pub block-returns-in_err-opening : goal.block-returns-in_err-opening
block-returns-in_err-opening t c = rw (handed c.from_residual.ensures.1, ← c.in_err-opening.was) (block_refused _ _ _ _ c.requires c.open.ensures c.in_err-opening.was)

pub block-stmts-requires : goal.block-stmts-requires
block-stmts-requires t c = let x = block_inside _ c.args.limits _ c.args.table.now c.requires c.open.ensures c.in_ok-opening.was in (omega (arith, x.1, next_small x.0, x.0.short, c.decreases), (x.0, ap (λ (l : Limits). l.signs) c.opened.ensures))

pub block-returns : goal.block-returns
block-returns t c = block_read _ _ _ _ c.requires c.open.ensures c.in_ok-opening.was c.opened.ensures c.stmts.ensures

pub body-block-requires : goal.body-block-requires
body-block-requires t c = (omega (arith, c.decreases), c.requires)

pub body-returns-then-word-eq-CURLY_LEFT : goal.body-returns-then-word-eq-CURLY_LEFT
body-returns-then-word-eq-CURLY_LEFT t c = body_block c.args.limits ((sym c.word.ensures ∙ c.if-word-eq-CURLY_LEFT.true)) c.block.ensures

pub body-returns-then-not-can_begin_expr : goal.body-returns-then-not-can_begin_expr
body-returns-then-not-can_begin_expr t c = body_fails c.args.limits (false_so ((c.can_begin_expr.ensures ∙ ap (λ w. one_of w expr_firsts) c.word-2.ensures)) c.if-not-can_begin_expr.true) c.unusable.ensures

pub body-expr-requires : goal.body-expr-requires
body-expr-requires t c = (omega (arith, c.decreases), c.requires)

pub body-returns : goal.body-returns
body-returns t c = body_expr c.args.limits ((λ e. c.if-word-eq-CURLY_LEFT.false (c.word.ensures ∙ e))) (true_so ((c.can_begin_expr.ensures ∙ ap (λ w. one_of w expr_firsts) c.word-2.ensures)) c.if-not-can_begin_expr.false) c.expr.ensures

pub braces-returns-in_err-opening : goal.braces-returns-in_err-opening
braces-returns-in_err-opening t c = rw (handed c.from_residual.ensures.1, ← c.in_err-opening.was) (braces_shut _ _ _ _ c.requires c.open.ensures c.in_err-opening.was)

pub braces-stmts-requires : goal.braces-stmts-requires
braces-stmts-requires t c = (let a = (opening_stands 40 _ tt c.requires c.open.ensures c.in_ok-opening.was).1 in let k = place_near (opening_stands 40 _ tt c.requires c.open.ensures c.in_ok-opening.was).0 in omega (arith, c.decreases, a, k), ((opening_stands 40 _ tt c.requires c.open.ensures c.in_ok-opening.was).0, ap (λ (l : Limits). l.signs) c.opened-inner.ensures))

pub braces-returns-then-not-is_name : goal.braces-returns-then-not-is_name
braces-returns-then-not-is_name t c = braces_stated _ _ _ _ c.requires c.open.ensures c.in_ok-opening.was c.opened-inner.ensures (false_so ((c.is_name.ensures ∙ ap (λ w. one_of w names) c.word.ensures)) c.if-not-is_name.true) c.stmts.ensures

pub braces-returns-in_err-behind : goal.braces-returns-in_err-behind
braces-returns-in_err-behind t c = never_refused _ _ names tt (true_so (c.is_name.ensures ∙ ap (λ w. one_of w names) c.word.ensures) c.if-not-is_name.false) c.take.ensures c.in_err-behind.was

pub braces-record-requires : goal.braces-record-requires
braces-record-requires t c = (let a = (opening_stands 40 _ tt c.requires c.open.ensures c.in_ok-opening.was).1 in let k = place_near (opening_stands 40 _ tt c.requires c.open.ensures c.in_ok-opening.was).0 in omega (arith, c.decreases, a, k), ((opening_stands 40 _ tt c.requires c.open.ensures c.in_ok-opening.was).0, ap (λ (l : Limits). l.signs) c.opened-inner.ensures, omega arith))

pub braces-returns-then-word-eq-COLON : goal.braces-returns-then-word-eq-COLON
braces-returns-then-word-eq-COLON t c = braces_fields _ _ _ _ c.requires c.open.ensures c.in_ok-opening.was c.opened-inner.ensures (true_so ((c.is_name.ensures ∙ ap (λ w. one_of w names) c.word.ensures)) c.if-not-is_name.false) ((took_done _ _ c.take.ensures c.in_ok-behind.was).here) ((sym c.word-2.ensures ∙ c.if-word-eq-COLON.true)) c.record.ensures

pub braces-stmts-requires-2 : goal.braces-stmts-requires-2
braces-stmts-requires-2 t c = (let a = (opening_stands 40 _ tt c.requires c.open.ensures c.in_ok-opening.was).1 in let k = place_near (opening_stands 40 _ tt c.requires c.open.ensures c.in_ok-opening.was).0 in omega (arith, c.decreases, a, k), ((opening_stands 40 _ tt c.requires c.open.ensures c.in_ok-opening.was).0, ap (λ (l : Limits). l.signs) c.opened-inner.ensures))

pub braces-returns : goal.braces-returns
braces-returns t c = braces_named _ _ _ _ c.requires c.open.ensures c.in_ok-opening.was c.opened-inner.ensures (true_so ((c.is_name.ensures ∙ ap (λ w. one_of w names) c.word.ensures)) c.if-not-is_name.false) ((took_done _ _ c.take.ensures c.in_ok-behind.was).here) ((λ e. c.if-word-eq-COLON.false (c.word-2.ensures ∙ e))) c.stmts-2.ensures

pub cond-expr-requires : goal.cond-expr-requires
cond-expr-requires t c = (omega (arith, c.decreases), c.requires)

pub cond-returns-in_err-next : goal.cond-returns-in_err-next
cond-returns-in_err-next t c = rw (handed c.from_residual.ensures.1, ← c.in_err-next.was) ((test_fails c.args.limits c.headed.ensures c.expr.ensures c.in_err-next.was, tt))

pub cond-block-requires : goal.cond-block-requires
cond-block-requires t c = let x = further c.expr.ensures c.in_ok-next.was in (omega (arith, c.decreases, x.next, place_near x.stands), x.stands)

pub cond-returns : goal.cond-returns
cond-returns t c = (test_block c.args.limits c.headed.ensures c.expr.ensures c.in_ok-next.was c.block.ensures, beyond_both _ c.expr.ensures c.in_ok-next.was c.block.ensures)

pub elses-returns-then-word-ne-CURLY_LEFT : goal.elses-returns-then-word-ne-CURLY_LEFT
elses-returns-then-word-ne-CURLY_LEFT t c = else_fails c.args.limits c.requires.1 ((λ e. c.if-word-ne-CURLY_LEFT.true (c.word.ensures ∙ e))) c.unusable.ensures

pub elses-block-requires : goal.elses-block-requires
elses-block-requires t c = (omega (arith, c.decreases), c.requires.0)

pub elses-returns-in_err-body : goal.elses-returns-in_err-body
elses-returns-in_err-body t c = rw (handed c.from_residual.ensures.1, ← c.in_err-body.was) (else_block_fails c.args.limits ((sym c.word.ensures ∙ c.if-word-ne-CURLY_LEFT.false)) c.block.ensures c.in_err-body.was)

pub elses-returns : goal.elses-returns
elses-returns t c = else_ends c.args.limits ((sym c.word.ensures ∙ c.if-word-ne-CURLY_LEFT.false)) c.block.ensures c.in_ok-body.was c.plain_row.ensures c.finish.ensures.0 c.finish.ensures.1

pub expr-return_expr-requires : goal.expr-return_expr-requires
expr-return_expr-requires t c = (omega (arith, c.decreases), (c.requires, is_return (word_of c.args.here) ((c.return_detail.ensures ∙ ap (λ w. detail_for 27 w) c.word.ensures)) c.if-return_detail-ne0.true))

pub expr-returns-then-return_detail-ne0 : goal.expr-returns-then-return_detail-ne0
expr-returns-then-return_detail-ne0 t c = c.return_expr.ensures

pub expr-assign_expr-requires : goal.expr-assign_expr-requires
expr-assign_expr-requires t c = (omega (arith, c.decreases), (c.requires, no_return (word_of c.args.here) ((c.return_detail.ensures ∙ ap (λ w. detail_for 27 w) c.word.ensures)) c.if-return_detail-ne0.false))

pub expr-returns : goal.expr-returns
expr-returns t c = c.assign_expr.ensures

pub f_string-returns-in_default : goal.f_string-returns-in_default
f_string-returns-in_default t c = f_quote_untaken c.requires.0 c.requires.1 c.in_default.is

pub f_string-loop-text-init : goal.f_string-loop-text-init
f_string-loop-text-init t c = spelling_begins _ _ _ _ c.requires.0 c.requires.1

pub f_string-returns-in_err-text : goal.f_string-returns-in_err-text
f_string-returns-in_err-text t c = rw (handed c.from_residual.ensures.1, ← c.in_err-text.was) (string_torn c.loop-text.invariant c.piece.ensures.0 c.piece.ensures.1 c.in_err-text.was)

pub f_string-overflow_add-children : goal.f_string-overflow_add-children
f_string-overflow_add-children t c = let x = behind_piece c.loop-text.invariant c.piece.ensures.0 c.piece.ensures.1 c.in_ok-text.was in let k = string_few c.loop-text.invariant in omega (arith, k.0, x.3)

pub f_string-returns-then-text-eq-LAST_TEXT : goal.f_string-returns-then-text-eq-LAST_TEXT
f_string-returns-then-text-eq-LAST_TEXT t c = string_ends c.loop-text.invariant c.piece.ensures.0 c.piece.ensures.1 c.in_ok-text.was c.if-text-eq-LAST_TEXT.true (plain_from c.plain_row-row.ensures (sym (start_refused c.in-Err.is))) c.finish.ensures.0 c.finish.ensures.1

pub f_string-returns-in_err-inside : goal.f_string-returns-in_err-inside
f_string-returns-in_err-inside t c = rw (handed c.from_residual-in_err-inside.ensures.1, ← c.in_err-inside.was) (hole_shut c.loop-text.invariant c.piece.ensures.0 c.piece.ensures.1 c.in_ok-text.was c.if-text-eq-LAST_TEXT.false c.open.ensures c.in_err-inside.was)

pub f_string-expr-requires : goal.f_string-expr-requires
f_string-expr-requires t c = let x = hole_inside c.loop-text.invariant c.piece.ensures.0 c.piece.ensures.1 c.in_ok-text.was c.if-text-eq-LAST_TEXT.false c.open.ensures c.in_ok-inside.was in let k = string_few c.loop-text.invariant in (omega (arith, c.decreases, k.1, x.1, place_near x.0), x.0)

pub f_string-returns-in_err-next : goal.f_string-returns-in_err-next
f_string-returns-in_err-next t c = rw (handed c.from_residual-in_err-next.ensures.1, ← c.in_err-next.was) (hole_fails c.loop-text.invariant c.piece.ensures.0 c.piece.ensures.1 c.in_ok-text.was c.if-text-eq-LAST_TEXT.false c.open.ensures c.in_ok-inside.was c.opened.ensures c.expr.ensures c.in_err-next.was)

pub f_string-returns-then-word-ne-CURLY_RIGHT : goal.f_string-returns-then-word-ne-CURLY_RIGHT
f_string-returns-then-word-ne-CURLY_RIGHT t c = hole_unclosed c.loop-text.invariant c.piece.ensures.0 c.piece.ensures.1 c.in_ok-text.was c.if-text-eq-LAST_TEXT.false c.open.ensures c.in_ok-inside.was c.opened.ensures c.expr.ensures c.in_ok-next.was ((λ e. c.if-word-ne-CURLY_RIGHT.true (c.word.ensures ∙ e))) c.unusable-then-word-ne-CURLY_RIGHT.ensures

pub f_string-overflow_add-children-in-loop-text : goal.f_string-overflow_add-children-in-loop-text
f_string-overflow_add-children-in-loop-text t c = let x = behind_piece c.loop-text.invariant c.piece.ensures.0 c.piece.ensures.1 c.in_ok-text.was in let k = string_few c.loop-text.invariant in omega (arith, k.0, x.3)

pub f_string-loop-text-smaller : goal.f_string-loop-text-smaller
f_string-loop-text-smaller t c = let x = hole_further c.loop-text.invariant c.piece.ensures.0 c.piece.ensures.1 c.in_ok-text.was c.if-text-eq-LAST_TEXT.false c.open.ensures c.in_ok-inside.was c.opened.ensures c.expr.ensures c.in_ok-next.was in let k = string_few c.loop-text.invariant in omega (arith, x, k.2)

pub f_string-loop-text-preserved : goal.f_string-loop-text-preserved
f_string-loop-text-preserved t c = hole_again c.loop-text.invariant c.piece.ensures.0 c.piece.ensures.1 c.in_ok-text.was c.if-text-eq-LAST_TEXT.false c.open.ensures c.in_ok-inside.was c.opened.ensures c.expr.ensures c.in_ok-next.was ((sym c.word.ensures ∙ c.if-word-ne-CURLY_RIGHT.false))

pub factor-overflow_add-level : goal.factor-overflow_add-level
factor-overflow_add-level t c = omega (arith, c.requires)

pub factor-binop_expr-requires : goal.factor-binop_expr-requires
factor-binop_expr-requires t c = (omega (arith, c.decreases, c.requires, c.if-level-lt-TIGHTEST.true), (c.requires.0, (omega (arith, c.requires), omega (arith, c.if-level-lt-TIGHTEST.true))))

pub factor-returns-then-level-lt-TIGHTEST : goal.factor-returns-then-level-lt-TIGHTEST
factor-returns-then-level-lt-TIGHTEST t c = c.binop_expr.ensures

pub factor-operand-requires : goal.factor-operand-requires
factor-operand-requires t c = (omega (arith, c.decreases, c.requires, c.if-level-lt-TIGHTEST.false), c.requires.0)

pub factor-returns-then-is_sign : goal.factor-returns-then-is_sign
factor-returns-then-is_sign t c = tightest c.args.records c.args.level c.requires.1.1 c.if-level-lt-TIGHTEST.false c.operand.ensures

pub factor-access-requires : goal.factor-access-requires
factor-access-requires t c = (omega (arith, c.decreases, c.requires, c.if-level-lt-TIGHTEST.false), (c.requires.0, (no_sign (word_of c.args.here) (false_so (c.is_sign.ensures ∙ ap (λ w. one_of w sign_words) c.word.ensures) c.if-is_sign.false))))

pub factor-returns : goal.factor-returns
factor-returns t c = tightest c.args.records c.args.level c.requires.1.1 c.if-level-lt-TIGHTEST.false c.access.ensures

pub field-identifier-requires : goal.field-identifier-requires
field-identifier-requires t c = c.requires.0

pub field-returns-in_err-name : goal.field-returns-in_err-name
field-returns-in_err-name t c = rw (handed c.from_residual.ensures.1, ← c.in_err-name.was) (field_nameless _ _ _ _ c.requires.0 c.identifier.ensures.1 c.in_err-name.was)

pub field-returns-in_err-next : goal.field-returns-in_err-next
field-returns-in_err-next t c = rw (handed c.from_residual-in_err-next.ensures.1, ← c.in_err-next.was) (field_signless _ _ _ _ c.requires.0 c.identifier.ensures.1 c.in_ok-name.was c.expect.ensures c.in_err-next.was)

pub field-expr-requires : goal.field-expr-requires
field-expr-requires t c = (let a = (field_stands _ c.args.limits _ _ c.requires.0 c.identifier.ensures.1 c.in_ok-name.was c.expect.ensures c.in_ok-next.was).1 in let k = place_near (field_stands _ c.args.limits _ _ c.requires.0 c.identifier.ensures.1 c.in_ok-name.was c.expect.ensures c.in_ok-next.was).0 in omega (arith, c.decreases, a, k), (field_stands _ c.args.limits _ _ c.requires.0 c.identifier.ensures.1 c.in_ok-name.was c.expect.ensures c.in_ok-next.was).0)

pub field-returns-in_err-value : goal.field-returns-in_err-value
field-returns-in_err-value t c = rw (handed c.from_residual-in_err-value.ensures.1, ← c.in_err-value.was) (field_stops _ _ _ _ c.requires.0 c.identifier.ensures.1 c.in_ok-name.was c.expect.ensures c.in_ok-next.was c.plain.ensures c.expr.ensures c.in_err-value.was)

pub field-returns : goal.field-returns
field-returns t c = field_read _ _ _ _ c.requires.0 c.identifier.ensures.1 c.in_ok-name.was c.expect.ensures c.in_ok-next.was c.plain.ensures c.expr.ensures c.in_ok-value.was c.plain_row.ensures c.finish.ensures.0 c.finish.ensures.1

pub four-returns-then-not-is_four : goal.four-returns-then-not-is_four
four-returns-then-not-is_four t c = none_fits four_off c.requires (false_so ((c.is_four.ensures ∙ ap (λ w. one_of w four_words) c.word.ensures)) c.if-not-is_four.true) c.unusable.ensures

pub four-returns-in_err-word : goal.four-returns-in_err-word
four-returns-in_err-word t c = rw (handed c.from_residual.ensures.1, ← c.in_err-word.was) (four_deep c.args.limits c.requires (true_so ((c.is_four.ensures ∙ ap (λ w. one_of w four_words) c.word.ensures)) c.if-not-is_four.false) c.unchained-limits.ensures c.deeper.ensures c.in_err-word.was)

pub four-if_else-requires : goal.four-if_else-requires
four-if_else-requires t c = let x = four_past _ c.requires (true_so (c.is_four.ensures ∙ ap (λ w. one_of w four_words) c.word.ensures) c.if-not-is_four.false) c.deeper.ensures c.in_ok-word.was in let y = start_small four_words tt (true_so (c.is_four.ensures ∙ ap (λ w. one_of w four_words) c.word.ensures) c.if-not-is_four.false) c.requires in let z = ap (λ (n : Node). n.start) (under_done _ _ _ c.deeper.ensures c.in_ok-word.was).1.node in (omega (arith, x.1, place_near x.0, c.decreases), (x.0, ap (λ (l : Limits). l.signs) c.unchained-limits.ensures, omega (arith, y, z)))

pub four-returns-then-word-eq-IF : goal.four-returns-then-word-eq-IF
four-returns-then-word-eq-IF t c = head_answers (head_on c.args.limits c.requires c.unchained-limits.ensures c.deeper.ensures four_if_on tt (sym c.word-2.ensures ∙ c.if-word-eq-IF.true) c.in_ok-word.was) c.if_else.ensures

pub four-match_expr-requires : goal.four-match_expr-requires
four-match_expr-requires t c = let x = four_past _ c.requires (true_so (c.is_four.ensures ∙ ap (λ w. one_of w four_words) c.word.ensures) c.if-not-is_four.false) c.deeper.ensures c.in_ok-word.was in (omega (arith, x.1, place_near x.0, c.decreases), (x.0, ap (λ (l : Limits). l.signs) c.unchained-limits.ensures))

pub four-returns-then-word-eq-MATCH : goal.four-returns-then-word-eq-MATCH
four-returns-then-word-eq-MATCH t c = head_answers (head_on c.args.limits c.requires c.unchained-limits.ensures c.deeper.ensures four_match_on tt (sym c.word-3.ensures ∙ c.if-word-eq-MATCH.true) c.in_ok-word.was) c.match_expr.ensures

pub four-cond-requires : goal.four-cond-requires
four-cond-requires t c = let x = four_past _ c.requires (true_so (c.is_four.ensures ∙ ap (λ w. one_of w four_words) c.word.ensures) c.if-not-is_four.false) c.deeper.ensures c.in_ok-word.was in (omega (arith, x.1, place_near x.0, c.decreases), x.0)

pub four-returns-in_err-body : goal.four-returns-in_err-body
four-returns-in_err-body t c = rw (handed c.from_residual-in_err-body.ensures.1, ← c.in_err-body.was) (head_fails refl (head_on c.args.limits c.requires c.unchained-limits.ensures c.deeper.ensures four_while_on tt (sym c.word-4.ensures ∙ c.if-word-eq-WHILE.true) c.in_ok-word.was) c.cond.ensures.0 c.in_err-body.was)

pub four-returns-then-word-eq-WHILE : goal.four-returns-then-word-eq-WHILE
four-returns-then-word-eq-WHILE t c = head_ends refl (head_on c.args.limits c.requires c.unchained-limits.ensures c.deeper.ensures four_while_on tt (sym c.word-4.ensures ∙ c.if-word-eq-WHILE.true) c.in_ok-word.was) c.cond.ensures.0 c.in_ok-body.was refl refl c.plain_row.ensures c.finish.ensures.0 c.finish.ensures.1

pub four-name_in-requires : goal.four-name_in-requires
four-name_in-requires t c = (four_past _ c.requires (true_so (c.is_four.ensures ∙ ap (λ w. one_of w four_words) c.word.ensures) c.if-not-is_four.false) c.deeper.ensures c.in_ok-word.was).0

pub four-returns-in_err-next : goal.four-returns-in_err-next
four-returns-in_err-next t c = rw (handed c.from_residual-in_err-next.ensures.1, ← c.in_err-next.was) (name_in_fails refl (head_on c.args.limits c.requires c.unchained-limits.ensures c.deeper.ensures four_for_on tt (last_four (word_of c.args.here) (true_so (c.is_four.ensures ∙ ap (λ w. one_of w four_words) c.word.ensures) c.if-not-is_four.false) (λ e. c.if-word-eq-IF.false (c.word-2.ensures ∙ e)) (λ e. c.if-word-eq-MATCH.false (c.word-3.ensures ∙ e)) (λ e. c.if-word-eq-WHILE.false (c.word-4.ensures ∙ e))) c.in_ok-word.was) c.name_in.ensures c.in_err-next.was)

pub four-cond-requires-2 : goal.four-cond-requires-2
four-cond-requires-2 t c = let x = four_past _ c.requires (true_so (c.is_four.ensures ∙ ap (λ w. one_of w four_words) c.word.ensures) c.if-not-is_four.false) c.deeper.ensures c.in_ok-word.was in let y = name_in_past x.0 c.name_in.ensures c.in_ok-next.was in (omega (arith, x.1, y.1, place_near y.0, c.decreases), y.0)

pub four-returns-in_err-body-2 : goal.four-returns-in_err-body-2
four-returns-in_err-body-2 t c = rw (handed c.from_residual-in_err-body-2.ensures.1, ← c.in_err-body-2.was) (head_fails refl (name_in_on refl (head_on c.args.limits c.requires c.unchained-limits.ensures c.deeper.ensures four_for_on tt (last_four (word_of c.args.here) (true_so (c.is_four.ensures ∙ ap (λ w. one_of w four_words) c.word.ensures) c.if-not-is_four.false) (λ e. c.if-word-eq-IF.false (c.word-2.ensures ∙ e)) (λ e. c.if-word-eq-MATCH.false (c.word-3.ensures ∙ e)) (λ e. c.if-word-eq-WHILE.false (c.word-4.ensures ∙ e))) c.in_ok-word.was) c.name_in.ensures (ap (λ (l : Limits). l.signs) c.unchained-limits.ensures) c.in_ok-next.was) c.cond-2.ensures.0 c.in_err-body-2.was)

pub four-returns : goal.four-returns
four-returns t c = head_ends refl (name_in_on refl (head_on c.args.limits c.requires c.unchained-limits.ensures c.deeper.ensures four_for_on tt (last_four (word_of c.args.here) (true_so (c.is_four.ensures ∙ ap (λ w. one_of w four_words) c.word.ensures) c.if-not-is_four.false) (λ e. c.if-word-eq-IF.false (c.word-2.ensures ∙ e)) (λ e. c.if-word-eq-MATCH.false (c.word-3.ensures ∙ e)) (λ e. c.if-word-eq-WHILE.false (c.word-4.ensures ∙ e))) c.in_ok-word.was) c.name_in.ensures (ap (λ (l : Limits). l.signs) c.unchained-limits.ensures) c.in_ok-next.was) c.cond-2.ensures.0 c.in_ok-body-2.was refl refl c.plain_row-2.ensures c.finish-2.ensures.0 c.finish-2.ensures.1

pub guard-returns-then-word-ne-IF : goal.guard-returns-then-word-ne-IF
guard-returns-then-word-ne-IF t c = guard_none c.args.limits ((λ e. c.if-word-ne-IF.true (c.word.ensures ∙ e))) c.part.ensures

pub guard-returns-in_err-next : goal.guard-returns-in_err-next
guard-returns-in_err-next t c = never_refused _ _ (69 ∷ []) tt (is_word (sym c.word.ensures ∙ c.if-word-ne-IF.false)) c.take.ensures c.in_err-next.was

pub guard-expr-requires : goal.guard-expr-requires
guard-expr-requires t c = let x = past_word (69 ∷ []) c.requires tt (is_word ((sym c.word.ensures ∙ c.if-word-ne-IF.false))) ((took_done _ _ c.take.ensures c.in_ok-next.was).here) in (omega (arith, x.1, next_small x.0, x.0.short, c.decreases), x.0)

pub guard-returns-in_err-next-2 : goal.guard-returns-in_err-next-2
guard-returns-in_err-next-2 t c = rw (handed c.from_residual-in_err-next-2.ensures.1, ← c.in_err-next-2.was) (guard_fails c.args.limits ((sym c.word.ensures ∙ c.if-word-ne-IF.false)) ((took_done _ _ c.take.ensures c.in_ok-next.was).here) c.plain.ensures c.expr.ensures c.in_err-next-2.was)

pub guard-returns : goal.guard-returns
guard-returns t c = guard_ends c.args.limits ((sym c.word.ensures ∙ c.if-word-ne-IF.false)) ((took_done _ _ c.take.ensures c.in_ok-next.was).here) c.plain.ensures c.expr.ensures c.in_ok-next-2.was c.part-2.ensures

pub if_else-loop-body-init : goal.if_else-loop-body-init
if_else-loop-body-init t c = links_begin c.requires.0 c.requires.1 c.requires.2 refl refl refl

pub if_else-cond-requires : goal.if_else-cond-requires
if_else-cond-requires t c = (omega (arith, c.decreases, c.loop-body.invariant.further, place_near c.loop-body.invariant.stands), c.loop-body.invariant.stands)

pub if_else-returns-in_err-body : goal.if_else-returns-in_err-body
if_else-returns-in_err-body t c = rw (handed c.from_residual.ensures.1, ← c.in_err-body.was) (links_fails c.loop-body.invariant c.cond.ensures.0 c.in_err-body.was)

pub if_else-slice_bounds-around-end : goal.if_else-slice_bounds-around-end
if_else-slice_bounds-around-end t c = search (rules, c.loop-body.invariant.room.0)

pub if_else-slice_bounds-around-end-then-word-ne-ELSE : goal.if_else-slice_bounds-around-end-then-word-ne-ELSE
if_else-slice_bounds-around-end-then-word-ne-ELSE t c = search (rules, c.loop-body.invariant.room.1)

pub if_else-slice_bounds-around-end-then-word-ne-ELSE-2 : goal.if_else-slice_bounds-around-end-then-word-ne-ELSE-2
if_else-slice_bounds-around-end-then-word-ne-ELSE-2 t c = search (rules, c.loop-body.invariant.bare)

pub if_else-returns-then-word-ne-ELSE : goal.if_else-returns-then-word-ne-ELSE
if_else-returns-then-word-ne-ELSE t c = links_end c.loop-body.invariant c.cond.ensures.0 c.in_ok-body.was ((λ e. c.if-word-ne-ELSE.true (c.word.ensures ∙ e))) c.plain_row.ensures c.finish-r.ensures.0 c.finish-r.ensures.1 c.around.ensures.0 c.around.ensures.1

pub if_else-returns-in_err-behind : goal.if_else-returns-in_err-behind
if_else-returns-in_err-behind t c = never_refused _ _ (63 ∷ []) tt (is_word (sym c.word.ensures ∙ c.if-word-ne-ELSE.false)) c.take.ensures c.in_err-behind.was

pub if_else-elses-r-requires : goal.if_else-elses-r-requires
if_else-elses-r-requires t c = let y = (let x = beyond_of c.args.s.now c.loop-body.here c.cond.ensures.1 c.in_ok-body.was in past_word (63 ∷ []) x.0 tt (is_word ((sym c.word.ensures ∙ c.if-word-ne-ELSE.false))) ((took_done _ _ c.take.ensures c.in_ok-behind.was).here)) in let x = beyond_of c.args.s.now c.loop-body.here c.cond.ensures.1 c.in_ok-body.was in (omega (arith, c.decreases, c.loop-body.invariant.further, x.1, y.1, place_near y.0), (y.0, (λ e. c.if-word-ne-IF.true (c.word-in-loop-body.ensures ∙ e))))

pub if_else-slice_bounds-around-end-then-word-ne-IF : goal.if_else-slice_bounds-around-end-then-word-ne-IF
if_else-slice_bounds-around-end-then-word-ne-IF t c = search (rules, c.loop-body.invariant.room.0)

pub if_else-slice_bounds-around-end-then-word-ne-IF-2 : goal.if_else-slice_bounds-around-end-then-word-ne-IF-2
if_else-slice_bounds-around-end-then-word-ne-IF-2 t c = search (rules, c.loop-body.invariant.room.1)

pub if_else-slice_bounds-around-end-then-word-ne-IF-3 : goal.if_else-slice_bounds-around-end-then-word-ne-IF-3
if_else-slice_bounds-around-end-then-word-ne-IF-3 t c = search (rules, c.loop-body.invariant.bare)

pub if_else-returns-then-word-ne-IF : goal.if_else-returns-then-word-ne-IF
if_else-returns-then-word-ne-IF t c = links_else c.loop-body.invariant c.cond.ensures.0 c.in_ok-body.was ((sym c.word.ensures ∙ c.if-word-ne-ELSE.false)) ((took_done _ _ c.take.ensures c.in_ok-behind.was).here) c.elses-r.ensures c.around-then-word-ne-IF.ensures.0 c.around-then-word-ne-IF.ensures.1

pub if_else-returns-in_err-word : goal.if_else-returns-in_err-word
if_else-returns-in_err-word t c = rw (handed c.from_residual-in_err-word.ensures.1, ← c.in_err-word.was) (links_long c.loop-body.invariant c.cond.ensures.0 c.in_ok-body.was ((sym c.word.ensures ∙ c.if-word-ne-ELSE.false)) ((took_done _ _ c.take.ensures c.in_ok-behind.was).here) (let x = beyond_of c.args.s.now c.loop-body.here c.cond.ensures.1 c.in_ok-body.was in past_word (63 ∷ []) x.0 tt (is_word ((sym c.word.ensures ∙ c.if-word-ne-ELSE.false))) ((took_done _ _ c.take.ensures c.in_ok-behind.was).here)).0 ((sym c.word-in-loop-body.ensures ∙ c.if-word-ne-IF.false)) c.else_if.ensures c.in_err-word.was)

pub if_else-overflow_cast-starts : goal.if_else-overflow_cast-starts
if_else-overflow_cast-starts t c = omega (arith, c.loop-body.invariant.near)

pub if_else-offset_bounds-starts-count : goal.if_else-offset_bounds-starts-count
if_else-offset_bounds-starts-count t c = let x = links_behind c.loop-body.invariant c.cond.ensures.0 c.in_ok-body.was ((sym c.word.ensures ∙ c.if-word-ne-ELSE.false)) ((took_done _ _ c.take.ensures c.in_ok-behind.was).here) (let x = beyond_of c.args.s.now c.loop-body.here c.cond.ensures.1 c.in_ok-body.was in past_word (63 ∷ []) x.0 tt (is_word ((sym c.word.ensures ∙ c.if-word-ne-ELSE.false))) ((took_done _ _ c.take.ensures c.in_ok-behind.was).here)).0 ((sym c.word-in-loop-body.ensures ∙ c.if-word-ne-IF.false)) c.else_if.ensures c.in_ok-word.was in omega (arith, x.2)

pub if_else-bounds-starts-count : goal.if_else-bounds-starts-count
if_else-bounds-starts-count t c = let x = links_behind c.loop-body.invariant c.cond.ensures.0 c.in_ok-body.was ((sym c.word.ensures ∙ c.if-word-ne-ELSE.false)) ((took_done _ _ c.take.ensures c.in_ok-behind.was).here) (let x = beyond_of c.args.s.now c.loop-body.here c.cond.ensures.1 c.in_ok-body.was in past_word (63 ∷ []) x.0 tt (is_word ((sym c.word.ensures ∙ c.if-word-ne-ELSE.false))) ((took_done _ _ c.take.ensures c.in_ok-behind.was).here)).0 ((sym c.word-in-loop-body.ensures ∙ c.if-word-ne-IF.false)) c.else_if.ensures c.in_ok-word.was in omega (arith, x.2)

pub if_else-overflow_cast-sinces : goal.if_else-overflow_cast-sinces
if_else-overflow_cast-sinces t c = omega (arith, c.loop-body.invariant.small)

pub if_else-offset_bounds-sinces-count : goal.if_else-offset_bounds-sinces-count
if_else-offset_bounds-sinces-count t c = let x = links_behind c.loop-body.invariant c.cond.ensures.0 c.in_ok-body.was ((sym c.word.ensures ∙ c.if-word-ne-ELSE.false)) ((took_done _ _ c.take.ensures c.in_ok-behind.was).here) (let x = beyond_of c.args.s.now c.loop-body.here c.cond.ensures.1 c.in_ok-body.was in past_word (63 ∷ []) x.0 tt (is_word ((sym c.word.ensures ∙ c.if-word-ne-ELSE.false))) ((took_done _ _ c.take.ensures c.in_ok-behind.was).here)).0 ((sym c.word-in-loop-body.ensures ∙ c.if-word-ne-IF.false)) c.else_if.ensures c.in_ok-word.was in omega (arith, x.2)

pub if_else-bounds-sinces-count : goal.if_else-bounds-sinces-count
if_else-bounds-sinces-count t c = let x = links_behind c.loop-body.invariant c.cond.ensures.0 c.in_ok-body.was ((sym c.word.ensures ∙ c.if-word-ne-ELSE.false)) ((took_done _ _ c.take.ensures c.in_ok-behind.was).here) (let x = beyond_of c.args.s.now c.loop-body.here c.cond.ensures.1 c.in_ok-body.was in past_word (63 ∷ []) x.0 tt (is_word ((sym c.word.ensures ∙ c.if-word-ne-ELSE.false))) ((took_done _ _ c.take.ensures c.in_ok-behind.was).here)).0 ((sym c.word-in-loop-body.ensures ∙ c.if-word-ne-IF.false)) c.else_if.ensures c.in_ok-word.was in omega (arith, x.2)

pub if_else-overflow_add-count : goal.if_else-overflow_add-count
if_else-overflow_add-count t c = let x = links_behind c.loop-body.invariant c.cond.ensures.0 c.in_ok-body.was ((sym c.word.ensures ∙ c.if-word-ne-ELSE.false)) ((took_done _ _ c.take.ensures c.in_ok-behind.was).here) (let x = beyond_of c.args.s.now c.loop-body.here c.cond.ensures.1 c.in_ok-body.was in past_word (63 ∷ []) x.0 tt (is_word ((sym c.word.ensures ∙ c.if-word-ne-ELSE.false))) ((took_done _ _ c.take.ensures c.in_ok-behind.was).here)).0 ((sym c.word-in-loop-body.ensures ∙ c.if-word-ne-IF.false)) c.else_if.ensures c.in_ok-word.was in omega (arith, x.2)

pub if_else-loop-body-smaller : goal.if_else-loop-body-smaller
if_else-loop-body-smaller t c = let x = links_behind c.loop-body.invariant c.cond.ensures.0 c.in_ok-body.was ((sym c.word.ensures ∙ c.if-word-ne-ELSE.false)) ((took_done _ _ c.take.ensures c.in_ok-behind.was).here) (let x = beyond_of c.args.s.now c.loop-body.here c.cond.ensures.1 c.in_ok-body.was in past_word (63 ∷ []) x.0 tt (is_word ((sym c.word.ensures ∙ c.if-word-ne-ELSE.false))) ((took_done _ _ c.take.ensures c.in_ok-behind.was).here)).0 ((sym c.word-in-loop-body.ensures ∙ c.if-word-ne-IF.false)) c.else_if.ensures c.in_ok-word.was in let y = (let x = beyond_of c.args.s.now c.loop-body.here c.cond.ensures.1 c.in_ok-body.was in past_word (63 ∷ []) x.0 tt (is_word ((sym c.word.ensures ∙ c.if-word-ne-ELSE.false))) ((took_done _ _ c.take.ensures c.in_ok-behind.was).here)) in let z = beyond_of c.args.s.now c.loop-body.here c.cond.ensures.1 c.in_ok-body.was in omega (arith, x.1, y.1, z.1, place_near x.0)

pub if_else-loop-body-preserved : goal.if_else-loop-body-preserved
if_else-loop-body-preserved t c = links_on c.loop-body.invariant c.cond.ensures.0 c.in_ok-body.was ((sym c.word.ensures ∙ c.if-word-ne-ELSE.false)) ((took_done _ _ c.take.ensures c.in_ok-behind.was).here) (let x = beyond_of c.args.s.now c.loop-body.here c.cond.ensures.1 c.in_ok-body.was in past_word (63 ∷ []) x.0 tt (is_word ((sym c.word.ensures ∙ c.if-word-ne-ELSE.false))) ((took_done _ _ c.take.ensures c.in_ok-behind.was).here)).0 ((sym c.word-in-loop-body.ensures ∙ c.if-word-ne-IF.false)) c.else_if.ensures c.in_ok-word.was (beyond_of c.args.s.now c.loop-body.here c.cond.ensures.1 c.in_ok-body.was).1 (let x = beyond_of c.args.s.now c.loop-body.here c.cond.ensures.1 c.in_ok-body.was in past_word (63 ∷ []) x.0 tt (is_word ((sym c.word.ensures ∙ c.if-word-ne-ELSE.false))) ((took_done _ _ c.take.ensures c.in_ok-behind.was).here)).1 (c.cond.auto.table ∙ c.loop-body.invariant.kept) c.chained-inner.ensures refl refl

pub let_stmt-returns-in_err-word : goal.let_stmt-returns-in_err-word
let_stmt-returns-in_err-word t c = never_refused _ _ (72 ∷ []) tt (is_word c.requires.1) c.take.ensures c.in_err-word.was

pub let_stmt-identifier-requires : goal.let_stmt-identifier-requires
let_stmt-identifier-requires t c = (let_name _ c.args.limits _ c.args.table.now c.requires.0 c.requires.1 ((took_done _ _ c.take.ensures c.in_ok-word.was).here)).0

pub let_stmt-returns-in_err-next : goal.let_stmt-returns-in_err-next
let_stmt-returns-in_err-next t c = rw (handed c.from_residual-in_err-next.ensures.1, ← c.in_err-next.was) (let_nameless _ c.args.limits _ c.args.table.now c.requires.0 c.requires.1 ((took_done _ _ c.take.ensures c.in_ok-word.was).here) c.identifier.ensures.0 c.in_err-next.was)

pub let_stmt-typing-requires : goal.let_stmt-typing-requires
let_stmt-typing-requires t c = (let_type _ c.args.limits _ c.args.table.now c.requires.0 c.requires.1 ((took_done _ _ c.take.ensures c.in_ok-word.was).here) c.identifier.ensures.0 c.in_ok-next.was, inr refl)

pub let_stmt-returns-in_err-ty : goal.let_stmt-returns-in_err-ty
let_stmt-returns-in_err-ty t c = rw (handed c.from_residual-in_err-ty.ensures.1, ← c.in_err-ty.was) (let_untyped _ c.args.limits _ c.args.table.now c.requires.0 c.requires.1 ((took_done _ _ c.take.ensures c.in_ok-word.was).here) c.identifier.ensures.0 c.in_ok-next.was c.plain-after.ensures c.typing.ensures c.in_err-ty.was)

pub let_stmt-returns-in_err-next-2 : goal.let_stmt-returns-in_err-next-2
let_stmt-returns-in_err-next-2 t c = rw (handed c.from_residual-in_err-next-2.ensures.1, ← c.in_err-next-2.was) (let_signless _ c.args.limits _ c.args.table.now c.requires.0 c.requires.1 ((took_done _ _ c.take.ensures c.in_ok-word.was).here) c.identifier.ensures.0 c.in_ok-next.was c.plain-after.ensures c.typing.ensures c.in_ok-ty.was c.expect.ensures c.in_err-next-2.was)

pub let_stmt-expr-requires : goal.let_stmt-expr-requires
let_stmt-expr-requires t c = let x = let_expr _ c.args.limits _ c.args.table.now c.requires.0 c.requires.1 ((took_done _ _ c.take.ensures c.in_ok-word.was).here) c.identifier.ensures.0 c.in_ok-next.was c.plain-after.ensures c.typing.ensures c.in_ok-ty.was c.expect.ensures c.in_ok-next-2.was in (omega (arith, x.1, next_small x.0, x.0.short, c.decreases), x.0)

pub let_stmt-returns-in_err-next-3 : goal.let_stmt-returns-in_err-next-3
let_stmt-returns-in_err-next-3 t c = rw (handed c.from_residual-in_err-next-3.ensures.1, ← c.in_err-next-3.was) (let_valueless _ c.args.limits _ c.args.table.now c.requires.0 c.requires.1 ((took_done _ _ c.take.ensures c.in_ok-word.was).here) c.identifier.ensures.0 c.in_ok-next.was c.plain-after.ensures c.typing.ensures c.in_ok-ty.was c.expect.ensures c.in_ok-next-2.was c.expr.ensures c.in_err-next-3.was)

pub let_stmt-returns-in_err-ending : goal.let_stmt-returns-in_err-ending
let_stmt-returns-in_err-ending t c = rw (handed c.from_residual-in_err-ending.ensures.1, ← c.in_err-ending.was) (let_unended _ c.args.limits _ c.args.table.now c.requires.0 c.requires.1 ((took_done _ _ c.take.ensures c.in_ok-word.was).here) c.identifier.ensures.0 c.in_ok-next.was c.plain-after.ensures c.typing.ensures c.in_ok-ty.was c.expect.ensures c.in_ok-next-2.was c.expr.ensures c.in_ok-next-3.was c.expect-2.ensures c.in_err-ending.was)

pub let_stmt-overflow_add-ty : goal.let_stmt-overflow_add-ty
let_stmt-overflow_add-ty t c = omega (arith, let_types _ c.args.limits _ c.args.table.now c.requires.0 c.requires.1 ((took_done _ _ c.take.ensures c.in_ok-word.was).here) c.identifier.ensures.0 c.in_ok-next.was c.plain-after.ensures c.typing.ensures c.in_ok-ty.was)

pub let_stmt-returns : goal.let_stmt-returns
let_stmt-returns t c = let_read _ c.args.limits _ c.args.table.now c.requires.0 c.requires.1 ((took_done _ _ c.take.ensures c.in_ok-word.was).here) c.identifier.ensures.0 c.in_ok-next.was c.plain-after.ensures c.typing.ensures c.in_ok-ty.was c.expect.ensures c.in_ok-next-2.was c.expr.ensures c.in_ok-next-3.was c.expect-2.ensures c.in_ok-ending.was (start_is c.args.here (took_done _ _ c.take.ensures c.in_ok-word.was).node c.valued_row-row.ensures) c.finish.ensures.0 c.finish.ensures.1

pub match_expr-expr-requires : goal.match_expr-expr-requires
match_expr-expr-requires t c = (omega (arith, c.decreases), c.requires.0)

pub match_expr-returns-in_err-next : goal.match_expr-returns-in_err-next
match_expr-returns-in_err-next t c = rw (handed c.from_residual.ensures.1, ← c.in_err-next.was) (heads λ f q b. match_expr_fails q c.headed.ensures b c.expr.ensures c.in_err-next.was)

pub match_expr-returns-in_err-inside : goal.match_expr-returns-in_err-inside
match_expr-returns-in_err-inside t c = rw (handed c.from_residual-in_err-inside.ensures.1, ← c.in_err-inside.was) (heads λ f q b. match_fails q c.headed.ensures b c.expr.ensures c.in_ok-next.was c.open.ensures c.in_err-inside.was)

pub match_expr-loop-inner-init : goal.match_expr-loop-inner-init
match_expr-loop-inner-init t c = gone_start

pub match_expr-arm-requires : goal.match_expr-arm-requires
match_expr-arm-requires t c = let y = further c.expr.ensures c.in_ok-next.was in let z = opening_past open_brace _ y.stands tt c.open.ensures c.in_ok-inside.was in (omega (arith, y.next, z.1, place_near (c.loop-inner.invariant.stands z.0), c.loop-inner.invariant.next, c.decreases), (c.loop-inner.invariant.stands z.0, ap (λ (l : Limits). l.signs) c.opened-inner.ensures, (true_so (c.is_name.ensures ∙ ap (λ w. one_of w names) c.word.ensures) c.loop-inner-test.true)))

pub match_expr-overflow_add-children : goal.match_expr-overflow_add-children
match_expr-overflow_add-children t c = let y = further c.expr.ensures c.in_ok-next.was in let z = opening_past open_brace _ y.stands tt c.open.ensures c.in_ok-inside.was in omega (arith, gone_few c.loop-inner.invariant z.0)

pub match_expr-loop-inner-smaller : goal.match_expr-loop-inner-smaller
match_expr-loop-inner-smaller t c = let x = arm_further (armed c.arm.ensures (c.in_ok-read.was ∙ ap Ok c.in-Followed.is)) in omega (arith, x.next, next_small x.stands)

pub match_expr-loop-inner-preserved : goal.match_expr-loop-inner-preserved
match_expr-loop-inner-preserved t c = gone_on c.loop-inner.invariant (true_so (c.is_name.ensures ∙ ap (λ w. one_of w names) c.word.ensures) c.loop-inner-test.true) c.arm.ensures (c.in_ok-read.was ∙ ap Ok c.in-Followed.is)

pub match_expr-returns-in-Last : goal.match_expr-returns-in-Last
match_expr-returns-in-Last t c = heads λ f q b. match_ends q c.headed.ensures b c.expr.ensures c.in_ok-next.was c.open.ensures c.in_ok-inside.was c.opened-inner.ensures (arms_last c.loop-inner.invariant (true_so (c.is_name.ensures ∙ ap (λ w. one_of w names) c.word.ensures) c.loop-inner-test.true) c.arm.ensures (c.in_ok-read.was ∙ ap Ok c.in-Last.is) refl c.braced.ensures)

pub match_expr-returns-in_err-read : goal.match_expr-returns-in_err-read
match_expr-returns-in_err-read t c = heads λ f q b. match_ends q c.headed.ensures b c.expr.ensures c.in_ok-next.was c.open.ensures c.in_ok-inside.was c.opened-inner.ensures (arms_fail c.loop-inner.invariant (true_so (c.is_name.ensures ∙ ap (λ w. one_of w names) c.word.ensures) c.loop-inner-test.true) c.arm.ensures c.args.at.rows c.in_err-read.was (handed c.from_residual-in_err-read.ensures.1))

pub match_expr-returns : goal.match_expr-returns
match_expr-returns t c = heads λ f q b. match_ends q c.headed.ensures b c.expr.ensures c.in_ok-next.was c.open.ensures c.in_ok-inside.was c.opened-inner.ensures (arms_end c.loop-inner.invariant (false_so (c.is_name.ensures ∙ ap (λ w. one_of w names) c.word.ensures) c.loop-inner-test.false) refl c.braced-2.ensures)

pub operand-returns-in_default : goal.operand-returns-in_default
operand-returns-in_default t c = never_untaken sign_words tt (true_so (c.is_sign-signed.ensures ∙ ap (λ w. one_of w sign_words) c.word-sign.ensures) c.if-signed.true) c.in_default.is

pub operand-returns-then-limits-eq0 : goal.operand-returns-then-limits-eq0
operand-returns-then-limits-eq0 t c = negate_deep _ c.args.limits c.args.records _ c.args.table.now c.requires (sign_of c.args.records (word_of c.args.at) (true_so (c.is_sign-signed.ensures ∙ ap (λ w. one_of w sign_words) c.word-sign.ensures) c.if-signed.true)) (under_out _ _ _ c.if-limits-eq0.true c.in-Ok.is c.refuse.ensures) c.refuse.ensures

pub operand-operand-r-requires : goal.operand-operand-r-requires
operand-operand-r-requires t c = elim c.if-signed.branch [ operand-then-signed+in-Ok+else-limits-eq0 x ↦ let y = operand_goes _ c.args.limits c.args.records _ c.args.table.now c.requires (sign_of c.args.records (word_of c.args.at) (true_so (c.is_sign-signed.ensures ∙ ap (λ w. one_of w sign_words) c.word-sign.ensures) x.if-signed.true)) (ap (λ (z : Here). Ok (token_node c.args.at, z)) (stepped_here _ c.args.at x.in-Ok.is x.step-step.ensures.0 x.here-is) ∙ under_on _ c.args.at _ x.if-limits-eq0.false x.in-Ok.is) refl in (omega (arith, c.decreases, goes_on y (omega arith)), y.stands) | operand-else-signed x ↦ absurd ((false_so (c.is_sign-signed.ensures ∙ ap (λ w. one_of w sign_words) c.word-sign.ensures) x.if-signed.false) (true_so (c.is_sign-signed.ensures ∙ ap (λ w. one_of w sign_words) c.word-sign.ensures) c.if-signed-2.true)) ]

pub operand-access-r-requires : goal.operand-access-r-requires
operand-access-r-requires t c = elim c.if-signed.branch [ operand-then-signed+in-Ok+else-limits-eq0 x ↦ absurd ((false_so (c.is_sign-signed.ensures ∙ ap (λ w. one_of w sign_words) c.word-sign.ensures) c.if-signed-2.false) (true_so (c.is_sign-signed.ensures ∙ ap (λ w. one_of w sign_words) c.word-sign.ensures) x.if-signed.true)) | operand-else-signed x ↦ (omega (arith, c.decreases, ap (λ (z : Here). next_of z) x.here-is), (subst (Stands _) (sym x.here-is) c.requires, subst (λ (z : Here). (word_of z ≢ 52) × (word_of z ≢ 53)) (sym x.here-is) (no_sign (word_of c.args.at) (false_so (c.is_sign-signed.ensures ∙ ap (λ w. one_of w sign_words) c.word-sign.ensures) c.if-signed-2.false)))) ]

pub operand-returns-then-not-signed : goal.operand-returns-then-not-signed
operand-returns-then-not-signed t c = elim c.if-signed-2.branch [ operand-then-signed-2 y ↦ absurd ((false_so (c.is_sign-signed.ensures ∙ ap (λ w. one_of w sign_words) c.word-sign.ensures) c.if-not-signed.true) (true_so (c.is_sign-signed.ensures ∙ ap (λ w. one_of w sign_words) c.word-sign.ensures) y.if-signed-2.true)) | operand-else-signed-2 y ↦ elim c.if-signed.branch [ operand-then-signed+in-Ok+else-limits-eq0 x ↦ absurd ((false_so (c.is_sign-signed.ensures ∙ ap (λ w. one_of w sign_words) c.word-sign.ensures) c.if-not-signed.true) (true_so (c.is_sign-signed.ensures ∙ ap (λ w. one_of w sign_words) c.word-sign.ensures) x.if-signed.true)) | operand-else-signed x ↦ read_as x.here-is x.inner-is y.r-is y.table-is y.access-r.ensures ] ]

pub operand-returns-in_err-found : goal.operand-returns-in_err-found
operand-returns-in_err-found t c = rw (handed c.from_residual.ensures.1, ← c.in_err-found.was) (elim c.if-signed-2.branch [ operand-then-signed-2 y ↦ elim c.if-signed.branch [ operand-then-signed+in-Ok+else-limits-eq0 x ↦ negate_fails _ c.args.limits c.args.records _ c.args.table.now c.requires (sign_of c.args.records (word_of c.args.at) (true_so (c.is_sign-signed.ensures ∙ ap (λ w. one_of w sign_words) c.word-sign.ensures) x.if-signed.true)) (ap (λ (z : Here). Ok (token_node c.args.at, z)) (stepped_here _ c.args.at x.in-Ok.is x.step-step.ensures.0 x.here-is) ∙ under_on _ c.args.at _ x.if-limits-eq0.false x.in-Ok.is) refl (x.inner-is ∙ x.signed-inner.ensures) (read_as refl refl y.r-is y.table-is y.operand-r.ensures) c.in_err-found.was | operand-else-signed x ↦ absurd ((false_so (c.is_sign-signed.ensures ∙ ap (λ w. one_of w sign_words) c.word-sign.ensures) x.if-signed.false) (true_so (c.is_sign-signed.ensures ∙ ap (λ w. one_of w sign_words) c.word-sign.ensures) c.if-not-signed.false)) ] | operand-else-signed-2 y ↦ absurd ((false_so (c.is_sign-signed.ensures ∙ ap (λ w. one_of w sign_words) c.word-sign.ensures) y.if-signed-2.false) (true_so (c.is_sign-signed.ensures ∙ ap (λ w. one_of w sign_words) c.word-sign.ensures) c.if-not-signed.false)) ])

pub operand-returns : goal.operand-returns
operand-returns t c = elim c.if-signed-2.branch [ operand-then-signed-2 y ↦ elim c.if-signed.branch [ operand-then-signed+in-Ok+else-limits-eq0 x ↦ negate_ends _ c.args.limits c.args.records _ c.args.table.now c.requires (sign_of c.args.records (word_of c.args.at) (true_so (c.is_sign-signed.ensures ∙ ap (λ w. one_of w sign_words) c.word-sign.ensures) x.if-signed.true)) (ap (λ (z : Here). Ok (token_node c.args.at, z)) (stepped_here _ c.args.at x.in-Ok.is x.step-step.ensures.0 x.here-is) ∙ under_on _ c.args.at _ x.if-limits-eq0.false x.in-Ok.is) refl (x.inner-is ∙ x.signed-inner.ensures) (read_as refl refl y.r-is y.table-is y.operand-r.ensures) c.in_ok-found.was (c.sign_kind.ensures ∙ ap sign_kind c.word-sign.ensures) (plain_from c.plain_row-row.ensures (x.start-is ∙ sym (start_taken x.in-Ok.is))) c.finish.ensures.0 c.finish.ensures.1 | operand-else-signed x ↦ absurd ((false_so (c.is_sign-signed.ensures ∙ ap (λ w. one_of w sign_words) c.word-sign.ensures) x.if-signed.false) (true_so (c.is_sign-signed.ensures ∙ ap (λ w. one_of w sign_words) c.word-sign.ensures) c.if-not-signed.false)) ] | operand-else-signed-2 y ↦ absurd ((false_so (c.is_sign-signed.ensures ∙ ap (λ w. one_of w sign_words) c.word-sign.ensures) y.if-signed-2.false) (true_so (c.is_sign-signed.ensures ∙ ap (λ w. one_of w sign_words) c.word-sign.ensures) c.if-not-signed.false)) ]

pub parens-returns-in_err-inside : goal.parens-returns-in_err-inside
parens-returns-in_err-inside t c = rw (handed c.from_residual.ensures.1, ← c.in_err-inside.was) (parens_shut _ _ _ _ c.requires c.open.ensures c.in_err-inside.was)

pub parens-expr-requires : goal.parens-expr-requires
parens-expr-requires t c = (let a = (opening_stands 42 _ tt c.requires c.open.ensures c.in_ok-inside.was).1 in let k = place_near (opening_stands 42 _ tt c.requires c.open.ensures c.in_ok-inside.was).0 in omega (arith, c.decreases, a, k), (opening_stands 42 _ tt c.requires c.open.ensures c.in_ok-inside.was).0)

pub parens-returns-in_err-found : goal.parens-returns-in_err-found
parens-returns-in_err-found t c = rw (handed c.from_residual-in_err-found.ensures.1, ← c.in_err-found.was) (parens_stops _ _ _ _ c.requires c.open.ensures c.in_ok-inside.was c.opened.ensures c.expr.ensures c.in_err-found.was)

pub parens-returns-in_err-behind : goal.parens-returns-in_err-behind
parens-returns-in_err-behind t c = rw (handed c.from_residual-in_err-behind.ensures.1, ← c.in_err-behind.was) (parens_open _ _ _ _ c.requires c.open.ensures c.in_ok-inside.was c.opened.ensures c.expr.ensures c.in_ok-found.was c.expect.ensures c.in_err-behind.was)

pub parens-returns : goal.parens-returns
parens-returns t c = parens_read _ _ _ _ c.requires c.open.ensures c.in_ok-inside.was c.opened.ensures c.expr.ensures c.in_ok-found.was c.expect.ensures c.in_ok-behind.was refl

pub path_expr-path-requires : goal.path_expr-path-requires
path_expr-path-requires t c = c.requires.0

pub path_expr-returns-in_err-found : goal.path_expr-returns-in_err-found
path_expr-returns-in_err-found t c = rw (handed c.from_residual.ensures.1, ← c.in_err-found.was) (path_stops _ _ c.args.records _ _ c.requires.0 c.requires.1 c.path.ensures.0 c.in_err-found.was)

pub path_expr-returns-then-not-records : goal.path_expr-returns-then-not-records
path_expr-returns-then-not-records t c = path_alone _ _ c.args.records _ _ c.requires.0 c.requires.1 c.path.ensures.0 c.in_ok-found.was c.path.ensures.1 (λ x. absurd (false_so refl c.if-not-records.true x)) refl

pub path_expr-returns-then-word-ne-CURLY_LEFT : goal.path_expr-returns-then-word-ne-CURLY_LEFT
path_expr-returns-then-word-ne-CURLY_LEFT t c = path_alone _ _ c.args.records _ _ c.requires.0 c.requires.1 c.path.ensures.0 c.in_ok-found.was c.path.ensures.1 (λ k. (λ e. c.if-word-ne-CURLY_LEFT.true (c.word.ensures ∙ e))) refl

pub path_expr-returns-in_err-inside : goal.path_expr-returns-in_err-inside
path_expr-returns-in_err-inside t c = rw (handed c.from_residual-in_err-inside.ensures.1, ← c.in_err-inside.was) (where_records _ _ c.args.records _ _ (true_so refl c.if-not-records.false) (record_shut _ _ _ _ c.requires.0 c.requires.1 c.path.ensures.0 c.in_ok-found.was ((sym c.word.ensures ∙ c.if-word-ne-CURLY_LEFT.false)) c.open.ensures c.in_err-inside.was))

pub path_expr-record-requires : goal.path_expr-record-requires
path_expr-record-requires t c = (let a = (further (c.path.ensures.0 zeros) c.in_ok-found.was).next in let b = (opening_stands 40 _ tt (further (c.path.ensures.0 zeros) c.in_ok-found.was).stands c.open.ensures c.in_ok-inside.was).1 in let k = place_near (opening_stands 40 _ tt (further (c.path.ensures.0 zeros) c.in_ok-found.was).stands c.open.ensures c.in_ok-inside.was).0 in omega (arith, c.decreases, a, b, k), ((opening_stands 40 _ tt (further (c.path.ensures.0 zeros) c.in_ok-found.was).stands c.open.ensures c.in_ok-inside.was).0, ap (λ (l : Limits). l.signs) c.opened.ensures, omega arith))

pub path_expr-returns : goal.path_expr-returns
path_expr-returns t c = where_records _ _ c.args.records _ _ (true_so refl c.if-not-records.false) (record_read _ _ _ _ c.requires.0 c.requires.1 c.path.ensures.0 c.in_ok-found.was ((sym c.word.ensures ∙ c.if-word-ne-CURLY_LEFT.false)) c.open.ensures c.in_ok-inside.was c.opened.ensures c.record.ensures)

pub postfix-returns-then-word-eq-QUESTION_MARK : goal.postfix-returns-then-word-eq-QUESTION_MARK
postfix-returns-then-word-eq-QUESTION_MARK t c = let w = (sym c.word.ensures ∙ c.if-word-eq-QUESTION_MARK.true) in let q = c.question.ensures (51 ∷ []) tt (is_word w) in questioned _ _ _ _ c.args.since c.requires.0 _ w q.0 q.1

pub postfix-field_access-requires : goal.postfix-field_access-requires
postfix-field_access-requires t c = (c.requires.0, last_sign _ c.requires.1 ((λ e. c.if-word-eq-QUESTION_MARK.false (c.word.ensures ∙ e))) ((λ e. c.if-word-ne-ROUND_LEFT.true (c.word-2.ensures ∙ e))))

pub postfix-returns-then-word-ne-ROUND_LEFT : goal.postfix-returns-then-word-ne-ROUND_LEFT
postfix-returns-then-word-ne-ROUND_LEFT t c = (c.field_access.ensures.0 _, c.field_access.ensures.1)

pub postfix-arguments-requires : goal.postfix-arguments-requires
postfix-arguments-requires t c = (omega (arith, c.decreases), c.requires.0)

pub postfix-returns-in_err-list : goal.postfix-returns-in_err-list
postfix-returns-in_err-list t c = rw (handed c.from_residual.ensures.1, ← c.in_err-list.was) ((call_stops _ _ _ _ c.args.since c.requires.0 _ ((sym c.word-2.ensures ∙ c.if-word-ne-ROUND_LEFT.false)) c.arguments.ensures c.in_err-list.was).0, tt)

pub postfix-overflow_add-list : goal.postfix-overflow_add-list
postfix-overflow_add-list t c = let k = subst few c.in_ok-list.was c.arguments.ensures.2 in omega (arith, k)

pub postfix-returns : goal.postfix-returns
postfix-returns t c = called _ _ _ _ c.args.since c.requires.0 _ ((sym c.word-2.ensures ∙ c.if-word-ne-ROUND_LEFT.false)) c.arguments.ensures c.in_ok-list.was c.plain_row-row.ensures c.finish.ensures.0 c.finish.ensures.1

pub record-loop-limits-init : goal.record-loop-limits-init
record-loop-limits-init t c = loop_begins fields_list c.requires.0

pub record-field-requires : goal.record-field-requires
record-field-requires t c = (let k = c.loop-limits.invariant.next in omega (arith, c.decreases, k), (c.loop-limits.invariant.stands, c.requires.1))

pub record-returns-in_err-next : goal.record-returns-in_err-next
record-returns-in_err-next t c = rw (handed c.from_residual.ensures.1, ← c.in_err-next.was) (fields_stop c.requires.1 c.loop-limits.invariant _ _ (true_so ((c.is_name.ensures ∙ ap (λ w. one_of w names) c.word.ensures)) c.loop-limits-test.true) c.field.ensures c.in_err-next.was)

pub record-overflow_add-children : goal.record-overflow_add-children
record-overflow_add-children t c = let k = loop_few fields_list c.loop-limits.invariant c.requires.2 in omega (arith, k)

pub record-returns-then-word-ne-COMMA : goal.record-returns-then-word-ne-COMMA
record-returns-then-word-ne-COMMA t c = fields_last c.requires.1 c.loop-limits.invariant _ _ (true_so ((c.is_name.ensures ∙ ap (λ w. one_of w names) c.word.ensures)) c.loop-limits-test.true) c.field.ensures c.requires.2 c.in_ok-next.was ((λ e. c.if-word-ne-COMMA.true (c.word-in-loop-limits.ensures ∙ e))) (refl) c.braced.ensures

pub record-returns-in_err-after : goal.record-returns-in_err-after
record-returns-in_err-after t c = never_refused _ _ (48 ∷ []) tt (is_word (sym c.word-in-loop-limits.ensures ∙ c.if-word-ne-COMMA.false)) c.take.ensures c.in_err-after.was

pub record-loop-limits-smaller : goal.record-loop-limits-smaller
record-loop-limits-smaller t c = let w = loop_more fields_list c.loop-limits.invariant (true_so ((c.is_name.ensures ∙ ap (λ w. one_of w names) c.word.ensures)) c.loop-limits-test.true) c.field.ensures c.in_ok-next.was ((sym c.word-in-loop-limits.ensures ∙ c.if-word-ne-COMMA.false)) ((took_done _ _ c.take.ensures c.in_ok-after.was).here) in let a = (further c.field.ensures c.in_ok-next.was).next in let b = (past_word (48 ∷ []) (further c.field.ensures c.in_ok-next.was).stands tt (is_word ((sym c.word-in-loop-limits.ensures ∙ c.if-word-ne-COMMA.false))) ((took_done _ _ c.take.ensures c.in_ok-after.was).here)).1 in let k = place_near w.stands in omega (arith, a, b, k)

pub record-loop-limits-preserved : goal.record-loop-limits-preserved
record-loop-limits-preserved t c = loop_more fields_list c.loop-limits.invariant (true_so ((c.is_name.ensures ∙ ap (λ w. one_of w names) c.word.ensures)) c.loop-limits-test.true) c.field.ensures c.in_ok-next.was ((sym c.word-in-loop-limits.ensures ∙ c.if-word-ne-COMMA.false)) ((took_done _ _ c.take.ensures c.in_ok-after.was).here)

pub record-returns : goal.record-returns
record-returns t c = fields_over c.requires.1 c.loop-limits.invariant _ _ c.requires.2 (false_so ((c.is_name.ensures ∙ ap (λ w. one_of w names) c.word.ensures)) c.loop-limits-test.false) (refl) c.braced-2.ensures

pub return_expr-loop-word-init : goal.return_expr-loop-word-init
return_expr-loop-word-init t c = returns_begin c.requires.0 c.requires.1 refl refl refl

pub return_expr-returns-in_err-word : goal.return_expr-returns-in_err-word
return_expr-returns-in_err-word t c = rw (handed c.from_residual.ensures.1, ← c.in_err-word.was) (returns_deep c.loop-word.invariant c.deeper.ensures c.in_err-word.was)

pub return_expr-slice_bounds-around-end : goal.return_expr-slice_bounds-around-end
return_expr-slice_bounds-around-end t c = search (rules, c.loop-word.invariant.room.0)

pub return_expr-slice_bounds-around-end-then-ends_return : goal.return_expr-slice_bounds-around-end-then-ends_return
return_expr-slice_bounds-around-end-then-ends_return t c = search (rules, c.loop-word.invariant.room.1)

pub return_expr-slice_bounds-around-end-then-ends_return-2 : goal.return_expr-slice_bounds-around-end-then-ends_return-2
return_expr-slice_bounds-around-end-then-ends_return-2 t c = search (rules, c.loop-word.invariant.room.2)

pub return_expr-returns-then-ends_return : goal.return_expr-returns-then-ends_return
return_expr-returns-then-ends_return t c = let w = row_is _ _ _ c.detail_row-row.ensures c.finish-r.ensures in returns_bare c.loop-word.invariant c.deeper.ensures c.in_ok-word.was c.signed-inner.ensures (c.return_detail-detail.ensures ∙ ap (λ w. detail_for 27 w) c.word.ensures) (true_so (c.ends_return.ensures ∙ ap (λ w. ends_return w c.args.records) c.word-in-loop-word.ensures) c.if-ends_return.true) w.0 w.1 c.around.ensures.0 c.around.ensures.1

pub return_expr-assign_expr-requires : goal.return_expr-assign_expr-requires
return_expr-assign_expr-requires t c = let x = returns_behind c.loop-word.invariant c.deeper.ensures c.in_ok-word.was in (omega (arith, c.decreases, c.loop-word.invariant.further, x.1), (x.0, return_elsewhere x.0 ((c.return_detail.ensures ∙ ap (λ w. detail_for 27 w) c.word-in-loop-word-2.ensures)) c.if-return_detail-eq0.true))

pub return_expr-returns-in_err-value : goal.return_expr-returns-in_err-value
return_expr-returns-in_err-value t c = rw (handed c.from_residual-in_err-value.ensures.1, ← c.in_err-value.was) (returns_fails c.loop-word.invariant c.deeper.ensures c.in_ok-word.was c.signed-inner.ensures ((c.return_detail-detail.ensures ∙ ap (λ w. detail_for 27 w) c.word.ensures)) (false_so ((c.ends_return.ensures ∙ ap (λ w. ends_return w c.args.records) c.word-in-loop-word.ensures)) c.if-ends_return.false) c.assign_expr.ensures c.in_err-value.was)

pub return_expr-slice_bounds-around-end-then-return_detail-eq0 : goal.return_expr-slice_bounds-around-end-then-return_detail-eq0
return_expr-slice_bounds-around-end-then-return_detail-eq0 t c = search (rules, c.loop-word.invariant.room.0)

pub return_expr-slice_bounds-around-end-then-return_detail-eq0-2 : goal.return_expr-slice_bounds-around-end-then-return_detail-eq0-2
return_expr-slice_bounds-around-end-then-return_detail-eq0-2 t c = search (rules, c.loop-word.invariant.room.1)

pub return_expr-slice_bounds-around-end-then-return_detail-eq0-3 : goal.return_expr-slice_bounds-around-end-then-return_detail-eq0-3
return_expr-slice_bounds-around-end-then-return_detail-eq0-3 t c = search (rules, c.loop-word.invariant.room.2)

pub return_expr-returns-then-return_detail-eq0 : goal.return_expr-returns-then-return_detail-eq0
return_expr-returns-then-return_detail-eq0 t c = let w = row_is _ _ _ c.detail_row-row-then-return_detail-eq0.ensures c.finish-r-then-return_detail-eq0.ensures in returns_valued c.loop-word.invariant c.deeper.ensures c.in_ok-word.was c.signed-inner.ensures (c.return_detail-detail.ensures ∙ ap (λ w. detail_for 27 w) c.word.ensures) (false_so (c.ends_return.ensures ∙ ap (λ w. ends_return w c.args.records) c.word-in-loop-word.ensures) c.if-ends_return.false) c.assign_expr.ensures c.in_ok-value.was w.0 w.1 c.around-then-return_detail-eq0.ensures.0 c.around-then-return_detail-eq0.ensures.1

pub return_expr-overflow_cast-starts : goal.return_expr-overflow_cast-starts
return_expr-overflow_cast-starts t c = let x = start_small return_words tt c.loop-word.invariant.word c.loop-word.invariant.stands in let y = ap (λ (n : Node). n.start) (under_done _ _ _ c.deeper.ensures c.in_ok-word.was).1.node in omega (arith, x, y)

pub return_expr-offset_bounds-starts-count : goal.return_expr-offset_bounds-starts-count
return_expr-offset_bounds-starts-count t c = let x = returns_behind c.loop-word.invariant c.deeper.ensures c.in_ok-word.was in omega (arith, x.3)

pub return_expr-bounds-starts-count : goal.return_expr-bounds-starts-count
return_expr-bounds-starts-count t c = let x = returns_behind c.loop-word.invariant c.deeper.ensures c.in_ok-word.was in omega (arith, x.3)

pub return_expr-overflow_cast-sinces : goal.return_expr-overflow_cast-sinces
return_expr-overflow_cast-sinces t c = let x = rows_small c.loop-word.invariant.stands in omega (arith, x)

pub return_expr-offset_bounds-sinces-count : goal.return_expr-offset_bounds-sinces-count
return_expr-offset_bounds-sinces-count t c = let x = returns_behind c.loop-word.invariant c.deeper.ensures c.in_ok-word.was in omega (arith, x.3)

pub return_expr-bounds-sinces-count : goal.return_expr-bounds-sinces-count
return_expr-bounds-sinces-count t c = let x = returns_behind c.loop-word.invariant c.deeper.ensures c.in_ok-word.was in omega (arith, x.3)

pub return_expr-overflow_cast-details : goal.return_expr-overflow_cast-details
return_expr-overflow_cast-details t c = let x = return_small c.loop-word.invariant.stands ((c.return_detail-detail.ensures ∙ ap (λ w. detail_for 27 w) c.word.ensures)) in omega (arith, x)

pub return_expr-bounds-details-count : goal.return_expr-bounds-details-count
return_expr-bounds-details-count t c = let x = returns_behind c.loop-word.invariant c.deeper.ensures c.in_ok-word.was in omega (arith, x.3)

pub return_expr-overflow_add-count : goal.return_expr-overflow_add-count
return_expr-overflow_add-count t c = let x = returns_behind c.loop-word.invariant c.deeper.ensures c.in_ok-word.was in omega (arith, x.3)

pub return_expr-loop-word-smaller : goal.return_expr-loop-word-smaller
return_expr-loop-word-smaller t c = let x = returns_behind c.loop-word.invariant c.deeper.ensures c.in_ok-word.was in omega (arith, x.1, x.2)

pub return_expr-loop-word-preserved : goal.return_expr-loop-word-preserved
return_expr-loop-word-preserved t c = returns_on c.loop-word.invariant c.deeper.ensures c.in_ok-word.was (return_there (returns_behind c.loop-word.invariant c.deeper.ensures c.in_ok-word.was).0 ((c.return_detail.ensures ∙ ap (λ w. detail_for 27 w) c.word-in-loop-word-2.ensures)) c.if-return_detail-eq0.false) c.signed-inner.ensures ((c.return_detail-detail.ensures ∙ ap (λ w. detail_for 27 w) c.word.ensures)) refl refl refl

pub stmt-import-requires : goal.stmt-import-requires
stmt-import-requires t c = (c.requires.0, (sym c.word.ensures ∙ c.if-word-eq-IMPORT.true))

pub stmt-returns-then-word-eq-IMPORT : goal.stmt-returns-then-word-eq-IMPORT
stmt-returns-then-word-eq-IMPORT t c = (whole_statement _ _ _ _ _ statement_import_on refl (sym c.word.ensures ∙ c.if-word-eq-IMPORT.true) c.import.ensures c.ended.ensures, beyond_ended _ c.args.here _ (beyond _ c.import.ensures) c.ended.ensures)

pub stmt-let_stmt-requires : goal.stmt-let_stmt-requires
stmt-let_stmt-requires t c = (omega (arith, c.decreases), (c.requires.0, (sym c.word-2.ensures ∙ c.if-word-eq-LET.true)))

pub stmt-returns-then-word-eq-LET : goal.stmt-returns-then-word-eq-LET
stmt-returns-then-word-eq-LET t c = (whole_statement _ _ _ _ _ statement_let_on refl (sym c.word-2.ensures ∙ c.if-word-eq-LET.true) c.let_stmt.ensures c.ended-then-word-eq-LET.ensures, beyond_ended _ c.args.here _ (beyond _ c.let_stmt.ensures) c.ended-then-word-eq-LET.ensures)

pub stmt-four-requires : goal.stmt-four-requires
stmt-four-requires t c = (omega (arith, c.decreases), c.requires.0)

pub stmt-returns-in_err-next : goal.stmt-returns-in_err-next
stmt-returns-in_err-next t c = let v = ended_on c.in_err-next.was (handed c.from_residual.ensures.1) in (four_refused _ _ _ _ (subst T (sym c.if-is_four.true ∙ (c.is_four.ensures ∙ ap (λ w. one_of w four_words) c.word-3.ensures)) tt) c.four.ensures c.in_err-next.was v, beyond_ended _ c.args.here _ (beyond _ c.four.ensures) v)

pub stmt-returns-then-word-ne-SEMI_COLON : goal.stmt-returns-then-word-ne-SEMI_COLON
stmt-returns-then-word-ne-SEMI_COLON t c = (ends_four _ _ _ _ (behind_four _ _ _ _ (subst T (sym c.if-is_four.true ∙ (c.is_four.ensures ∙ ap (λ w. one_of w four_words) c.word-3.ensures)) tt) c.four.ensures c.in_ok-next.was) (λ e. c.if-word-ne-SEMI_COLON.true (c.word-then-is_four.ensures ∙ e)) refl, beyond_without _ c.four.ensures c.in_ok-next.was)

pub stmt-returns-then-is_four : goal.stmt-returns-then-is_four
stmt-returns-then-is_four t c = (ends_with _ _ _ _ AFTER_FOUR (behind_four _ _ _ _ (subst T (sym c.if-is_four.true ∙ (c.is_four.ensures ∙ ap (λ w. one_of w four_words) c.word-3.ensures)) tt) c.four.ensures c.in_ok-next.was) after_four_semicolon_on refl c.requires.1 (sym c.word-then-is_four.ensures ∙ c.if-word-ne-SEMI_COLON.false) c.take.ensures c.ended-then-is_four.ensures, beyond_with _ c.four.ensures c.in_ok-next.was (sym c.word-then-is_four.ensures ∙ c.if-word-ne-SEMI_COLON.false) c.take.ensures c.ended-then-is_four.ensures)

pub stmt-returns-then-not-can_begin_expr : goal.stmt-returns-then-not-can_begin_expr
stmt-returns-then-not-can_begin_expr t c = (no_statement _ _ _ _ (λ e. c.if-word-eq-IMPORT.false (c.word.ensures ∙ e)) (λ e. c.if-word-eq-LET.false (c.word-2.ensures ∙ e)) (λ m. subst T (sym ((c.can_begin_expr.ensures ∙ ap (λ w. one_of w expr_firsts) c.word-4.ensures)) ∙ c.if-not-can_begin_expr.true) m) c.unusable.ensures c.ended-then-not-can_begin_expr.ensures, beyond_ended _ c.args.here _ (subst (Beyond c.args.s.now c.args.here) (sym c.unusable.ensures) tt) c.ended-then-not-can_begin_expr.ensures)

pub stmt-expr-requires : goal.stmt-expr-requires
stmt-expr-requires t c = (omega (arith, c.decreases), c.requires.0)

pub stmt-returns-in_err-next-2 : goal.stmt-returns-in_err-next-2
stmt-returns-in_err-next-2 t c = let v = ended_on c.in_err-next-2.was (handed c.from_residual-in_err-next-2.ensures.1) in (statement_refused _ _ _ _ (subst T (sym c.if-not-can_begin_expr.false ∙ (c.can_begin_expr.ensures ∙ ap (λ w. one_of w expr_firsts) c.word-4.ensures)) tt) (λ m. subst T (sym ((c.is_four.ensures ∙ ap (λ w. one_of w four_words) c.word-3.ensures)) ∙ c.if-is_four.false) m) c.expr.ensures c.in_err-next-2.was v, beyond_ended _ c.args.here _ (beyond _ c.expr.ensures) v)

pub stmt-returns-then-word-ne-SEMI_COLON-2 : goal.stmt-returns-then-word-ne-SEMI_COLON-2
stmt-returns-then-word-ne-SEMI_COLON-2 t c = (ends_last _ _ _ _ (behind_expr _ _ _ _ (subst T (sym c.if-not-can_begin_expr.false ∙ (c.can_begin_expr.ensures ∙ ap (λ w. one_of w expr_firsts) c.word-4.ensures)) tt) (λ m. subst T (sym ((c.is_four.ensures ∙ ap (λ w. one_of w four_words) c.word-3.ensures)) ∙ c.if-is_four.false) m) c.expr.ensures c.in_ok-next-2.was) (λ e. c.if-word-ne-SEMI_COLON-2.true (c.word-5.ensures ∙ e)) refl, beyond_without _ c.expr.ensures c.in_ok-next-2.was)

pub stmt-returns : goal.stmt-returns
stmt-returns t c = (ends_with _ _ _ _ AFTER_EXPR (behind_expr _ _ _ _ (subst T (sym c.if-not-can_begin_expr.false ∙ (c.can_begin_expr.ensures ∙ ap (λ w. one_of w expr_firsts) c.word-4.ensures)) tt) (λ m. subst T (sym ((c.is_four.ensures ∙ ap (λ w. one_of w four_words) c.word-3.ensures)) ∙ c.if-is_four.false) m) c.expr.ensures c.in_ok-next-2.was) after_expr_on refl c.requires.1 (sym c.word-5.ensures ∙ c.if-word-ne-SEMI_COLON-2.false) c.take-2.ensures c.ended-2.ensures, beyond_with _ c.expr.ensures c.in_ok-next-2.was (sym c.word-5.ensures ∙ c.if-word-ne-SEMI_COLON-2.false) c.take-2.ensures c.ended-2.ensures)

pub stmts-loop-limits-init : goal.stmts-loop-limits-init
stmts-loop-limits-init t c = round_first c.requires.0

pub stmts-stmt-requires : goal.stmts-stmt-requires
stmts-stmt-requires t c = (omega (arith, c.loop-limits.invariant.next, c.decreases), (c.loop-limits.invariant.stands, c.requires.1))

pub stmts-overflow_add-children : goal.stmts-overflow_add-children
stmts-overflow_add-children t c = omega (arith, round_few c.loop-limits.invariant)

pub stmts-loop-limits-smaller-in-Ended : goal.stmts-loop-limits-smaller-in-Ended
stmts-loop-limits-smaller-in-Ended t c = ended_less _ c.loop-limits.here c.stmt.ensures.1 (c.in_ok-read.was ∙ ap Ok c.in-Ended.is)

pub stmts-loop-limits-preserved-in-Ended : goal.stmts-loop-limits-preserved-in-Ended
stmts-loop-limits-preserved-in-Ended t c = round_ended c.loop-limits.invariant (subst T (sym c.loop-limits-test.true ∙ (c.can_begin_statement.ensures ∙ ap (λ w. one_of w statement_firsts) c.word.ensures)) tt) c.stmt.ensures.0 c.stmt.ensures.1 c.stmt.auto.table (c.in_ok-read.was ∙ ap Ok c.in-Ended.is)

pub stmts-loop-limits-smaller : goal.stmts-loop-limits-smaller
stmts-loop-limits-smaller t c = four_less _ c.loop-limits.here c.stmt.ensures.1 (c.in_ok-read.was ∙ ap Ok c.in-Four.is)

pub stmts-loop-limits-preserved : goal.stmts-loop-limits-preserved
stmts-loop-limits-preserved t c = round_four c.loop-limits.invariant (subst T (sym c.loop-limits-test.true ∙ (c.can_begin_statement.ensures ∙ ap (λ w. one_of w statement_firsts) c.word.ensures)) tt) c.stmt.ensures.0 c.stmt.ensures.1 c.stmt.auto.table (c.in_ok-read.was ∙ ap Ok c.in-Four.is)

pub stmts-returns-in-Last : goal.stmts-returns-in-Last
stmts-returns-in-Last t c = stmts_last _ _ c.loop-limits.invariant.goes (subst T (sym c.loop-limits-test.true ∙ (c.can_begin_statement.ensures ∙ ap (λ w. one_of w statement_firsts) c.word.ensures)) tt) c.stmt.ensures.0 (c.in_ok-read.was ∙ ap Ok c.in-Last.is) refl c.braced.ensures

pub stmts-returns-in_err-read : goal.stmts-returns-in_err-read
stmts-returns-in_err-read t c = stmts_fails _ _ c.loop-limits.invariant.goes (subst T (sym c.loop-limits-test.true ∙ (c.can_begin_statement.ensures ∙ ap (λ w. one_of w statement_firsts) c.word.ensures)) tt) c.stmt.ensures.0 c.in_err-read.was (handed c.from_residual.ensures.1)

pub stmts-returns : goal.stmts-returns
stmts-returns t c = stmts_end _ _ c.loop-limits.invariant.goes (λ m. subst T (sym ((c.can_begin_statement.ensures ∙ ap (λ w. one_of w statement_firsts) c.word.ensures)) ∙ c.loop-limits-test.false) m) (refl) c.braced-2.ensures
