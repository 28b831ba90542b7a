use Prim.Native.Nat.{◌-◌, ℕ, ◌+◌, ◌*◌, ◌<◌}
use Rattle.grammar.specs.Grammar.{one_of}
use Rattle.grammar.specs.Kinds.{F_STRING, AFTER_EXPR, AFTER_FOUR}
use Rattle.grammar.specs.Limits.{zeros}
use Rattle.grammar.specs.Rows.{detail_for}
use Rattle.grammar.specs.Words.{assign_signs, four_words, literals, path_items, names, open_brace, return_words}
use Rattle.parser.proofs.Going.{few_rows, last}
use Rattle.parser.proofs.Laws.{took_here, word_taken, start_refused, start_taken, stepped_here, under_on, under_out}
use Rattle.parser.proofs.Standing.{is_word, past_word, next_small, f_quote_untaken, start_small, never_untaken}
use Rattle.parser.proofs.Steps.{never_refused, took_done, under_done}
use Rattle.parser.specs.Counted.{counts}
use Rattle.parser.specs.Going.{Stands}
use Rattle.parser.specs.Places.{next_of, word_of, start_of, token_node}
use Rattle.parser.specs.declared.Here.{Here}
use Rattle.parser.specs.declared.Limits.{Limits}
use Rattle.parser.specs.declared.Node.{Node}
use Rattle.promises.proofs.Alternatives.{expr_off, operand_four_on, operand_literal_on, operand_parens_on, operand_string_on, four_for_on, four_if_on, four_match_on, four_off, four_while_on, after_expr_on, after_four_semicolon_on, statement_import_on, statement_let_on}
use Rattle.promises.proofs.Answered.{kept_either, further, not_both, none_fits, read_as, rows_small}
use Rattle.promises.proofs.Arms.{arm_arrow, arm_arrow_fails, arm_ends, arm_fails, arm_guard_fails, arm_guarded, arm_pattern_fails, body_block, body_expr, body_fails, guard_ends, guard_fails, guard_none, Gone, arm_further, armed, arms_end, arms_fail, arms_last, gone_few, gone_on, gone_start}
use Rattle.promises.proofs.Blocks.{block_inside, block_read, block_refused, beyond, beyond_both, beyond_of, let_expr, let_name, let_nameless, let_read, let_signless, let_type, let_types, let_unended, let_untyped, let_valueless, behind_expr, behind_four, beyond_ended, beyond_with, beyond_without, ends_four, ends_last, ends_with, four_refused, no_statement, whole_statement, Round, ended_less, four_less, round_ended, round_few, round_first, round_four, stmts_end, stmts_fails, stmts_last}
use Rattle.promises.proofs.Chains.{Links, links_begin, links_behind, links_else, links_end, links_fails, links_long, links_on}
use Rattle.promises.proofs.Exprs.{expr_assigned, expr_behind, expr_eight, expr_fails, expr_plain, expr_refused, operand_first, is_return, no_return, no_sign, tightest, goes_on, negate_deep, negate_ends, negate_fails, operand_goes, sign_of}
use Rattle.promises.proofs.Heads.{test_block, test_fails, else_block_fails, else_ends, else_fails, four_deep, four_past, head_answers, head_ends, head_fails, head_on, last_four, name_in_fails, name_in_on, name_in_past, heads, match_ends, match_expr_fails, match_fails, opening_past}
use Rattle.promises.proofs.Leaves.{detailed, row_is, plain_from, start_is}
use Rattle.promises.proofs.Levels.{Chained, behind_level, chained_again, chained_begins, level_below, level_ends, level_from, levels_alone, levels_behind, levels_end, levels_fails, levels_few, levels_less, levels_now, levels_refused, levels_untaken}
use Rattle.promises.proofs.Lists.{Loops, exprs_list, list_opened, list_unopened, loop_begins, loop_closes, loop_ends, loop_more, loop_refused, fields_list}
use Rattle.promises.proofs.Operands.{Accesses, access_ends, access_on, operand_stands, closed_onward, loop_few, opening_stands, place_near, refused_onward, atom_block, atom_braces, atom_read, atom_unused, braces_fields, braces_named, braces_shut, braces_stated, field_nameless, field_read, field_signless, field_stands, field_stops, parens_open, parens_read, parens_shut, parens_stops, path_alone, path_stops, record_read, record_shut, where_records, call_stops, called, last_sign, questioned, fields_last, fields_over, fields_stop}
use Rattle.promises.proofs.Partly.{partly_of, stops_answer}
use Rattle.promises.proofs.Returns.{Returns, return_elsewhere, return_small, return_there, returns_bare, returns_begin, returns_behind, returns_deep, returns_fails, returns_on, returns_valued}
use Rattle.promises.proofs.Spelled.{Spelling, behind_piece, hole_again, hole_fails, hole_further, hole_inside, hole_shut, hole_unclosed, spelling_begins, string_ends, string_few, string_torn}
use Rattle.promises.proofs.Tests.{false_so, true_so}
use Rattle.promises.specs.Firsts.{postfix_signs, expr_firsts, arm_end, level_of, sign_words, sign_kind, few, ends_return, statement_firsts}
use Rattle.promises.specs.Promises.{the, Beyond}
use borrow.Author.Rules.{rules}
use borrow.Author.Tests.{not-false, not-true}
use lib.Dec.{T}
use lib.ListN.{length}
use mathlib.Core.List.{[], ◌∷◌}
use mathlib.Core.Logic.{inr, ◌≢◌, inl}
use mathlib.Core.Path.{◌≡◌, ◌∙◌, ap, refl, sym, subst}
use native.Mathlib.Omega.{arith}
use Rattle.reader.proofs.+exprs.Given as goal

abbrev pub invariant-access-loop-at : goal.invariant-access-loop-at
invariant-access-loop-at l = Accesses l.s l.limits l.at.rows l.initial.left l.initial.here l.initial.table l.left l.here l.table × (length l.table ≡ length l.initial.table)

abbrev pub decreases-access-loop-at : goal.decreases-access-loop-at
decreases-access-loop-at l = 70000 - next_of l.here

abbrev pub invariant-arguments-loop-inner : goal.invariant-arguments-loop-inner
invariant-arguments-loop-inner l = Loops exprs_list l.s l.inner l.initial.here l.initial.table l.initial.children l.here l.table l.children

abbrev pub decreases-arguments-loop-inner : goal.decreases-arguments-loop-inner
decreases-arguments-loop-inner l = 70000 - next_of l.here

abbrev pub invariant-binop_expr-loop-tight : goal.invariant-binop_expr-loop-tight
invariant-binop_expr-loop-tight l = Chained l.s l.records l.after l.up l.at.rows l.initial.left l.initial.here l.initial.table l.tight l.left l.here l.table

abbrev pub decreases-binop_expr-loop-tight : goal.decreases-binop_expr-loop-tight
decreases-binop_expr-loop-tight l = 70000 - next_of l.here

abbrev pub invariant-f_string-loop-text : goal.invariant-f_string-loop-text
invariant-f_string-loop-text l = Spelling (the l.s (counts l.limits) F_STRING l.initial.here l.initial.table) l.limits (start_of l.initial.here) l.children l.here l.table

abbrev pub decreases-f_string-loop-text : goal.decreases-f_string-loop-text
decreases-f_string-loop-text l = 70000 - next_of l.here

abbrev pub invariant-if_else-loop-body : goal.invariant-if_else-loop-body
invariant-if_else-loop-body l = Links l.s l.initial.inner l.initial.here l.initial.table l.initial.begin l.inner l.here l.table l.begin l.since l.starts l.sinces l.none l.count

abbrev pub decreases-if_else-loop-body : goal.decreases-if_else-loop-body
decreases-if_else-loop-body l = 70000 - next_of l.here

abbrev pub invariant-match_expr-loop-inner : goal.invariant-match_expr-loop-inner
invariant-match_expr-loop-inner l = Gone l.s l.inner l.initial.children l.initial.here l.initial.table l.children l.here l.table

abbrev pub decreases-match_expr-loop-inner : goal.decreases-match_expr-loop-inner
decreases-match_expr-loop-inner l = length l.s + 1 - next_of l.here

abbrev pub decreases-access : goal.decreases-access
decreases-access l = (70000 - next_of l.at) * 64 + 15

abbrev pub decreases-arguments : goal.decreases-arguments
decreases-arguments l = (70000 - next_of l.at) * 64 + 8

abbrev pub decreases-arm : goal.decreases-arm
decreases-arm l = (70000 - next_of l.here) * 64 + 39

abbrev pub decreases-assign_expr : goal.decreases-assign_expr
decreases-assign_expr l = (70000 - next_of l.here) * 64 + 29

abbrev pub decreases-atom : goal.decreases-atom
decreases-atom l = (70000 - next_of l.here) * 64 + 14

abbrev pub decreases-binop_expr : goal.decreases-binop_expr
decreases-binop_expr l = (70000 - next_of l.at) * 64 + (28 - 2 * l.up)

abbrev pub decreases-block : goal.decreases-block
decreases-block l = (70000 - next_of l.here) * 64 + 13

abbrev pub decreases-body : goal.decreases-body
decreases-body l = (70000 - next_of l.here) * 64 + 38

abbrev pub decreases-braces : goal.decreases-braces
decreases-braces l = (70000 - next_of l.here) * 64 + 13

abbrev pub decreases-cond : goal.decreases-cond
decreases-cond l = (70000 - next_of l.at) * 64 + 31

abbrev pub decreases-elses : goal.decreases-elses
decreases-elses l = (70000 - next_of l.here) * 64 + 36

abbrev pub decreases-expr : goal.decreases-expr
decreases-expr l = (70000 - next_of l.here) * 64 + 30

abbrev pub decreases-f_string : goal.decreases-f_string
decreases-f_string l = (70000 - next_of l.at) * 64 + 13

abbrev pub decreases-factor : goal.decreases-factor
decreases-factor l = (70000 - next_of l.here) * 64 + (27 - 2 * l.level)

abbrev pub decreases-field : goal.decreases-field
decreases-field l = (70000 - next_of l.here) * 64 + 32

abbrev pub decreases-four : goal.decreases-four
decreases-four l = (70000 - next_of l.here) * 64 + 13

abbrev pub decreases-guard : goal.decreases-guard
decreases-guard l = (70000 - next_of l.here) * 64 + 38

abbrev pub decreases-if_else : goal.decreases-if_else
decreases-if_else l = (70000 - next_of l.at) * 64 + 35

abbrev pub decreases-let_stmt : goal.decreases-let_stmt
decreases-let_stmt l = (70000 - next_of l.here) * 64 + 33

abbrev pub decreases-match_expr : goal.decreases-match_expr
decreases-match_expr l = (70000 - next_of l.at) * 64 + 32

abbrev pub decreases-operand : goal.decreases-operand
decreases-operand l = (70000 - next_of l.at) * 64 + 16

abbrev pub decreases-parens : goal.decreases-parens
decreases-parens l = (70000 - next_of l.here) * 64 + 13

abbrev pub decreases-path_expr : goal.decreases-path_expr
decreases-path_expr l = (70000 - next_of l.here) * 64 + 13

abbrev pub decreases-postfix : goal.decreases-postfix
decreases-postfix l = (70000 - next_of l.here) * 64 + 10

abbrev pub decreases-record : goal.decreases-record
decreases-record l = (70000 - next_of l.at) * 64 + 40

abbrev pub decreases-return_expr : goal.decreases-return_expr
decreases-return_expr l = (70000 - next_of l.at) * 64 + 29

abbrev pub decreases-stmt : goal.decreases-stmt
decreases-stmt l = (70000 - next_of l.here) * 64 + 38

abbrev pub decreases-stmts : goal.decreases-stmts
decreases-stmts l = (70000 - next_of l.at) * 64 + 40

abbrev pub invariant-record-loop-limits : goal.invariant-record-loop-limits
invariant-record-loop-limits l = Loops fields_list l.s l.limits l.initial.here l.initial.table l.initial.children l.here l.table l.children

abbrev pub decreases-record-loop-limits : goal.decreases-record-loop-limits
decreases-record-loop-limits l = 70000 - next_of l.here

abbrev pub invariant-return_expr-loop-word : goal.invariant-return_expr-loop-word
invariant-return_expr-loop-word l = Returns l.s l.records l.initial.inner l.initial.here l.initial.table l.starts l.sinces l.details l.count l.inner l.here l.table

abbrev pub decreases-return_expr-loop-word : goal.decreases-return_expr-loop-word
decreases-return_expr-loop-word l = 70000 - next_of l.here

abbrev pub invariant-stmts-loop-limits : goal.invariant-stmts-loop-limits
invariant-stmts-loop-limits l = Round l.s l.limits l.initial.children l.initial.last l.initial.here l.initial.table l.children l.last l.here l.table

abbrev pub decreases-stmts-loop-limits : goal.decreases-stmts-loop-limits
decreases-stmts-loop-limits l = length l.s + 1 - next_of l.here
