use Prim.Native.Nat.{ℕ, ◌+◌, ◌-◌, ◌*◌, ◌<◌}
use Rattle.grammar.specs.Grammar.{one_of}
use Rattle.grammar.specs.Limits.{zeros}
use Rattle.grammar.specs.Words.{path_items, names}
use Rattle.parser.proofs.Going.{few_rows, kept_length}
use Rattle.parser.proofs.Standing.{is_word}
use Rattle.parser.proofs.Steps.{never_refused, took_done}
use Rattle.parser.specs.Counted.{counts}
use Rattle.parser.specs.Places.{next_of}
use Rattle.promises.proofs.Answered.{further, kept_either, falls_on, falls_same, not_both}
use Rattle.promises.proofs.Lists.{Loops, loop_begins, loop_more, loop_falls, loop_room, loop_refused, loop_ends, loop_closes, list_unopened, list_opened, opened_on, typed_names_list, types_list}
use Rattle.promises.proofs.Tests.{true_so, false_so}
use Rattle.promises.proofs.Types.{base_refused, base_read, base_alone, brackets_refused, brackets_read, brackets_ended, fields_refused, fields_read, no_type, Marks, type_begins, type_refused, type_marks, type_ends, mark_falls, name_refused, colon_missed, colon_read, typed_refused, typed_read, bracket_solid, closed_by, bracket_lexed, closing_lexed}
use Rattle.promises.specs.Firsts.{type_firsts}
use borrow.Author.Rules.{rules}
use lib.ListN.{length}
use mathlib.Core.List.{◌∷◌, []}
use mathlib.Core.Logic.{inr}
use mathlib.Core.Path.{sym, ◌∙◌, refl, ap}
use native.Mathlib.Omega.{arith}
use Rattle.reader.proofs.types.+types.Given as goal

abbrev pub decreases-path_type : goal.decreases-path_type
decreases-path_type l = (70000 - next_of l.here) * 64 + 8

abbrev pub decreases-record_type : goal.decreases-record_type
decreases-record_type l = (70000 - next_of l.here) * 64 + 8

abbrev pub decreases-type_base : goal.decreases-type_base
decreases-type_base l = (70000 - next_of l.here) * 64 + 9

abbrev pub decreases-type_expr : goal.decreases-type_expr
decreases-type_expr l = (70000 - next_of l.at) * 64 + 10

abbrev pub decreases-typed_name : goal.decreases-typed_name
decreases-typed_name l = (70000 - next_of l.here) * 64 + 11

abbrev pub decreases-typed_names : goal.decreases-typed_names
decreases-typed_names l = (70000 - next_of l.at) * 64 + 7

abbrev pub decreases-types : goal.decreases-types
decreases-types l = (70000 - next_of l.at) * 64 + 7

abbrev pub invariant-type_expr-loop-at : goal.invariant-type_expr-loop-at
invariant-type_expr-loop-at l = Marks l.s l.at.rows l.initial.found l.initial.here l.initial.table l.found l.here l.table

abbrev pub decreases-type_expr-loop-at : goal.decreases-type_expr-loop-at
decreases-type_expr-loop-at l = length l.s + 1 - next_of l.here

abbrev pub invariant-typed_names-loop-inner : goal.invariant-typed_names-loop-inner
invariant-typed_names-loop-inner l = Loops typed_names_list l.s l.inner l.initial.here l.initial.table l.initial.children l.here l.table l.children

abbrev pub decreases-typed_names-loop-inner : goal.decreases-typed_names-loop-inner
decreases-typed_names-loop-inner l = length l.s + 1 - next_of l.here

abbrev pub invariant-types-loop-inner : goal.invariant-types-loop-inner
invariant-types-loop-inner l = Loops types_list l.s l.inner l.initial.here l.initial.table l.initial.children l.here l.table l.children

abbrev pub decreases-types-loop-inner : goal.decreases-types-loop-inner
decreases-types-loop-inner l = length l.s + 1 - next_of l.here
