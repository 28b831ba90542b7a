use borrow.Author.Rules.{rules}
use native.Mathlib.Omega.{arith}
use mathlib.Core.Path.{refl, ◌∙◌, sym, ap}
use lib.ListN.{length}
use Prim.Native.Nat.{◌+◌, ◌-◌}
use Rattle.promises.proofs.Tests.{true_so, false_so}
use Rattle.promises.proofs.Answered.{kept_either}
use Rattle.promises.proofs.Lists.{Loops, loop_begins, loop_more, loop_falls, loop_room, loop_refused, loop_ends, loop_closes, list_unopened, list_opened, opened_on, no_limits, names_list}
use Rattle.parser.specs.Counted.{counts, opened}
use Rattle.parser.specs.declared.Limits.{Limits}
use Rattle.parser.specs.Places.{next_of}
use mathlib.Core.List.{◌∷◌, []}
use Rattle.parser.proofs.Steps.{never_refused, took_done}
use Rattle.parser.proofs.Standing.{is_word}
use Rattle.grammar.specs.Grammar.{one_of}
use Rattle.grammar.specs.Words.{names}
use Rattle.reader.proofs.patterns.names.Given as goal

abbrev pub invariant-loop-table : goal.invariant-loop-table
invariant-loop-table l = (m : Limits) → Loops names_list l.s m l.initial.here l.initial.table l.initial.children l.here l.table l.children

abbrev pub decreases-loop-table : goal.decreases-loop-table
decreases-loop-table l = length l.s + 1 - next_of l.here
