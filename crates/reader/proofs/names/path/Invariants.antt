use mathlib.Core.List.{[], ◌∷◌}
use Rattle.grammar.specs.Words.{dot}
use Prim.Native.Nat.{◌+◌, ◌-◌}
use lib.ListN.{length}
use native.Mathlib.Omega.{arith}
use Rattle.grammar.specs.Limits.{zeros}
use Rattle.parser.proofs.Standing.{past_word, is_word}
use Rattle.parser.proofs.Going.{few_rows}
use Rattle.promises.proofs.Answered.{kept_either}
use Rattle.promises.proofs.Leaves.{row_is}
use Rattle.promises.proofs.Paths.{Goes, path_begins, path_refused, path_fails, path_more, path_onward, path_ends, undotted_refused, undotted_done}
use borrow.Author.Rules.{rules}
use Rattle.parser.specs.Places.{next_of}
use mathlib.Core.Path.{sym, ◌∙◌}
use Rattle.parser.proofs.Steps.{never_refused, took_done}
use Rattle.reader.proofs.names.path.Given as goal

abbrev pub invariant-loop-here : goal.invariant-loop-here
invariant-loop-here l = Goes l.s l.first.start l.initial.end l.initial.children l.initial.here l.initial.table l.end l.children l.here l.table

abbrev pub decreases-loop-here : goal.decreases-loop-here
decreases-loop-here l = length l.s + 1 - next_of l.here
