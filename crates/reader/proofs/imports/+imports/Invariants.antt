use Prim.Native.Nat.{ℕ, ◌-◌, ◌<◌}
use Rattle.grammar.specs.Grammar.{one_of}
use Rattle.grammar.specs.Limits.{zeros}
use Rattle.grammar.specs.Words.{path_items}
use Rattle.parser.proofs.Going.{few_rows}
use Rattle.parser.proofs.Standing.{is_word}
use Rattle.parser.proofs.Steps.{never_refused, took_done}
use Rattle.parser.specs.Places.{next_of}
use Rattle.promises.proofs.Answered.{kept_either, further}
use Rattle.promises.proofs.Blocks.{closed_by}
use Rattle.promises.proofs.Imports.{Counting, closed_kept, Gathers, counting_few, counting_more, grouped_of, group_inner, group_starts, group_opens, group_unopened, group_refused, group_more, group_ends, Goes, path_begins, path_refused, path_onward, path_grouped, path_neither, path_fails, path_more, path_ends}
use Rattle.promises.proofs.Tests.{true_so, false_so}
use borrow.Author.Rules.{rules}
use borrow.Author.Tests.{not-true, not-false}
use lib.ListN.{length}
use mathlib.Core.List.{◌∷◌, []}
use mathlib.Core.Path.{◌≡◌, refl, ◌∙◌, sym, ap}
use native.Mathlib.Omega.{arith}
use Rattle.reader.proofs.imports.+imports.Given as goal

abbrev pub invariant-import_group-loop-next : goal.invariant-import_group-loop-next
invariant-import_group-loop-next l = Counting l.s l.initial.here l.children l.here × (length l.table ≡ length l.initial.table) × Gathers l.s l.inner l.start l.initial.children l.initial.here l.initial.table l.children l.here l.table

abbrev pub decreases-import_group-loop-next : goal.decreases-import_group-loop-next
decreases-import_group-loop-next l = 70000 - next_of l.here

abbrev pub invariant-import_path-loop-limits : goal.invariant-import_path-loop-limits
invariant-import_path-loop-limits l = Goes l.s l.limits l.first.start l.initial.end l.initial.children l.initial.here l.initial.table l.end l.children l.here l.table

abbrev pub decreases-import_path-loop-limits : goal.decreases-import_path-loop-limits
decreases-import_path-loop-limits l = 70000 - next_of l.here

abbrev pub decreases-import_group : goal.decreases-import_group
decreases-import_group l = 70000 - next_of l.at

abbrev pub decreases-import_path : goal.decreases-import_path
decreases-import_path l = 70000 - next_of l.at
