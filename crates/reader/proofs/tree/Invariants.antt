use Rattle.parser.specs.Places.{here_at, next_of}
use Rattle.parser.specs.Counted.{counts}
use mathlib.Core.Bool.{true}
use Prim.Native.Nat.{◌-◌}
use native.Mathlib.Omega.{arith}
use Rattle.promises.proofs.Tests.{true_so, false_so}
use Rattle.promises.proofs.Answered.{further}
use Rattle.promises.proofs.Imports.{limited}
use Rattle.promises.proofs.Wholes.{Declares, finished_kept, finished_long, tree_begins, tree_few, tree_refused, tree_left, tree_read, tree_more}
use borrow.Author.Rules.{rules}
use mathlib.Core.Path.{sym, ap, ◌∙◌}
use Rattle.grammar.specs.Grammar.{one_of}
use Rattle.promises.specs.Firsts.{firsts_by}
use Rattle.reader.proofs.tree.Given as goal

abbrev pub invariant-loop-limits : goal.invariant-loop-limits
invariant-loop-limits l = Declares l.tests l.s l.initial.children l.initial.here l.initial.table l.children l.here l.table

abbrev pub decreases-loop-limits : goal.decreases-loop-limits
decreases-loop-limits l = 70000 - next_of l.here
