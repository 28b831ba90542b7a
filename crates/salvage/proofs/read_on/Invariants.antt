use mathlib.Core.Path.{sym, ap, ◌∙◌}
use mathlib.Core.Bool.{false}
use Prim.Native.Nat.{ℕ, ◌-◌}
use native.Mathlib.Omega.{arith}
use Rattle.grammar.specs.Grammar.{one_of}
use Rattle.parser.specs.declared.Here.{Here}
use Rattle.parser.specs.Places.{next_of}
use Rattle.promises.specs.Firsts.{firsts_by}
use Rattle.promises.proofs.Tests.{true_so, false_so}
use Rattle.salvage.proofs.Onward.{Onward, goes_on, counts_few, at_broken, reaches_end, reaches_other, reaches_broken, goes_again, later_on, sum_few}
use borrow.Author.Rules.{rules}
use Rattle.salvage.proofs.read_on.Given as goal

abbrev pub invariant-loop-table : goal.invariant-loop-table
invariant-loop-table l = Onward l.s l.at l.initial.table l.here l.table l.rows l.children

abbrev pub decreases-loop-table : goal.decreases-loop-table
decreases-loop-table l = 70000 - next_of l.here
