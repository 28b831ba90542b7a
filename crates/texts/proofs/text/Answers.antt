use Rattle.std.proofs.Common.{◌∙◌}
use borrow.Author.Rules.{rules}
use Prim.Native.Nat.{◌-◌}
use native.Mathlib.Omega.{arith}
use lib.ListN.{length}
use Rattle.texts.proofs.Halved.{Counts, counts_start, counts_none, counts_wide, counts_in, counts_more, counts_end}
use Rattle.texts.proofs.text.Goals as goal

pub loop-i-init : goal.loop-i-init
loop-i-init c = counts_start _

pub slice_bounds-piece_of-count : goal.slice_bounds-piece_of-count
slice_bounds-piece_of-count c = omega arith

pub slice_bounds-piece_of-start : goal.slice_bounds-piece_of-start
slice_bounds-piece_of-start c = omega arith

pub returns-in_err-code : goal.returns-in_err-code
returns-in_err-code c = c.from_residual.ensures ∙ counts_none c.loop-i.invariant c.loop-i-test.true c.piece_of.ensures c.in_err-code.was

pub with_code-h-requires : goal.with_code-h-requires
with_code-h-requires c = let a = counts_wide c.loop-i.invariant c.loop-i-test.true c.piece_of.ensures c.in_ok-code.was in let b = counts_in c.loop-i.invariant c.loop-i-test.true c.piece_of.ensures c.in_ok-code.was in omega (arith, a, b.0)

pub overflow_add-i : goal.overflow_add-i
overflow_add-i c = let b = counts_in c.loop-i.invariant c.loop-i-test.true c.piece_of.ensures c.in_ok-code.was in omega (arith, b.0)

pub loop-i-smaller : goal.loop-i-smaller
loop-i-smaller c = let b = counts_in c.loop-i.invariant c.loop-i-test.true c.piece_of.ensures c.in_ok-code.was in omega (arith, b.0, b.1)

pub loop-i-preserved : goal.loop-i-preserved
loop-i-preserved c = counts_more c.loop-i.invariant c.loop-i-test.true c.piece_of.ensures c.in_ok-code.was c.with_code-h.ensures

pub returns : goal.returns
returns c = counts_end c.loop-i.invariant c.loop-i-test.false
