use Rattle.std.proofs.Common.{◌≡◌, ◌+◌, refl, arith, drop}
use Prim.Native.Nat.{suc}
use borrow.Author.Tests.{eq-eqb, ne_eqb}
use native.Mathlib.Nat.{zero-add}
use Rattle.numbers.proofs.Choices.{and, not_left, not_right}
use Rattle.addresses.specs.Addresses.{gap}
use Rattle.addresses.proofs.Sides.{gap_end, gap_here, gap_more}
use Rattle.addresses.proofs.gap_at.Goals.{else-byte_at-eq-COLON-via-then-byte_at-eq-COLON+else-byte_at-eq-COLON-2, else-byte_at-eq-COLON-via-else-byte_at-eq-COLON}
use Rattle.addresses.proofs.gap_at.Goals as goal

pub loop-i-init : goal.loop-i-init
loop-i-init c = zero-add _

pub returns-then-byte_at-eq-COLON-2 : goal.returns-then-byte_at-eq-COLON-2
returns-then-byte_at-eq-COLON-2 c =
    let here = gap_here c.args.t.now c.loop-i.i c.loop-i-test.true c.byte_at.ensures c.byte_at-then-byte_at-eq-COLON.ensures (and (eq-eqb _ _ c.if-byte_at-eq-COLON.true) (eq-eqb _ _ c.if-byte_at-eq-COLON-2.true)) in
    omega arith

pub loop-i-preserved : goal.loop-i-preserved
loop-i-preserved c =
    let more : suc (gap (drop (c.loop-i.i + 1) c.args.t.now)) ≡ gap (drop c.loop-i.i c.args.t.now) = elim c.else-byte_at-eq-COLON.branch [
      | else-byte_at-eq-COLON-via-then-byte_at-eq-COLON+else-byte_at-eq-COLON-2 w ↦ gap_more c.args.t.now c.loop-i.i c.loop-i-test.true c.byte_at.ensures w.byte_at-then-byte_at-eq-COLON.ensures (not_right _ (ne_eqb _ _ w.if-byte_at-eq-COLON-2.false))
      | else-byte_at-eq-COLON-via-else-byte_at-eq-COLON w ↦ gap_more c.args.t.now c.loop-i.i c.loop-i-test.true c.byte_at.ensures refl (not_left _ (ne_eqb _ _ w.if-byte_at-eq-COLON.false))
    ] in
    omega arith

pub returns : goal.returns
returns c = omega (arith, gap_end c.args.t.now c.loop-i.i c.loop-i-test.false)
