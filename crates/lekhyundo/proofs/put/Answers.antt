use Rattle.std.proofs.Common.{◌∙◌, sym, arith}
use Rattle.std.proofs.lemmas.List.{set_past}
use Rattle.lekhyundo.proofs.Runs.{stored}
use Rattle.lekhyundo.proofs.put.Goals.{then-i-out, else-i-out}
use Rattle.lekhyundo.proofs.put.Goals as goal

pub loop-i-preserved : goal.loop-i-preserved
loop-i-preserved c =
    stored c.loop-i.out c.if-i-out.out c.args.numbers.now _ c.loop-i.i c.loop-i-test.true
    (elim c.if-i-out.branch [ then-i-out w ↦ w.out-is | else-i-out w ↦ w.out-is ∙ sym (set_past _ _ _ (omega arith)) ])
    c.loop-i.invariant
