use Rattle.std.proofs.Common.{arith, ap, ◌∙◌}
use Rattle.grammar.specs.Rows.{Row}
use Rattle.constants.specs.Answers.{is_constant}
use Rattle.constants.proofs.Writing.{finding_here, finding_next, finding_past, finding_end}
use Rattle.constants.proofs.find.Goals.{then-is_constant+else-left-eq0, else-is_constant}
use Rattle.constants.proofs.find.Goals as goal

pub returns-then-left-eq0 : goal.returns-then-left-eq0
returns-then-left-eq0 c =
    finding_here c.args.table.now c.args.count c.args.number c.loop-i.left c.loop-i.i c.loop-i.invariant c.loop-i-test.true c.is_constant.result
    (c.is_constant.ensures ∙ ap (λ (r : Row). is_constant r.kind r.children) c.read.ensures) c.if-is_constant.true c.if-left-eq0.true

pub loop-i-preserved : goal.loop-i-preserved
loop-i-preserved c =
    let same = c.is_constant.ensures ∙ ap (λ (r : Row). is_constant r.kind r.children) c.read.ensures in
    elim c.if-is_constant.branch [
      | then-is_constant+else-left-eq0 w ↦
          rw w.left-is (finding_next c.args.table.now c.args.count c.args.number c.loop-i.left c.loop-i.i c.loop-i.invariant c.loop-i-test.true c.is_constant.result same w.if-is_constant.true w.if-left-eq0.false)
      | else-is_constant w ↦
          rw w.left-is (finding_past c.args.table.now c.args.count c.args.number c.loop-i.left c.loop-i.i c.loop-i.invariant c.loop-i-test.true c.is_constant.result same w.if-is_constant.false)
    ]

pub returns : goal.returns
returns c = finding_end c.args.table.now c.args.count c.args.number c.loop-i.left c.loop-i.i c.loop-i.invariant (omega arith)
