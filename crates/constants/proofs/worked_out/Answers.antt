use Rattle.std.proofs.Common.{arith, ap, refl, ◌∙◌, Err}
use Rattle.grammar.specs.Rows.{Row}
use Rattle.constants.specs.Steps.{WroteAt}
use Rattle.constants.proofs.Ran.{too_large, other_type, faulty, faultless, same_row}
use Rattle.constants.proofs.worked_out.Goals as goal

pub returns-then-n-gt-MOST : goal.returns-then-n-gt-MOST
unfolding WroteAt
returns-then-n-gt-MOST c = (ap Err c.refused.ensures ∙ too_large _ _ _ _ _ c.read-top.ensures c.if-n-gt-MOST.true, refl, tt)

pub returns-in_default : goal.returns-in_default
unfolding WroteAt
returns-in_default c =
    (ap Err c.refused-in_default.ensures ∙ other_type _ _ _ _ _ c.read-top.ensures c.if-n-gt-MOST.false _ c.read-ty.ensures _ c.declared.ensures c.in_default.is, refl, tt)

pub returns-in-Some-check : goal.returns-in-Some-check
unfolding WroteAt
returns-in-Some-check c =
    (faulty _ _ _ _ _ c.read-top.ensures c.if-n-gt-MOST.false _ c.read-ty.ensures _ c.declared.ensures _ c.in-Some.is _ c.check.ensures c.in-Some-check.is, refl, tt)

pub returns-in-None : goal.returns-in-None
returns-in-None c = (
  faultless _ _ _ _ _ c.read-top.ensures c.if-n-gt-MOST.false _ c.read-ty.ensures _ c.declared.ensures _ c.in-Some.is _ c.check.ensures c.in-None.is c.run.ensures.0,
  c.run.ensures.1,
  same_row _ _ c.args.row c.read-top.result.size _ _ (let k = ap (λ (r : Row). r.size) c.read-top.ensures in omega (arith, k, c.requires.1)) c.run.ensures.2,
)
