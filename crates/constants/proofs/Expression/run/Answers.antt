use Rattle.std.proofs.Common.{ap, refl, ◌∙◌, length, Err}
use Rattle.constants.proofs.Ran.{zeroed_length, too_many, ran_to_lem, wrote}
use Rattle.constants.specs.Steps.{ran_to, WroteAt}
use Rattle.constants.proofs.Expression.run.Goals as goal

pub returns-then-list-self : goal.returns-then-list-self
unfolding WroteAt
returns-then-list-self c = (too_many c.args.self.now.source.now c.args.self.now.table.now c.args.self.now.first c.args.self.now.count c.args.self.now.ty c.args.list.now c.if-list-self.true, refl, tt)

pub returns-in-Ok : goal.returns-in-Ok
unfolding ran_to
returns-in-Ok c =
    let l = c.args.list.now in (
      ran_to_lem c.args.self.now.source.now c.args.self.now.table.now c.args.self.now.first c.args.self.now.count c.args.self.now.ty l c.if-list-self.false c.requires _ c.translate.ensures.0 c.translate.ensures.1 _ c.run.ensures c.in-Ok.is,
      ap length c.clear.ensures ∙ zeroed_length _ _ ∙ c.translate.ensures.0,
      (wrote c.args.self.now.source.now c.args.self.now.table.now c.args.self.now.first c.args.self.now.count c.args.self.now.ty l c.if-list-self.false c.requires _ c.translate.ensures.0 c.translate.ensures.1 _ c.run.ensures _ c.clear.ensures).1,
    )

pub returns-in-Err-ZeroDivisor : goal.returns-in-Err-ZeroDivisor
unfolding ran_to WroteAt
returns-in-Err-ZeroDivisor c = (
  ap Err c.refused.ensures ∙ ran_to_lem c.args.self.now.source.now c.args.self.now.table.now c.args.self.now.first c.args.self.now.count c.args.self.now.ty c.args.list.now c.if-list-self.false c.requires _ c.translate.ensures.0 c.translate.ensures.1 _ c.run.ensures (c.in-Err-ZeroDivisor.is ∙ ap Err c.in-Err-ZeroDivisor.field-0-is),
  c.translate.ensures.0,
  tt,
)

pub returns-in-Err-Broken : goal.returns-in-Err-Broken
unfolding ran_to WroteAt
returns-in-Err-Broken c = (
  ap Err c.refused-in-Err-Broken.ensures ∙ ran_to_lem c.args.self.now.source.now c.args.self.now.table.now c.args.self.now.first c.args.self.now.count c.args.self.now.ty c.args.list.now c.if-list-self.false c.requires _ c.translate.ensures.0 c.translate.ensures.1 _ c.run.ensures (c.in-Err-Broken.is ∙ ap Err c.in-Err-Broken.field-0-is),
  c.translate.ensures.0,
  tt,
)
