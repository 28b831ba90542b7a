use Rattle.literals.proofs.row.Goals as goal
-- `literals::row` meets its contract.
use mathlib.Core.Logic.{inl, inr}
use Rattle.numbers.proofs.Choices.{so}
use Rattle.literals.proofs.Choices.{at_front, no_token, starts_later, ends_else, whole_text}

pub returns-in_default : goal.returns-in_default
returns-in_default c = no_token c.args.t.now (so (at_front c.args.t.now c.new.ensures c.step.ensures.0) c.in_default.is)

pub returns-then-next-t : goal.returns-then-next-t
returns-then-next-t c = whole_text c.args.t.now (so (at_front c.args.t.now c.new.ensures c.step.ensures.0) c.in-Ok.is) c.if-start-eq0.true c.if-next-t.true c.code_of.ensures c.literal_at.ensures.0

pub returns : goal.returns
returns c =
    let step = so (at_front c.args.t.now c.new.ensures c.step.ensures.0) c.in-Ok.is in
    elim c.else-start-eq0.either [ inl h ↦ ends_else c.args.t.now step h.1 | inr h ↦ starts_later c.args.t.now step h ]
