use Rattle.literals.proofs.width.Goals as goal
-- `literals::width` meets its contract.
use borrow.Author.Tests.{eq-eqb, ne_eqb}
use Rattle.literals.specs.Answers.{width_of}

pub returns-then-detail-eq-F32 : goal.returns-then-detail-eq-F32
unfolding width_of
returns-then-detail-eq-F32 c = rw (eq-eqb _ 9 c.if-detail-eq-F32.true)

pub returns-else-detail-eq-F32 : goal.returns-else-detail-eq-F32
unfolding width_of
returns-else-detail-eq-F32 c = rw (ne_eqb _ 9 c.if-detail-eq-F32.false)
