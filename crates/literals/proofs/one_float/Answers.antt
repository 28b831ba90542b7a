use Rattle.literals.proofs.one_float.Goals as goal
-- `literals::one_float` meets its contract.
use mathlib.Core.Path.{◌∙◌}
use native.Mathlib.Omega.{arith}
use Rattle.literals.proofs.Choices.{too_long, no_row, another, a_float}

pub returns-then-t-gt-MOST_BYTES : goal.returns-then-t-gt-MOST_BYTES
returns-then-t-gt-MOST_BYTES c = too_long c.args.t.now c.if-t-gt-MOST_BYTES.true

pub returns-in_err-kind : goal.returns-in_err-kind
returns-in_err-kind c = c.from_residual.ensures ∙ no_row c.args.t.now (omega (arith, c.if-t-gt-MOST_BYTES.false)) c.row.ensures c.in_err-kind.was

pub returns-then-kind-eq-FLOAT : goal.returns-then-kind-eq-FLOAT
returns-then-kind-eq-FLOAT c = a_float c.args.t.now (omega (arith, c.if-t-gt-MOST_BYTES.false)) c.row.ensures c.in_ok-kind.was c.if-kind-eq-FLOAT.true c.width.ensures

pub returns : goal.returns
returns c = another c.args.t.now (omega (arith, c.if-t-gt-MOST_BYTES.false)) c.row.ensures c.in_ok-kind.was c.if-kind-eq-FLOAT.false
