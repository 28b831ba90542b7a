use Rattle.chars.proofs.Told.{told}
use Rattle.tokens.specs.Tokens.{step_numbers}
use Rattle.tokens.proofs.Steps.{step_inside, step_end}
use Rattle.tokens.proofs.Cursor.step.Goals as goal

pub returns-then-at-s : goal.returns-then-at-s
returns-then-at-s c = told step_numbers (step_inside _ _ c.skip_whitespace-at.ensures c.if-at-s.true c.next_token.ensures)

pub returns-else-at-s : goal.returns-else-at-s
returns-else-at-s c = told step_numbers (step_end _ _ c.skip_whitespace-at.ensures c.if-at-s.false c.refuse.ensures)
