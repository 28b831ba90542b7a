use mathlib.Core.Path.{◌∙◌}
use Rattle.tokens.proofs.Fits.{hit, miss}
use Rattle.tokens.proofs.next_token.Goals as goal

pub returns-in-Some : goal.returns-in-Some
returns-in-Some c = hit _ _ c.in-Some.is c.bump.ensures ∙ c.fit_at.ensures

pub returns : goal.returns
returns c = miss _ c.in_default.is c.no_token.ensures ∙ c.fit_at.ensures
