use mathlib.Core.Path.{refl, ◌∙◌}
use Rattle.std.proofs.Common.{rules}
use Rattle.tokens.specs.Rules.{hex_at, number_at, or_else}
use Rattle.tokens.proofs.Fits.{either}
use Rattle.tokens.proofs.figures.Goals as goal

pub returns : goal.returns
returns c = λ later.
    let s = c.args.s.now in
    let at = c.args.at in
    either (number_at s at) at refl c.or_else-2.ensures (λ h. search (rules, h)) later
    ∙ either (hex_at s at) at c.ipv4.ensures c.or_else.ensures (λ h. search (rules, h)) (or_else at (number_at s at) later)
