use mathlib.Core.Path.{ap, ◌∙◌}
use borrow.Author.Tests.{eq-eqb, ne_eqb}
use Rattle.tokens.specs.Rules.{quote_at}
use Rattle.tokens.proofs.Fits.{first, second}
use Rattle.tokens.proofs.text.Goals as goal
use Rattle.tokens.proofs.text.Goals.{then-quote-eq-STRING_QUOTE, else-quote-eq-STRING_QUOTE}

pub returns : goal.returns
returns c =
    let a = c.args in
    c.quoted.ensures ∙ ap (λ w. quote_at a.quote w a.s.now a.at) (elim c.if-quote-eq-STRING_QUOTE.branch [ then-quote-eq-STRING_QUOTE w ↦ first _ (eq-eqb _ _ w.if-quote-eq-STRING_QUOTE.true) w.word-is | else-quote-eq-STRING_QUOTE w ↦ second _ (ne_eqb _ _ w.if-quote-eq-STRING_QUOTE.false) w.word-is ])
