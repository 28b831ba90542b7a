use mathlib.Core.Path.{◌∙◌}
use native.Mathlib.Omega.{arith}
use Rattle.chars.proofs.Runs.{inside}
use Rattle.tokens.proofs.Rules.{quote_fits, quote_open, quote_none}
use Rattle.tokens.proofs.quoted.Goals as goal

pub overflow_add-at : goal.overflow_add-at
overflow_add-at c = omega (arith, inside c.args.s.now c.args.at c.byte_at.ensures c.if-byte_at-quote.true c.requires)

pub returns-then-close-s-2 : goal.returns-then-close-s-2
returns-then-close-s-2 c = quote_fits _ _ _ _ (c.closing-close.ensures ∙ c.text_blocks.ensures) c.byte_at.ensures c.if-byte_at-quote.true c.if-close-s-2.true

pub returns-else-close-s : goal.returns-else-close-s
returns-else-close-s c = quote_open _ _ _ _ (c.closing-close.ensures ∙ c.text_blocks.ensures) (omega arith)

pub returns-else-byte_at-quote : goal.returns-else-byte_at-quote
returns-else-byte_at-quote c = quote_none _ _ _ _ c.byte_at.ensures c.if-byte_at-quote.false
