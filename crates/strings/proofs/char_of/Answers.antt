use Rattle.std.proofs.Common.{◌∙◌}
use Rattle.strings.proofs.Quotes.{char_not, char_none, char_is, char_more}
use Rattle.strings.proofs.char_of.Goals as goal

pub returns-in_err-inner : goal.returns-in_err-inner
returns-in_err-inner c = c.from_residual.ensures ∙ char_not c.args.t.now c.in_err-inner.ensures

pub returns-in_err-code : goal.returns-in_err-code
returns-in_err-code c = c.from_residual-in_err-code.ensures ∙ char_none c.args.t.now c.in_ok-inner.ensures.0 c.in_ok-inner.ensures.1 c.piece_of.ensures c.in_err-code.was

pub returns-then-size-inner : goal.returns-then-size-inner
returns-then-size-inner c = char_is c.args.t.now c.in_ok-inner.ensures.0 c.in_ok-inner.ensures.1 c.piece_of.ensures c.in_ok-code.was c.if-size-inner.true

pub returns-else-size-inner : goal.returns-else-size-inner
returns-else-size-inner c = char_more c.args.t.now c.in_ok-inner.ensures.0 c.in_ok-inner.ensures.1 c.piece_of.ensures c.in_ok-code.was c.if-size-inner.false
