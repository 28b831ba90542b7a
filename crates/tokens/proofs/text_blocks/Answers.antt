use Rattle.std.proofs.Common.{arith, rules, false}
use Rattle.chars.proofs.Runs.{span_over}
use Rattle.tokens.specs.Rules.{goes_on, escapes}
use Rattle.tokens.proofs.Quotes.{quote_outside, plain_byte}
use Rattle.tokens.proofs.text_blocks.Goals as goal

pub returns : goal.returns
returns c =
    let q = c.args.quote in
    let s = c.args.s.now in
    let e = c.past_blocks.ensures in
    span_over (goes_on q) escapes false (quote_outside q false) s c.args.at c.past_blocks.result e.from e.inside λ i l m.
    plain_byte q s (omega (arith, c.type_inv.s i)) (let h = e.passed i 0 l m in search (rules, h))
