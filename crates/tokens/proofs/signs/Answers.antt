use Rattle.std.proofs.Common.{rules}
use Rattle.tokens.specs.Rules.{one_at}
use Rattle.tokens.proofs.Fits.{either}
use Rattle.tokens.proofs.signs.Goals as goal

pub returns : goal.returns
returns c = either (one_at c.args.s.now c.args.at) c.args.at c.two_char_punctuation.ensures c.or_else.ensures λ h. search (rules, h)
