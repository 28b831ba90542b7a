use Rattle.tokens.proofs.Fits.{so, first, second}
use Rattle.tokens.proofs.no_token.Goals as goal

pub returns-then-pair_at : goal.returns-then-pair_at
returns-then-pair_at c = first _ (so c.pair_at.ensures c.if-pair_at.true) c.refuse.ensures

pub returns : goal.returns
returns c = second _ (so c.pair_at.ensures c.if-pair_at.false) c.refuse-2.ensures
