use Rattle.tokens.proofs.Fits.{so, found}
use Rattle.tokens.proofs.Firsts.{named_f, named_name}
use Rattle.tokens.proofs.letters.Goals as goal

pub returns-in-Some : goal.returns-in-Some
returns-in-Some c = found _ c.as_number-fit.ensures c.in-Some.is _ _

pub returns-then-pair_at : goal.returns-then-pair_at
returns-then-pair_at c = named_f _ _ (so c.as_number-fit.ensures c.in_default.is) (so c.pair_at.ensures c.if-pair_at.true)

pub returns : goal.returns
returns c = named_name _ _ (so c.as_number-fit.ensures c.in_default.is) (so c.pair_at.ensures c.if-pair_at.false) c.keyword_or_ident.ensures
