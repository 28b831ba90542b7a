use Rattle.tokens.proofs.Fits.{a_sign, no_sign}
use Rattle.tokens.proofs.Rules.{one_read, one_out}
use Rattle.tokens.specs.Rules.{one_at}
use Rattle.tokens.proofs.one_char_punctuation.Goals as goal

pub returns-then-word-ne-NONE : goal.returns-then-word-ne-NONE
unfolding one_at
returns-then-word-ne-NONE c = a_sign _ (one_read c.args.s.now c.args.at c.if-at-s.true c.one_sign-word.ensures) c.if-word-ne-NONE.true

pub returns-else-word-ne-NONE : goal.returns-else-word-ne-NONE
unfolding one_at
returns-else-word-ne-NONE c = no_sign _ (one_read c.args.s.now c.args.at c.if-at-s.true c.one_sign-word.ensures) c.if-word-ne-NONE.false

pub returns-else-at-s : goal.returns-else-at-s
returns-else-at-s c = one_out c.args.s.now c.args.at c.if-at-s.false
