use native.Mathlib.Omega.{arith}
use Rattle.tokens.proofs.Fits.{a_sign, no_sign}
use Rattle.tokens.proofs.Rules.{two_read, two_out}
use Rattle.tokens.specs.Rules.{two_at}
use Rattle.tokens.proofs.two_char_punctuation.Goals as goal

pub returns-then-word-ne-NONE : goal.returns-then-word-ne-NONE
unfolding two_at
returns-then-word-ne-NONE c = a_sign _ (two_read c.args.s.now c.args.at c.if-at-s-2.true c.two_sign-word.ensures) c.if-word-ne-NONE.true

pub returns-else-word-ne-NONE : goal.returns-else-word-ne-NONE
unfolding two_at
returns-else-word-ne-NONE c = no_sign _ (two_read c.args.s.now c.args.at c.if-at-s-2.true c.two_sign-word.ensures) c.if-word-ne-NONE.false

pub returns-else-at-s : goal.returns-else-at-s
returns-else-at-s c = two_out c.args.s.now c.args.at (omega arith)
