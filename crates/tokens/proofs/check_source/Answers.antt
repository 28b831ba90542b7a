use mathlib.Core.Path.{refl}
use Rattle.chars.proofs.Told.{told}
use Rattle.tokens.specs.Tokens.{unless}
use Rattle.tokens.proofs.Fits.{so}
use Rattle.tokens.proofs.Answers.{whole_long, whole_high, whole_bang, whole_fine}
use Rattle.tokens.proofs.check_source.Goals as goal

pub returns-then-s-gt-MOST_BYTES : goal.returns-then-s-gt-MOST_BYTES
returns-then-s-gt-MOST_BYTES c = told unless (whole_long _ c.if-s-gt-MOST_BYTES.true c.refuse_source.ensures)

pub returns-then-high-s : goal.returns-then-high-s
returns-then-high-s c = told unless (whole_high _ c.if-s-gt-MOST_BYTES.false c.past_ascii-high.ensures c.if-high-s.true c.refuse_source-then-high-s.ensures)

pub returns-then-pair_at : goal.returns-then-pair_at
returns-then-pair_at c = told unless (whole_bang _ c.if-s-gt-MOST_BYTES.false c.past_ascii-high.ensures c.if-high-s.false (so c.pair_at.ensures c.if-pair_at.true) c.refuse_source-then-pair_at.ensures)

pub returns : goal.returns
returns c = told unless (whole_fine _ c.if-s-gt-MOST_BYTES.false c.past_ascii-high.ensures c.if-high-s.false (so c.pair_at.ensures c.if-pair_at.false) refl)
