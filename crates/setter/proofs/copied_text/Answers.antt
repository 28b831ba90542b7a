use mathlib.Core.Path.{◌∙◌}
use native.Mathlib.Omega.{arith}
use Rattle.chars.proofs.Texts.{part_slice}
use Rattle.setter.specs.Waiting.{as_row}
use Rattle.setter.proofs.Turns.{copied_so}
use Rattle.setter.proofs.copied_text.Goals as goal

pub returns : goal.returns
returns c = part_slice c.min.result c.min-end.result c.args.s.now ∙ copied_so c.args.s.now (as_row c.args.row) c.quote.result c.min.result c.min-end.result c.quote.ensures (omega (arith, c.saturating_add.ensures, c.min-end.ensures, c.well_formed)) c.min.ensures
