use mathlib.Core.Path.{◌∙◌}
use Rattle.sheets.proofs.Loads.{long_is}
use Rattle.sheets.proofs.endian.long_at.Goals as goal

pub returns : goal.returns
returns c = c.from_le_bytes.ensures ∙ long_is c.args.b.now c.args.at
