use mathlib.Core.Path.{◌∙◌}
use Rattle.sheets.proofs.Loads.{short_is}
use Rattle.sheets.proofs.endian.short_at.Goals as goal

pub returns : goal.returns
returns c = c.from_le_bytes.ensures ∙ short_is c.args.b.now c.args.at
