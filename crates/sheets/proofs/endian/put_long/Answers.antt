use mathlib.Core.Path.{ap, ◌∙◌}
use lib.Seq.{sets}
use Rattle.sheets.proofs.Stores.{long_bytes}
use Rattle.sheets.proofs.endian.put_long.Goals as goal

pub returns : goal.returns
returns c = c.put.ensures ∙ ap (sets c.args.b.now c.args.at) (c.to_le_bytes.ensures ∙ long_bytes c.args.x)
