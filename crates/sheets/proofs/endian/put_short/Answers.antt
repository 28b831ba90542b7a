use mathlib.Core.Path.{ap, ◌∙◌}
use Prim.Native.Nat.{ℕ}
use mathlib.Core.List.{List}
use lib.ListN.{take}
use lib.Seq.{sets}
use Rattle.sheets.proofs.Stores.{short_bytes}
use Rattle.sheets.proofs.endian.put_short.Goals as goal

pub returns : goal.returns
returns c = c.put.ensures ∙ ap (sets c.args.b.now c.args.at) (ap (λ (x : List ℕ). take 4 x) c.to_le_bytes.ensures ∙ short_bytes c.args.x)
