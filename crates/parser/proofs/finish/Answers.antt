use Rattle.parser.specs.declared.Here.{Here}
use Rattle.std.specs.Prelude.{Ok}
use mathlib.Core.Path.{ap, ◌∙◌}
use borrow.Author.Rules.{rules}
use Rattle.rows.specs.Rows.{put_row}
use Rattle.parser.specs.Places.{node_of}
use Rattle.parser.proofs.finish.Goals as goal

pub returns : goal.returns
returns c = (ap (λ (z : Here). Ok (node_of c.args.row, z)) c.later.ensures, c.put.ensures ∙ ap (put_row c.args.table.now c.args.here.rows c.args.row) c.size.ensures)
