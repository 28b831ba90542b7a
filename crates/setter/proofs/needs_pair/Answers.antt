use Rattle.places.specs.Meant.{meant}
use Rattle.setter.specs.Waiting.{as_row}
use Rattle.setter.proofs.Turns.{needs_at}
use Rattle.setter.proofs.needs_pair.Goals as goal

pub returns : goal.returns
returns c = (λ e. absurd (c.if-number-eq0.false e), needs_at c.args.rows.now c.args.number c.args.what (meant c.place_of.result) (as_row c.row_at-row.result) c.needs_pair.result c.row_at-row.ensures c.place_of.ensures c.needs_pair.ensures)
