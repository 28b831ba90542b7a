use mathlib.Core.Path.{ap}
use native.Mathlib.Omega.{arith}
use Rattle.layouts.proofs.Packs.{place_back, said_low}
use Rattle.places.specs.Meant.{unless_of}
use Rattle.layouts.proofs.waiting.Goals as goal

pub returns : goal.returns
returns c = (place_back c.args.words c.args.c.level c.unless_bits.result c.bit.result c.bit-2.result c.bit-3.result c.args.c.records c.args.c.path c.args.c.more (unless_of c.args.c.unless) (omega arith) (omega arith) c.unless_bits.ensures.1 c.bit.ensures c.bit-2.ensures c.bit-3.ensures (ap unless_of c.unless_bits.ensures.0), said_low c.args.words _)
