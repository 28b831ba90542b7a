use native.Mathlib.Omega.{arith}
use Rattle.floats.specs.Nearest.{format_of}
use Rattle.floats.proofs.Decimals.{ten_some, long_places, long_part, long_whole, product_room, short_is}
use borrow.Author.Rules.{rules}
use Rattle.floats.proofs.decimal.Goals as goal

-- `floats::decimal` meets its contract.

pub returns-then-places-gt-MOST_PLACES : goal.returns-then-places-gt-MOST_PLACES
returns-then-places-gt-MOST_PLACES c = long_places (format_of c.args.w) c.args.whole c.args.part c.args.places c.if-places-gt-MOST_PLACES.true

pub returns-then-part-gt-NINETEEN_NINES : goal.returns-then-part-gt-NINETEEN_NINES
returns-then-part-gt-NINETEEN_NINES c = long_part (format_of c.args.w) c.args.whole c.args.part c.args.places _ c.pow-d.ensures c.if-part-gt-NINETEEN_NINES.true

pub nonzero_div-part : goal.nonzero_div-part
nonzero_div-part c = omega (arith, c.pow-d.ensures, ten_some c.args.places)

pub returns-then-part-d : goal.returns-then-part-d
returns-then-part-d c = long_whole (format_of c.args.w) c.args.whole c.args.part c.args.places _ c.pow-d.ensures (omega (arith, c.if-part-gt-NINETEEN_NINES.false)) c.if-part-d.true

pub overflow_mul-whole : goal.overflow_mul-whole
overflow_mul-whole c = omega (arith, product_room (format_of c.args.w) c.args.whole c.args.part c.args.places _ c.pow-d.ensures (omega (arith, c.if-places-gt-MOST_PLACES.false)) (omega (arith, c.if-part-gt-NINETEEN_NINES.false)) (omega (arith, c.if-part-d.false)))

pub overflow_add-whole : goal.overflow_add-whole
overflow_add-whole c = omega (arith, product_room (format_of c.args.w) c.args.whole c.args.part c.args.places _ c.pow-d.ensures (omega (arith, c.if-places-gt-MOST_PLACES.false)) (omega (arith, c.if-part-gt-NINETEEN_NINES.false)) (omega (arith, c.if-part-d.false)))

pub nearest-requires : goal.nearest-requires
nearest-requires c = omega (arith, c.pow-d.ensures, ten_some c.args.places)

pub returns : goal.returns
returns c = short_is (format_of c.args.w) c.args.whole c.args.part c.args.places _ c.pow-d.ensures (omega (arith, c.if-places-gt-MOST_PLACES.false)) (omega (arith, c.if-part-gt-NINETEEN_NINES.false)) (omega (arith, c.if-part-d.false)) c.nearest.ensures
