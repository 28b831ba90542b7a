use native.Mathlib.Omega.{arith}
use Rattle.floats.proofs.Divide.{zeros_few, zeros_room, zeros_scaled}
use Rattle.floats.proofs.normal.Goals as goal

-- `floats::normal` meets its contract: as many digits more as the quotient has leading zeros bring its leading digit to the top.

pub extend-s-requires : goal.extend-s-requires
extend-s-requires c = (c.requires.0, zeros_room c.args.q c.requires.1 c.ranges.q.fits)

pub overflow_cast-result : goal.overflow_cast-result
overflow_cast-result c = omega (arith, zeros_few c.args.q c.requires.1 c.ranges.q.fits)

pub returns : goal.returns
returns c = (
  zeros_scaled c.args.q c.requires.1 c.ranges.q.fits _ _ _ _ c.requires.0 c.extend-s.ensures,
  zeros_few c.args.q c.requires.1 c.ranges.q.fits,
)
