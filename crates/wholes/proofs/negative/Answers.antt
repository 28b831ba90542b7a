use Rattle.std.proofs.Common.{refl, ◌^◌}
use Rattle.wholes.proofs.Signs.{below, never, unsigned}
use Rattle.wholes.specs.declared.Integer.{Integer}
use Rattle.wholes.proofs.negative.Goals as goal

pub returns-in-I8 : goal.returns-in-I8
returns-in-I8 c = below _ Integer.I8 _ _ (2 ^ 7) c.in-I8.is c.reduced.ensures refl refl

pub returns-in-I16 : goal.returns-in-I16
returns-in-I16 c = below _ Integer.I16 _ _ (2 ^ 15) c.in-I16.is c.reduced-in-I16.ensures refl refl

pub returns-in-I32 : goal.returns-in-I32
returns-in-I32 c = below _ Integer.I32 _ _ (2 ^ 31) c.in-I32.is c.reduced-in-I32.ensures refl refl

pub returns-in-I64 : goal.returns-in-I64
returns-in-I64 c = below _ Integer.I64 _ _ (2 ^ 63) c.in-I64.is c.reduced-in-I64.ensures refl refl

pub returns-in-U8 : goal.returns-in-U8
returns-in-U8 c = never _ _ (unsigned _ c.in-U8.is)
