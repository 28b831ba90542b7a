use mathlib.Core.Path.{sym}
use Rattle.chars.specs.declared.Class.TheVariants.{HexColon}
use Rattle.chars.specs.Chars.{is_class}
use Rattle.tokens.proofs.Firsts.{told, ipv6_not}
use Rattle.tokens.proofs.address.Goals as goal

pub returns : goal.returns
returns c = sym (ipv6_not _ _ (told (is_class HexColon) c.byte_at.ensures c.is_class.ensures c.if-is_class.false))
