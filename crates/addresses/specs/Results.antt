-- What is written, if it is an address or a part of one.
use Rattle.std.specs.Prelude.{ℕ, Option}
use Rattle.addresses.specs.declared.Wide.{Wide}

-- How many groups were read, and the number that they write.
abbrev pub Groups : Type 0
Groups = Option (ℕ × Wide)

-- The number of four octets.
abbrev pub Quad : Type 0
Quad = Option ℕ

-- The number of eight groups.
abbrev pub Address : Type 0
Address = Option Wide
