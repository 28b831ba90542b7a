use Rattle.chars.specs.Chars.{is_class}
use Rattle.chars.proofs.is_class.Goals as goal

pub returns-in-Ascii : goal.returns-in-Ascii
unfolding is_class
returns-in-Ascii c = rw c.in-Ascii.is (cc)

pub returns-in-Blank : goal.returns-in-Blank
unfolding is_class
returns-in-Blank c = rw c.in-Blank.is (cc)

pub returns-in-Line : goal.returns-in-Line
unfolding is_class
returns-in-Line c = rw c.in-Line.is (cc)

pub returns-in-Digit : goal.returns-in-Digit
unfolding is_class
returns-in-Digit c = rw c.in-Digit.is (cc)

pub returns-in-Figure : goal.returns-in-Figure
unfolding is_class
returns-in-Figure c = rw c.in-Figure.is (cc)

pub returns-in-HexDigit : goal.returns-in-HexDigit
unfolding is_class
returns-in-HexDigit c = rw c.in-HexDigit.is (cc)

pub returns-in-HexColon : goal.returns-in-HexColon
unfolding is_class
returns-in-HexColon c = rw c.in-HexColon.is (cc)

pub returns-in-NamePart : goal.returns-in-NamePart
unfolding is_class
returns-in-NamePart c = rw c.in-NamePart.is (cc)
