use Rattle.chars.specs.Chars.{is_class}
use Rattle.chars.proofs.is_name_part.Goals as goal

pub returns-then-is_letter : goal.returns-then-is_letter
unfolding is_class
returns-then-is_letter c = rw (← c.is_letter.ensures, c.if-is_letter.true)

pub returns : goal.returns
unfolding is_class
returns c = rw (c.is_digit.ensures, c.is_byte.ensures, ← c.is_letter.ensures, c.if-is_letter.false)
