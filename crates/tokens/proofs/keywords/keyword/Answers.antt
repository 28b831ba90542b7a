use Rattle.tokens.proofs.Tables.{of_length, no_line}
use Rattle.tokens.proofs.keywords.keyword.Goals as goal

pub returns-in-2 : goal.returns-in-2
returns-in-2 c = of_length _ c.in-2.is c.two_letters.ensures

pub returns-in-3 : goal.returns-in-3
returns-in-3 c = of_length _ c.in-3.is c.three_letters.ensures

pub returns-in-4 : goal.returns-in-4
returns-in-4 c = of_length _ c.in-4.is c.four_letters.ensures

pub returns-in-5 : goal.returns-in-5
returns-in-5 c = of_length _ c.in-5.is c.five_letters.ensures

pub returns-in-6 : goal.returns-in-6
returns-in-6 c = of_length _ c.in-6.is c.six_letters.ensures

pub returns-in-9 : goal.returns-in-9
returns-in-9 c = of_length _ c.in-9.is c.nine_letters.ensures

pub returns-in_default : goal.returns-in_default
returns-in_default c = no_line _ c.in_default.in_default-own.rest
