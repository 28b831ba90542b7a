use mathlib.Core.Path.{refl}
use Rattle.tokens.proofs.Tables.{sign_one, no_one}
use Rattle.tokens.specs.Words.{one_sign, one_signs, word_in}
use Rattle.chars.specs.Texts.{same}
use Rattle.tokens.proofs.one_sign.Goals as goal

pub returns-in-123 : goal.returns-in-123
unfolding one_sign one_signs word_in same
returns-in-123 c = sign_one c.in-123.is refl

pub returns-in-125 : goal.returns-in-125
unfolding one_sign one_signs word_in same
returns-in-125 c = sign_one c.in-125.is refl

pub returns-in-40 : goal.returns-in-40
unfolding one_sign one_signs word_in same
returns-in-40 c = sign_one c.in-40.is refl

pub returns-in-41 : goal.returns-in-41
unfolding one_sign one_signs word_in same
returns-in-41 c = sign_one c.in-41.is refl

pub returns-in-91 : goal.returns-in-91
unfolding one_sign one_signs word_in same
returns-in-91 c = sign_one c.in-91.is refl

pub returns-in-93 : goal.returns-in-93
unfolding one_sign one_signs word_in same
returns-in-93 c = sign_one c.in-93.is refl

pub returns-in-58 : goal.returns-in-58
unfolding one_sign one_signs word_in same
returns-in-58 c = sign_one c.in-58.is refl

pub returns-in-59 : goal.returns-in-59
unfolding one_sign one_signs word_in same
returns-in-59 c = sign_one c.in-59.is refl

pub returns-in-44 : goal.returns-in-44
unfolding one_sign one_signs word_in same
returns-in-44 c = sign_one c.in-44.is refl

pub returns-in-46 : goal.returns-in-46
unfolding one_sign one_signs word_in same
returns-in-46 c = sign_one c.in-46.is refl

pub returns-in-61 : goal.returns-in-61
unfolding one_sign one_signs word_in same
returns-in-61 c = sign_one c.in-61.is refl

pub returns-in-63 : goal.returns-in-63
unfolding one_sign one_signs word_in same
returns-in-63 c = sign_one c.in-63.is refl

pub returns-in-33 : goal.returns-in-33
unfolding one_sign one_signs word_in same
returns-in-33 c = sign_one c.in-33.is refl

pub returns-in-45 : goal.returns-in-45
unfolding one_sign one_signs word_in same
returns-in-45 c = sign_one c.in-45.is refl

pub returns-in-43 : goal.returns-in-43
unfolding one_sign one_signs word_in same
returns-in-43 c = sign_one c.in-43.is refl

pub returns-in-42 : goal.returns-in-42
unfolding one_sign one_signs word_in same
returns-in-42 c = sign_one c.in-42.is refl

pub returns-in-47 : goal.returns-in-47
unfolding one_sign one_signs word_in same
returns-in-47 c = sign_one c.in-47.is refl

pub returns-in-37 : goal.returns-in-37
unfolding one_sign one_signs word_in same
returns-in-37 c = sign_one c.in-37.is refl

pub returns-in-60 : goal.returns-in-60
unfolding one_sign one_signs word_in same
returns-in-60 c = sign_one c.in-60.is refl

pub returns-in-62 : goal.returns-in-62
unfolding one_sign one_signs word_in same
returns-in-62 c = sign_one c.in-62.is refl

pub returns-in_default : goal.returns-in_default
returns-in_default c = no_one c.args.b c.in_default.in_default-own.rest
