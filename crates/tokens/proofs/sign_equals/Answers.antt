use mathlib.Core.Path.{refl}
use mathlib.Core.List.{[], ◌∷◌}
use Rattle.tokens.proofs.Tables.{sign_two, no_first}
use Rattle.tokens.specs.Words.{two_sign, two_signs, word_in}
use Rattle.chars.specs.Texts.{same}
use Rattle.tokens.proofs.sign_equals.Goals as goal

pub returns-in-61 : goal.returns-in-61
unfolding two_sign two_signs word_in same
returns-in-61 c = sign_two 61 c.in-61.is refl

pub returns-in-33 : goal.returns-in-33
unfolding two_sign two_signs word_in same
returns-in-33 c = sign_two 61 c.in-33.is refl

pub returns-in-60 : goal.returns-in-60
unfolding two_sign two_signs word_in same
returns-in-60 c = sign_two 61 c.in-60.is refl

pub returns-in-62 : goal.returns-in-62
unfolding two_sign two_signs word_in same
returns-in-62 c = sign_two 61 c.in-62.is refl

pub returns-in-43 : goal.returns-in-43
unfolding two_sign two_signs word_in same
returns-in-43 c = sign_two 61 c.in-43.is refl

pub returns-in-45 : goal.returns-in-45
unfolding two_sign two_signs word_in same
returns-in-45 c = sign_two 61 c.in-45.is refl

pub returns-in-42 : goal.returns-in-42
unfolding two_sign two_signs word_in same
returns-in-42 c = sign_two 61 c.in-42.is refl

pub returns-in-47 : goal.returns-in-47
unfolding two_sign two_signs word_in same
returns-in-47 c = sign_two 61 c.in-47.is refl

pub returns-in-37 : goal.returns-in-37
unfolding two_sign two_signs word_in same
returns-in-37 c = sign_two 61 c.in-37.is refl

pub returns-in_default : goal.returns-in_default
unfolding two_signs
returns-in_default c = no_first (37 ∷ 47 ∷ 42 ∷ 45 ∷ 43 ∷ 62 ∷ 60 ∷ 33 ∷ 61 ∷ []) c.args.a 61 refl c.in_default.in_default-own.rest
