use mathlib.Core.Path.{refl}
use mathlib.Core.List.{[], ◌∷◌}
use Rattle.tokens.proofs.Tables.{sign_two, no_first}
use Rattle.tokens.specs.Words.{two_sign, two_signs, word_in}
use Rattle.chars.specs.Texts.{same}
use Rattle.tokens.proofs.sign_angle.Goals as goal

pub returns-in-61 : goal.returns-in-61
unfolding two_sign two_signs word_in same
returns-in-61 c = sign_two 62 c.in-61.is refl

pub returns-in-45 : goal.returns-in-45
unfolding two_sign two_signs word_in same
returns-in-45 c = sign_two 62 c.in-45.is refl

pub returns-in_default : goal.returns-in_default
unfolding two_signs
returns-in_default c = no_first (45 ∷ 61 ∷ []) c.args.a 62 refl c.in_default.in_default-own.rest
