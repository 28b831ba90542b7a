use mathlib.Core.Path.{refl, sym, ap, ◌∙◌}
use mathlib.Core.List.{[], ◌∷◌}
use Rattle.tokens.proofs.Tables.{sign_two, no_first, no_second}
use Rattle.tokens.specs.Words.{two_sign, two_signs, word_in}
use Rattle.chars.specs.Texts.{same}
use Rattle.tokens.proofs.two_sign.Goals as goal

pub returns-in-61 : goal.returns-in-61
returns-in-61 c = c.sign_equals.ensures ∙ ap (two_sign c.args.a) (sym c.in-61.is)

pub returns-in-62 : goal.returns-in-62
returns-in-62 c = c.sign_angle.ensures ∙ ap (two_sign c.args.a) (sym c.in-62.is)

pub returns-then-a-eq38 : goal.returns-then-a-eq38
unfolding two_sign two_signs word_in same
returns-then-a-eq38 c = sign_two 38 c.if-a-eq38.true refl ∙ ap (two_sign c.args.a) (sym c.in-38.is)

pub returns-else-a-eq38 : goal.returns-else-a-eq38
unfolding two_signs
returns-else-a-eq38 c = no_first (38 ∷ []) c.args.a 38 refl (tt, c.if-a-eq38.false) ∙ ap (two_sign c.args.a) (sym c.in-38.is)

pub returns-then-a-eq124 : goal.returns-then-a-eq124
unfolding two_sign two_signs word_in same
returns-then-a-eq124 c = sign_two 124 c.if-a-eq124.true refl ∙ ap (two_sign c.args.a) (sym c.in-124.is)

pub returns-else-a-eq124 : goal.returns-else-a-eq124
unfolding two_signs
returns-else-a-eq124 c = no_first (124 ∷ []) c.args.a 124 refl (tt, c.if-a-eq124.false) ∙ ap (two_sign c.args.a) (sym c.in-124.is)

pub returns-in_default : goal.returns-in_default
returns-in_default c = no_second c.args.a c.args.b c.in_default.in_default-own.rest
