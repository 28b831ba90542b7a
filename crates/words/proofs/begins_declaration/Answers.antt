use mathlib.Core.Path.{◌≡◌, ap, refl, ◌∙◌}
use mathlib.Core.Bool.{Bool, true, false, ◌&&◌, ◌||◌}
use Prim.Native.Nat.{ℕ}
use lib.Dec.{eqb}
use Rattle.grammar.specs.Grammar.{one_of}
use Rattle.promises.specs.Firsts.{firsts_by}
use Rattle.words.proofs.Tests.{chain6}
use Rattle.words.proofs.begins_declaration.Goals as goal

-- `test` is one of the words by the old grammar alone
and_true : (d : Bool) → (d && true) ≡ d
and_true true = refl
and_true false = refl

and_false : (d : Bool) → (d && false) ≡ false
and_false true = refl
and_false false = refl

either : (w : ℕ) (tests : Bool) → (((((eqb w 61 || eqb w 68) || eqb w 70) || (eqb w 80 && tests)) || eqb w 65) || eqb w 66) ≡ one_of w (firsts_by tests)
either w true = ap (λ (d : Bool). ((((eqb w 61 || eqb w 68) || eqb w 70) || d) || eqb w 65) || eqb w 66) (and_true (eqb w 80)) ∙ chain6 (eqb w 61) (eqb w 68) (eqb w 70) (eqb w 80) (eqb w 65) (eqb w 66)
either w false = ap (λ (d : Bool). ((((eqb w 61 || eqb w 68) || eqb w 70) || d) || eqb w 65) || eqb w 66) (and_false (eqb w 80)) ∙ chain6 (eqb w 61) (eqb w 68) (eqb w 70) false (eqb w 65) (eqb w 66)

pub returns : goal.returns
returns c = either c.args.word c.args.tests
