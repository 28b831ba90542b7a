use Rattle.literals.proofs.digits.Goals as goal
-- `literals::digits` meets its contract.
use mathlib.Core.Path.{ap, ◌∙◌}
use mathlib.Core.List.{List}
use mathlib.Core.Bool.{true}
use Prim.Native.Nat.{ℕ}
use Rattle.numbers.specs.declared.Base.{Base}
use Rattle.numbers.specs.Digits.{number_of, plain}
use Rattle.chars.proofs.Texts.{part_slice}

pub returns : goal.returns
returns c = c.number_of.ensures ∙ ap (λ (l : List ℕ). number_of Base.Ten 9999999999999999999 (plain true l)) (part_slice c.args.start c.args.end c.args.t.now)
