use Rattle.std.proofs.Common.{ap, ◌∙◌}
use mathlib.Core.Logic.{inl, inr}
use Rattle.chars.proofs.Told.{told}
use Rattle.values.specs.Literals.{literal_of, literal_numbers}
use Rattle.values.proofs.Literals.{text_inside, text_before, text_beyond}
use Rattle.values.proofs.literal_at.Goals as goal

pub returns-in_err-get : goal.returns-in_err-get
returns-in_err-get c = told literal_numbers (c.from_residual.ensures ∙ elim c.in_err-get.ensures.lookup.0 [
  | inl h ↦ text_before c.args.code c.args.s.now c.args.start c.args.end h
  | inr h ↦ text_beyond c.args.code c.args.s.now c.args.start c.args.end h
])

pub returns : goal.returns
returns c =
    let part = c.in_ok-get.ensures.lookup.0 in
    told literal_numbers (text_inside c.args.code c.args.s.now c.args.start c.args.end part.0 part.1 (c.of_text.ensures ∙ ap (literal_of c.args.code) part.2))
