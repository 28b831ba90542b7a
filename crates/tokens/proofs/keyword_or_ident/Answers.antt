use mathlib.Core.Path.{ap, ◌∙◌}
use native.Mathlib.Omega.{arith}
use Rattle.tokens.proofs.Fits.{so, fails}
use Rattle.tokens.proofs.Names.{name_more, name_in, name_inside, name_fits}
use Rattle.chars.proofs.Texts.{part_slice}
use Rattle.tokens.specs.Rules.{is_name_start, name_at}
use Rattle.tokens.specs.Words.{name_word}
use Rattle.tokens.proofs.keyword_or_ident.Goals as goal

pub overflow_add-at : goal.overflow_add-at
overflow_add-at c = omega (arith, name_in c.args.s.now c.args.at (so (c.is_name_start.ensures ∙ ap is_name_start c.byte_at.ensures) c.if-is_name_start.true))

pub slice_bounds-name_word-end : goal.slice_bounds-name_word-end
slice_bounds-name_word-end c = omega (arith, name_inside c.args.s.now c.args.at (so (c.is_name_start.ensures ∙ ap is_name_start c.byte_at.ensures) c.if-is_name_start.true) (name_more _ _ (so (c.is_name_start.ensures ∙ ap is_name_start c.byte_at.ensures) c.if-is_name_start.true) c.past_name-end.ensures))

pub slice_bounds-name_word-start : goal.slice_bounds-name_word-start
slice_bounds-name_word-start c = omega (arith, name_inside c.args.s.now c.args.at (so (c.is_name_start.ensures ∙ ap is_name_start c.byte_at.ensures) c.if-is_name_start.true) (name_more _ _ (so (c.is_name_start.ensures ∙ ap is_name_start c.byte_at.ensures) c.if-is_name_start.true) c.past_name-end.ensures))

pub slice_bounds-name_word-count : goal.slice_bounds-name_word-count
slice_bounds-name_word-count c = omega (arith, name_inside c.args.s.now c.args.at (so (c.is_name_start.ensures ∙ ap is_name_start c.byte_at.ensures) c.if-is_name_start.true) (name_more _ _ (so (c.is_name_start.ensures ∙ ap is_name_start c.byte_at.ensures) c.if-is_name_start.true) c.past_name-end.ensures))

pub returns-then-is_name_start : goal.returns-then-is_name_start
returns-then-is_name_start c =
    let h = (so (c.is_name_start.ensures ∙ ap is_name_start c.byte_at.ensures) c.if-is_name_start.true) in
    name_fits _ _ h (name_more _ _ h c.past_name-end.ensures) (c.name_word.ensures ∙ ap name_word (part_slice c.args.at c.past_name-end.result c.args.s.now))

pub returns-else-is_name_start : goal.returns-else-is_name_start
unfolding name_at
returns-else-is_name_start c = fails _ _ (so (c.is_name_start.ensures ∙ ap is_name_start c.byte_at.ensures) c.if-is_name_start.false)
