use mathlib.Core.Path.{refl, sym, ◌∙◌}
use borrow.Author.Tests.{eq-eqb, ne_eqb}
use Rattle.words.proofs.Tests.{first, second}
use borrow.Author.Rules.{rules}
use Rattle.words.proofs.binary_level.Goals as goal

pub returns-then-word-eq-PIPE_PIPE : goal.returns-then-word-eq-PIPE_PIPE
returns-then-word-eq-PIPE_PIPE c = first _ (eq-eqb _ _ c.if-word-eq-PIPE_PIPE.true) refl

pub returns-then-word-eq-AMP_AMP : goal.returns-then-word-eq-AMP_AMP
returns-then-word-eq-AMP_AMP c = second _ (ne_eqb _ _ c.if-word-eq-PIPE_PIPE.false) (first _ (eq-eqb _ _ c.if-word-eq-AMP_AMP.true) refl)

pub returns-then-is_compare : goal.returns-then-is_compare
returns-then-is_compare c = second _ (ne_eqb _ _ c.if-word-eq-PIPE_PIPE.false) (second _ (ne_eqb _ _ c.if-word-eq-AMP_AMP.false) (first _ (sym c.is_compare.ensures ∙ c.if-is_compare.true) refl))

pub returns-then-is_sum : goal.returns-then-is_sum
returns-then-is_sum c = second _ (ne_eqb _ _ c.if-word-eq-PIPE_PIPE.false) (second _ (ne_eqb _ _ c.if-word-eq-AMP_AMP.false) (second _ (sym c.is_compare.ensures ∙ c.if-is_compare.false) (first _ (sym c.is_sum.ensures ∙ c.if-is_sum.true) refl)))

pub returns-then-is_product : goal.returns-then-is_product
returns-then-is_product c = second _ (ne_eqb _ _ c.if-word-eq-PIPE_PIPE.false) (second _ (ne_eqb _ _ c.if-word-eq-AMP_AMP.false) (second _ (sym c.is_compare.ensures ∙ c.if-is_compare.false) (second _ (sym c.is_sum.ensures ∙ c.if-is_sum.false) (first _ (sym c.is_product.ensures ∙ c.if-is_product.true) refl))))

pub returns : goal.returns
returns c = second _ (ne_eqb _ _ c.if-word-eq-PIPE_PIPE.false) (second _ (ne_eqb _ _ c.if-word-eq-AMP_AMP.false) (second _ (sym c.is_compare.ensures ∙ c.if-is_compare.false) (second _ (sym c.is_sum.ensures ∙ c.if-is_sum.false) (second _ (sym c.is_product.ensures ∙ c.if-is_product.false) (refl)))))
