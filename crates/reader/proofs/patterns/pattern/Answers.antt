use native.Mathlib.Omega.{arith}
use Rattle.promises.proofs.Answered.{handed, not_both, put_behind}
use Rattle.promises.proofs.Types.{any_read, no_pattern, variant_read, variant_alone, names_refused, names_read, names_ended}
use Rattle.parser.specs.Counted.{counts}
use Rattle.parser.proofs.Going.{few_rows}
use borrow.Author.Rules.{rules}
use mathlib.Core.Path.{refl, sym, ◌∙◌}
use mathlib.Core.List.{◌∷◌, []}
use Rattle.parser.proofs.Standing.{is_word}
use Rattle.reader.proofs.patterns.pattern.Goals as goal

pub returns-then-word-eq-UNDERSCORE : goal.returns-then-word-eq-UNDERSCORE
returns-then-word-eq-UNDERSCORE c = let k = sym c.word.ensures ∙ c.if-word-eq-UNDERSCORE.true in let w = c.leaf.ensures (14 ∷ []) tt (is_word k) in any_read c.requires k refl refl w.0 (put_behind _ _ _ _ _ w.1) (counts c.args.limits)

pub returns-then-word-ne-NAME : goal.returns-then-word-ne-NAME
returns-then-word-ne-NAME c = no_pattern c.requires (λ e. c.if-word-eq-UNDERSCORE.false (c.word.ensures ∙ e)) (λ e. c.if-word-ne-NAME.true (c.word-2.ensures ∙ e)) c.unusable.ensures

pub returns-in_err-name : goal.returns-in_err-name
returns-in_err-name c = rw (handed c.from_residual.ensures.1, ← c.in_err-name.was) (not_both (c.leaf-2.ensures (13 ∷ []) tt (is_word (sym c.word-2.ensures ∙ c.if-word-ne-NAME.false))).0 c.in_err-name.was)

pub returns-then-word-ne-ROUND_LEFT : goal.returns-then-word-ne-ROUND_LEFT
returns-then-word-ne-ROUND_LEFT c = variant_alone c.args.limits c.requires (sym c.word-2.ensures ∙ c.if-word-ne-NAME.false) (c.leaf-2.ensures (13 ∷ []) tt (is_word (sym c.word-2.ensures ∙ c.if-word-ne-NAME.false))).0 (c.leaf-2.ensures (13 ∷ []) tt (is_word (sym c.word-2.ensures ∙ c.if-word-ne-NAME.false))).1 c.in_ok-name.was (λ e. c.if-word-ne-ROUND_LEFT.true (c.word-3.ensures ∙ e)) c.plain_row.ensures c.finish.ensures.0 c.finish.ensures.1

pub names-requires : goal.names-requires
names-requires c = (variant_read c.args.limits c.requires (sym c.word-2.ensures ∙ c.if-word-ne-NAME.false) (c.leaf-2.ensures (13 ∷ []) tt (is_word (sym c.word-2.ensures ∙ c.if-word-ne-NAME.false))).0 (c.leaf-2.ensures (13 ∷ []) tt (is_word (sym c.word-2.ensures ∙ c.if-word-ne-NAME.false))).1 c.in_ok-name.was).stands

pub returns-in_err-list : goal.returns-in_err-list
returns-in_err-list c = rw (handed c.from_residual-in_err-list.ensures.1, ← c.in_err-list.was) (names_refused c.args.limits c.requires (sym c.word-2.ensures ∙ c.if-word-ne-NAME.false) (c.leaf-2.ensures (13 ∷ []) tt (is_word (sym c.word-2.ensures ∙ c.if-word-ne-NAME.false))).0 (c.leaf-2.ensures (13 ∷ []) tt (is_word (sym c.word-2.ensures ∙ c.if-word-ne-NAME.false))).1 c.in_ok-name.was (sym c.word-3.ensures ∙ c.if-word-ne-ROUND_LEFT.false) c.names.ensures c.in_err-list.was)

pub overflow_add-list : goal.overflow_add-list
overflow_add-list c = omega (arith, few_rows (names_read c.args.limits c.requires (sym c.word-2.ensures ∙ c.if-word-ne-NAME.false) (c.leaf-2.ensures (13 ∷ []) tt (is_word (sym c.word-2.ensures ∙ c.if-word-ne-NAME.false))).0 (c.leaf-2.ensures (13 ∷ []) tt (is_word (sym c.word-2.ensures ∙ c.if-word-ne-NAME.false))).1 c.in_ok-name.was (sym c.word-3.ensures ∙ c.if-word-ne-ROUND_LEFT.false) c.names.ensures c.in_ok-list.was))

pub returns : goal.returns
returns c = names_ended c.args.limits c.requires (sym c.word-2.ensures ∙ c.if-word-ne-NAME.false) (c.leaf-2.ensures (13 ∷ []) tt (is_word (sym c.word-2.ensures ∙ c.if-word-ne-NAME.false))).0 (c.leaf-2.ensures (13 ∷ []) tt (is_word (sym c.word-2.ensures ∙ c.if-word-ne-NAME.false))).1 c.in_ok-name.was (sym c.word-3.ensures ∙ c.if-word-ne-ROUND_LEFT.false) c.names.ensures c.in_ok-list.was c.valued_row-row.ensures c.finish-2.ensures.0 c.finish-2.ensures.1
