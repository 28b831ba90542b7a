use Rattle.promises.proofs.Answered.{handed}
use Rattle.promises.proofs.Leaves.{arm_comma, arm_block, arm_last}
use borrow.Author.Rules.{rules}
use mathlib.Core.Path.{sym, refl, ◌∙◌}
use mathlib.Core.List.{◌∷◌, []}
use Rattle.grammar.specs.Words.{comma}
use Rattle.parser.proofs.Steps.{never_refused, took_done}
use Rattle.parser.proofs.Standing.{is_word}
use Rattle.reader.proofs.arm_comma.Goals as goal

pub returns-in_err-next : goal.returns-in_err-next
returns-in_err-next c = never_refused _ _ (comma ∷ []) tt (is_word (sym c.word.ensures ∙ c.if-word-eq-COMMA.true)) c.take.ensures c.in_err-next.was

pub returns-then-word-eq-COMMA : goal.returns-then-word-eq-COMMA
returns-then-word-eq-COMMA c = arm_comma _ c.args.here c.args.begin (sym c.word.ensures ∙ c.if-word-eq-COMMA.true) (took_done _ _ c.take.ensures c.in_ok-next.was).here refl

pub returns-then-begin-eq-CURLY_LEFT : goal.returns-then-begin-eq-CURLY_LEFT
returns-then-begin-eq-CURLY_LEFT c = arm_block _ c.args.here c.args.begin (λ e. c.if-word-eq-COMMA.false (c.word.ensures ∙ e)) c.if-begin-eq-CURLY_LEFT.true refl

pub returns : goal.returns
returns c = arm_last _ c.args.here c.args.begin (λ e. c.if-word-eq-COMMA.false (c.word.ensures ∙ e)) c.if-begin-eq-CURLY_LEFT.false refl
