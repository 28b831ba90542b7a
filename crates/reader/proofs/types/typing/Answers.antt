use Rattle.promises.proofs.Answered.{handed, kept_either}
use Rattle.promises.proofs.Types.{sign_solid, type_absent, type_fails, type_present, sign_lexed}
use Rattle.parser.proofs.Standing.{past_word, is_word}
use mathlib.Core.List.{[], ◌∷◌}
use borrow.Author.Rules.{rules}
use mathlib.Core.Path.{sym, ◌∙◌}
use Rattle.parser.proofs.Steps.{never_refused, took_done}
use Rattle.reader.proofs.types.typing.Goals as goal

pub returns-then-word-sign : goal.returns-then-word-sign
returns-then-word-sign c = type_absent c.args.limits (λ e. c.if-word-sign.true (c.word.ensures ∙ e)) c.part.ensures

pub returns-in_err-next : goal.returns-in_err-next
returns-in_err-next c = never_refused _ _ (c.args.sign ∷ []) (sign_lexed c.requires.1) (is_word (sym c.word.ensures ∙ c.if-word-sign.false)) c.take.ensures c.in_err-next.was

pub type_expr-requires : goal.type_expr-requires
type_expr-requires c = (past_word (c.args.sign ∷ []) c.requires.0 (sign_solid c.requires.1) (is_word (sym c.word.ensures ∙ c.if-word-sign.false)) (took_done _ _ c.take.ensures c.in_ok-next.was).here).0

pub returns-in_err-next-2 : goal.returns-in_err-next-2
returns-in_err-next-2 c = rw (handed c.from_residual-in_err-next-2.ensures.1, ← c.in_err-next-2.was) (type_fails c.requires.1 (sym c.word.ensures ∙ c.if-word-sign.false) (took_done _ _ c.take.ensures c.in_ok-next.was).here c.args.limits c.plain.ensures c.type_expr.ensures c.in_err-next-2.was)

pub returns : goal.returns
returns c = type_present c.requires.1 (sym c.word.ensures ∙ c.if-word-sign.false) (took_done _ _ c.take.ensures c.in_ok-next.was).here c.args.limits c.plain.ensures c.type_expr.ensures c.in_ok-next-2.was c.part-2.ensures
