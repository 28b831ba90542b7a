use mathlib.Core.Path.{refl}
use mathlib.Core.Logic.{inl}
use native.Mathlib.Omega.{arith}
use mathlib.Core.List.{[], ◌∷◌}
use Rattle.parser.proofs.Standing.{past_word, is_word}
use Rattle.parser.proofs.Going.{few_rows}
use Rattle.promises.proofs.Imports.{limited}
use Rattle.promises.proofs.Declarations.{limited_list, limited_typing, fn_unnamed, fn_named, fn_unlisted, fn_listed, fn_untyped, fn_typed, fn_no_block, fn_read}
use Rattle.promises.proofs.Answered.{handed, kept_either}
use borrow.Author.Rules.{rules}
use Rattle.parser.proofs.Steps.{never_refused, took_done}
use Rattle.promises.proofs.Leaves.{start_is}
use Rattle.reader.proofs.declarations.function.Goals as goal

pub returns-in_err-word : goal.returns-in_err-word
returns-in_err-word c = never_refused _ _ (68 ∷ []) tt (is_word c.requires.1) c.take.ensures c.in_err-word.was

pub identifier-requires : goal.identifier-requires
identifier-requires c = (past_word (68 ∷ []) c.requires.0 tt (is_word c.requires.1) (took_done _ _ c.take.ensures c.in_ok-word.was).here).0

pub returns-in_err-next : goal.returns-in_err-next
returns-in_err-next c = rw (handed c.from_residual-in_err-next.ensures.1, ← c.in_err-next.was) (fn_unnamed _ c.args.limits _ _ c.requires.0 c.requires.1 (took_done _ _ c.take.ensures c.in_ok-word.was).here c.identifier.ensures.0 c.in_err-next.was)

pub typed_names-requires : goal.typed_names-requires
typed_names-requires c = (fn_named _ c.args.limits _ _ c.requires.0 c.requires.1 (took_done _ _ c.take.ensures c.in_ok-word.was).here c.identifier.ensures.0 c.in_ok-next.was, inl refl)

pub returns-in_err-params : goal.returns-in_err-params
returns-in_err-params c = rw (handed c.from_residual-in_err-params.ensures.1, ← c.in_err-params.was) (fn_unlisted _ c.args.limits _ _ c.requires.0 c.requires.1 (took_done _ _ c.take.ensures c.in_ok-word.was).here c.identifier.ensures.0 c.in_ok-next.was (limited_list c.plain-after.ensures c.typed_names.ensures) c.in_err-params.was)

pub typing-requires : goal.typing-requires
typing-requires c = ((fn_listed _ c.args.limits _ _ c.requires.0 c.requires.1 (took_done _ _ c.take.ensures c.in_ok-word.was).here c.identifier.ensures.0 c.in_ok-next.was (limited_list c.plain-after.ensures c.typed_names.ensures) c.in_ok-params.was).stands, inl refl)

pub returns-in_err-ty : goal.returns-in_err-ty
returns-in_err-ty c = rw (handed c.from_residual-in_err-ty.ensures.1, ← c.in_err-ty.was) (fn_untyped _ c.args.limits _ _ c.requires.0 c.requires.1 (took_done _ _ c.take.ensures c.in_ok-word.was).here c.identifier.ensures.0 c.in_ok-next.was (limited_list c.plain-after.ensures c.typed_names.ensures) c.in_ok-params.was (limited_typing c.plain-after.ensures c.typing.ensures) c.in_err-ty.was)

pub block-requires : goal.block-requires
block-requires c = (fn_typed _ c.args.limits _ _ c.requires.0 c.requires.1 (took_done _ _ c.take.ensures c.in_ok-word.was).here c.identifier.ensures.0 c.in_ok-next.was (limited_list c.plain-after.ensures c.typed_names.ensures) c.in_ok-params.was (limited_typing c.plain-after.ensures c.typing.ensures) c.in_ok-ty.was).going.stands

pub returns-in_err-body : goal.returns-in_err-body
returns-in_err-body c = rw (handed c.from_residual-in_err-body.ensures.1, ← c.in_err-body.was) (fn_no_block _ c.args.limits _ _ c.requires.0 c.requires.1 (took_done _ _ c.take.ensures c.in_ok-word.was).here c.identifier.ensures.0 c.in_ok-next.was (limited_list c.plain-after.ensures c.typed_names.ensures) c.in_ok-params.was (limited_typing c.plain-after.ensures c.typing.ensures) c.in_ok-ty.was (limited c.plain-after.ensures c.block.ensures) c.in_err-body.was)

pub overflow_add-params : goal.overflow_add-params
overflow_add-params c = omega (arith, few_rows (fn_typed _ c.args.limits _ _ c.requires.0 c.requires.1 (took_done _ _ c.take.ensures c.in_ok-word.was).here c.identifier.ensures.0 c.in_ok-next.was (limited_list c.plain-after.ensures c.typed_names.ensures) c.in_ok-params.was (limited_typing c.plain-after.ensures c.typing.ensures) c.in_ok-ty.was).going)

pub overflow_add-params-2 : goal.overflow_add-params-2
overflow_add-params-2 c = omega (arith, few_rows (fn_typed _ c.args.limits _ _ c.requires.0 c.requires.1 (took_done _ _ c.take.ensures c.in_ok-word.was).here c.identifier.ensures.0 c.in_ok-next.was (limited_list c.plain-after.ensures c.typed_names.ensures) c.in_ok-params.was (limited_typing c.plain-after.ensures c.typing.ensures) c.in_ok-ty.was).going)

pub returns : goal.returns
returns c = fn_read _ c.args.limits _ _ c.requires.0 c.requires.1 (took_done _ _ c.take.ensures c.in_ok-word.was).here c.identifier.ensures.0 c.in_ok-next.was (limited_list c.plain-after.ensures c.typed_names.ensures) c.in_ok-params.was (limited_typing c.plain-after.ensures c.typing.ensures) c.in_ok-ty.was (limited c.plain-after.ensures c.block.ensures) c.in_ok-body.was (start_is c.args.here (took_done _ _ c.take.ensures c.in_ok-word.was).node c.valued_row-row.ensures) c.finish.ensures
