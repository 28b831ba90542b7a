use mathlib.Core.Path.{subst, refl, sym, ap, ◌∙◌}
use lib.Dec.{T}
use Rattle.grammar.specs.Words.{filter_words}
use mathlib.Core.Logic.{inl}
use native.Mathlib.Omega.{arith}
use Rattle.parser.proofs.Standing.{past_word}
use Rattle.parser.proofs.Going.{few_rows}
use Rattle.promises.proofs.Imports.{limited}
use Rattle.promises.proofs.Declarations.{limited_list, filter_unnamed, filter_named, filter_unlisted, filter_listed, filter_no_block, filter_read}
use Rattle.promises.proofs.Answered.{handed, kept_either}
use borrow.Author.Rules.{rules}
use Rattle.parser.proofs.Steps.{never_refused, took_done}
use Rattle.grammar.specs.Grammar.{one_of}
use Rattle.grammar.specs.Rows.{detail_for}
use Rattle.promises.proofs.Leaves.{row_is, start_is}
use Rattle.reader.proofs.declarations.filter_map.Goals as goal

pub returns-in_err-word : goal.returns-in_err-word
returns-in_err-word c = never_refused _ _ filter_words tt c.requires.1 c.take.ensures c.in_err-word.was

pub identifier-requires : goal.identifier-requires
identifier-requires c = (past_word filter_words c.requires.0 tt c.requires.1 (took_done _ _ c.take.ensures c.in_ok-word.was).here).0

pub returns-in_err-next : goal.returns-in_err-next
returns-in_err-next c = rw (handed c.from_residual-in_err-next.ensures.1, ← c.in_err-next.was) (filter_unnamed _ c.args.limits _ _ c.requires.0 c.requires.1 (took_done _ _ c.take.ensures c.in_ok-word.was).here c.identifier.ensures.0 c.in_err-next.was)

pub typed_names-requires : goal.typed_names-requires
typed_names-requires c = (filter_named _ c.args.limits _ _ c.requires.0 c.requires.1 (took_done _ _ c.take.ensures c.in_ok-word.was).here c.identifier.ensures.0 c.in_ok-next.was, inl refl)

pub returns-in_err-params : goal.returns-in_err-params
returns-in_err-params c = rw (handed c.from_residual-in_err-params.ensures.1, ← c.in_err-params.was) (filter_unlisted _ c.args.limits _ _ c.requires.0 c.requires.1 (took_done _ _ c.take.ensures c.in_ok-word.was).here c.identifier.ensures.0 c.in_ok-next.was (limited_list c.plain-after.ensures c.typed_names.ensures) c.in_err-params.was)

pub block-requires : goal.block-requires
block-requires c = (filter_listed _ c.args.limits _ _ c.requires.0 c.requires.1 (took_done _ _ c.take.ensures c.in_ok-word.was).here c.identifier.ensures.0 c.in_ok-next.was (limited_list c.plain-after.ensures c.typed_names.ensures) c.in_ok-params.was).stands

pub returns-in_err-body : goal.returns-in_err-body
returns-in_err-body c = rw (handed c.from_residual-in_err-body.ensures.1, ← c.in_err-body.was) (filter_no_block _ c.args.limits _ _ c.requires.0 c.requires.1 (took_done _ _ c.take.ensures c.in_ok-word.was).here c.identifier.ensures.0 c.in_ok-next.was (limited_list c.plain-after.ensures c.typed_names.ensures) c.in_ok-params.was (limited c.plain-after.ensures c.block.ensures) c.in_err-body.was)

pub overflow_add-params : goal.overflow_add-params
overflow_add-params c = omega (arith, few_rows (filter_listed _ c.args.limits _ _ c.requires.0 c.requires.1 (took_done _ _ c.take.ensures c.in_ok-word.was).here c.identifier.ensures.0 c.in_ok-next.was (limited_list c.plain-after.ensures c.typed_names.ensures) c.in_ok-params.was))

pub filter_detail-requires : goal.filter_detail-requires
filter_detail-requires c = subst (λ w. T (one_of w filter_words)) (sym c.word.ensures) c.requires.1

pub returns : goal.returns
returns c = filter_read _ c.args.limits _ _ c.requires.0 c.requires.1 (took_done _ _ c.take.ensures c.in_ok-word.was).here c.identifier.ensures.0 c.in_ok-next.was (limited_list c.plain-after.ensures c.typed_names.ensures) c.in_ok-params.was (limited c.plain-after.ensures c.block.ensures) c.in_ok-body.was (c.filter_detail.ensures ∙ ap (λ w. detail_for 45 w) c.word.ensures) (row_is _ _ _ (start_is c.args.here (took_done _ _ c.take.ensures c.in_ok-word.was).node c.detail_row-row.ensures) c.finish.ensures)
