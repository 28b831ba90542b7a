use Rattle.sheets.proofs.Loads.{no_rows, no_indexes, more_behind, parsed}
use borrow.Author.Tests.{eqb-true, eqb-false}
use mathlib.Core.Path.{sym, ◌∙◌}
use Rattle.sheets.proofs.parse.Goals as goal

pub returns-in_err-rows : goal.returns-in_err-rows
returns-in_err-rows c = rw c.from_residual-in_err-rows.ensures (no_rows c.args.file.now c.in_ok-source.ensures c.in_err-rows.ensures)

pub returns-in_err-indexes : goal.returns-in_err-indexes
returns-in_err-indexes c = rw c.from_residual-in_err-indexes.ensures (no_indexes c.args.file.now c.in_ok-source.ensures c.in_ok-rows.ensures c.in_err-indexes.ensures)

pub returns-then-not-is_empty : goal.returns-then-not-is_empty
returns-then-not-is_empty c = more_behind c.args.file.now c.in_ok-source.ensures c.in_ok-rows.ensures c.in_ok-indexes.ensures (eqb-false _ 0 (sym c.is_empty.ensures ∙ c.if-not-is_empty.true))

pub returns : goal.returns
returns c = parsed c.args.file.now c.in_ok-source.ensures c.in_ok-rows.ensures c.in_ok-indexes.ensures (eqb-true _ 0 (sym c.is_empty.ensures ∙ c.if-not-is_empty.false))
