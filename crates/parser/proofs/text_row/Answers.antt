use mathlib.Core.Path.{refl, ap, ◌∙◌}
use Rattle.rows.specs.declared.Row.{Row}
use Rattle.rows.specs.Rows.{put_row}
use Rattle.parser.proofs.Pieces.{piece_bad, piece_empty, piece_row}
use borrow.Author.Rules.{rules}
use Rattle.parser.proofs.text_row.Goals as goal

pub returns-in_default : goal.returns-in_default
returns-in_default c = piece_bad c.args.s.now c.args.table.now c.args.rows c.args.start c.args.word c.args.end c.args.next c.text.ensures c.in_default.is c.refuse.ensures refl

pub returns-then-count-eq0 : goal.returns-then-count-eq0
returns-then-count-eq0 c = piece_empty c.args.s.now c.args.table.now c.args.rows c.args.start c.args.word c.args.end c.args.next c.text.ensures c.in-Some.is c.if-count-eq0.true c.look.ensures refl

pub returns : goal.returns
returns c = piece_row c.args.s.now c.args.table.now c.args.rows c.args.start c.args.word c.args.end c.args.next c.text.ensures c.in-Some.is c.if-count-eq0.false c.look-2.ensures c.row_more.ensures (c.put.ensures ∙ ap (λ (q : Row). put_row c.args.table.now c.args.rows q 1) c.part_row.ensures)
