use mathlib.Core.Path.{◌∙◌, ap, refl}
use native.Mathlib.Omega.{arith}
use Rattle.std.specs.Prelude.{Some}
use Rattle.parser.specs.Places.{part_read, part_table}
use Rattle.parser.proofs.Pieces.{before_in, ends_in, as_part}
use borrow.Author.Rules.{rules}
use Rattle.parser.proofs.piece.Goals as goal

pub text_row-requires : goal.text_row-requires
text_row-requires c = let q = before_in c.args.s.now _ c.f_string_part.ensures (c.in-Some.is ∙ ap Some c.in-Before.is) in (q.0, omega (arith, q.1))

pub overflow_add-end : goal.overflow_add-end
overflow_add-end c = let q = ends_in c.args.s.now _ c.f_string_part.ensures (c.in-Some.is ∙ ap Some c.in-Ends.is) in omega (arith, q.1)

pub text_row-requires-in-Ends : goal.text_row-requires-in-Ends
text_row-requires-in-Ends c = let q = ends_in c.args.s.now _ c.f_string_part.ensures (c.in-Some.is ∙ ap Some c.in-Ends.is) in (q.0, omega (arith, q.1))

pub returns-in-Before : goal.returns-in-Before
unfolding part_read part_table
returns-in-Before c = as_part c.args.s.now c.args.table.now c.args.here c.end-start.ensures c.f_string_part.ensures (c.in-Some.is ∙ ap Some c.in-Before.is) c.text_row.ensures

pub returns-in-Ends : goal.returns-in-Ends
unfolding part_read part_table
returns-in-Ends c = as_part c.args.s.now c.args.table.now c.args.here c.end-start.ensures c.f_string_part.ensures (c.in-Some.is ∙ ap Some c.in-Ends.is) c.text_row-in-Ends.ensures

pub returns-in_default : goal.returns-in_default
unfolding part_read part_table
returns-in_default c = as_part c.args.s.now c.args.table.now c.args.here c.end-start.ensures c.f_string_part.ensures c.in_default.is (c.refuse.ensures, refl)
