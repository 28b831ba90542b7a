use mathlib.Core.Path.{sym, ap, ◌∙◌}
use Prim.Native.Nat.{◌+◌, ◌-◌}
use native.Mathlib.Omega.{arith}
use lib.ListN.{take, drop}
use lib.Seq.{length-take-le}
use Rattle.addresses.specs.declared.Form.{Form}
use Rattle.addresses.specs.Groups.{heard}
use Rattle.addresses.specs.Addresses.{side_of}
use Rattle.numbers.proofs.Choices.{so}
use Rattle.numbers.proofs.Texts.{tail_part}
use Rattle.addresses.proofs.Sides.{heard_are, short_left, short_right, short_over, short_is}
use Rattle.addresses.proofs.shortened.Goals as goal

pub slice_bounds-side-end : goal.slice_bounds-side-end
slice_bounds-side-end c = sym (length-take-le c.args.at c.args.t.now (omega arith))

pub returns-in_err-count : goal.returns-in_err-count
returns-in_err-count c = c.from_residual.ensures ∙ short_left c.requires.whole_bound (side_of (take c.args.at c.args.t.now)) (side_of (drop (c.args.at + 2) c.args.t.now)) _ _ (so c.side.ensures c.in_err-count.was)

pub returns-in_err-right : goal.returns-in_err-right
returns-in_err-right c = c.from_residual-in_err-right.ensures ∙ short_right c.requires.whole_bound (side_of (take c.args.at c.args.t.now)) (side_of (drop (c.args.at + 2) c.args.t.now)) _ _ (so (c.side-2.ensures ∙ ap (λ l. heard Form.Hexed 0 c.in_ok-count.wide (side_of l)) (tail_part c.args.t.now (c.args.at + 2))) c.in_err-right.was)

pub overflow_add-count : goal.overflow_add-count
overflow_add-count c = omega (arith, (heard_are Form.Hexed 0 _ (side_of (take c.args.at c.args.t.now)) (so c.side.ensures c.in_ok-count.was)).few, (heard_are Form.Hexed 0 _ (side_of (drop (c.args.at + 2) c.args.t.now)) (so (c.side-2.ensures ∙ ap (λ l. heard Form.Hexed 0 c.in_ok-count.wide (side_of l)) (tail_part c.args.t.now (c.args.at + 2))) c.in_ok-right.was)).few)

pub returns-then-whole-count : goal.returns-then-whole-count
returns-then-whole-count c = short_over c.requires.whole_bound (side_of (take c.args.at c.args.t.now)) (side_of (drop (c.args.at + 2) c.args.t.now)) _ (heard_are Form.Hexed 0 _ (side_of (take c.args.at c.args.t.now)) (so c.side.ensures c.in_ok-count.was)) (heard_are Form.Hexed 0 _ (side_of (drop (c.args.at + 2) c.args.t.now)) (so (c.side-2.ensures ∙ ap (λ l. heard Form.Hexed 0 c.in_ok-count.wide (side_of l)) (tail_part c.args.t.now (c.args.at + 2))) c.in_ok-right.was)) c.if-whole-count.true

pub returns : goal.returns
returns c = short_is c.requires.whole_bound (side_of (take c.args.at c.args.t.now)) (side_of (drop (c.args.at + 2) c.args.t.now)) _ (heard_are Form.Hexed 0 _ (side_of (take c.args.at c.args.t.now)) (so c.side.ensures c.in_ok-count.was)) (heard_are Form.Hexed 0 _ (side_of (drop (c.args.at + 2) c.args.t.now)) (so (c.side-2.ensures ∙ ap (λ l. heard Form.Hexed 0 c.in_ok-count.wide (side_of l)) (tail_part c.args.t.now (c.args.at + 2))) c.in_ok-right.was)) c.if-whole-count.false c.zeros-filled.ensures (c.side-3.ensures ∙ ap (λ l. heard Form.Hexed (c.args.whole - c.in_ok-right.right) c.zeros-filled.result (side_of l)) (tail_part c.args.t.now (c.args.at + 2)))
