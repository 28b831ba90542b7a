use mathlib.Core.Path.{refl, sym, ap, ◌∙◌}
use Prim.Native.Nat.{ℕ}
use lib.ListN.{length, replicate}
use native.Mathlib.Omega.{arith}
use Rattle.entry.proofs.Stored.{zeroed_all}
use Rattle.setter.proofs.Said.{standing, prints_unread, prints_planless, prints_refused, prints_set}
use Rattle.setter.proofs.entries.print_tree.Goals as goal

pub returns-then-read-ne-NONE : goal.returns-then-read-ne-NONE
returns-then-read-ne-NONE c = prints_unread c.args.s.now (length c.old_tree-read.new.table) (length c.args.plan.now) (length c.args.text.now) c.old_tree-read.ensures c.if-read-ne-NONE.true c.refused.ensures c.old_tree-read.auto.table refl refl

pub returns-then-plan-read : goal.returns-then-plan-read
returns-then-plan-read c = prints_planless c.args.s.now (length c.old_tree-read.new.table) (length c.args.plan.now) (length c.args.text.now) c.old_tree-read.ensures c.if-read-ne-NONE.false c.if-plan-read.true c.no_room.ensures c.refused-then-plan-read.ensures c.old_tree-read.auto.table refl refl

pub set_rows-set-requires : goal.set_rows-set-requires
set_rows-set-requires c = record { standing = standing c.args.s.now _ c.old_tree-read.ensures c.if-read-ne-NONE.false; count_in_bounds = omega arith; text_value = c.clear.ensures ∙ ap (λ (k : ℕ). replicate k 0) (sym c.clear.auto.text) }

pub returns-then-set-ne-NONE : goal.returns-then-set-ne-NONE
returns-then-set-ne-NONE c = prints_refused c.args.s.now (length c.old_tree-read.new.table) (length c.set_rows-set.new.plan) (length c.set_rows-set.new.text) c.old_tree-read.ensures c.if-read-ne-NONE.false (omega (arith, c.if-plan-read.false)) c.set_rows-set.ensures c.clear.auto.text c.if-set-ne-NONE.true refl c.refused-then-set-ne-NONE.ensures c.old_tree-read.auto.table c.set_rows-set.auto.plan (c.set_rows-set.auto.text ∙ c.clear.auto.text)

pub returns : goal.returns
returns c = prints_set c.args.s.now (length c.set_rows-set.new.plan) c.old_tree-read.ensures c.if-read-ne-NONE.false (omega (arith, c.if-plan-read.false)) c.set_rows-set.ensures c.clear.auto.text c.if-set-ne-NONE.false (c.clear-2.ensures ∙ zeroed_all _) c.set_rows-set.auto.plan
