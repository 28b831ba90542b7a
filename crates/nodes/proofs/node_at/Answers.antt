use mathlib.Core.Path.{sym, subst}
use native.Mathlib.Omega.{arith}
use Rattle.nodes.specs.Search.{Search}
use Rattle.nodes.proofs.Turns.{at_wrong, goes_past, at_leaf, goes_before, no_row}
use Rattle.nodes.proofs.node_at.Goals as goal

pub returns-then-wrong_size : goal.returns-then-wrong_size
returns-then-wrong_size c = c.loop-row.invariant.1 _ (subst (Search _ _ _) (sym c.refused.ensures) (at_wrong _ _ _ _ (omega arith) c.at-node.ensures c.wrong_size.ensures c.if-wrong_size.true))

pub loop-row-preserved-then-not-holds : goal.loop-row-preserved-then-not-holds
loop-row-preserved-then-not-holds c = (omega (arith, c.loop-row.invariant.0), λ a s. c.loop-row.invariant.1 a (goes_past _ _ _ _ (omega arith) c.at-node.ensures c.wrong_size.ensures c.if-wrong_size.false c.holds.ensures c.if-not-holds.true s))

pub returns-then-is_leaf : goal.returns-then-is_leaf
returns-then-is_leaf c = c.loop-row.invariant.1 _ (subst (Search _ _ _) (sym c.accepted.ensures) (at_leaf _ _ _ _ (omega arith) c.at-node.ensures c.wrong_size.ensures c.if-wrong_size.false c.holds.ensures c.if-not-holds.false c.is_leaf.ensures c.if-is_leaf.true))

pub loop-row-preserved : goal.loop-row-preserved
loop-row-preserved c = (omega (arith, c.loop-row.invariant.0), λ a s. c.loop-row.invariant.1 a (goes_before _ _ _ _ (omega arith) c.at-node.ensures c.wrong_size.ensures c.if-wrong_size.false c.holds.ensures c.if-not-holds.false c.is_leaf.ensures c.if-is_leaf.false s))

pub returns : goal.returns
returns c = c.loop-row.invariant.1 _ (subst (Search _ _ _) (sym c.refused-2.ensures) (no_row _ _ _ (omega arith)))
