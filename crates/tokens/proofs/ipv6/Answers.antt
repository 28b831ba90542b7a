use mathlib.Core.Path.{◌∙◌}
use Rattle.tokens.proofs.Fits.{so}
use Rattle.tokens.proofs.Rules.{ipv6_none, ipv6_three, ipv6_hex, ipv6_dotted}
use Rattle.tokens.proofs.ipv6.Goals as goal

pub returns-in_err-end : goal.returns-in_err-end
returns-in_err-end c = c.from_residual.ensures ∙ ipv6_none _ _ (so c.colons.ensures c.in_err-end.was)

pub returns-in_default : goal.returns-in_default
returns-in_default c = ipv6_three _ _ (so c.colons.ensures c.in_ok-end.was) (so c.three_dotted.ensures c.in_default.is)

pub returns-then-decimal_group : goal.returns-then-decimal_group
returns-then-decimal_group c = ipv6_dotted _ _ (so c.colons.ensures c.in_ok-end.was) c.decimal_group.ensures c.if-decimal_group.true (so c.three_dotted.ensures c.in-Some.is)

pub returns-else-decimal_group : goal.returns-else-decimal_group
returns-else-decimal_group c = ipv6_hex _ _ (so c.colons.ensures c.in_ok-end.was) c.decimal_group.ensures c.if-decimal_group.false
