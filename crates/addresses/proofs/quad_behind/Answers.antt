use mathlib.Core.Path.{ap, ◌∙◌}
use native.Mathlib.Omega.{arith}
use lib.ListN.{drop, length-drop}
use Rattle.numbers.proofs.Texts.{tail_part}
use Rattle.addresses.specs.Addresses.{quad_of}
use Rattle.addresses.proofs.Quads.{short_quad}
use Rattle.addresses.proofs.quad_behind.Goals as goal

pub returns-then-t-at-lt7 : goal.returns-then-t-at-lt7
returns-then-t-at-lt7 c = short_quad (drop c.args.at c.args.t.now) (omega (arith, length-drop c.args.at c.args.t.now))

pub returns : goal.returns
returns c = c.ipv4.ensures ∙ ap quad_of (tail_part c.args.t.now c.args.at)
