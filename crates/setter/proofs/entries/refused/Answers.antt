use mathlib.Core.Path.{◌∙◌}
use Rattle.entry.proofs.Stored.{zeroed_all}
use Rattle.setter.proofs.entries.refused.Goals as goal

pub returns : goal.returns
returns c = (c.with_tests.ensures.0, c.with_tests.ensures.1, c.clear.ensures ∙ zeroed_all _, c.clear-2.ensures ∙ zeroed_all _, c.clear-3.ensures)
