use mathlib.Core.Path.{◌∙◌}
use native.Mathlib.Omega.{arith}
use Rattle.layouts.proofs.Levels.{root_low}
use Rattle.layouts.proofs.waiting_root.Goals as goal

pub waiting-requires : goal.waiting-requires
waiting-requires c = record { words_lt_past_three = omega arith; level_bound = root_low _ c.whole.ensures }

pub returns : goal.returns
returns c = (c.waiting.ensures.0 ∙ c.whole.ensures, c.waiting.ensures.1)
