-- Where declarations end before the source does.
use Rattle.std.specs.Prelude.{ℕ, Option}
use Rattle.tokens.specs.declared.Refusal.{Refusal}

-- From which byte on there is none, and the refusal that is met in it; none: they stand up to the end.
abbrev pub Break : Type 0
Break = Option (ℕ × Refusal)
