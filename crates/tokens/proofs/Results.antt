-- The parts of what a rule or a step answers. (`cc` looks into constructors, and a tuple has none.)
use Rattle.std.specs.Prelude.{ℕ, Some, None, Ok, Err}
use Rattle.tokens.specs.Results.{Fit, Step}

abbrev pub fit_end : Fit → ℕ
fit_end (Some (e, w)) = e
fit_end None = 0

abbrev pub fit_word : Fit → ℕ
fit_word (Some (e, w)) = w
fit_word None = 0

abbrev pub taken_word : Step → ℕ
taken_word (Ok (w, a, n)) = w
taken_word (Err r) = 0

abbrev pub taken_start : Step → ℕ
taken_start (Ok (w, a, n)) = a
taken_start (Err r) = 0

abbrev pub taken_end : Step → ℕ
taken_end (Ok (w, a, n)) = n.at
taken_end (Err r) = 0
