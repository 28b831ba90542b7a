-- The small texts have these answers: computed.
use mathlib.Core.Path.{◌≡◌, refl}
use mathlib.Core.List.{[], ◌∷◌}
use Rattle.grammar.specs.Limits.{after, inside, kept}
use Rattle.grammar.specs.Rows.{numbers, row_of, take_note, add_token, write, rows_from, rows, phrase_row, is_path}
use Rattle.grammar.specs.Language.{roto}
use Rattle.grammar.specs.Compute.{run, answer}
use Rattle.grammar.specs.Samples.{samples, Holds}

pub sampled : Holds samples
unfolding after inside kept row_of take_note add_token write rows_from rows phrase_row is_path roto run answer
sampled = (refl, (refl, (refl, (refl, (refl, (refl, (refl, tt)))))))

-- "kind, start, end, children, value, detail", and behind them C-14's "seventh number"
pub in_order : numbers (record { kind = 1; start = 2; end = 3; children = 4; value = 5; detail = 6; size = 7 }) ≡ 1 ∷ 2 ∷ 3 ∷ 4 ∷ 5 ∷ 6 ∷ 7 ∷ []
in_order = refl
