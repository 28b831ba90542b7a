-- The answer to a source, as far as its tokens go: accepted with rows, or refused with a number and a place.
use Rattle.std.specs.Prelude.{◌≡◌, List, [], Bool, ℕ}
use Rattle.grammar.specs.Grammar.{over, Stream, Parts}
use Rattle.grammar.specs.Limits.{zeros}
use Rattle.grammar.specs.Readings.{Text}
use Rattle.grammar.specs.Runs.{Run}
use Rattle.grammar.specs.Rows.{Row, rows}
use Rattle.grammar.specs.Refusals.{Why, want, Refusal, said, Stops}
use Rattle.grammar.specs.Language.{roto, goal, start}

pub data Answer : Type 0 where
  accepted : List Row → Answer
  refused : Refusal → Answer

-- `tests`: whether `test` is a declaration; `tree`: whether a tree is read, or one expression; `len`: the source's length.
module _ (S : Stream) (tests tree : Bool) (len : ℕ) where
  -- Accepted exactly when it has a reading, with that reading's rows. Refused where a reader stops, and at what is left
  -- over behind a whole phrase.
  pub data Answers (i : S.Place) : Answer → Type 0 where
    accepts : {p : Parts} → Text S (roto tests) (goal tree) i p → Answers i (accepted (rows tree len p))
    stops : {z : S.Place} {y : Why} → Stops S (roto tests) zeros (start tree) i z y → Answers i (refused (said len (S.look z) y))
    leaves : {r : S.Place} {p : Parts} → Run S (roto tests) zeros (start tree) i r p → (S.look r ≡ over → ⊥) → Answers i (refused (said len (S.look r) (want [])))
