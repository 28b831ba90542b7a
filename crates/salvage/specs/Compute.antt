-- Salvaging as one function, for computing; none where the fuel is spent. Not to be believed: proofs/Computed.antt says what it means.
use Rattle.std.specs.Prelude.{List, [], ◌∷◌, Bool, true, false, ℕ, zero, suc, length}
use Rattle.std.proofs.Math.Option.{Option, none, some}
use Rattle.tokens.specs.Blanks.{skip_all}
use Rattle.grammar.specs.Grammar.{Look, found, over, wrong}
use Rattle.grammar.specs.Limits.{zeros}
use Rattle.grammar.specs.Table.{a}
use Rattle.grammar.specs.Kinds.{DECLARATION}
use Rattle.grammar.specs.Language.{roto}
use Rattle.grammar.specs.Refusals.{Refusal, said}
use Rattle.grammar.specs.Compute.{done, fail, spent, run}
use Rattle.answers.specs.Source.{source}
use Rattle.salvage.specs.Salvage.{end_of, blanked, Range, range}

-- What stands from a place on: declarations up to the end, or up to a break; or it isn't known.
pub data Found : Type 0 where
  to_end : Found
  to_break : ℕ → Refusal → Found
  unknown : Found

pub record Result : Type 0 where
  pub ranges : List Range
  pub text : List ℕ

abbrev pub with_range : Range → Option Result → Option Result
with_range r none = none
with_range r (some x) = some (record { ranges = r ∷ x.ranges; text = x.text })

abbrev pub is_over : Look ℕ → Bool
is_over (found x j) = false
is_over over = true
is_over (wrong n b e) = false

module _ (tests : Bool) (fuel : ℕ) where
  module _ (s : List ℕ) where
    unfoldable pub read : ℕ → ℕ → Found
    read zero i = unknown
    read (suc n) i =
        elim (is_over ((source s).look i)) [
          | true ↦ to_end
          | false ↦ elim (run (source s) (roto tests) fuel zeros (a DECLARATION ∷ []) i) [ done p m ↦ read n m | fail z y ↦ to_break (skip_all s i) (said (length s) ((source s).look z) y) | spent ↦ unknown ]
        ]

  unfoldable pub salvaged : ℕ → List ℕ → ℕ → Option Result
  salvaged zero s i = none
  salvaged (suc n) s i =
      elim (read s n i) [
        | to_end ↦ some (record { ranges = []; text = s })
        | to_break first r ↦ with_range (range first (end_of s first r) r) (salvaged n (blanked s first (end_of s first r)) (end_of s first r))
        | unknown ↦ none
      ]
