-- The answers of (a) and (b), for computing: none where the fuel is spent.
use Rattle.std.specs.Prelude.{Ok, Err, List, Bool, ℕ, length, replicate}
use Rattle.std.proofs.Math.Option.{Option, none, some}
use Rattle.chars.specs.declared.Answer.{Answer}
use Rattle.tokens.specs.Results.{Whole}
use Rattle.tokens.specs.Tokens.{whole_of, refusal}
use Rattle.grammar.specs.Answers as grammar
use Rattle.grammar.specs.Compute.{answer}
use Rattle.answers.specs.Source.{source}
use Rattle.answers.specs.Entries.{answer_for, table_for}

pub record Outcome : Type 0 where
  pub answer : Answer
  pub table : List ℕ

module _ (s : List ℕ) (size : ℕ) where
  abbrev pub outcome_of : Option grammar.Answer → Option Outcome
  outcome_of none = none
  outcome_of (some g) = some (record { answer = answer_for (length s) size g; table = table_for size g })

  module _ (fuel : ℕ) (tests tree : Bool) where
    abbrev pub outcome_after : Whole → Option Outcome
    outcome_after (Err r) = some (record { answer = refusal r; table = replicate size 0 })
    outcome_after (Ok tt) = outcome_of (answer (source s) tests tree (length s) fuel 0)

    unfoldable pub outcome : Option Outcome
    outcome = outcome_after (whole_of s)
