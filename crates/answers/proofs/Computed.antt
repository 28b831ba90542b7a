-- A computed outcome is permitted; and so is each of a table's.
use Rattle.std.specs.Prelude.{Ok, Err}
use mathlib.Core.Path.{◌≡◌, refl, subst}
use mathlib.Core.List.{List, [], ◌∷◌}
use mathlib.Core.Bool.{Bool}
use mathlib.Core.Option.{Option, none, some}
use Prim.Native.Nat.{ℕ}
use lib.ListN.{length, replicate}
use native.Mathlib.Omega.{arith}
use Rattle.chars.specs.declared.Answer.{Answer}
use Rattle.tokens.specs.Results.{Whole}
use Rattle.tokens.specs.Tokens.{whole_of, refusal}
use Rattle.grammar.specs.Answers as grammar
use Rattle.grammar.specs.Compute.{answer}
use Rattle.grammar.proofs.Computed.{answer_means}
use Rattle.answers.specs.Source.{source}
use Rattle.answers.specs.Entries.{Permitted, early, read, answer_for, table_for}
use Rattle.answers.specs.Compute.{Outcome, outcome_of, outcome_after, outcome}
use Rattle.answers.specs.Cases.{Case, Each, table}

module _ (s : List ℕ) (size fuel : ℕ) (tests tree : Bool) where
  of_means : {o : Outcome} (g : Option grammar.Answer) → answer (source s) tests tree (length s) fuel 0 ≡ g → whole_of s ≡ (Ok tt) → outcome_of s size g ≡ some o → Permitted tests tree s size o.answer o.table
  of_means none e f q = let z : ◌≡◌ {A = ℕ} 0 1 = cc in absurd (omega arith)
  of_means {o} (some g) e f q =
      let z : record { answer = answer_for (length s) size g; table = table_for size g } ≡ o = cc in
      subst (λ (x : Outcome). Permitted tests tree s size x.answer x.table) z (read f (answer_means (source s) tests tree (length s) fuel e))

  after_means : {o : Outcome} (w : Whole) → whole_of s ≡ w → outcome_after s size fuel tests tree w ≡ some o → Permitted tests tree s size o.answer o.table
  after_means {o} (Err r) e q =
      let z : record { answer = refusal r; table = replicate size 0 } ≡ o = cc in
      subst (λ (x : Outcome). Permitted tests tree s size x.answer x.table) z (early e)
  after_means (Ok tt) e q = of_means (answer (source s) tests tree (length s) fuel 0) refl e q

  pub outcome_means : {o : Outcome} → outcome s size fuel tests tree ≡ some o → Permitted tests tree s size o.answer o.table
  unfolding outcome
  outcome_means q = after_means (whole_of s) refl q

-- the outcomes of a table, and those that it states
unfoldable pub computed : ℕ → List Case → List (Option Outcome)
computed fuel [] = []
computed fuel (c ∷ cs) = outcome c.source c.size fuel c.tests c.tree ∷ computed fuel cs

unfoldable pub stated : List Case → List (Option Outcome)
stated [] = []
stated (c ∷ cs) = some (record { answer = c.answer; table = table c.size c.rows }) ∷ stated cs

pub each_means : (fuel : ℕ) (cs : List Case) → computed fuel cs ≡ stated cs → Each cs
unfolding computed stated
each_means fuel [] e = tt
each_means fuel (c ∷ cs) e =
    let a : outcome c.source c.size fuel c.tests c.tree ≡ some (record { answer = c.answer; table = table c.size c.rows }) = cc in
    let b : computed fuel cs ≡ stated cs = cc in
    (outcome_means c.source c.size fuel c.tests c.tree a, each_means fuel cs b)
