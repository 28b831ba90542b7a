-- What a reader of one kind of phrase hands back, for its promise: the phrase with its rows, or a refusal.
use Rattle.std.specs.Prelude.{◌≡◌, List, [], ◌∷◌, ℕ}
use Rattle.grammar.specs.Grammar.{Scope, Stream, Symbol, phrase, Parts, Language}
use Rattle.grammar.specs.Limits.{Counts, inside}
use Rattle.grammar.specs.Runs.{Picks, Run}
use Rattle.grammar.specs.Refusals.{Why, Stops}
use Rattle.grammar.specs.Rows.{Draft, write, blank}

module _ (S : Stream) (l : Language) where
  -- A phrase of kind n is read from i up to z; b is what it has then: its rows, and those of them that have no parent.
  pub record Read (d : Counts) (o : Scope) (n : ℕ) (i z : S.Place) (b : Draft) : Type 0 where
    pub alternative : List Symbol
    pub parts : Parts
    pub picks : Picks S l n i alternative
    pub run : Run S l (inside o d) alternative i z parts
    pub draft : write parts blank ≡ b

  -- Reading a phrase of kind n at i stops at z for the reason y.
  abbrev pub Refused : Counts → Scope → ℕ → S.Place → S.Place → Why → Type 0
  Refused d o n i z y = Stops S l d (phrase o n ∷ []) i z y
