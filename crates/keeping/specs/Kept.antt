-- Declarations one after the other.
use Rattle.std.specs.Prelude.{[], ◌∷◌, ◌≡◌}
use Rattle.grammar.specs.Grammar.{over, Stream, Parts, Language}
use Rattle.grammar.specs.Limits.{zeros}
use Rattle.grammar.specs.Table.{a}
use Rattle.grammar.specs.Kinds.{DECLARATION}
use Rattle.grammar.specs.Readings.{Reading}

module _ (S : Stream) (l : Language) where
  -- from i up to m stand whole declarations
  pub data Kept : S.Place → S.Place → Type 0 where
    none : {i : S.Place} → Kept i i
    more : {i j m : S.Place} {p : Parts} → Reading S l zeros (a DECLARATION ∷ []) i j p → Kept j m → Kept i m

  -- and behind them nothing stands
  pub record Ends (i : S.Place) : Type 0 where
    pub stop : S.Place
    pub kept : Kept i stop
    pub whole : S.look stop ≡ over
