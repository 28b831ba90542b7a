-- What a predictive reader does: of the alternatives of a kind it takes the one that is asked for by what stands there,
-- and behind a phrase that is no path it stops at an assignment sign.
use Rattle.std.specs.Prelude.{◌≡◌, List, Bool, not, ◌||◌, ℕ}
use Rattle.std.proofs.Math.Option.{some}
use Rattle.grammar.specs.Words.{the_end, no_token}
use Rattle.grammar.specs.Grammar.{Ask, Symbol, Token, Look, found, over, wrong, Stream, Parts, View, Language, one_of}
use Rattle.grammar.specs.Limits.{Counts, kept}
use Rattle.grammar.specs.Choice.{see, chosen}
use Rattle.grammar.specs.Readings.{peek, Reads}

module _ (S : Stream) (l : Language) where
  abbrev pub viewed : Look S.Place → View
  viewed (found x j) = see l x.word (peek S l j)
  viewed over = see l the_end 0
  viewed (wrong n a b) = see l no_token 0

  abbrev pub view : S.Place → View
  view i = viewed (S.look i)

  abbrev pub Picks : ℕ → S.Place → List Symbol → Type 0
  Picks n i a = chosen l n (view i) ≡ some a

  abbrev pub may : Bool → ℕ → Bool
  may b c = b || not (one_of c l.assigns)

  abbrev pub RunBy : (Ask → Counts → Token → Bool) → Counts → List Symbol → S.Place → S.Place → Parts → Type 0
  RunBy G = Reads S l G may Picks

  abbrev pub Run : Counts → List Symbol → S.Place → S.Place → Parts → Type 0
  Run = RunBy kept
