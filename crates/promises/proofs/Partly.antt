-- The answers of readers of a part, taken apart at each use.
use Rattle.std.specs.Prelude.{Ok, Err}
use mathlib.Core.Path.{◌≡◌, sym, subst}
use mathlib.Core.List.{List, ◌∷◌}
use Prim.Native.Nat.{ℕ}
use Rattle.tokens.specs.declared.Refusal.{Refusal}
use Rattle.grammar.specs.Grammar.{Scope, Symbol, phrase}
use Rattle.grammar.specs.Limits.{Counts, inside}
use Rattle.grammar.proofs.Open.{Left}
use Rattle.parser.specs.declared.Here.{Here}
use Rattle.parser.specs.declared.Node.{Node}
use Rattle.parser.specs.Results.{Read}
use Rattle.parser.specs.Going.{Tally, Phrase, Going, Stopped, Answers}
use Rattle.parser.proofs.Going.{at, next_phrase, refuses_in, stopped_of, stopped}
use Rattle.promises.specs.Promises.{PartlyIs, Partly}

module _ {f : Phrase} {r : Read} {t : List ℕ} {G : Node → Here → Type 0} where
  pub partly_of : {m : Node} {h : Here} → Partly f r t G → r ≡ Ok (m, h) → G m h
  partly_of u e = subst (λ (x : Read). PartlyIs f x t G) e u.is

  pub partly_stopped : {e : Refusal} → Partly f r t G → r ≡ Err e → Stopped f e t
  partly_stopped u e = subst (λ (x : Read). PartlyIs f x t G) e u.is

  pub partly : {m : Node} {h : Here} → r ≡ Ok (m, h) → G m h → Partly f r t G
  partly e u = record { is = subst (λ (x : Read). PartlyIs f x t G) (sym e) u }

  pub partly_stops : {e : Refusal} → r ≡ Err e → Stopped f e t → Partly f r t G
  partly_stops e u = record { is = subst (λ (x : Read). PartlyIs f x t G) (sym e) u }

-- a part's refusal is the phrase's, and the other way
pub stops_partly : {f : Phrase} {r : Read} {t : List ℕ} {G H : Node → Here → Type 0} {e : Refusal} → Partly f r t G → r ≡ Err e → Partly f r t H
stops_partly u e = partly_stops e (partly_stopped u e)

pub stops_answer : {f : Phrase} {k : ℕ} {r : Read} {t : List ℕ} {G : Node → Here → Type 0} {e : Refusal} → Partly f r t G → r ≡ Err e → Answers f k r t
stops_answer u e = stopped e (partly_stopped u e)

-- the refusal of a phrase in it
pub relays_partly : {f : Phrase} {d : Counts} {ks : List Left} {h : Here} {t : List ℕ} {y : Tally} {v k : ℕ} {ss : List Symbol} {o : Scope} {n j : ℕ} {d' : Counts} {r : Read} {t' : List ℕ} {e : Refusal} {G : Node → Here → Type 0} → Going f (at d (phrase o n ∷ ss) ∷ ks) h t y v k → inside o d ≡ d' → Answers (next_phrase f d' n h t) j r t' → r ≡ Err e → Partly f r t' G
relays_partly g q u e = partly_stops e (refuses_in g q (stopped_of u e))
