-- Which alternative a kind has where a reader stands, from what was computed once for the kind.
use mathlib.Core.Path.{◌≡◌, sym, subst}
use mathlib.Core.List.{List, [], ◌∷◌}
use mathlib.Core.Option.{Option, none, some}
use Prim.Native.Nat.{ℕ, ◌<◌}
use mathlib.Core.Bool.{true}
use lib.Dec.{T}
use Rattle.grammar.specs.Grammar.{Scope, Symbol, phrase, one_of}
use Rattle.grammar.specs.Limits.{Counts, inside}
use Rattle.grammar.specs.Table.{rest_kinds}
use Rattle.grammar.specs.Choice.{chosen}
use Rattle.grammar.specs.Runs.{view}
use Rattle.grammar.proofs.Open.{Left}
use Rattle.grammar.proofs.Picked.{picks_on, picks_off, on_place, off_place}
use Rattle.answers.specs.Source.{source}
use Rattle.parser.specs.declared.Here.{Here}
use Rattle.parser.specs.Places.{word_of, unused_at}
use Rattle.parser.specs.Going.{language, Stands, Tally, bare, Phrase, Going, Stopped}
use Rattle.parser.proofs.Standing.{peeks, word_small}
use Rattle.parser.proofs.Going.{at, begins, into, refuses_kind}

-- computed of a kind: where one of these words stands, it has this alternative (or none); where none of them does
pub record On (n : ℕ) (o : Option (List Symbol)) (w : List ℕ) : Type 0 where
  pub computed : T (picks_on language n o w)

pub record Off (n : ℕ) (o : Option (List Symbol)) (w : List ℕ) : Type 0 where
  pub computed : T (picks_off language n o 100 w)

module _ (s : List ℕ) {h : Here} (g : Stands s h) {n : ℕ} {o : Option (List Symbol)} {w : List ℕ} where
  pub picks_at : On n o w → T (one_of (word_of h) w) → chosen language n (view (source s) language h.place) ≡ o
  picks_at t m = on_place language n o (source s) w h.place t.computed (subst (λ (x : ℕ). T (one_of x w)) (sym (peeks g)) m)

  pub picks_else : Off n o w → (T (one_of (word_of h) w) → ⊥) → chosen language n (view (source s) language h.place) ≡ o
  picks_else t m = off_place language n o (source s) 100 w h.place t.computed (subst (λ (x : ℕ). x < 100) (sym (peeks g)) (word_small g)) (λ q. m (subst (λ (x : ℕ). T (one_of x w)) (peeks g) q))

-- a reader begins: at one of these words; at none of them; whatever stands there
module _ {f : Phrase} {c : List Symbol} {w : List ℕ} where
  pub begins_on : On f.kind (some c) w → Stands f.text f.from → T (one_of (word_of f.from) w) → Going f (at f.counts c ∷ []) f.from f.table bare 0 0
  begins_on t g m = begins f c g (picks_at f.text g t m)

  pub begins_off : Off f.kind (some c) w → Stands f.text f.from → (T (one_of (word_of f.from) w) → ⊥) → Going f (at f.counts c ∷ []) f.from f.table bare 0 0
  begins_off t g m = begins f c g (picks_else f.text g t m)

pub begins_any : {f : Phrase} {c : List Symbol} → Off f.kind (some c) [] → Stands f.text f.from → Going f (at f.counts c ∷ []) f.from f.table bare 0 0
begins_any t g = begins_off t g (λ x. x)

-- into the rest of a phrase
module _ {f : Phrase} {d : Counts} {ks : List Left} {h : Here} {t : List ℕ} {y : Tally} {v k : ℕ} {ss : List Symbol} {o : Scope} {n : ℕ} {c : List Symbol} {w : List ℕ} where
  pub into_on : On n (some c) w → one_of n rest_kinds ≡ true → T (one_of (word_of h) w) → Going f (at d (phrase o n ∷ ss) ∷ ks) h t y v k → Going f (at (inside o d) c ∷ at d ss ∷ ks) h t y v k
  into_on p r m g = into c r (picks_at f.text g.stands p m) g

  pub into_off : Off n (some c) w → one_of n rest_kinds ≡ true → (T (one_of (word_of h) w) → ⊥) → Going f (at d (phrase o n ∷ ss) ∷ ks) h t y v k → Going f (at (inside o d) c ∷ at d ss ∷ ks) h t y v k
  into_off p r m g = into c r (picks_else f.text g.stands p m) g

-- none of its words stands there
pub refuses_off : {f : Phrase} {d : Counts} {ks : List Left} {h : Here} {t : List ℕ} {y : Tally} {v k : ℕ} {ss : List Symbol} {o : Scope} {n : ℕ} {w : List ℕ} → Off n none w → (T (one_of (word_of h) w) → ⊥) → Going f (at d (phrase o n ∷ ss) ∷ ks) h t y v k → Stopped f (unused_at h) t
refuses_off {f} p m g = refuses_kind g (picks_else f.text g.stands p m)
