-- Whole declarations, and then one that is refused: (a) refuses the source so.
use mathlib.Core.Path.{◌≡◌, refl, sym, ap, subst, ◌∙◌}
use mathlib.Core.List.{List, [], ◌∷◌}
use mathlib.Core.Bool.{Bool, true, false}
use mathlib.Core.Option.{none, some}
use Prim.Native.Nat.{ℕ, ◌<◌}
use lib.Dec.{T}
use Rattle.grammar.specs.Words.{'const', 'fn', 'import', 'test', filter_words}
use Rattle.grammar.specs.Grammar.{Symbol, Look, found, over, wrong, Stream, Parts, node, end, one_of}
use Rattle.grammar.specs.Limits.{Counts, zeros, inside}
use Rattle.grammar.specs.Table.{a}
use Rattle.grammar.specs.Kinds.{TREE, DECLARATIONS, DECLARATION}
use Rattle.grammar.specs.Choice.{chosen}
use Rattle.grammar.specs.Language.{roto}
use Rattle.grammar.specs.Readings.{peek, reads_end, reads_phrase}
use Rattle.grammar.specs.Runs.{view, Run}
use Rattle.grammar.specs.Refusals.{Why, want, amiss, Refusal, said, Stops, stops_none, stops_in, stops_after}
use Rattle.grammar.specs.Answers.{refused, Answers, stops, leaves}
use Rattle.grammar.proofs.Refused.{clash, not_both}
use Rattle.grammar.proofs.Picked.{picks_on, picks_off, on_place, off_place}
use Rattle.keeping.specs.Kept as kept
use Rattle.keeping.specs.Kept.{Kept, more}
use Rattle.keeping.proofs.Runs.{declaration_runs}

abbrev firsts : List ℕ
firsts = 'const' ∷ 'fn' ∷ 'import' ∷ 'test' ∷ filter_words

abbrev both : List Symbol
both = a DECLARATION ∷ a DECLARATIONS ∷ []

-- which alternatives a reader takes, by whether a word begins a declaration
list_on : (b : Bool) → T (picks_on (roto b) DECLARATIONS (some both) firsts)
unfolding roto picks_on
list_on true = tt
list_on false = tt

list_off : (b : Bool) → T (picks_off (roto b) DECLARATIONS (some []) 100 firsts)
unfolding roto picks_off
list_off true = tt
list_off false = tt

one_off : (b : Bool) → T (picks_off (roto b) DECLARATION none 100 firsts)
unfolding roto picks_off
one_off true = tt
one_off false = tt

tree_any : (b : Bool) → T (picks_off (roto b) TREE (some (a DECLARATIONS ∷ [])) 100 [])
unfolding roto picks_off
tree_any true = tt
tree_any false = tt

module _ (S : Stream) (b : Bool) (small : (i : S.Place) → peek S (roto b) i < 100) where
  -- a declaration begins at a place, or none does
  data At (i : S.Place) : Type 0 where
    begins : chosen (roto b) DECLARATIONS (view S (roto b) i) ≡ some both → At i
    begins_not : chosen (roto b) DECLARATIONS (view S (roto b) i) ≡ some [] → chosen (roto b) DECLARATION (view S (roto b) i) ≡ none → At i

  at : (i : S.Place) → At i
  at i = by (one_of (peek S (roto b) i) firsts) refl
    where
      by : (c : Bool) → one_of (peek S (roto b) i) firsts ≡ c → At i
      by true e = begins (on_place (roto b) DECLARATIONS (some both) S firsts i (list_on b) (subst T (sym e) tt))
      by false e = begins_not (off_place (roto b) DECLARATIONS (some []) S 100 firsts i (list_off b) (small i) (λ h. subst T e h)) (off_place (roto b) DECLARATION none S 100 firsts i (one_off b) (small i) (λ h. subst T e h))

  run_begins : {d : Counts} {i r : S.Place} {p : Parts} → Run S (roto b) d (a DECLARATION ∷ []) i r p → chosen (roto b) DECLARATIONS (view S (roto b) i) ≡ some both
  run_begins {i = i} (reads_phrase o t u) = by (at i)
    where
      by : At i → chosen (roto b) DECLARATIONS (view S (roto b) i) ≡ some both
      by (begins e) = e
      by (begins_not e f) = clash S (roto b) f o

  -- the list of them, up to a place where what stands behind is refused
  on_to : {d : Counts} {i r z : S.Place} {p : Parts} {y : Why} → Run S (roto b) d (a DECLARATION ∷ []) i r p → Stops S (roto b) d (a DECLARATIONS ∷ []) r z y → Stops S (roto b) d (a DECLARATIONS ∷ []) i z y
  unfolding inside
  on_to (reads_phrase o t reads_end) f = stops_in (run_begins (reads_phrase o t reads_end)) (stops_after o t f)

  none_behind : {A : Type 0} {d : Counts} {i z : S.Place} {y : Why} → Stops S (roto b) d [] i z y → A
  none_behind f = absurd (not_both S (roto b) reads_end f)

  first_of : {d : Counts} {i z : S.Place} {y : Why} → Stops S (roto b) d (a DECLARATION ∷ []) i z y → Stops S (roto b) d both i z y
  first_of (stops_none e) = stops_none e
  first_of (stops_in o f) = stops_in o f
  first_of (stops_after o t f) = none_behind f

  stops_list : {i m z : S.Place} {y : Why} → Kept S (roto b) i m → chosen (roto b) DECLARATIONS (view S (roto b) m) ≡ some both → Stops S (roto b) zeros (a DECLARATION ∷ []) m z y → Stops S (roto b) zeros (a DECLARATIONS ∷ []) i z y
  unfolding inside
  stops_list kept.none e f = stops_in e (first_of f)
  stops_list (more r k) e f = on_to (declaration_runs S b r).1 (stops_list k e f)

  runs_list : {i m : S.Place} → Kept S (roto b) i m → chosen (roto b) DECLARATIONS (view S (roto b) m) ≡ some [] → (p : Parts) × Run S (roto b) zeros (a DECLARATIONS ∷ []) i m p
  unfolding inside
  runs_list kept.none e = (node DECLARATIONS [] end end, reads_phrase e reads_end reads_end)
  runs_list (more r k) e = join (declaration_runs S b r).1 (runs_list k e)
    where
      join : {i j m : S.Place} {p : Parts} → Run S (roto b) zeros (a DECLARATION ∷ []) i j p → (q : Parts) × Run S (roto b) zeros (a DECLARATIONS ∷ []) j m q → (q : Parts) × Run S (roto b) zeros (a DECLARATIONS ∷ []) i m q
      join (reads_phrase {n = n} {a = c} {p = p} o t reads_end) u = (node DECLARATIONS both (node n c p u.0) end, reads_phrase (run_begins (reads_phrase o t reads_end)) (reads_phrase o t u.1) reads_end)

  -- where no declaration begins, the token there is refused either way
  amiss_there : {d : Counts} {m z : S.Place} {y : Why} → chosen (roto b) DECLARATION (view S (roto b) m) ≡ none → Stops S (roto b) d (a DECLARATION ∷ []) m z y → (z ≡ m) × (y ≡ amiss DECLARATION)
  amiss_there e (stops_none q) = (refl, refl)
  amiss_there e (stops_in o f) = clash S (roto b) e o
  amiss_there e (stops_after o t f) = clash S (roto b) e o

  same_said : (len : ℕ) (k : Look S.Place) → said len k (amiss DECLARATION) ≡ said len k (want [])
  same_said len (found x j) = refl
  same_said len over = refl
  same_said len (wrong n u v) = refl

  pub refusing : (len : ℕ) {i m z : S.Place} {y : Why} → Kept S (roto b) i m → (S.look m ≡ over → ⊥) → Stops S (roto b) zeros (a DECLARATION ∷ []) m z y → Answers S b true len i (refused (said len (S.look z) y))
  unfolding inside
  refusing len {i} {m} {z} {y} k h f = by (at m)
    where
      tree : chosen (roto b) TREE (view S (roto b) i) ≡ some (a DECLARATIONS ∷ [])
      tree = off_place (roto b) TREE (some (a DECLARATIONS ∷ [])) S 100 [] i (tree_any b) (small i) (λ q. q)

      by : At m → Answers S b true len i (refused (said len (S.look z) y))
      by (begins e) = stops (stops_in tree (stops_list k e f))
      by (begins_not e g) =
          let q = amiss_there g f in
          let u = runs_list k e in
          subst (λ (r : Refusal). Answers S b true len i (refused r)) (sym (ap (λ (x : S.Place). said len (S.look x) y) q.0 ∙ ap (said len (S.look m)) q.1 ∙ same_said len (S.look m))) (leaves (reads_phrase tree u.1 reads_end) h)
