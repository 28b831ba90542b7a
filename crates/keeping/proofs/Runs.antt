-- A reading of a declaration is what a reader takes, whatever stands behind it; so there is one, and none where a reader stops.
use mathlib.Core.Path.{◌≡◌, refl, sym, subst}
use mathlib.Core.List.{List, [], ◌∷◌, ◌++◌}
use mathlib.Core.Bool.{Bool, true, false}
use mathlib.Core.Option.{some}
use mathlib.Core.Logic.{◌⊎◌, inl, inr}
use Prim.Native.Nat.{ℕ}
use lib.Dec.{T}
use Rattle.rows.specs.Kinds as kinds
use Rattle.grammar.specs.Words.{open_brace, close_brace, ':', semicolon, '=', 'const', 'fn', 'import', 'test', filter_words}
use Rattle.grammar.specs.Grammar.{Ask, same, Symbol, token, phrase, note, Look, Stream, Parts, end, leaf, node, mark, View, one_of, alternatives, In, here, there}
use Rattle.grammar.specs.Limits.{Counts, inside, after}
use Rattle.grammar.specs.Table.{word, one, opens, closes, row, a}
use Rattle.grammar.specs.Kinds.{records, DECLARATION, NAME, PARAMS, RESULT, BLOCK, IMPORT, IMPORTED, TYPE, EXPR, STATEMENTS}
use Rattle.grammar.specs.Choice.{eqv, chosen}
use Rattle.grammar.specs.Language.{roto}
use Rattle.grammar.specs.Readings.{word_of_lem, peek, reads_end, reads_token, reads_phrase, reads_note, Reading}
use Rattle.grammar.specs.Runs.{view, Run}
use Rattle.grammar.specs.Refusals.{Why, Stops}
use Rattle.grammar.proofs.Bools.{or_l}
use Rattle.grammar.proofs.Good.{closed}
use Rattle.grammar.proofs.Core.{eqv_refl, complete, one_run}
use Rattle.grammar.proofs.Refused.{not_both}
use Rattle.grammar.proofs.Checks.{roto_good}
use Rattle.grammar.proofs.Picked.{picks_on, on_place}

abbrev OneOf : List Symbol → List (List Symbol) → Type 0
OneOf c [] = ⊥
OneOf c (b ∷ ss) = (c ≡ b) ⊎ OneOf c ss

which : {c : List Symbol} {ss : List (List Symbol)} → In c ss → OneOf c ss
which here = inl refl
which (there o) = inr (which o)

-- the only alternative of a block
block : List Symbol
block = opens open_brace ∷ a STATEMENTS ∷ closes close_brace ∷ row kinds.BLOCK ∷ []

the_block : (b : Bool) {c : List Symbol} → OneOf c (alternatives (roto b) BLOCK) → c ≡ block
unfolding roto block
the_block true (inl e) = e
the_block true (inr e) = absurd e
the_block false (inl e) = e
the_block false (inr e) = absurd e

-- tokens and phrases
data Front : List Symbol → Type 0 where
  nothing : Front []
  a_token : {g : Ask} {w : List ℕ} {s : List Symbol} → Front s → Front (token g w ∷ s)
  a_phrase : {n : ℕ} {s : List Symbol} → Front s → Front (phrase same n ∷ s)

module _ (S : Stream) (b : Bool) where
  abbrev Goes : Counts → List Symbol → S.Place → S.Place → Type 0
  Goes d s i r = (p : Parts) × Run S (roto b) d s i r p

  -- a list for which it doesn't matter what stands behind it
  to_run : {d : Counts} {s : List Symbol} {i r : S.Place} {p : Parts} → Reading S (roto b) d s i r p → ((v : View) → T (closed (roto b) s (v ∷ []))) → Run S (roto b) d s i r p
  to_run {r = r} t c = let v = view S (roto b) r in (complete S (roto b) (roto_good b) t (v ∷ []) (c v) (or_l (eqv v v) false (eqv_refl v))).0

  starts : {d : Counts} {g : Ask} {w : List ℕ} {s : List Symbol} {i r : S.Place} {p : Parts} → Reading S (roto b) d (token g w ∷ s) i r p → T (one_of (peek S (roto b) i) w)
  starts {w = w} (reads_token e m k t) = subst (λ (y : Look S.Place). T (one_of (word_of_lem S (roto b) y) w)) (sym e) m

  -- a block at the end, its own parts in its place; and back
  opened : {d : Counts} {s : List Symbol} {i r : S.Place} {p : Parts} (n : ℕ) → Front s → Reading S (roto b) d (s ++ (a BLOCK ∷ note n ∷ [])) i r p → (q : Parts) × Reading S (roto b) d (s ++ block) i r q
  unfolding inside
  opened {d = d} n nothing (reads_phrase {i = i} {m = m} {p = p} o t (reads_note reads_end)) = (p, subst (λ (s : List Symbol). Reading S (roto b) d s i m p) (the_block b (which o)) t)
  opened {d = d} n (a_token {g = g} f) (reads_token {x = x} e m k t) = let u = opened {d = after g d} n f t in (leaf x u.0, reads_token e m k u.1)
  opened n (a_phrase f) (reads_phrase {n = k} {a = c} {p = p} o t v) = let u = opened n f v in (node k c p u.0, reads_phrase o t u.1)

  picks_block : (c : Bool) → T (picks_on (roto c) BLOCK (some block) (open_brace ∷ []))
  unfolding roto picks_on block
  picks_block true = tt
  picks_block false = tt

  shut : {d : Counts} {s : List Symbol} {i r : S.Place} {p : Parts} (n : ℕ) → Front s → Run S (roto b) d (s ++ block) i r p → Goes d (s ++ (a BLOCK ∷ note n ∷ [])) i r
  unfolding inside block
  shut {i = i} {p = p} n nothing (reads_token {w = w} e m k t) = (node BLOCK block p (mark n end), reads_phrase (on_place (roto b) BLOCK (some block) S (open_brace ∷ []) i (picks_block b) (subst (λ (y : Look S.Place). T (one_of (word_of_lem S (roto b) y) w)) (sym e) m)) (reads_token e m k t) (reads_note reads_end))
  shut {d = d} n (a_token {g = g} f) (reads_token {x = x} e m k t) = let u = shut {d = after g d} n f t in (leaf x u.0, reads_token e m k u.1)
  shut n (a_phrase f) (reads_phrase {n = k} {a = c} {p = p} o t v) = let u = shut n f v in (node k c p u.0, reads_phrase o t u.1)

  by_block : {d : Counts} {s : List Symbol} {i r : S.Place} {p : Parts} (n : ℕ) → Front s → ((v : View) → T (closed (roto b) (s ++ block) (v ∷ []))) → Reading S (roto b) d (s ++ (a BLOCK ∷ note n ∷ [])) i r p → Goes d (s ++ (a BLOCK ∷ note n ∷ [])) i r
  by_block n f c t = shut n f (to_run (opened n f t).1 c)

-- the alternatives of a declaration, up to the block of those that end with one
abbrev before_fn : List Symbol
before_fn = word 'fn' ∷ a NAME ∷ a PARAMS ∷ a RESULT ∷ []

abbrev before_filter : List Symbol
before_filter = one filter_words ∷ a NAME ∷ a PARAMS ∷ []

abbrev before_test : List Symbol
before_test = word 'test' ∷ a NAME ∷ []

abbrev const_is : List Symbol
const_is = word 'const' ∷ a NAME ∷ word ':' ∷ a TYPE ∷ word '=' ∷ a (EXPR records) ∷ word semicolon ∷ row kinds.CONST ∷ []

abbrev import_is : List Symbol
import_is = word 'import' ∷ a IMPORTED ∷ word semicolon ∷ []

abbrev ending : List Symbol → ℕ → List Symbol
ending s n = s ++ (a BLOCK ∷ note n ∷ [])

-- which of them a reader takes, by the words
abbrev Picked : ℕ → List Symbol → List ℕ → Type 0
Picked n c w = (b : Bool) → T (picks_on (roto b) n (some c) w)

fn_picked : Picked DECLARATION (ending before_fn kinds.FN) ('fn' ∷ [])
unfolding roto picks_on
fn_picked true = tt
fn_picked false = tt

filter_picked : Picked DECLARATION (ending before_filter kinds.FILTER) filter_words
unfolding roto picks_on
filter_picked true = tt
filter_picked false = tt

const_picked : Picked DECLARATION const_is ('const' ∷ [])
unfolding roto picks_on
const_picked true = tt
const_picked false = tt

declares_import : Picked DECLARATION (a IMPORT ∷ []) ('import' ∷ [])
unfolding roto picks_on
declares_import true = tt
declares_import false = tt

import_picked : Picked IMPORT import_is ('import' ∷ [])
unfolding roto picks_on
import_picked true = tt
import_picked false = tt

test_picked : T (picks_on (roto true) DECLARATION (some (ending before_test kinds.TEST)) ('test' ∷ []))
unfolding roto picks_on
test_picked = tt

the_import : (b : Bool) {c : List Symbol} → OneOf c (alternatives (roto b) IMPORT) → c ≡ import_is
unfolding roto
the_import true (inl e) = e
the_import true (inr e) = absurd e
the_import false (inl e) = e
the_import false (inr e) = absurd e

module _ (S : Stream) (b : Bool) where
  abbrev Takes : List Symbol → Type 0
  Takes c = (d : Counts) (i r : S.Place) (p : Parts) → Reading S (roto b) d c i r p → Goes S b d c i r × (chosen (roto b) DECLARATION (view S (roto b) i) ≡ some c)

  fn_taken : Takes (ending before_fn kinds.FN)
  unfolding roto block
  fn_taken d i r p t = (by_block S b {s = before_fn} kinds.FN (a_token (a_phrase (a_phrase (a_phrase nothing)))) (λ v. tt) t, on_place (roto b) DECLARATION (some (ending before_fn kinds.FN)) S ('fn' ∷ []) i (fn_picked b) (starts S b t))

  filter_taken : Takes (ending before_filter kinds.FILTER)
  unfolding roto block
  filter_taken d i r p t = (by_block S b {s = before_filter} kinds.FILTER (a_token (a_phrase (a_phrase nothing))) (λ v. tt) t, on_place (roto b) DECLARATION (some (ending before_filter kinds.FILTER)) S filter_words i (filter_picked b) (starts S b t))

  const_taken : Takes const_is
  unfolding roto
  const_taken d i r p t = ((p, to_run S b t (λ v. tt)), on_place (roto b) DECLARATION (some const_is) S ('const' ∷ []) i (const_picked b) (starts S b t))

  import_taken : Takes (a IMPORT ∷ [])
  unfolding roto inside
  import_taken d i r p (reads_phrase {p = p'} o t reads_end) =
      let u = subst (λ (c : List Symbol). Reading S (roto b) d c i r p') (the_import b (which o)) t in
      ((node IMPORT import_is p' end, reads_phrase (on_place (roto b) IMPORT (some import_is) S ('import' ∷ []) i (import_picked b) (starts S b u)) (to_run S b u (λ v. tt)) reads_end), on_place (roto b) DECLARATION (some (a IMPORT ∷ [])) S ('import' ∷ []) i (declares_import b) (starts S b u))

test_taken : (S : Stream) → Takes S true (ending before_test kinds.TEST)
unfolding roto block
test_taken S d i r p t = (by_block S true {s = before_test} kinds.TEST (a_token (a_phrase nothing)) (λ v. tt) t, on_place (roto true) DECLARATION (some (ending before_test kinds.TEST)) S ('test' ∷ []) i test_picked (starts S true t))

each_taken : (S : Stream) (b : Bool) {c : List Symbol} → OneOf c (alternatives (roto b) DECLARATION) → Takes S b c
unfolding roto
each_taken S true (inl e) = subst (Takes S true) (sym e) (const_taken S true)
each_taken S true (inr (inl e)) = subst (Takes S true) (sym e) (fn_taken S true)
each_taken S true (inr (inr (inl e))) = subst (Takes S true) (sym e) (filter_taken S true)
each_taken S true (inr (inr (inr (inl e)))) = subst (Takes S true) (sym e) (import_taken S true)
each_taken S true (inr (inr (inr (inr (inl e))))) = subst (Takes S true) (sym e) (test_taken S)
each_taken S true (inr (inr (inr (inr (inr e))))) = absurd e
each_taken S false (inl e) = subst (Takes S false) (sym e) (const_taken S false)
each_taken S false (inr (inl e)) = subst (Takes S false) (sym e) (fn_taken S false)
each_taken S false (inr (inr (inl e))) = subst (Takes S false) (sym e) (filter_taken S false)
each_taken S false (inr (inr (inr (inl e)))) = subst (Takes S false) (sym e) (import_taken S false)
each_taken S false (inr (inr (inr (inr e)))) = absurd e

module _ (S : Stream) (b : Bool) where
  pub declaration_runs : {d : Counts} {i r : S.Place} {p : Parts} → Reading S (roto b) d (a DECLARATION ∷ []) i r p → Goes S b d (a DECLARATION ∷ []) i r
  unfolding inside
  declaration_runs {d = d} {i = i} {r = r} (reads_phrase {a = c} {p = p} o t reads_end) = let u = each_taken S b (which o) d i r p t in (node DECLARATION c u.0.0 end, reads_phrase u.1 u.0.1 reads_end)

  -- there is one
  pub one_declaration : {d : Counts} {i r r' : S.Place} {p p' : Parts} → Reading S (roto b) d (a DECLARATION ∷ []) i r p → Reading S (roto b) d (a DECLARATION ∷ []) i r' p' → r ≡ r'
  one_declaration t t' = (one_run S (roto b) (declaration_runs t).1 (declaration_runs t').1).0

  -- and none where a reader stops
  pub no_declaration : {d : Counts} {i r z : S.Place} {p : Parts} {y : Why} → Reading S (roto b) d (a DECLARATION ∷ []) i r p → Stops S (roto b) d (a DECLARATION ∷ []) i z y → ⊥
  no_declaration t f = not_both S (roto b) (declaration_runs t).1 f
