-- What a reader does with a declaration depends on the place where it begins by the token there alone.
use mathlib.Core.Path.{◌≡◌, refl, sym, ap, subst, ◌∙◌}
use mathlib.Core.List.{List, [], ◌∷◌}
use mathlib.Core.Bool.{Bool, true, false, not, ◌||◌}
use mathlib.Core.Option.{Option, none, some}
use Prim.Native.Nat.{ℕ}
use lib.Dec.{T}
use Rattle.grammar.specs.Grammar.{Symbol, token, phrase, unless, note, left_side, text, Rule, Look, Stream, Parts, Language, one_of, alternatives, In}
use Rattle.grammar.specs.Limits.{Counts}
use Rattle.grammar.specs.Kinds.{DECLARATION, IMPORT}
use Rattle.grammar.specs.Choice.{chosen}
use Rattle.grammar.specs.Language.{roto}
use Rattle.grammar.specs.Readings.{reads_end, reads_token, reads_phrase, reads_unless, reads_note, reads_side, reads_text}
use Rattle.grammar.specs.Runs.{viewed, view, Run}
use Rattle.grammar.specs.Refusals.{Why, lacks, Stops, stops_want, stops_past, stops_token, stops_none, stops_in, stops_after, stops_barred, stops_unless, stops_note, stops_side_none, stops_side_in, stops_left, stops_side_after, stops_torn, stops_ill, stops_text}
use Rattle.grammar.proofs.Bools.{implied}
use Rattle.grammar.proofs.Pass.{each_passes, passes_at}
use Rattle.grammar.proofs.Core.{chosen_in}

-- a list that begins with a token, by the kinds that do
abbrev leading_kinds : List ℕ
leading_kinds = DECLARATION ∷ IMPORT ∷ []

abbrev pub leads : List Symbol → Bool
leads [] = false
leads (token g w ∷ s) = true
leads (phrase o n ∷ s) = one_of n leading_kinds
leads (unless w ∷ s) = false
leads (note k ∷ s) = false
leads (left_side n n₁ ∷ s) = false
leads (text n ∷ s) = false

abbrev pub all_lead : List Rule → Bool
all_lead = each_passes (λ n a. not (one_of n leading_kinds) || leads a)

pub roto_leads : (b : Bool) → T (all_lead (roto b).rules)
unfolding roto
roto_leads true = tt
roto_leads false = tt

module _ (l : Language) (leading : T (all_lead l.rules)) (S : Stream) {i i' : S.Place} (alike : S.look i ≡ S.look i') where
  one_leads : {a : List Symbol} (n : ℕ) → T (one_of n leading_kinds) → In a (alternatives l n) → T (leads a)
  one_leads {a} n h o = implied (one_of n leading_kinds) (leads a) (passes_at (λ m b. not (one_of m leading_kinds) || leads b) l.rules n leading o) h

  seen : {k : S.Place} → k ≡ i → S.look k ≡ S.look i'
  seen e = ap S.look e ∙ alike

  picked : {k : S.Place} (n : ℕ) (o : Option (List Symbol)) → k ≡ i → chosen l n (view S l k) ≡ o → chosen l n (view S l i') ≡ o
  picked n o e q = ap (λ (y : Look S.Place). chosen l n (viewed S l y)) (sym (seen e)) ∙ q

  run_moved : {d : Counts} {s : List Symbol} {k r : S.Place} {p : Parts} → Run S l d s k r p → T (leads s) → k ≡ i → Run S l d s i' r p
  run_moved reads_end h e = absurd h
  run_moved (reads_token y m g t) h e = reads_token (sym (seen e) ∙ y) m g t
  run_moved (reads_phrase {n = n} {a = c} {i = k} o t u) h e = reads_phrase (picked n (some c) e o) (run_moved t (one_leads n h (chosen_in S l n (view S l k) c o)) e) u
  run_moved (reads_unless m t) h e = absurd h
  run_moved (reads_note t) h e = absurd h
  run_moved (reads_side o t m u) h e = absurd h
  run_moved (reads_text y k t) h e = absurd h

  pub record Moved (d : Counts) (s : List Symbol) (z : S.Place) (y : Why) : Type 0 where
    pub place : S.Place
    pub stops : Stops S l d s i' place y
    pub same : S.look z ≡ S.look place

  pub stops_moved : {d : Counts} {s : List Symbol} {k z : S.Place} {y : Why} → Stops S l d s k z y → T (leads s) → k ≡ i → Moved d s z y
  stops_moved (stops_want {w = w} q) h e = record { place = i'; stops = stops_want (subst (λ (x : Look S.Place). T (lacks x w)) (seen e) q); same = seen e }
  stops_moved (stops_past q m k) h e = record { place = i'; stops = stops_past (sym (seen e) ∙ q) m k; same = seen e }
  stops_moved (stops_token {z = z} q m k f) h e = record { place = z; stops = stops_token (sym (seen e) ∙ q) m k f; same = refl }
  stops_moved (stops_none {n = n} q) h e = record { place = i'; stops = stops_none (picked n none e q); same = seen e }
  stops_moved (stops_in {n = n} {a = c} {i = k} o f) h e = let u = stops_moved f (one_leads n h (chosen_in S l n (view S l k) c o)) e in record { place = u.place; stops = stops_in (picked n (some c) e o) u.stops; same = u.same }
  stops_moved (stops_after {n = n} {a = c} {i = k} {z = z} o t f) h e = record { place = z; stops = stops_after (picked n (some c) e o) (run_moved t (one_leads n h (chosen_in S l n (view S l k) c o)) e) f; same = refl }
  stops_moved (stops_barred q) h e = absurd h
  stops_moved (stops_unless m f) h e = absurd h
  stops_moved (stops_note f) h e = absurd h
  stops_moved (stops_side_none q) h e = absurd h
  stops_moved (stops_side_in o f) h e = absurd h
  stops_moved (stops_left o t m) h e = absurd h
  stops_moved (stops_side_after o t m f) h e = absurd h
  stops_moved (stops_torn q) h e = absurd h
  stops_moved (stops_ill q m) h e = absurd h
  stops_moved (stops_text q m f) h e = absurd h
