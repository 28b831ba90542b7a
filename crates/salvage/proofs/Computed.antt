-- What is computed is so.
use mathlib.Core.Path.{◌≡◌, refl, sym, subst}
use mathlib.Core.List.{List, [], ◌∷◌}
use mathlib.Core.Bool.{Bool, true, false, true≢false}
use mathlib.Core.Option.{Option, none, some}
use Prim.Native.Nat.{ℕ, zero, suc}
use native.Mathlib.Omega.{arith}
use lib.ListN.{length}
use Rattle.chars.specs.Texts.{bytes}
use Rattle.tokens.specs.Blanks.{skip_all}
use Rattle.grammar.specs.Grammar.{Look, found, over, wrong, Parts}
use Rattle.grammar.specs.Limits.{zeros}
use Rattle.grammar.specs.Table.{a}
use Rattle.grammar.specs.Kinds.{DECLARATION}
use Rattle.grammar.specs.Language.{roto}
use Rattle.grammar.specs.Readings.{Reading}
use Rattle.grammar.specs.Refusals.{said}
use Rattle.grammar.specs.Compute.{Out, done, fail, spent, run}
use Rattle.grammar.proofs.Core.{sound}
use Rattle.grammar.proofs.Computed.{Means, run_means}
use Rattle.answers.specs.Source.{source}
use Rattle.keeping.specs.Kept as keeping
use Rattle.keeping.specs.Kept.{Ends}
use Rattle.keeping.specs.Breaks.{Breaks}
use Rattle.salvage.specs.Salvage.{end_of, blanked, range, Salvage, whole, drops}
use Rattle.salvage.specs.Compute.{Found, to_end, to_break, unknown, Result, with_range, is_over, read, salvaged}
use Rattle.salvage.specs.Cases.{Case, Each}

over_is : (k : Look ℕ) → is_over k ≡ true → k ≡ over
over_is over e = refl
over_is (found x j) e = absurd (true≢false (sym e))
over_is (wrong n b c) e = absurd (true≢false (sym e))

not_over : (k : Look ℕ) → is_over k ≡ false → k ≡ over → ⊥
not_over over e q = true≢false e
not_over (found x j) e q = let z : ◌≡◌ {A = ℕ} 0 1 = cc in omega arith
not_over (wrong n b c) e q = let z : ◌≡◌ {A = ℕ} 0 1 = cc in omega arith

module _ (tests : Bool) (fuel : ℕ) where
  module _ (s : List ℕ) where
    abbrev Says : ℕ → Found → Type 0
    Says i to_end = Ends (source s) (roto tests) i
    Says i (to_break first r) = Breaks tests s i first r
    Says i unknown = Unit {0}

    onto : {i m : ℕ} {p : Parts} (f : Found) → Reading (source s) (roto tests) zeros (a DECLARATION ∷ []) i m p → Says m f → Says i f
    onto to_end r k = record { stop = k.stop; kept = keeping.more r k.kept; whole = k.whole }
    onto (to_break first w) r k = record { behind = k.behind; kept = keeping.more r k.kept; more = k.more; begins = k.begins; place = k.place; why = k.why; stops = k.stops; says = k.says }
    onto unknown r k = tt

    read_means : (n i : ℕ) → Says i (read tests fuel s n i)
    unfolding read
    read_means zero i = tt
    read_means (suc n) i = by (is_over ((source s).look i)) refl (run (source s) (roto tests) fuel zeros (a DECLARATION ∷ []) i) (run_means (source s) (roto tests) fuel zeros (a DECLARATION ∷ []) i) (λ m. read_means n m)
      where
        by : (b : Bool) → is_over ((source s).look i) ≡ b → (o : Out ℕ) → Means (source s) (roto tests) zeros (a DECLARATION ∷ []) i o → ((m : ℕ) → Says m (read tests fuel s n m))
            → Says i (elim b [ true ↦ to_end | false ↦ elim o [ done p m ↦ read tests fuel s n m | fail z y ↦ to_break (skip_all s i) (said (length s) ((source s).look z) y) | spent ↦ unknown ] ])
        by true e o h ih = record { stop = i; kept = keeping.none; whole = over_is ((source s).look i) e }
        by false e (done p m) h ih = onto (read tests fuel s n m) (sound (source s) (roto tests) h) (ih m)
        by false e (fail z y) h ih = record { behind = i; kept = keeping.none; more = not_over ((source s).look i) e; begins = refl; place = z; why = y; stops = h; says = refl }
        by false e spent h ih = tt

  pub salvaged_means : (n : ℕ) (s : List ℕ) (i : ℕ) {x : Result} → salvaged tests fuel n s i ≡ some x → Salvage tests s i x.ranges x.text
  unfolding salvaged
  salvaged_means zero s i e = let z : ◌≡◌ {A = ℕ} 0 1 = cc in absurd (omega arith)
  salvaged_means (suc n) s i {x} e = by (read tests fuel s n i) (read_means s n i) (λ t j y. salvaged_means n t j {x = y}) e
    where
      by : (f : Found) → Says s i f → ((t : List ℕ) (j : ℕ) (y : Result) → salvaged tests fuel n t j ≡ some y → Salvage tests t j y.ranges y.text)
          → elim f [ to_end ↦ some (record { ranges = []; text = s }) | to_break first r ↦ with_range (range first (end_of s first r) r) (salvaged tests fuel n (blanked s first (end_of s first r)) (end_of s first r)) | unknown ↦ none ] ≡ some x → Salvage tests s i x.ranges x.text
      by to_end k ih z = let v : record { ranges = []; text = s } ≡ x = cc in subst (λ (y : Result). Salvage tests s i y.ranges y.text) v (whole k)
      by (to_break first r) k ih z = at_line (salvaged tests fuel n (blanked s first (end_of s first r)) (end_of s first r)) refl z
        where
          at_line : (o : Option Result) → salvaged tests fuel n (blanked s first (end_of s first r)) (end_of s first r) ≡ o → with_range (range first (end_of s first r) r) o ≡ some x → Salvage tests s i x.ranges x.text
          at_line none q z = let v : ◌≡◌ {A = ℕ} 0 1 = cc in absurd (omega arith)
          at_line (some y) q z = let v : record { ranges = range first (end_of s first r) r ∷ y.ranges; text = y.text } ≡ x = cc in subst (λ (u : Result). Salvage tests s i u.ranges u.text) v (drops k (ih (blanked s first (end_of s first r)) (end_of s first r) y q))
      by unknown k ih z = let v : ◌≡◌ {A = ℕ} 0 1 = cc in absurd (omega arith)

-- the results of a table, and those that it states
unfoldable pub computed : ℕ → List Case → List (Option Result)
computed fuel [] = []
computed fuel (c ∷ cs) = salvaged c.tests fuel 100 (bytes c.source) 0 ∷ computed fuel cs

unfoldable pub stated : List Case → List (Option Result)
stated [] = []
stated (c ∷ cs) = some (record { ranges = c.ranges; text = bytes c.text }) ∷ stated cs

pub each_means : (fuel : ℕ) (cs : List Case) → computed fuel cs ≡ stated cs → Each cs
unfolding computed stated
each_means fuel [] e = tt
each_means fuel (c ∷ cs) e =
    let x : salvaged c.tests fuel 100 (bytes c.source) 0 ≡ some (record { ranges = c.ranges; text = bytes c.text }) = cc in
    let y : computed fuel cs ≡ stated cs = cc in
    (salvaged_means c.tests fuel 100 (bytes c.source) 0 x, each_means fuel cs y)
