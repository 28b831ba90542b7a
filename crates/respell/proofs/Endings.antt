-- Where an f-string ends doesn't depend on what stands behind it: from one place on, all its readings end at one place.
use mathlib.Core.Path.{◌≡◌, refl, sym, ap, ◌∙◌, subst}
use mathlib.Core.List.{List, [], ◌∷◌}
use mathlib.Core.Bool.{Bool, true, false, cond}
use mathlib.Core.Logic.{inl, inr}
use Prim.Native.Nat.{ℕ, zero, suc, ◌+◌, ◌≤◌}
use native.Mathlib.Omega.{arith}
use lib.Dec.{T, eqb, eqb→eq}
use Rattle.grammar.specs.Words.{close_brace}
use Rattle.grammar.specs.Grammar.{Ask, has_value, same, Symbol, phrase, text, View, one, Token, Look, found, Stream, Parts, Language, one_of}
use Rattle.grammar.specs.Choice.{see, among}
use Rattle.grammar.specs.Runs.{viewed, view}
use Rattle.grammar.specs.Limits.{Counts, zeros, after, inside}
use Rattle.grammar.specs.Kinds.{HOLE, EXPR, records}
use Rattle.grammar.specs.Language.{roto}
use Rattle.grammar.specs.Culprit.{any}
use Rattle.grammar.specs.Readings.{peek, reads_end, reads_token, reads_phrase, reads_unless, reads_note, reads_side, reads_text, ReadingBy}
use Rattle.grammar.proofs.Bools.{or_cases}
use Rattle.grammar.proofs.Good.{closed}
use Rattle.grammar.proofs.Core.{unique}
use Rattle.grammar.proofs.Checks.{roto_good}
use Rattle.answers.specs.Source.{source}
use Rattle.respell.specs.Spelt.{hole_symbols}
use Rattle.respell.proofs.Pieces.{piece_lies}
use Rattle.respell.proofs.FStrings.{token_takes, onward, still, still_reads, holed, text_moves, roto_hole, roto_holes}

-- tests of tokens set aside, the counts don't matter
module _ (S : Stream) (l : Language) where
  freed : {G : Ask → Counts → Token → Bool} {d : Counts} {b : List Symbol} {i r : S.Place} {p : Parts} (d' : Counts) → ReadingBy S l G d b i r p → ReadingBy S l any d' b i r p
  freed d' reads_end = reads_end
  freed d' (reads_token {g = g} e m k t) = reads_token e m tt (freed (after g d') t)
  freed d' (reads_phrase {o = o} i t u) = reads_phrase i (freed (inside o d') t) (freed d' u)
  freed d' (reads_unless m t) = reads_unless m (freed d' t)
  freed d' (reads_note t) = reads_note (freed d' t)
  freed d' (reads_side i t m u) = reads_side i (freed d' t) m (freed d' u)
  freed d' (reads_text e k t) = reads_text e tt (freed (after has_value d') t)

pub one_found : {P : Type 0} {a : Look P} {x y : Token} {j k : P} → a ≡ found x j → a ≡ found y k → (x ≡ y) × (j ≡ k)
one_found {x = x} {y = y} {j = j} {k = k} e f = let g : found x j ≡ found y k = sym e ∙ f in let u : x ≡ y = cc in let v : j ≡ k = cc in (u, v)

abbrev brace : List View
brace = one close_brace ∷ []

-- a hole's expr is followed by `}`
hole_closed : (tests : Bool) → T (closed (roto tests) (phrase same (EXPR records) ∷ []) brace)
unfolding roto
hole_closed true = tt
hole_closed false = tt

seen_brace : (tests : Bool) (n : ℕ) → T (among (see (roto tests) close_brace n) brace)
unfolding roto
seen_brace true n = tt
seen_brace false n = tt

module _ (tests : Bool) (s : List ℕ) (G G' : Ask → Counts → Token → Bool) where
  at_brace : (c f : ℕ) (y : Token) → (source s).look c ≡ found y f → T (one_of y.word (close_brace ∷ [])) → T (among (view (source s) (roto tests) c) brace)
  at_brace c f y e m =
      let w : y.word ≡ close_brace = elim (or_cases (eqb y.word close_brace) false m) [ inl k ↦ eqb→eq y.word close_brace k | inr k ↦ absurd k ] in
      subst (λ (k : Look ℕ). T (among (viewed (source s) (roto tests) k) brace)) (sym e) (subst (λ (n : ℕ). T (among (see (roto tests) n (peek (source s) (roto tests) f)) brace)) (sym w) (seen_brace tests (peek (source s) (roto tests) f)))

  abbrev Ends : ℕ → Type 0
  Ends n = (b b' : List Symbol) (d d' : Counts) (i r r' : ℕ) (p p' : Parts) → T (still b) → T (still b') → ReadingBy (source s) (roto tests) G d (text HOLE ∷ b) i r p → ReadingBy (source s) (roto tests) G' d' (text HOLE ∷ b') i r' p' → r ≤ i + n → r ≡ r'

  hole_ends : (n : ℕ) → Ends n → {d d' : Counts} {i r r' : ℕ} {p p' : Parts} → ReadingBy (source s) (roto tests) G d hole_symbols i r p → ReadingBy (source s) (roto tests) G' d' hole_symbols i r' p' → r ≤ i + suc n → r ≡ r'
  hole_ends n ih {i = i} {r = r} {r' = r'} (reads_token {x = x} {j = j} e m k (reads_phrase {m = c} {p = p₁} o v (reads_token {d = d₂} {x = y} {j = f} {p = p₂} e₂ m₂ k₂ u))) (reads_token {x = x'} {j = j'} e' m' k' (reads_phrase {a = a'} {m = c'} {p = p₁'} o' v' (reads_token {d = d₂'} {g = g₂'} {x = y'} {j = f'} {p = p₂'} e₂' m₂' k₂' u'))) h =
      let jj : j ≡ j' = (one_found e e').1 in
      let w' : ReadingBy (source s) (roto tests) any (inside same zeros) a' j c' p₁' = subst (λ (n : ℕ). ReadingBy (source s) (roto tests) any (inside same zeros) a' n c' p₁') (sym jj) (freed (source s) (roto tests) (inside same zeros) v') in
      let mid : c ≡ c' = (unique (source s) (roto tests) (roto_good tests) brace (hole_closed tests) (at_brace c f y e₂ m₂) (at_brace c' f' y' e₂' m₂') (reads_phrase {d = zeros} {o = same} o (freed (source s) (roto tests) (inside same zeros) v) reads_end) (reads_phrase {d = zeros} {o = same} o' w' reads_end)).0 in
      let ff : f ≡ f' = (one_found e₂ (ap (λ (n : ℕ). (source s).look n) mid ∙ e₂')).1 in
      let g₁ = token_takes s x i j e in
      let g₂ = onward s v in
      let g₃ = token_takes s y c f e₂ in
      ih [] [] _ (after g₂' d₂') f r r' p₂ p₂' tt tt u (subst (λ (n : ℕ). ReadingBy (source s) (roto tests) G' (after g₂' d₂') (text HOLE ∷ []) n r' p₂') (sym ff) u') (omega arith)

  ends_by : (n : ℕ) → Ends n
  ends_by zero b b' d d' i r r' p p' f f' u u' h = absurd (let g = text_moves s (roto tests) (roto_hole tests) (roto_holes tests) G u in omega arith)
  ends_by (suc n) b b' d d' i r r' p p' f f' (reads_text {x = x} {j = j} {p = p₁} e k u) (reads_text {x = x'} {j = j'} {p = p₁'} e' k' u') h = by (eqb x.word (roto tests).hole) refl (ends_by n)
    where
      two : (x ≡ x') × (j ≡ j')
      two = one_found e e'

      read_as : (c : Bool) → eqb x.word (roto tests).hole ≡ c → ReadingBy (source s) (roto tests) G (after has_value d) (cond c (phrase same HOLE ∷ b) b) j r p₁
      read_as c w = subst (λ (o : Bool). ReadingBy (source s) (roto tests) G (after has_value d) (cond o (phrase same HOLE ∷ b) b) j r p₁) w u

      read_as' : (c : Bool) → eqb x.word (roto tests).hole ≡ c → ReadingBy (source s) (roto tests) G' (after has_value d') (cond c (phrase same HOLE ∷ b') b') j r' p₁'
      read_as' c w = subst (λ (n : ℕ). ReadingBy (source s) (roto tests) G' (after has_value d') (cond c (phrase same HOLE ∷ b') b') n r' p₁') (sym two.1) (subst (λ (o : Bool). ReadingBy (source s) (roto tests) G' (after has_value d') (cond o (phrase same HOLE ∷ b') b') j' r' p₁') (sym (ap (λ (o : Token). eqb o.word (roto tests).hole) two.0) ∙ w) u')

      by : (c : Bool) → eqb x.word (roto tests).hole ≡ c → Ends n → r ≡ r'
      by true w ih =
          let y = holed s (roto tests) (roto_hole tests) (roto_holes tests) G (read_as true w) in
          let y' = holed s (roto tests) (roto_hole tests) (roto_holes tests) G' (read_as' true w) in
          let end = (still_reads s b f y.rest).0 in
          let end' = (still_reads s b' f' y'.rest).0 in
          let le = (piece_lies s i x j e).0 in
          sym end ∙ hole_ends n ih y.hole y'.hole (omega arith) ∙ end'
      by false w ih = sym (still_reads s b f (read_as false w)).0 ∙ (still_reads s b' f' (read_as' false w)).0

  pub one_ending : {d d' : Counts} {b b' : List Symbol} {i r r' : ℕ} {p p' : Parts} → T (still b) → T (still b') → ReadingBy (source s) (roto tests) G d (text HOLE ∷ b) i r p → ReadingBy (source s) (roto tests) G' d' (text HOLE ∷ b') i r' p' → r ≡ r'
  one_ending {i = i} {r = r} f f' u u' = ends_by r _ _ _ _ i r _ _ _ f f' u u' (omega arith)
