-- Two sources that agree on a part: what is read within it is read in both. And a reading may begin anywhere where its
-- first token is seen.
use mathlib.Core.Path.{◌≡◌, refl, sym, ap, subst, ◌∙◌}
use mathlib.Core.List.{List, [], ◌∷◌}
use mathlib.Core.Bool.{Bool, true, false, not, ◌&&◌, cond}
use mathlib.Core.Logic.{◌⊎◌, inl, inr}
use Prim.Native.Nat.{ℕ, ◌≤◌, ◌<◌}
use lib.Dec.{T, eqb}
use native.Mathlib.Omega.{arith}
use Rattle.grammar.specs.Grammar.{Ask, same, Symbol, token, phrase, unless, note, left_side, text, Rule, Token, Look, found, Stream, Parts, Language, one_of, alternatives, In}
use Rattle.grammar.specs.Limits.{Counts}
use Rattle.grammar.specs.Language.{roto}
use Rattle.grammar.specs.Readings.{word_of_lem, peek, reads_end, reads_token, reads_phrase, reads_unless, reads_note, reads_side, reads_text, ReadingBy}
use Rattle.grammar.proofs.Bools.{and_l, and_r, or_l, or_cases}
use Rattle.grammar.proofs.Pass.{each_passes, passes_at}
use Rattle.grammar.proofs.Good.{full, filled, all_full, full_filled}

-- a list of symbols that text may stand first in
abbrev pub faced : List Symbol → Bool
faced [] = false
faced (token g w ∷ s) = false
faced (phrase o n ∷ s) = faced s
faced (unless w ∷ s) = faced s
faced (note k ∷ s) = faced s
faced (left_side n n₁ ∷ s) = faced s
faced (text n ∷ s) = true

module _ (l : Language) where
  -- behind a word that may not stand, a token stands for certain, and no text before it; a hole has a token
  abbrev pub solid : List Symbol → Bool
  solid [] = true
  solid (token g w ∷ s) = solid s
  solid (phrase o n ∷ s) = solid s
  solid (unless w ∷ s) = (filled l s && not (faced s)) && solid s
  solid (note k ∷ s) = solid s
  solid (left_side n n₁ ∷ s) = solid s
  solid (text n ∷ s) = full l n && solid s

  -- so in every rule, and no alternative begins with text
  abbrev pub all_solid : List Rule → Bool
  all_solid = each_passes (λ n a. not (faced a) && solid a)

pub roto_solid : (b : Bool) → T (all_solid (roto b) (roto b).rules)
unfolding roto
roto_solid true = tt
roto_solid false = tt

-- a source, by what stands at each place
abbrev pub stream : (P : Type 0) → (P → Look P) → (P → Look P) → Stream
stream P f g = record { Place = P; look = f; piece = g }

module _ (l : Language) (filling : T (all_full l l.rules)) (solidly : T (all_solid l l.rules)) where
  one_solid : {a : List Symbol} (n : ℕ) → In a (alternatives l n) → T (not (faced a) && solid l a)
  one_solid n o = passes_at (λ m a. not (faced a) && solid l a) l.rules n solidly o

  solid_one : {a : List Symbol} (n : ℕ) → In a (alternatives l n) → T (solid l a)
  solid_one {a} n o = and_r (not (faced a)) (solid l a) (one_solid n o)

  bare_one : {a : List Symbol} (n : ℕ) → In a (alternatives l n) → T (not (faced a))
  bare_one {a} n o = and_l (not (faced a)) (solid l a) (one_solid n o)

  solid_on : (b : Bool) (n : ℕ) (s : List Symbol) → T (solid l s) → T (solid l (cond b (phrase same n ∷ s) s))
  solid_on true n s h = h
  solid_on false n s h = h

  bare_on : (b : Bool) (n : ℕ) (s : List Symbol) → T (not (faced s)) → T (not (faced (cond b (phrase same n ∷ s) s)))
  bare_on true n s h = h
  bare_on false n s h = h

  module _ (P : Type 0) (look piece : P → Look P) (ahead : P → ℕ)
      (tokens_take : (x : Token) (i j : P) → look i ≡ found x j → ahead j < ahead i)
      (pieces_keep : (x : Token) (i j : P) → piece i ≡ found x j → ahead j ≤ ahead i) where
    -- reading doesn't go back, and goes on where there is a token
    pub on : {G : Ask → Counts → Token → Bool} {d : Counts} {s : List Symbol} {i r : P} {p : Parts} → ReadingBy (stream P look piece) l G d s i r p → ahead r ≤ ahead i
    on reads_end = omega arith
    on (reads_token {x = x} {i = i} {j = j} e m k t) = omega (arith, on t, tokens_take x i j e)
    on (reads_phrase o t u) = omega (arith, on t, on u)
    on (reads_unless m t) = on t
    on (reads_note t) = on t
    on (reads_side o t m u) = omega (arith, on t, on u)
    on (reads_text {x = x} {i = i} {j = j} e k t) = omega (arith, on t, pieces_keep x i j e)

    pub takes : {G : Ask → Counts → Token → Bool} {d : Counts} {s : List Symbol} {i r : P} {p : Parts} → ReadingBy (stream P look piece) l G d s i r p → T (filled l s) → ahead r < ahead i
    takes reads_end h = absurd h
    takes (reads_token {x = x} {i = i} {j = j} e m k t) h = omega (arith, on t, tokens_take x i j e)
    takes (reads_phrase {n = n} {s = s} o t u) h = elim (or_cases (full l n) (filled l s) h) [
      | inl k ↦ omega (arith, takes t (full_filled l n filling o k), on u)
      | inr k ↦ omega (arith, takes u k, on t)
    ]
    takes (reads_unless m t) h = takes t h
    takes (reads_note t) h = takes t h
    takes (reads_side {n = n} o t m u) h = omega (arith, takes t (full_filled l n filling o h), on u)
    takes (reads_text e k t) h = absurd h

    -- the token that a reading begins with
    pub record First (i r : P) : Type 0 where
      pub token : Token
      pub next : P
      pub seen : look i ≡ found token next
      pub upto : ahead r ≤ ahead next

    first_on : {i m r : P} → First i m → ahead r ≤ ahead m → First i r
    first_on f h = record { token = f.token; next = f.next; seen = f.seen; upto = let u = f.upto in omega arith }

    pub begins : {G : Ask → Counts → Token → Bool} {d : Counts} {s : List Symbol} {i r : P} {p : Parts} → ReadingBy (stream P look piece) l G d s i r p → T (not (faced s)) → First i r ⊎ (i ≡ r)
    begins reads_end h = inr refl
    begins (reads_token {x = x} {j = j} e m k t) h = inl (record { token = x; next = j; seen = e; upto = on t })
    begins (reads_phrase {n = n} {r = r} o t u) h = elim (begins t (bare_one n o)) [ inl f ↦ inl (first_on f (on u)) | inr e ↦ subst (λ (q : P). First q r ⊎ (q ≡ r)) (sym e) (begins u h) ]
    begins (reads_unless m t) h = begins t h
    begins (reads_note t) h = begins t h
    begins (reads_side {n = n} {n₁ = n₁} {s = s} {r = r} {p = p} o t m u) h = elim (begins t (bare_one n o)) [ inl f ↦ inl (first_on f (on u)) | inr e ↦ subst (λ (q : P). First q r ⊎ (q ≡ r)) (sym e) (begins u (bare_on (l.is_path p) n₁ s h)) ]
    begins (reads_text e k t) h = absurd h

    -- The same reading in a source that says the same of each token that ends no later.
    module _ (look' piece' : P → Look P) (last : ℕ)
        (same_look : (x : Token) (i j : P) → look i ≡ found x j → last ≤ ahead j → look' i ≡ found x j)
        (same-piece : (x : Token) (i j : P) → piece i ≡ found x j → last ≤ ahead j → (T (eqb x.word l.hole) → last < ahead j) → piece' i ≡ found x j) where
      pub within : {G : Ask → Counts → Token → Bool} {d : Counts} {s : List Symbol} {i r : P} {p : Parts} → ReadingBy (stream P look piece) l G d s i r p → T (solid l s) → last ≤ ahead r → ReadingBy (stream P look' piece') l G d s i r p
      within reads_end h b = reads_end
      within (reads_token {x = x} {i = i} {j = j} e m k t) h b = reads_token (same_look x i j e (omega (arith, on t, b))) m k (within t h b)
      within (reads_phrase {n = n} o t u) h b = reads_phrase o (within t (solid_one n o) (omega (arith, on u, b))) (within u h b)
      within (reads_unless {w = w} {s = s} {i = i} {r = r} m t) h b = reads_unless (subst (λ (c : ℕ). T (not (one_of c w))) peeked m) (within t (and_r (filled l s && not (faced s)) (solid l s) h) b)
        where
          two : T (filled l s && not (faced s))
          two = and_l (filled l s && not (faced s)) (solid l s) h

          peeked : peek (stream P look piece) l i ≡ peek (stream P look' piece') l i
          peeked = elim (begins t (and_r (filled l s) (not (faced s)) two)) [
            | inl f ↦ ap (word_of_lem (stream P look piece) l) f.seen ∙ sym (ap (word_of_lem (stream P look' piece') l) (same_look f.token i f.next f.seen (let u = f.upto in omega arith)))
            | inr e ↦ absurd (let z = takes t (and_l (filled l s) (not (faced s)) two) in let q = ap ahead e in omega arith)
          ]
      within (reads_note t) h b = reads_note (within t h b)
      within (reads_side {n = n} {n₁ = n₁} {s = s} {p = p} o t m u) h b = reads_side o (within t (solid_one n o) (omega (arith, on u, b))) tt (within u (solid_on (l.is_path p) n₁ s h) b)
      within (reads_text {n = n} {s = s} {x = x} {i = i} {j = j} {r = r} e k t) h b = reads_text (same-piece x i j e (omega (arith, on t, b)) (λ w. behind_hole (eqb x.word l.hole) t w)) k (within t (solid_on (eqb x.word l.hole) n s (and_r (full l n) (solid l s) h)) b)
        where
          behind_hole : (c : Bool) {G : Ask → Counts → Token → Bool} {d : Counts} {p : Parts} → ReadingBy (stream P look piece) l G d (cond c (phrase same n ∷ s) s) j r p → T c → last < ahead j
          behind_hole true t w = let z = takes t (or_l (full l n) (filled l s) (and_l (full l n) (solid l s) h)) in omega arith
          behind_hole false t w = absurd w

    -- The same reading from another place where the same token is seen.
    module _ {i i' : P} (alike : look i ≡ look i') where
      peek_alike : peek (stream P look piece) l i ≡ peek (stream P look piece) l i'
      peek_alike = ap (word_of_lem (stream P look piece) l) alike

      empty : {G : Ask → Counts → Token → Bool} {d : Counts} {s : List Symbol} {k r : P} {p : Parts} → ReadingBy (stream P look piece) l G d s k r p → T (not (faced s)) → k ≡ i → ahead i ≤ ahead r → ReadingBy (stream P look piece) l G d s i' i' p
      empty reads_end h e b = reads_end
      empty (reads_token {x = x} {i = k} {j = j} y m g t) h e b = absurd (let z = on t in let u = tokens_take x k j y in let q = ap ahead e in omega arith)
      empty (reads_phrase {n = n} {i = k} {m = m} o t u) h e b =
          let q = ap ahead e in
          elim (begins t (bare_one n o)) [
            | inl f ↦ absurd (let z = tokens_take f.token k f.next f.seen in let y = f.upto in let v = on u in omega arith)
            | inr c ↦ reads_phrase o (empty t (bare_one n o) e (let y = ap ahead c in omega arith)) (empty u h (sym c ∙ e) b)
          ]
      empty (reads_unless {w = w} m t) h e b = reads_unless (subst (λ (c : ℕ). T (not (one_of c w))) (ap (peek (stream P look piece) l) e ∙ peek_alike) m) (empty t h e b)
      empty (reads_note t) h e b = reads_note (empty t h e b)
      empty (reads_side {n = n} {n₁ = n₁} {s = s} {i = k} {p = p} o t m u) h e b =
          let q = ap ahead e in
          elim (begins t (bare_one n o)) [
            | inl f ↦ absurd (let z = tokens_take f.token k f.next f.seen in let y = f.upto in let v = on u in omega arith)
            | inr c ↦ reads_side o (empty t (bare_one n o) e (let y = ap ahead c in omega arith)) tt (empty u (bare_on (l.is_path p) n₁ s h) (sym c ∙ e) b)
          ]
      empty (reads_text y k t) h e b = absurd h

      pub moved : {G : Ask → Counts → Token → Bool} {d : Counts} {s : List Symbol} {k r : P} {p : Parts} → ReadingBy (stream P look piece) l G d s k r p → T (not (faced s)) → k ≡ i → ahead r < ahead i → ReadingBy (stream P look piece) l G d s i' r p
      moved reads_end h e b = absurd (let q = ap ahead e in omega arith)
      moved (reads_token y m g t) h e b = reads_token (sym alike ∙ ap look (sym e) ∙ y) m g t
      moved (reads_phrase {n = n} {i = k} {m = m} o t u) h e b =
          let q = ap ahead e in
          elim (begins t (bare_one n o)) [
            | inl f ↦ reads_phrase o (moved t (bare_one n o) e (let z = tokens_take f.token k f.next f.seen in let y = f.upto in omega arith)) u
            | inr c ↦ reads_phrase o (empty t (bare_one n o) e (let y = ap ahead c in omega arith)) (moved u h (sym c ∙ e) b)
          ]
      moved (reads_unless {w = w} m t) h e b = reads_unless (subst (λ (c : ℕ). T (not (one_of c w))) (ap (peek (stream P look piece) l) e ∙ peek_alike) m) (moved t h e b)
      moved (reads_note t) h e b = reads_note (moved t h e b)
      moved (reads_side {n = n} {n₁ = n₁} {s = s} {i = k} {p = p} o t m u) h e b =
          let q = ap ahead e in
          elim (begins t (bare_one n o)) [
            | inl f ↦ reads_side o (moved t (bare_one n o) e (let z = tokens_take f.token k f.next f.seen in let y = f.upto in omega arith)) tt u
            | inr c ↦ reads_side o (empty t (bare_one n o) e (let y = ap ahead c in omega arith)) tt (moved u (bare_on (l.is_path p) n₁ s h) (sym c ∙ e) b)
          ]
      moved (reads_text y k t) h e b = absurd h
