-- What a list's reading says of its tokens: each has a word, and the last one ends a line.
use mathlib.Core.Path.{◌≡◌, refl, sym, ap, subst, ◌∙◌}
use mathlib.Core.Logic.{◌⊎◌, inl, inr}
use mathlib.Core.List.{List, [], ◌∷◌, ◌++◌, append_assoc}
use mathlib.Core.Bool.{Bool, true, false, not, ◌&&◌, ◌||◌, cond}
use Prim.Native.Nat.{ℕ}
use native.Mathlib.Omega.{arith}
use lib.ListN.{length}
use lib.Dec.{T, T_not, eqb, eqb→eq}
use Rattle.grammar.specs.Words.{text_then_hole, last_text}
use Rattle.grammar.specs.Grammar.{Ask, In, Symbol, token, phrase, unless, note, left_side, text, same, Token, found, over, Parts, one_of, alternatives}
use Rattle.grammar.specs.Kinds.{TREE, DECLARATIONS, DECLARATION, IMPORT, BLOCK}
use Rattle.grammar.specs.Limits.{Counts}
use Rattle.grammar.specs.Language.{roto, start}
use Rattle.grammar.specs.Culprit.{look_at, piece_at, lists}
use Rattle.grammar.specs.Readings.{ReadingBy, reads_end, reads_token, reads_phrase, reads_unless, reads_note, reads_side, reads_text}
use Rattle.grammar.proofs.Bools.{and_l, and_r, both, or_cases}
use Rattle.grammar.proofs.Pass.{each_passes, passes_at}
use Rattle.grammar.proofs.Good.{filled}
use Rattle.grammar.proofs.Checks.{roto_full}
use Rattle.printing.specs.Spelled.{leaves, line_words}
use Rattle.printing.proofs.Lists.{l}
use Rattle.respell.proofs.Readings.{roto_solid, takes}

-- no token has the word 0
abbrev pub nonzero : List Token → Bool
nonzero [] = true
nonzero (x ∷ ts) = not (eqb x.word 0) && nonzero ts

abbrev no_zero : List Symbol → Bool
no_zero [] = true
no_zero (token g w ∷ t) = not (one_of 0 w) && no_zero t
no_zero (phrase o n ∷ t) = no_zero t
no_zero (unless w ∷ t) = no_zero t
no_zero (note k ∷ t) = no_zero t
no_zero (left_side n m ∷ t) = no_zero t
no_zero (text n ∷ t) = no_zero t

all_no_zero : T (each_passes (λ n b. no_zero b) l.rules)
unfolding roto
all_no_zero = tt

zero_if : (b : Bool) (n : ℕ) (t : List Symbol) → T (no_zero t) → T (no_zero (cond b (phrase same n ∷ t) t))
zero_if true n t h = h
zero_if false n t h = h

-- a token that is looked at stands first
pub looked : (c c' : List Token) (x : Token) → look_at c ≡ found x c' → c ≡ x ∷ c'
looked [] c' x e = let v : ◌≡◌ {A = ℕ} 0 1 = cc in absurd (omega arith)
looked (y ∷ c) c' x e = let u : y ≡ x = cc in let v : c ≡ c' = cc in cc

pub pieced : (c c' : List Token) (x : Token) → piece_at c ≡ found x c' → (c ≡ x ∷ c') × T (one_of x.word (text_then_hole ∷ last_text ∷ []))
pieced [] c' x e = let v : ◌≡◌ {A = ℕ} 0 1 = cc in absurd (omega arith)
pieced (y ∷ c) c' x e = by (one_of y.word (text_then_hole ∷ last_text ∷ [])) refl e
  where
    by : (b : Bool) → one_of y.word (text_then_hole ∷ last_text ∷ []) ≡ b → cond b (found y c) over ≡ found x c' → (y ∷ c ≡ x ∷ c') × T (one_of x.word (text_then_hole ∷ last_text ∷ []))
    by true f k = let u : y ≡ x = cc in let v : c ≡ c' = cc in (cc, subst (λ (z : Token). T (one_of z.word (text_then_hole ∷ last_text ∷ []))) u (subst T (sym f) tt))
    by false f k = let v : ◌≡◌ {A = ℕ} 0 1 = cc in absurd (omega arith)

other : (w : List ℕ) (c : ℕ) → T (one_of c w) → T (not (one_of 0 w)) → T (not (eqb c 0))
other w c m h = by (eqb c 0) refl
  where
    by : (b : Bool) → eqb c 0 ≡ b → T (not b)
    by true e = absurd (T_not (one_of 0 w) h (subst (λ (n : ℕ). T (one_of n w)) (eqb→eq c 0 (subst T (sym e) tt)) m))
    by false e = tt

module _ {G : Ask → Counts → Token → Bool} where
  worded : {d : Counts} {t : List Symbol} {c z : List Token} {p : Parts} → ReadingBy lists l G d t c z p → T (no_zero t) → T (nonzero z) → T (nonzero c)
  worded reads_end h u = u
  worded (reads_token {w = w} {s = t} {x = x} {i = c} {j = c'} e m k v) h u = subst (λ (o : List Token). T (nonzero o)) (sym (looked c c' x e)) (both (not (eqb x.word 0)) (nonzero c') (other w x.word m (and_l (not (one_of 0 w)) (no_zero t) h)) (worded v (and_r (not (one_of 0 w)) (no_zero t) h) u))
  worded (reads_phrase {n = n} o v w) h u = worded v (passes_at (λ n b. no_zero b) l.rules n all_no_zero o) (worded w h u)
  worded (reads_unless m v) h u = worded v h u
  worded (reads_note v) h u = worded v h u
  worded (reads_side {n = n} {n₁ = m} {s = t} {p = p} o v k w) h u = worded v (passes_at (λ n b. no_zero b) l.rules n all_no_zero o) (worded w (zero_if (l.is_path p) m t h) u)
  worded (reads_text {n = n} {s = t} {x = x} {i = c} {j = c'} e k v) h u = let f = pieced c c' x e in subst (λ (o : List Token). T (nonzero o)) (sym f.0) (both (not (eqb x.word 0)) (nonzero c') (other (text_then_hole ∷ last_text ∷ []) x.word f.1 tt) (worded v (zero_if (eqb x.word l.hole) n t h) u))

  pub all_worded : {d : Counts} {c : List Token} {p : Parts} → ReadingBy lists l G d (start true) c [] p → T (nonzero c)
  all_worded u = worded u tt tt

-- the last token ends a line
abbrev pub last_in : List Token → Bool
last_in [] = true
last_in (x ∷ []) = one_of x.word line_words
last_in (x ∷ y ∷ ts) = last_in (y ∷ ts)

pub last_two : (xs : List Token) (y : Token) → last_in (xs ++ (y ∷ [])) ≡ one_of y.word line_words
last_two [] y = refl
last_two (x ∷ []) y = refl
last_two (x ∷ z ∷ xs) y = last_two (z ∷ xs) y

abbrev ending_kinds : List ℕ
ending_kinds = TREE ∷ DECLARATIONS ∷ DECLARATION ∷ IMPORT ∷ BLOCK ∷ []

abbrev pub covered : List ℕ → List ℕ → Bool
covered [] v = true
covered (c ∷ w) v = one_of c v && covered w v

pub within_one : (w v : List ℕ) (c : ℕ) → T (covered w v) → T (one_of c w) → T (one_of c v)
within_one [] v c h m = absurd m
within_one (x ∷ w) v c h m = elim (or_cases (eqb c x) (one_of c w) m) [
  | inl e ↦ subst (λ (n : ℕ). T (one_of n v)) (sym (eqb→eq c x e)) (and_l (one_of x v) (covered w v) h)
  | inr k ↦ within_one w v c (and_r (one_of x v) (covered w v) h) k
]

abbrev ended : List Symbol → Bool
ended [] = true
ended (token g w ∷ t) = ended t && (filled l t || covered w line_words)
ended (phrase o n ∷ t) = ended t && (filled l t || one_of n ending_kinds)
ended (unless w ∷ t) = ended t
ended (note k ∷ t) = ended t
ended (left_side n m ∷ t) = false
ended (text n ∷ t) = false

abbrev ends_well : ℕ → List Symbol → Bool
ends_well n b = not (one_of n ending_kinds) || ended b

all_end : T (each_passes ends_well l.rules)
unfolding roto
all_end = tt

one_ends : {b : List Symbol} (n : ℕ) → In b (alternatives l n) → T (one_of n ending_kinds) → T (ended b)
one_ends {b} n o h = elim (or_cases (not (one_of n ending_kinds)) (ended b) (passes_at ends_well l.rules n all_end o)) [ inl k ↦ absurd (T_not (one_of n ending_kinds) k h) | inr k ↦ k ]

-- from c up to z: nothing, or a last token that ends a line
abbrev Ends : List Token → List Token → Type 0
Ends c z = (c ≡ z) ⊎ ((ys : List Token) × (y : Token) × (c ≡ ys ++ (y ∷ z)) × T (one_of y.word line_words))

module _ {G : Ask → Counts → Token → Bool} where
  listed : {d : Counts} {t : List Symbol} {c z : List Token} {p : Parts} → ReadingBy lists l G d t c z p → c ≡ leaves p ++ z
  listed reads_end = refl
  listed (reads_token {x = x} {i = c} {j = c'} e m k v) = looked c c' x e ∙ ap (λ (o : List Token). x ∷ o) (listed v)
  listed (reads_phrase {r = z} {p = p} {q = q} o v w) = listed v ∙ ap (λ (o : List Token). leaves p ++ o) (listed w) ∙ sym (append_assoc (leaves p) (leaves q) z)
  listed (reads_unless m v) = listed v
  listed (reads_note v) = listed v
  listed (reads_side {r = z} {p = p} {q = q} o v k w) = listed v ∙ ap (λ (o : List Token). leaves p ++ o) (listed w) ∙ sym (append_assoc (leaves p) (leaves q) z)
  listed (reads_text {x = x} {i = c} {j = c'} e k v) = (pieced c c' x e).0 ∙ ap (λ (o : List Token). x ∷ o) (listed v)

  moves : {d : Counts} {t : List Symbol} {c z : List Token} {p : Parts} → ReadingBy lists l G d t c z p → T (filled l t) → c ≡ z → ⊥
  moves {c = c} {z = z} u h e = let k = takes l (roto_full true) (roto_solid true) u h in let n : length c ≡ length z = ap length e in omega arith

  lasts : {d : Counts} {t : List Symbol} {c z : List Token} {p : Parts} → ReadingBy lists l G d t c z p → T (ended t) → Ends c z
  lasts reads_end h = inl refl
  lasts (reads_token {w = w} {s = t} {x = x} {i = c} {j = c'} {r = z} e m k v) h = elim (lasts v (and_l (ended t) (filled l t || covered w line_words) h)) [
    | inl i ↦ elim (or_cases (filled l t) (covered w line_words) (and_r (ended t) (filled l t || covered w line_words) h)) [
      | inl f ↦ absurd (moves v f i)
      | inr f ↦ inr ([], x, looked c c' x e ∙ ap (λ (o : List Token). x ∷ o) i, within_one w line_words x.word f m)
    ]
    | inr i ↦ inr (x ∷ i.0, i.1, looked c c' x e ∙ ap (λ (o : List Token). x ∷ o) i.2, i.3)
  ]
  lasts (reads_phrase {n = n} {s = t} {i = c} {r = z} {p = p} o v w) h = elim (lasts w (and_l (ended t) (filled l t || one_of n ending_kinds) h)) [
    | inl i ↦ elim (or_cases (filled l t) (one_of n ending_kinds) (and_r (ended t) (filled l t || one_of n ending_kinds) h)) [
      | inl f ↦ absurd (moves w f i)
      | inr f ↦ subst (λ (y : List Token). Ends c y) i (lasts v (one_ends n o f))
    ]
    | inr i ↦ inr (leaves p ++ i.0, i.1, listed v ∙ ap (λ (y : List Token). leaves p ++ y) i.2 ∙ sym (append_assoc (leaves p) i.0 (i.1 ∷ z)), i.3)
  ]
  lasts (reads_unless m v) h = lasts v h
  lasts (reads_note v) h = lasts v h
  lasts (reads_side o v k w) h = absurd h
  lasts (reads_text e k v) h = absurd h

  pub last_ends : {d : Counts} {c : List Token} {p : Parts} → ReadingBy lists l G d (start true) c [] p → T (last_in c)
  last_ends u = elim (lasts u tt) [
    | inl e ↦ subst (λ (o : List Token). T (last_in o)) (sym e) tt
    | inr e ↦ subst (λ (o : List Token). T (last_in o)) (sym e.2) (subst T (sym (last_two e.0 e.1)) e.3)
  ]
