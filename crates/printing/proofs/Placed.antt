-- A tree at a place: its tokens are a phrase of the place's level, whatever stands behind, and leave the tree.
use mathlib.Core.Path.{◌≡◌, ap, refl, subst, sym}
use mathlib.Core.List.{List, [], ◌∷◌}
use mathlib.Core.Bool.{Bool, ◌&&◌, ◌||◌, cond, false, not, true}
use mathlib.Core.Logic.{inl, inr}
use Prim.Native.Nat.{ℕ, zero, suc, ◌≤◌}
use native.Mathlib.Omega.{arith}
use lib.Dec.{T, eqb, eqb→eq, leb, leb-suc-zero, leb→le, ltb}
use borrow.Author.Tests.{ltb-false, eqb-true, eqb-false}
use Rattle.rows.specs.Kinds as kinds
use Rattle.grammar.specs.Words.{four_words, open_brace, open_paren, path_items}
use Rattle.grammar.specs.Grammar.{Token, one_of}
use Rattle.grammar.specs.Kinds.{BLOCK, FOUR, records}
use Rattle.grammar.specs.Readings.{peek}
use Rattle.grammar.specs.Culprit.{lists}
use Rattle.grammar.proofs.Bools.{and_l, and_r, or_cases}
use Rattle.canon.specs.Layout.{Place, whole, level, needs, begins, empty, is_four, is_expr}
use Rattle.printing.specs.Groves.{Grove, Head, Suit, Under, body, label_of, labelled, needs_pair, nil, say, top}
use Rattle.printing.specs.Pairs.{Choice}
use Rattle.printing.proofs.Lists.{Whole, l}
use Rattle.printing.proofs.Levels.{Level, climb, in_more_pairs}

-- what a place asks, as a level: 8 where no path may stand
abbrev pub rank : Place → ℕ
rank c = cond c.path c.level 8

abbrev pub Fair : Place → Type 0
Fair c = T (leb c.level 7 && (c.path || eqb c.level 7))

-- the words with which nothing may begin
pub data Barred : Type 0 where
  no_word the_four a_brace : Barred

abbrev pub barred : Barred → List ℕ
barred no_word = []
barred the_four = four_words
barred a_brace = open_brace ∷ []

-- a path: items joined by dots
abbrev pub name_head : Token → Head
name_head x = record { kind = kinds.NAME; value = 0; detail = 0; tokens = x ∷ [] }

abbrev pub row_head : ℕ → ℕ → ℕ → Head
row_head k v d = record { kind = k; value = v; detail = d; tokens = [] }

pub data Items : Grove → Type 0 where
  no_items : Items nil
  more_items : (x : Token) {g : Grove} → T (one_of x.word path_items) → Items g → Items (top (name_head x) nil g)

pub data PathTree : Head → Grove → Type 0 where
  path : (x : Token) {g : Grove} → T (one_of x.word path_items) → Items g → PathTree (row_head kinds.PATH 0 0) (top (name_head x) nil g)

-- no word of v is one of w
abbrev pub disjoint : List ℕ → List ℕ → Bool
disjoint [] w = true
disjoint (x ∷ v) w = not (one_of x w) && disjoint v w

pub apart : (v w : List ℕ) (c : ℕ) → T (disjoint v w) → T (one_of c v) → T (not (one_of c w))
apart [] w c d m = absurd m
apart (x ∷ v) w c d m = elim (or_cases (eqb c x) (one_of c v) m) [
  | inl e ↦ subst (λ (y : ℕ). T (not (one_of y w))) (sym (eqb→eq c x e)) (and_l (not (one_of x w)) (disjoint v w) d)
  | inr k ↦ apart v w c (and_r (not (one_of x w)) (disjoint v w) d) k
]

-- what holds of each word of a list
abbrev pub Each : (ℕ → Type 0) → List ℕ → Type 0
Each C [] = Unit {0}
Each C (x ∷ w) = C x × Each C w

pub each_of : (C : ℕ → Type 0) (w : List ℕ) (c : ℕ) → T (one_of c w) → Each C w → C c
each_of C [] c m h = absurd m
each_of C (x ∷ w) c m h = elim (or_cases (eqb c x) (one_of c w) m) [ inl e ↦ subst C (sym (eqb→eq c x e)) h.0 | inr k ↦ each_of C w c k h.1 ]

pub off : (b : Bool) → T (not b) → b ≡ false
off true t = absurd t
off false t = refl

or_false_l : (a b : Bool) → (a || b) ≡ false → a ≡ false
or_false_l true b e = e
or_false_l false b e = refl

or_false_r : (a b : Bool) → (a || b) ≡ false → b ≡ false
or_false_r true b e = absurd (subst T e tt)
or_false_r false b e = e

-- a row that needs no pair binds as tight as its place asks
fits : (n k : ℕ) (p i o : Bool) → T (leb k 7 && (p || eqb k 7)) → (ltb n k || ((not p && i) || o)) ≡ false → cond p k 8 ≤ cond i 7 (cond (eqb n 7) 8 n)
fits n k true true o f e = leb→le k 7 (and_l (leb k 7) true f)
fits n k true false o f e = go (eqb n 7)
  where
    go : (b : Bool) → k ≤ cond b 8 n
    go true = let h : k ≤ 7 = leb→le k 7 (and_l (leb k 7) true f) in omega arith
    go false = ltb-false n k (or_false_l (ltb n k) o e)
fits n k false true o f e = absurd (subst T (or_false_r (ltb n k) true e) tt)
fits n k false false o f e = go (eqb n 7) refl
  where
    is : k ≡ 7
    is = eqb→eq k 7 (and_r (leb k 7) (eqb k 7) f)

    at : k ≤ n
    at = ltb-false n k (or_false_l (ltb n k) o e)

    high : (n ≡ 7 → ⊥) → 8 ≤ n
    high ne = omega (arith, is, at, ne)

    go : (b : Bool) → eqb n 7 ≡ b → 8 ≤ cond b 8 n
    go true h = let i : 8 ≤ 8 = omega arith in i
    go false h = high (eqb-false n 7 h)

module _ (s : List ℕ) where
  abbrev pub natural : Head → ℕ
  natural h = let n = level (label_of s h) in cond (eqb h.kind kinds.PATH) 7 (cond (eqb n 7) 8 n)

  pub record Placed (h : Head) (k : Grove) : Type 0 where
    pub stands : (c : Place) → Fair c → (n : ℕ) (χ : Choice) → Suit s c n h k χ → Level (rank c) c.records (say s c n h k χ) (top h k nil)
    pub begin : (c : Place) (u : Barred) (n : ℕ) (χ : Choice) → Suit s c n h k χ → c.unless ≡ barred u → (z : List Token) → T (not (one_of (peek lists l (say s c n h k χ z)) (barred u)))
    pub path : T (eqb h.kind kinds.PATH) → PathTree h k
    pub four : T (is_four h.kind) → (χ : Choice) → Under s whole h k χ → (z : List Token) → Whole FOUR (body s whole h k χ z) z (top h k nil)
    pub block : T (eqb h.kind kinds.BLOCK) → (χ : Choice) → Under s whole h k χ → (z : List Token) → Whole BLOCK (body s whole h k χ z) z (top h k nil)
    pub expr : T (is_expr h.kind)

  -- the same for a tree that needs no pair and has none
  pub record Bare (h : Head) (k : Grove) : Type 0 where
    pub stands : (c : Place) (χ : Choice) → needs_pair s c h k ≡ false → Under s c h k χ → Level (natural h) c.records (body s c h k χ) (top h k nil)
    pub begin : (c : Place) (u : Barred) (χ : Choice) → needs_pair s c h k ≡ false → Under s c h k χ → c.unless ≡ barred u → (z : List Token) → T (not (one_of (peek lists l (body s c h k χ z)) (barred u)))
    pub path : T (eqb h.kind kinds.PATH) → PathTree h k
    pub four : T (is_four h.kind) → (χ : Choice) → Under s whole h k χ → (z : List Token) → Whole FOUR (body s whole h k χ z) z (top h k nil)
    pub block : T (eqb h.kind kinds.BLOCK) → (χ : Choice) → Under s whole h k χ → (z : List Token) → Whole BLOCK (body s whole h k χ z) z (top h k nil)
    pub expr : T (is_expr h.kind)

  -- of a row that needs no pair: it is no record where none may stand, and begins with no barred word
  pub needs_records : (c : Place) (h : Head) (k : Grove) → needs_pair s c h k ≡ false → (not c.records && (eqb h.kind kinds.RECORD || (eqb h.kind kinds.RETURN && empty (labelled s k)))) ≡ false
  needs_records c h k e = third (ltb (level (label_of s h)) c.level) (not c.path && eqb h.kind kinds.PATH) (not c.records && (eqb h.kind kinds.RECORD || (eqb h.kind kinds.RETURN && empty (labelled s k)))) (one_of (begins (label_of s h)) c.unless) e
    where
      third : (x y z w : Bool) → (x || (y || (z || w))) ≡ false → z ≡ false
      third x y z w e = or_false_l z w (or_false_r y (z || w) (or_false_r x (y || (z || w)) e))

  pub needs_begins : (c : Place) (h : Head) (k : Grove) → needs_pair s c h k ≡ false → one_of (begins (label_of s h)) c.unless ≡ false
  needs_begins c h k e = fourth (ltb (level (label_of s h)) c.level) (not c.path && eqb h.kind kinds.PATH) (not c.records && (eqb h.kind kinds.RECORD || (eqb h.kind kinds.RETURN && empty (labelled s k)))) (one_of (begins (label_of s h)) c.unless) e
    where
      fourth : (x y z w : Bool) → (x || (y || (z || w))) ≡ false → w ≡ false
      fourth x y z w e = or_false_r z w (or_false_r y (z || w) (or_false_r x (y || (z || w)) e))

  pub whole_free : (h : Head) (k : Grove) → needs_pair s whole h k ≡ false
  whole_free h k = ap (λ (b : Bool). b || false) (leb-suc-zero (level (label_of s h)))

  paren_free : (u : Barred) → T (not (one_of open_paren (barred u)))
  paren_free no_word = tt
  paren_free the_four = tt
  paren_free a_brace = tt

  pub settle : (h : Head) (k : Grove) → Bare h k → Placed h k
  settle h k x = record { stands = at; begin = start; path = x.path; four = x.four; block = x.block; expr = x.expr }
    where
      at : (c : Place) → Fair c → (n : ℕ) (χ : Choice) → Suit s c n h k χ → Level (rank c) c.records (say s c n h k χ) (top h k nil)
      at c f (suc n) χ t =
          let r = c.records in
          let g = top h k nil in
          let i : rank c ≤ 8 = low c.path c.level (and_l (leb c.level 7) _ f) in
          climb 8 (rank c) r _ g i (in_more_pairs n r (body s whole h k χ) g (climb (natural h) 0 records (body s whole h k χ) g (omega arith) (x.stands whole χ (whole_free h k) t.1)))
        where
          low : (p : Bool) (n : ℕ) → T (leb n 7) → cond p n 8 ≤ 8
          low true n t = let j : n ≤ 7 = leb→le n 7 t in omega arith
          low false n t = omega arith
      at c f zero χ t =
          let e = off (needs_pair s c h k) t.0 in
          climb (natural h) (rank c) c.records (body s c h k χ) (top h k nil) (fits (level (label_of s h)) c.level c.path (eqb h.kind kinds.PATH) _ f e) (x.stands c χ e t.1)

      start : (c : Place) (u : Barred) (n : ℕ) (χ : Choice) → Suit s c n h k χ → c.unless ≡ barred u → (z : List Token) → T (not (one_of (peek lists l (say s c n h k χ z)) (barred u)))
      start c u (suc n) χ t i z = paren_free u
      start c u zero χ t i z = x.begin c u χ (off (needs_pair s c h k) t.0) t.1 i z
