-- What a predictive reader looks at, and which alternative of a kind it takes there.
use Rattle.std.specs.Prelude.{List, [], ◌∷◌, ◌++◌, Bool, true, false, ◌&&◌, ◌||◌, cond, ℕ, eqb}
use Rattle.std.proofs.Math.Option.{Option, none, some}
use Rattle.grammar.specs.Grammar.{Symbol, token, phrase, unless, note, left_side, text, View, one, pair, Pair, Hint, Language, one_of, alternatives}

abbrev pub or_else : {A : Type 0} → Option A → Option A → Option A
or_else none b = b
or_else (some a) b = some a

abbrev pub eqv : View → View → Bool
eqv (one a) (one b) = eqb a b
eqv (one a) (pair b) = false
eqv (pair a) (one b) = false
eqv (pair a) (pair b) = eqb a b

abbrev pub among : View → List View → Bool
among v [] = false
among v (x ∷ xs) = eqv v x || among v xs

abbrev pub ones : List ℕ → List View
ones [] = []
ones (c ∷ cs) = one c ∷ ones cs

abbrev pub no_hint : Hint
no_hint = record { kind = 0; firsts = []; follows = []; full = false; shortest = 0; more = 0; less = 0; rank = 0 }

abbrev pub hint_in : List Hint → ℕ → Hint
hint_in [] n = no_hint
hint_in (h ∷ hs) n = let k = hint_in hs n in cond (eqb n h.kind) h k

-- a word in front of one that it is looked at with; a word that is looked at with the next
abbrev pub flag : List Pair → ℕ → ℕ → Bool
flag [] c d = false
flag (p ∷ ps) c d = (eqb c p.this && eqb d p.next) || flag ps c d

abbrev pub two : List Pair → ℕ → Bool
two [] c = false
two (p ∷ ps) c = eqb c p.this || two ps c

abbrev pub base : View → ℕ
base (one c) = c
base (pair c) = c

-- an alternative with no token and no phrase in it
abbrev pub hollow : List Symbol → Bool
hollow [] = true
hollow (token g w ∷ s) = false
hollow (phrase o n ∷ s) = false
hollow (unless w ∷ s) = false
hollow (note k ∷ s) = hollow s
hollow (left_side n n₁ ∷ s) = false
hollow (text n ∷ s) = false

abbrev pub hollows : List (List Symbol) → Option (List Symbol)
hollows [] = none
hollows (a ∷ ss) = cond (hollow a) (some a) (hollows ss)

abbrev pub only : List (List Symbol) → Option (List Symbol)
only [] = none
only (a ∷ []) = some a
only (a ∷ b ∷ ss) = none

-- what is taken where nothing asked for stands: the alternative with nothing in it, or the only one
abbrev pub idle : List (List Symbol) → Option (List Symbol)
idle ss = or_else (hollows ss) (only ss)

module _ (l : Language) where
  abbrev pub firsts : ℕ → List View
  firsts n = (hint_in l.hints n).firsts

  abbrev pub follows : ℕ → List View
  follows n = (hint_in l.hints n).follows

  abbrev pub see : ℕ → ℕ → View
  see c d = cond (flag l.pairs c d) (pair c) (one c)

  -- what may begin an alternative behind which f may stand
  abbrev pub minus : List View → List ℕ → List View
  minus [] s = []
  minus (v ∷ vs) s = cond (one_of (base v) s) (minus vs s) (v ∷ minus vs s)

  abbrev pub sees : ℕ → List View → List View
  sees c [] = []
  sees c (v ∷ vs) = see c (base v) ∷ sees c vs

  abbrev pub front : ℕ → List View → List View
  front c vs = let r = sees c vs in cond (two l.pairs c) r (one c ∷ [])

  abbrev pub fronts : List ℕ → List View → List View
  fronts [] vs = []
  fronts (c ∷ w) vs = front c vs ++ fronts w vs

  abbrev pub first : List Symbol → List View → List View
  first [] f = f
  first (token g w ∷ s) f = let r = first s f in fronts w r
  first (phrase o n ∷ s) f = firsts n
  first (unless w ∷ s) f = minus (first s f) w
  first (note k ∷ s) f = first s f
  first (left_side n n₁ ∷ s) f = firsts n
  first (text n ∷ s) f = []

  -- the alternative that begins with what is seen; else one that begins with its word; else the idle one
  abbrev pub choose : List (List Symbol) → List View → View → Option (List Symbol)
  choose [] f v = none
  choose (a ∷ ss) f v = cond (among v (first a f)) (some a) (choose ss f v)

  abbrev pub spare : List (List Symbol) → List View → ℕ → Option (List Symbol)
  spare ss f c = or_else (choose ss f (one c)) (or_else (choose ss f (pair c)) (idle ss))

  abbrev pub chosen_from : List (List Symbol) → List View → View → Option (List Symbol)
  chosen_from ss f v = or_else (choose ss f v) (spare ss f (base v))

  abbrev pub chosen : ℕ → View → Option (List Symbol)
  chosen n v = chosen_from (alternatives l n) (follows n) v
