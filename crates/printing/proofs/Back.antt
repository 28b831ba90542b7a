-- The way back, from readings: what holds of each alternative whose phrases it holds of, holds of every reading.
use mathlib.Core.Path.{◌≡◌, refl, subst, sym}
use mathlib.Core.List.{List, [], ◌∷◌}
use mathlib.Core.Bool.{Bool, cond, false, true}
use Prim.Native.Nat.{ℕ}
use lib.Dec.{T, eqb, eqb→eq}
use Rattle.grammar.specs.Grammar.{Ask, In, Language, Parts, Rule, Scope, Stream, Symbol, Token, alternatives, alternatives_in, end, found, has_value, here, leaf, left_side, mark, node, note, one_of, phrase, same, text, there, token, unless}
use Rattle.grammar.specs.Limits.{Counts}
use Rattle.grammar.specs.Readings.{ReadingBy, reads_end, reads_note, reads_phrase, reads_side, reads_text, reads_token, reads_unless}

-- P n a p: what is claimed of a phrase of kind n with the alternative a and the parts p; K: what is known of each token of the source
module _ (S : Stream) (l : Language) (G : Ask → Counts → Token → Bool) (K : Ask → Token → Type 0) (P : ℕ → List Symbol → Parts → Type 0) where
  -- the symbols are read as these parts, and what is claimed holds of each phrase among them
  pub data All : List Symbol → Parts → Type 0 where
    all_end : All [] end
    all_token : {g : Ask} {w : List ℕ} {s : List Symbol} {x : Token} {p : Parts} → T (one_of x.word w) → K g x → All s p → All (token g w ∷ s) (leaf x p)
    all_phrase : {o : Scope} {n : ℕ} {a s : List Symbol} {p q : Parts} → P n a p → All s q → All (phrase o n ∷ s) (node n a p q)
    all_unless : {w : List ℕ} {s : List Symbol} {p : Parts} → All s p → All (unless w ∷ s) p
    all_note : {k : ℕ} {s : List Symbol} {p : Parts} → All s p → All (note k ∷ s) (mark k p)
    all_side : {n n₁ : ℕ} {a s : List Symbol} {p q : Parts} → P n a p → All (cond (l.is_path p) (phrase same n₁ ∷ s) s) q → All (left_side n n₁ ∷ s) (node n a p q)
    all_text : {n : ℕ} {s : List Symbol} {x : Token} {p : Parts} → K has_value x → All (cond (eqb x.word l.hole) (phrase same n ∷ s) s) p → All (text n ∷ s) (leaf x p)

  -- somewhere in the source these parts stand
  abbrev pub Once : List Symbol → Parts → Type 0
  Once a p = (d : Counts) × (i : S.Place) × (j : S.Place) × ReadingBy S l G d a i j p

  abbrev pub Step : Type 0
  Step = (n : ℕ) (a : List Symbol) (p : Parts) → In a (alternatives l n) → Once a p → All a p → P n a p

  pub record Known : Type 0 where
    pub looks : (g : Ask) (d : Counts) (i j : S.Place) (x : Token) → S.look i ≡ found x j → T (G g d x) → K g x
    pub pieces : (d : Counts) (i j : S.Place) (x : Token) → S.piece i ≡ found x j → T (G has_value d x) → K has_value x

  module _ (known : Known) (f : Step) where
    pub by_alternatives : {d : Counts} {s : List Symbol} {i r : S.Place} {p : Parts} → ReadingBy S l G d s i r p → All s p
    by_alternatives reads_end = all_end
    by_alternatives (reads_token {d = d} {g = g} {x = x} {i = i} {j = j} e m k t) = all_token m (known.looks g d i j x e k) (by_alternatives t)
    by_alternatives (reads_phrase {n = n} {a = a} {p = p} o t u) = all_phrase (f n a p o (_, _, _, t) (by_alternatives t)) (by_alternatives u)
    by_alternatives (reads_unless m t) = all_unless (by_alternatives t)
    by_alternatives (reads_note t) = all_note (by_alternatives t)
    by_alternatives (reads_side {n = n} {a = a} {p = p} o t m u) = all_side (f n a p o (_, _, _, t) (by_alternatives t)) (by_alternatives u)
    by_alternatives (reads_text {d = d} {x = x} {i = i} {j = j} e k t) = all_text (known.pieces d i j x e k) (by_alternatives t)

-- one proof for each alternative of each rule, in the table's order
abbrev pub Alts : (List Symbol → Type 0) → List (List Symbol) → Type 0
Alts C [] = Unit {0}
Alts C (a ∷ ss) = C a × Alts C ss

abbrev pub Rules : (ℕ → List Symbol → Type 0) → List Rule → Type 0
Rules C [] = Unit {0}
Rules C (r ∷ rs) = Alts (C r.kind) r.alternatives × Rules C rs

pub alt_at : (C : List Symbol → Type 0) {a : List Symbol} {ss : List (List Symbol)} → In a ss → Alts C ss → C a
alt_at C here h = h.0
alt_at C (there o) h = alt_at C o h.1

in_none : {X : Type 0} {a : List Symbol} → In a [] → X
in_none = elim [ ]

pub rule_at : (C : ℕ → List Symbol → Type 0) (rs : List Rule) (n : ℕ) {a : List Symbol} → In a (alternatives_in rs n) → Rules C rs → C n a
rule_at C [] n o h = in_none o
rule_at C (r ∷ rs) n {a} o h = go (eqb n r.kind) refl o (λ o'. rule_at C rs n o' h.1)
  where
    go : (b : Bool) → eqb n r.kind ≡ b → In a (cond b r.alternatives (alternatives_in rs n)) → (In a (alternatives_in rs n) → C n a) → C n a
    go true e o' f = subst (λ (k : ℕ). C k a) (sym (eqb→eq n r.kind (subst T (sym e) tt))) (alt_at (C r.kind) o' h.0)
    go false e o' f = f o'
