-- What holds of each alternative whose phrases it holds of, holds of every reading: as `by_alternatives` (printing/proofs/Back.antt), with the word
-- that stands where each phrase begins.
use mathlib.Core.Path.{◌≡◌, sym, ap}
use mathlib.Core.List.{List, [], ◌∷◌, ◌++◌}
use mathlib.Core.Bool.{Bool, not, cond}
use Prim.Native.Nat.{ℕ}
use lib.Dec.{T, eqb}
use Rattle.grammar.specs.Grammar.{Ask, Scope, same, Symbol, token, phrase, unless, note, left_side, text, Token, Look, Stream, found, Parts, end, leaf, node, mark, Language, Rule, one_of, alternatives, In}
use Rattle.grammar.specs.Limits.{Counts}
use Rattle.grammar.specs.Readings.{word_of_lem, peek, ReadingBy, reads_end, reads_token, reads_phrase, reads_unless, reads_note, reads_side, reads_text}
use Rattle.grammar.proofs.Bools.{and_l, and_r}
use Rattle.grammar.proofs.Pass.{all_pass, each_passes}
use Rattle.printing.proofs.Back.{Alts, Rules}

-- P n u p: what is claimed of a phrase of kind n with the parts p, where u is the word that it begins with; K: what is known of each token
module _ (l : Language) (K : Token → Type 0) (P : ℕ → ℕ → Parts → Type 0) where
  -- the symbols are read as these parts from where the word u stands, and what is claimed holds of each phrase among them
  pub data All : List Symbol → ℕ → Parts → Type 0 where
    all_end : {u : ℕ} → All [] u end
    all_token : {g : Ask} {w : List ℕ} {s : List Symbol} {x : Token} {u v : ℕ} {p : Parts} → T (one_of x.word w) → K x → x.word ≡ u → All s v p → All (token g w ∷ s) u (leaf x p)
    all_phrase : {o : Scope} {n : ℕ} {a s : List Symbol} {u v : ℕ} {p q : Parts} → P n u p → All s v q → All (phrase o n ∷ s) u (node n a p q)
    all_unless : {w : List ℕ} {s : List Symbol} {u : ℕ} {p : Parts} → T (not (one_of u w)) → All s u p → All (unless w ∷ s) u p
    all_note : {k : ℕ} {s : List Symbol} {u : ℕ} {p : Parts} → All s u p → All (note k ∷ s) u (mark k p)
    all_side : {n n₁ : ℕ} {a s : List Symbol} {u v : ℕ} {p q : Parts} → P n u p → All (cond (l.is_path p) (phrase same n₁ ∷ s) s) v q → All (left_side n n₁ ∷ s) u (node n a p q)
    all_text : {n : ℕ} {s : List Symbol} {x : Token} {u v : ℕ} {p : Parts} → K x → All (cond (eqb x.word l.hole) (phrase same n ∷ s) s) v p → All (text n ∷ s) u (leaf x p)

  abbrev pub Claimed : ℕ → List Symbol → Type 0
  Claimed n a = (u : ℕ) (p : Parts) → All a u p → P n u p

  module _ (S : Stream) (looks : (i j : S.Place) (x : Token) → S.look i ≡ found x j → K x) (pieces : (i j : S.Place) (x : Token) → S.piece i ≡ found x j → K x) (step : (n : ℕ) (a : List Symbol) → In a (alternatives l n) → Claimed n a) where
    pub by_alternatives : {G : Ask → Counts → Token → Bool} {d : Counts} {s : List Symbol} {i r : S.Place} {p : Parts} → ReadingBy S l G d s i r p → All s (peek S l i) p
    by_alternatives reads_end = all_end
    by_alternatives (reads_token {x = x} {i = i} {j = j} e m k t) = all_token m (looks i j x e) (sym (ap (λ (y : Look S.Place). word_of_lem S l y) e)) (by_alternatives t)
    by_alternatives (reads_phrase {n = n} {a = a} {i = i} {p = p} o t u) = all_phrase (step n a o (peek S l i) p (by_alternatives t)) (by_alternatives u)
    by_alternatives (reads_unless m t) = all_unless m (by_alternatives t)
    by_alternatives (reads_note t) = all_note (by_alternatives t)
    by_alternatives (reads_side {n = n} {a = a} {i = i} {p = p} o t m u) = all_side (step n a o (peek S l i) p (by_alternatives t)) (by_alternatives u)
    by_alternatives (reads_text {x = x} {i = i} {j = j} e k t) = all_text (pieces i j x e) (by_alternatives t)

-- proofs for rules by a test, and for two lists of rules
alts_by : (C : List Symbol → Type 0) (test : List Symbol → Bool) → ((a : List Symbol) → T (test a) → C a) → (ss : List (List Symbol)) → T (all_pass test ss) → Alts C ss
alts_by C test f [] t = tt
alts_by C test f (a ∷ ss) t = (f a (and_l (test a) (all_pass test ss) t), alts_by C test f ss (and_r (test a) (all_pass test ss) t))

pub rules_by : (C : ℕ → List Symbol → Type 0) (test : ℕ → List Symbol → Bool) → ((n : ℕ) (a : List Symbol) → T (test n a) → C n a) → (rs : List Rule) → T (each_passes test rs) → Rules C rs
rules_by C test f [] t = tt
rules_by C test f (r ∷ rs) t =
    let x = all_pass (test r.kind) r.alternatives in
    let y = each_passes test rs in
    (alts_by (C r.kind) (test r.kind) (f r.kind) r.alternatives (and_l x y t), rules_by C test f rs (and_r x y t))

pub rules_two : (C : ℕ → List Symbol → Type 0) (rs qs : List Rule) → Rules C rs → Rules C qs → Rules C (rs ++ qs)
rules_two C [] qs h k = k
rules_two C (r ∷ rs) qs h k = (h.0, rules_two C rs qs h.1 k)
