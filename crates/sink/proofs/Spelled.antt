-- The text of a word is found in the one list that has its number.
use mathlib.Core.Path.{◌≡◌, refl, sym, ap, subst, ◌∙◌}
use mathlib.Core.List.{List, [], ◌∷◌, ◌++◌}
use mathlib.Core.Bool.{Bool, true, false, ◌&&◌, ◌||◌, cond}
use mathlib.Core.Logic.{◌⊎◌, inl, inr, ◌≢◌}
use Prim.Native.Nat.{ℕ, ◌≤◌, ◌<◌}
use lib.Dec.{T, eqb, eqb→eq, leb, leb→le}
use native.Mathlib.Omega.{arith}
use borrow.Author.Tests.{ne_eqb}
use Rattle.tokens.specs.Words.{Entry, two_signs, one_signs, page, words_of, keywords}
use Rattle.chars.specs.Texts.{bytes}
use Rattle.canon.specs.Text.{spelled}
use Rattle.grammar.proofs.Bools.{and_l, and_r, or_cases, F→eq}
use Rattle.sink.specs.Told.{word_text}

all : (ℕ → Bool) → List Entry → Bool
all p [] = true
all p (x ∷ xs) = p x.word && all p xs

-- words of which p holds, and one of which it doesn't
differs : (p : ℕ → Bool) (w k : ℕ) → T (p k) → (T (p w) → ⊥) → eqb w k ≡ false
differs p w k h n = F→eq (eqb w k) (λ (e : T (eqb w k)). n (subst (λ (m : ℕ). T (p m)) (sym (eqb→eq w k e)) h))

none_there : (p : ℕ → Bool) (w : ℕ) (xs : List Entry) → T (all p xs) → (T (p w) → ⊥) → spelled xs w ≡ []
unfolding all
none_there p w [] h n = refl
none_there p w (x ∷ xs) h n = rw (differs p w x.word (and_l (p x.word) (all p xs) h) n) (none_there p w xs (and_r (p x.word) (all p xs) h) n)

-- a word that is none of a list's
abbrev pub Missing : ℕ → List Entry → Type 0
Missing w [] = Unit {0}
Missing w (x ∷ xs) = (w ≢ x.word) × Missing w xs

pub missing : (w : ℕ) (xs : List Entry) → Missing w xs → spelled xs w ≡ []
missing w [] m = refl
missing w (x ∷ xs) m = rw (ne_eqb w x.word m.0) (missing w xs m.1)

skipped : (p : ℕ → Bool) (w : ℕ) (xs ys : List Entry) → T (all p xs) → (T (p w) → ⊥) → spelled (xs ++ ys) w ≡ spelled ys w
unfolding all
skipped p w [] ys h n = refl
skipped p w (x ∷ xs) ys h n = rw (differs p w x.word (and_l (p x.word) (all p xs) h) n) (skipped p w xs ys (and_r (p x.word) (all p xs) h) n)

in_front : (p : ℕ → Bool) (w : ℕ) (xs ys : List Entry) → T (all p ys) → (T (p w) → ⊥) → spelled (xs ++ ys) w ≡ spelled xs w
in_front p w [] ys h n = none_there p w ys h n
in_front p w (x ∷ xs) ys h n = ap (λ (t : List ℕ). cond (eqb w x.word) x.text t) (in_front p w xs ys h n)

abbrev behind_two : ℕ → Bool
behind_two k = eqb k 12 || leb 40 k

abbrev behind_one : ℕ → Bool
behind_one k = eqb k 12 || leb 60 k

not_so : (n w : ℕ) → 20 ≤ w → w < n → T (eqb w 12 || leb n w) → ⊥
not_so n w a b h = go (or_cases (eqb w 12) (leb n w) h)
  where
    go : T (eqb w 12) ⊎ T (leb n w) → ⊥
    go (inl e) = let q = eqb→eq w 12 e in omega arith
    go (inr e) = let q = leb→le n w e in omega arith

abbrev of_two : ℕ → Bool
of_two k = leb 20 k && leb k 39

abbrev of_one : ℕ → Bool
of_one k = leb 40 k && leb k 59

-- two signs, one sign, the keywords
pub two_signs_lem : (w : ℕ) → 20 ≤ w → w < 40 → word_text w ≡ spelled two_signs w
unfolding word_text all one_signs keywords page words_of bytes
two_signs_lem w a b = in_front behind_two w two_signs (one_signs ++ keywords) tt (not_so 40 w a b)

pub one_sign : (w : ℕ) → 40 ≤ w → w < 60 → word_text w ≡ spelled one_signs w
unfolding word_text all two_signs keywords page words_of bytes
one_sign w a b =
    skipped of_two w two_signs (one_signs ++ keywords) tt (λ (h : T (of_two w)). let q = leb→le w 39 (and_r (leb 20 w) (leb w 39) h) in omega arith)
    ∙ in_front behind_one w one_signs keywords tt (not_so 60 w (omega arith) b)

pub keyword : (w : ℕ) → (w < 20) ⊎ (60 ≤ w) → word_text w ≡ spelled keywords w
unfolding word_text all two_signs one_signs bytes
keyword w k =
    skipped of_two w two_signs (one_signs ++ keywords) tt (λ (h : T (of_two w)). let p = leb→le 20 w (and_l (leb 20 w) (leb w 39) h) in let q = leb→le w 39 (and_r (leb 20 w) (leb w 39) h) in go k p (omega arith))
    ∙ skipped of_one w one_signs keywords tt (λ (h : T (of_one w)). let p = leb→le 40 w (and_l (leb 40 w) (leb w 59) h) in let q = leb→le w 59 (and_r (leb 40 w) (leb w 59) h) in go k (omega arith) (omega arith))
  where
    go : (w < 20) ⊎ (60 ≤ w) → 20 ≤ w → w < 60 → ⊥
    go (inl a) p q = omega arith
    go (inr a) p q = omega arith
