-- A chain of tests, and the list of words that it tests for.
use mathlib.Core.Path.{◌≡◌, refl, sym, ap, subst, ◌∙◌}
use mathlib.Core.List.{List, [], ◌∷◌, ◌++◌}
use mathlib.Core.Bool.{Bool, true, false, not, ◌||◌, cond}
use mathlib.Core.Logic.{inl, inr}
use Prim.Native.Nat.{ℕ, suc}
use lib.Dec.{T, eqb, eqb→eq}
use Rattle.grammar.specs.Words.{path_items, literals, four_words, filter_words}
use Rattle.grammar.specs.Grammar.{one_of}
use Rattle.grammar.specs.Rows.{place_in, detail_for}
use Rattle.grammar.proofs.Bools.{or_l, or_r, or_cases}
use Rattle.parser.proofs.Standing.{the_word}
use Rattle.promises.specs.Firsts.{expr_firsts, ends_return}

-- a chain groups to the left, a list to the right
pub chain2 : (a b : Bool) → (a || b) ≡ (a || (b || false))
chain2 true b = refl
chain2 false true = refl
chain2 false false = refl

pub chain3 : (a b c : Bool) → ((a || b) || c) ≡ (a || (b || (c || false)))
chain3 true b c = refl
chain3 false b c = chain2 b c

pub chain4 : (a b c d : Bool) → (((a || b) || c) || d) ≡ (a || (b || (c || (d || false))))
chain4 true b c d = refl
chain4 false b c d = chain3 b c d

chain5 : (a b c d e : Bool) → ((((a || b) || c) || d) || e) ≡ (a || (b || (c || (d || (e || false)))))
chain5 true b c d e = refl
chain5 false b c d e = chain4 b c d e

pub chain6 : (a b c d e f : Bool) → (((((a || b) || c) || d) || e) || f) ≡ (a || (b || (c || (d || (e || (f || false))))))
chain6 true b c d e f = refl
chain6 false b c d e f = chain5 b c d e f

-- the same with a list behind the words
pub tail2 : (a b : Bool) {c v : Bool} → c ≡ v → ((a || b) || c) ≡ (a || (b || v))
tail2 true b q = refl
tail2 false true q = refl
tail2 false false q = q

pub tail3 : (a b c : Bool) {d v : Bool} → d ≡ v → (((a || b) || c) || d) ≡ (a || (b || (c || v)))
tail3 true b c q = refl
tail3 false b c q = tail2 b c q

tail4 : (a b c d : Bool) {e v : Bool} → e ≡ v → ((((a || b) || c) || d) || e) ≡ (a || (b || (c || (d || v))))
tail4 true b c d q = refl
tail4 false b c d q = tail3 b c d q

tail5 : (a b c d e : Bool) {f v : Bool} → f ≡ v → (((((a || b) || c) || d) || e) || f) ≡ (a || (b || (c || (d || (e || v)))))
tail5 true b c d e q = refl
tail5 false b c d e q = tail4 b c d e q

tail6 : (a b c d e f : Bool) {g v : Bool} → g ≡ v → ((((((a || b) || c) || d) || e) || f) || g) ≡ (a || (b || (c || (d || (e || (f || v))))))
tail6 true b c d e f q = refl
tail6 false b c d e f q = tail5 b c d e f q

pub tail7 : (a b c d e f g : Bool) {h v : Bool} → h ≡ v → (((((((a || b) || c) || d) || e) || f) || g) || h) ≡ (a || (b || (c || (d || (e || (f || (g || v)))))))
tail7 true b c d e f g q = refl
tail7 false b c d e f g q = tail6 b c d e f g q

pub tail8 : (a b c d e f g h : Bool) {i v : Bool} → i ≡ v → ((((((((a || b) || c) || d) || e) || f) || g) || h) || i) ≡ (a || (b || (c || (d || (e || (f || (g || (h || v))))))))
tail8 true b c d e f g h q = refl
tail8 false b c d e f g h q = tail7 b c d e f g h q

pub or_apart : (a b c d : Bool) → (((a || b) || c) || d) ≡ (a || (b || (c || d)))
or_apart true b c d = refl
or_apart false true c d = refl
or_apart false false c d = refl

-- one of two lists
pub either_list : (x : ℕ) (w v : List ℕ) → (one_of x w || one_of x v) ≡ one_of x (w ++ v)
either_list x [] v = refl
either_list x (c ∷ w) v = go (eqb x c) (either_list x w v)
  where
    go : (b : Bool) → (one_of x w || one_of x v) ≡ one_of x (w ++ v) → ((b || one_of x w) || one_of x v) ≡ (b || one_of x (w ++ v))
    go true e = refl
    go false e = e

-- how a choice follows from its test
pub first : {A : Type 0} {t : Bool} {a x : A} (b : A) → t ≡ true → x ≡ a → x ≡ cond t a b
first b h g = rw h g

pub second : {A : Type 0} {t : Bool} (a : A) {b x : A} → t ≡ false → x ≡ b → x ≡ cond t a b
second a h g = rw h g

-- a word of a pair that is not the first of it
pub filter_second : (x : ℕ) → T (one_of x filter_words) → (x ≡ 65 → ⊥) → 2 ≡ detail_for 45 x
filter_second x t n = elim (or_cases (eqb x 65) (one_of x (66 ∷ [])) t) [
  | inl e ↦ absurd (n (eqb→eq x 65 e))
  | inr e ↦ subst (λ (y : ℕ). 2 ≡ detail_for 45 y) (sym (the_word {x = x} {c = 66} e)) refl
]

-- what begins an expr: a word of the first eight, or of three lists
pub begins_expr : (x : ℕ) {l p f : Bool} → l ≡ one_of x literals → p ≡ one_of x path_items → f ≡ one_of x four_words → ((((((((((eqb x 77 || eqb x 60) || eqb x 76) || eqb x 52) || eqb x 53) || eqb x 42) || eqb x 40) || eqb x 90) || l) || p) || f) ≡ one_of x expr_firsts
begins_expr x {l} {p} {f} i j k = or_apart (((((((eqb x 77 || eqb x 60) || eqb x 76) || eqb x 52) || eqb x 53) || eqb x 42) || eqb x 40) || eqb x 90) l p f ∙ tail8 (eqb x 77) (eqb x 60) (eqb x 76) (eqb x 52) (eqb x 53) (eqb x 42) (eqb x 40) (eqb x 90) (rw (i, j, k) (ap (λ (b : Bool). one_of x literals || b) (either_list x path_items four_words) ∙ either_list x literals (path_items ++ four_words)))

-- none of a list, word by word; its place there is 0
abbrev pub Outside : ℕ → List ℕ → Type 0
Outside x [] = Prim.Unit {0}
Outside x (c ∷ w) = (x ≡ c → ⊥) × Outside x w

pub not_in : (x : ℕ) (w : List ℕ) → Outside x w → T (one_of x w) → ⊥
not_in x [] o t = t
not_in x (c ∷ w) o t = elim (or_cases (eqb x c) (one_of x w) t) [ inl e ↦ o.0 (eqb→eq x c e) | inr e ↦ not_in x w o.1 e ]

pub no_place : (x : ℕ) (w : List ℕ) → (T (one_of x w) → ⊥) → 0 ≡ place_in x w
no_place x [] n = refl
no_place x (c ∷ w) n = go (eqb x c) (λ t. n (or_l (eqb x c) (one_of x w) t)) (place_in x w) (no_place x w (λ t. n (or_r (eqb x c) (one_of x w) t)))
  where
    go : (b : Bool) → (T b → ⊥) → (k : ℕ) → 0 ≡ k → 0 ≡ cond b 1 (cond (eqb k 0) 0 (suc k))
    go true m k e = absurd (m tt)
    go false m k e = subst (λ (j : ℕ). 0 ≡ cond (eqb j 0) 0 (suc j)) e refl
