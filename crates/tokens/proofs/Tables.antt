-- The tables of words: what code finds by length, or sign by sign, is the word that the table has for the text.
use mathlib.Core.Path.{◌≡◌, refl, sym, ap, ◌∙◌}
use Prim.Native.Nat.{ℕ}
use mathlib.Core.List.{List, [], ◌∷◌, ◌++◌}
use mathlib.Core.Bool.{Bool, true, false, ◌&&◌, ◌||◌, not, true≢false, cond}
use lib.ListN.{length}
use lib.Dec.{eqb}
use borrow.Author.Tests.{ne_eqb, eqb-true, eqb-false, not-true}
use Rattle.chars.specs.Texts.{same}
use Rattle.tokens.specs.Words.{Entry, Line, word_in, two_signs, one_signs, two_sign, one_sign, page, words_of, keyword_of, under, keyword_under}
use Rattle.tokens.proofs.Fits.{not_first, not_second}
use Rattle.tokens.proofs.Pairs.{fst, snd, nor_first, nor_second}
use Rattle.chars.proofs.Texts.{same_length}

-- every entry of a table passes a test
abbrev pub all : (Entry → Bool) → List Entry → Bool
all p [] = true
all p (x ∷ xs) = p x && all p xs

-- a text that differs from every entry is none of them
none_is : (p : Entry → Bool) (t : List ℕ) (d : ℕ) → ((x : Entry) → p x ≡ true → same t x.text ≡ false) → (xs : List Entry) → all p xs ≡ true → word_in xs t d ≡ d
unfolding word_in
none_is p t d f [] h = refl
none_is p t d f (x ∷ xs) h = rw (f x (fst (p x) (all p xs) h)) (none_is p t d f xs (snd (p x) (all p xs) h))

-- a table is gone through entry by entry: the text is this one, or it is looked for among the others
module _ (t : List ℕ) (d : ℕ) {b : Bool} (x : Entry) (xs : List Entry) (e : b ≡ same t x.text) where
  pub this : b ≡ true → x.word ≡ word_in (x ∷ xs) t d
  unfolding word_in
  this h = rw (sym e ∙ h)

  pub later : {w : ℕ} → b ≡ false → w ≡ word_in xs t d → w ≡ word_in (x ∷ xs) t d
  unfolding word_in
  later h g = rw (sym e ∙ h) g

pub no_more : (t : List ℕ) (d : ℕ) → d ≡ word_in [] t d
unfolding word_in
no_more t d = refl

-- the page: every word stands under its own length
abbrev long : ℕ → Entry → Bool
long n x = eqb (length x.text) n

abbrev placed : List Line → Bool
placed [] = true
placed (l ∷ ls) = all (long l.letters) l.words && placed ls

word_append : (xs ys : List Entry) (t : List ℕ) (d : ℕ) → word_in (xs ++ ys) t d ≡ word_in xs t (word_in ys t d)
unfolding word_in
word_append [] ys t d = refl
word_append (x ∷ xs) ys t d = ap (cond (same t x.text) x.word) (word_append xs ys t d)

module _ (t : List ℕ) where
  -- the words of a line matter for texts of its length alone
  on_line : (n : ℕ) (xs : List Entry) (d : ℕ) → all (long n) xs ≡ true → word_in xs t d ≡ word_in (cond (eqb (length t) n) xs []) t d
  unfolding word_in
  on_line n xs d h = go (eqb (length t) n) refl
    where
      go : (b : Bool) → eqb (length t) n ≡ b → word_in xs t d ≡ word_in (cond b xs []) t d
      go true e = refl
      go false e = none_is (long n) t d (λ x g. same_length t x.text (λ k. eqb-false _ _ e (k ∙ eqb-true _ _ g))) xs h

  by_length : (ls : List Line) (d : ℕ) → placed ls ≡ true → word_in (words_of ls) t d ≡ word_in (under (length t) ls) t d
  unfolding words_of under
  by_length [] d h = refl
  by_length (l ∷ ls) d h =
      word_append l.words (words_of ls) t d
      ∙ ap (word_in l.words t) (by_length ls d (snd (all (long l.letters) l.words) (placed ls) h))
      ∙ on_line l.letters l.words (word_in (under (length t) ls) t d) (fst (all (long l.letters) l.words) (placed ls) h)
      ∙ sym (word_append (cond (eqb (length t) l.letters) l.words []) (under (length t) ls) t d)

  -- the page's rule, by computing the test
  pub page_by_length : keyword_of t ≡ keyword_under (length t) t
  unfolding keyword_of keyword_under page
  page_by_length = by_length page 13 refl

  pub of_length : {n w : ℕ} → length t ≡ n → w ≡ keyword_under n t → w ≡ keyword_of t
  of_length e h = h ∙ ap (λ n. keyword_under n t) (sym e) ∙ sym page_by_length

all_of_them : length (words_of page) ≡ 22
unfolding words_of page
all_of_them = refl

-- the last arm of a `match`: the number is none of the keys, the last of them first
abbrev pub Rest : List ℕ → ℕ → Type 0
Rest [] b = Unit {0}
Rest (k ∷ ks) b = Rest ks b × (b ≡ k → ⊥)

abbrev pub has : List ℕ → ℕ → Bool
has [] k = false
has (x ∷ xs) k = eqb k x || has xs k

not_key : (rs : List ℕ) (b k : ℕ) → Rest rs b → has rs k ≡ true → eqb b k ≡ false
not_key rs b k r t = ne_eqb b k (go rs r t)
  where
    go : (rs : List ℕ) → Rest rs b → has rs k ≡ true → b ≡ k → ⊥
    go [] r t e = true≢false (sym t)
    go (x ∷ rs) r t e = cases (eqb k x) refl t (go rs r.0)
      where
        cases : (u : Bool) → eqb k x ≡ u → (u || has rs k) ≡ true → (has rs k ≡ true → b ≡ k → ⊥) → ⊥
        cases true q t f = r.1 (e ∙ eqb-true k x q)
        cases false q t f = f t e

-- a number that the keys' test doesn't hold for is none of them
pub rest_of : (rs : List ℕ) (b : ℕ) → has rs b ≡ false → Rest rs b
rest_of [] b h = tt
rest_of (x ∷ xs) b h = (rest_of xs b (nor_second (eqb b x) _ h), eqb-false b x (nor_first (eqb b x) _ h))

-- the arms of the `match` on a length, and no line of the page is left out
abbrev lengths : List ℕ
lengths = 9 ∷ 6 ∷ 5 ∷ 4 ∷ 3 ∷ 2 ∷ []

abbrev reached : List ℕ → List Line → Bool
reached rs [] = true
reached rs (l ∷ ls) = has rs l.letters && reached rs ls

nothing_under : (rs : List ℕ) (n : ℕ) → Rest rs n → (ls : List Line) → reached rs ls ≡ true → under n ls ≡ []
unfolding under
nothing_under rs n r [] h = refl
nothing_under rs n r (l ∷ ls) h = rw (not_key rs n l.letters r (fst _ _ h)) (nothing_under rs n r ls (snd (has rs l.letters) _ h))

pub no_line : (t : List ℕ) → Rest lengths (length t) → 13 ≡ keyword_of t
unfolding keyword_under page word_in
no_line t r = sym (page_by_length t ∙ ap (λ xs. word_in xs t 13) (nothing_under lengths (length t) r page refl))

-- the signs: a sign that a `match` has found, and one that it has not
pub sign_one : {b k w : ℕ} → b ≡ k → w ≡ one_sign k → w ≡ one_sign b
sign_one e g = g ∙ ap one_sign (sym e)

pub sign_two : {a k w : ℕ} (b : ℕ) → a ≡ k → w ≡ two_sign k b → w ≡ two_sign a b
sign_two b e g = g ∙ ap (λ n. two_sign n b) (sym e)

-- the table has no sign but those of the arms: the first byte of each is among them
abbrev first_in : List ℕ → List ℕ → Bool
first_in rs [] = true
first_in rs (y ∷ l) = has rs y

in_apart : (rs : List ℕ) (b : ℕ) (l u : List ℕ) → Rest rs b → first_in rs u ≡ true → same (b ∷ l) u ≡ false
unfolding same
in_apart rs b l [] r h = refl
in_apart rs b l (y ∷ u) r h = not_first (same l u) (not_key rs b y r h)

abbrev pub one_rest : List ℕ
one_rest = 62 ∷ 60 ∷ 37 ∷ 47 ∷ 42 ∷ 43 ∷ 45 ∷ 33 ∷ 63 ∷ 61 ∷ 46 ∷ 44 ∷ 59 ∷ 58 ∷ 93 ∷ 91 ∷ 41 ∷ 40 ∷ 125 ∷ 123 ∷ []

pub no_one : (b : ℕ) → Rest one_rest b → 0 ≡ one_sign b
unfolding one_sign one_signs
no_one b r = sym (none_is (λ x. first_in one_rest x.text) (b ∷ []) 0 (λ x h. in_apart one_rest b [] x.text r h) one_signs refl)

-- the first bytes of two signs
abbrev pub two_firsts : List ℕ
two_firsts = 61 ∷ 33 ∷ 60 ∷ 62 ∷ 38 ∷ 124 ∷ 45 ∷ 43 ∷ 42 ∷ 47 ∷ 37 ∷ []

pub no_two : (a b : ℕ) → Rest two_firsts a → 0 ≡ two_sign a b
unfolding two_sign two_signs
no_two a b r = sym (none_is (λ x. first_in two_firsts x.text) (a ∷ b ∷ []) 0 (λ x h. in_apart two_firsts a (b ∷ []) x.text r h) two_signs refl)

-- the same of the second byte, and of the first where the second is known
abbrev second_in : List ℕ → List ℕ → Bool
second_in rs [] = true
second_in rs (y ∷ u) = first_in rs u

abbrev apart : List ℕ → ℕ → List ℕ → Bool
apart rs b [] = true
apart rs b (y ∷ []) = true
apart rs b (y ∷ z ∷ u) = has rs y || not (eqb b z)

second_in_apart : (rs : List ℕ) (a b : ℕ) (u : List ℕ) → Rest rs b → second_in rs u ≡ true → same (a ∷ b ∷ []) u ≡ false
unfolding same
second_in_apart rs a b [] r h = refl
second_in_apart rs a b (y ∷ u) r h = not_second (eqb a y) (in_apart rs b [] u r h)

known_apart : (rs : List ℕ) (a b : ℕ) (u : List ℕ) → Rest rs a → apart rs b u ≡ true → same (a ∷ b ∷ []) u ≡ false
unfolding same
known_apart rs a b [] r h = refl
known_apart rs a b (y ∷ []) r h = not_second (eqb a y) refl
known_apart rs a b (y ∷ z ∷ u) r h = go (has rs y) refl h
  where
    go : (v : Bool) → has rs y ≡ v → (v || not (eqb b z)) ≡ true → same (a ∷ b ∷ []) (y ∷ z ∷ u) ≡ false
    go true e g = not_first (eqb b z && same [] u) (not_key rs a y r e)
    go false e g = not_second (eqb a y) (not_first (same [] u) (not-true (eqb b z) g))

abbrev second_rest : List ℕ
second_rest = 124 ∷ 38 ∷ 62 ∷ 61 ∷ []

pub no_second : (a b : ℕ) → Rest second_rest b → 0 ≡ two_sign a b
unfolding two_sign two_signs
no_second a b r = sym (none_is (λ x. second_in second_rest x.text) (a ∷ b ∷ []) 0 (λ x h. second_in_apart second_rest a b x.text r h) two_signs refl)

-- the test is computed for a second byte that is a numeral
pub no_first : (rs : List ℕ) (a b : ℕ) → all (λ x. apart rs b x.text) two_signs ≡ true → Rest rs a → 0 ≡ two_sign a b
unfolding two_sign
no_first rs a b h r = sym (none_is (λ x. apart rs b x.text) (a ∷ b ∷ []) 0 (λ x g. known_apart rs a b x.text r g) two_signs h)
