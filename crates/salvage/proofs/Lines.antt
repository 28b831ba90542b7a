-- The whole words that a kept line begins with, and the search for it.
use mathlib.Core.Path.{◌≡◌, refl, sym, ap, subst, ◌∙◌}
use mathlib.Core.List.{List, [], ◌∷◌}
use mathlib.Core.Bool.{Bool, true, false, not, ◌&&◌, ◌||◌, cond}
use mathlib.Core.Logic.{◌≢◌}
use Prim.Native.Nat.{ℕ, zero, suc, ◌+◌, ◌-◌, ◌≤◌, ◌<◌}
use native.Mathlib.Omega.{arith}
use lib.Dec.{T, eqb, eqb→eq}
use lib.ListN.{length}
use lib.Seq.{slice}
use Rattle.chars.specs.declared.Class.TheVariants.{NamePart}
use Rattle.chars.specs.Chars.{byte_at, is_class, is_letter}
use Rattle.chars.specs.Runs.{past_run}
use Rattle.chars.specs.Texts.{bytes, same}
use Rattle.chars.proofs.Runs.{past_ge, past_le}
use Rattle.tokens.specs.Words.{Entry, keywords, page, words_of, word_in, name_word}
use Rattle.tokens.specs.Rules.{is_name_start, when_fit, name_at}
use Rattle.grammar.specs.Grammar.{one_of}
use Rattle.grammar.proofs.Bools.{F→eq}
use Rattle.salvage.specs.Salvage.{line_words, is_line_word, line_at, line_from, next_line}

same_is : (t u : List ℕ) → same t u ≡ true → t ≡ u
unfolding same
same_is [] [] e = refl
same_is [] (y ∷ u) e = let z : ◌≡◌ {A = ℕ} 0 1 = cc in absurd (omega arith)
same_is (x ∷ t) [] e = let z : ◌≡◌ {A = ℕ} 0 1 = cc in absurd (omega arith)
same_is (x ∷ t) (y ∷ u) e = go (eqb x y) refl (same_is t u) e
  where
    go : (b : Bool) → eqb x y ≡ b → (same t u ≡ true → t ≡ u) → b && same t u ≡ true → x ∷ t ≡ y ∷ u
    go true q f z = let v : x ≡ y = eqb→eq x y (subst T (sym q) tt) in let w = f z in (λ j. v j ∷ w j)
    go false q f z = let v : ◌≡◌ {A = ℕ} 0 1 = cc in absurd (omega arith)

-- the five texts
five : List (List ℕ)
unfolding bytes
five = bytes "const" ∷ bytes "fn" ∷ bytes "import" ∷ bytes "filter" ∷ bytes "filtermap" ∷ []

among : List (List ℕ) → List ℕ → Bool
among [] t = false
among (u ∷ us) t = same t u || among us t

-- a word of a table is one of those a line begins with only if its text is one of the five
each : List Entry → Bool
unfolding five among
each [] = true
each (x ∷ xs) = (not (one_of x.word line_words) || among five x.text) && each xs

module _ (t : List ℕ) (no : among five t ≡ false) where
  misses : (xs : List Entry) → T (each xs) → one_of (word_in xs t 13) line_words ≡ false
  unfolding each word_in
  misses [] h = refl
  misses (x ∷ xs) h = go (same t x.text) refl (one_of x.word line_words) refl (among five x.text) refl (misses xs) h
    where
      go : (b : Bool) → same t x.text ≡ b → (c : Bool) → one_of x.word line_words ≡ c → (d : Bool) → among five x.text ≡ d → (T (each xs) → one_of (word_in xs t 13) line_words ≡ false) → T ((not c || d) && each xs) → one_of (cond b x.word (word_in xs t 13)) line_words ≡ false
      go true e false f d g m k = f
      go true e true f true g m k = let z : true ≡ false = sym g ∙ ap (among five) (sym (same_is t x.text e)) ∙ no in absurd (subst T z tt)
      go true e true f false g m k = absurd k
      go false e false f d g m k = m k
      go false e true f true g m k = m k
      go false e true f false g m k = absurd k

  missed : one_of (name_word t) line_words ≡ false
  unfolding name_word each among five keywords page words_of bytes same
  missed = go (same t (bytes "_"))
    where
      go : (b : Bool) → one_of (cond b 14 (word_in keywords t 13)) line_words ≡ false
      go true = refl
      go false = misses keywords tt

hit : (u : List ℕ) → one_of (name_word u) line_words ≡ true → (t : List ℕ) → same t u ≡ true → one_of (name_word t) line_words ≡ true
hit u h t e = ap (λ (x : List ℕ). one_of (name_word x) line_words) (same_is t u e) ∙ h

pub line_word : (t : List ℕ) → (((same t (bytes "const") || same t (bytes "fn")) || same t (bytes "import")) || same t (bytes "filter")) || same t (bytes "filtermap") ≡ one_of (name_word t) line_words
unfolding name_word word_in keywords page words_of bytes same among five
line_word t = go (same t (bytes "const")) refl (same t (bytes "fn")) refl (same t (bytes "import")) refl (same t (bytes "filter")) refl (same t (bytes "filtermap")) refl
  where
    go : (a : Bool) → same t (bytes "const") ≡ a → (b : Bool) → same t (bytes "fn") ≡ b → (c : Bool) → same t (bytes "import") ≡ c → (d : Bool) → same t (bytes "filter") ≡ d → (e : Bool) → same t (bytes "filtermap") ≡ e → (((a || b) || c) || d) || e ≡ one_of (name_word t) line_words
    go true f b g c h d k e l = sym (hit (bytes "const") refl t f)
    go false f true g c h d k e l = sym (hit (bytes "fn") refl t g)
    go false f false g true h d k e l = sym (hit (bytes "import") refl t h)
    go false f false g false h true k e l = sym (hit (bytes "filter") refl t k)
    go false f false g false h false k true l = sym (hit (bytes "filtermap") refl t l)
    go false f false g false h false k false l = sym (missed t (rw (f, g, h, k, l) refl))

pub line_word_so : (t : List ℕ) {a b c d e : Bool} → a ≡ same t (bytes "const") → b ≡ same t (bytes "fn") → c ≡ same t (bytes "import") → d ≡ same t (bytes "filter") → e ≡ same t (bytes "filtermap") → (((a || b) || c) || d) || e ≡ one_of (name_word t) line_words
line_word_so t f g h k l = rw (f, g, h, k, l) (line_word t)

-- a word at a place: its first byte, and where it ends
pub starts_so : (s : List ℕ) (at : ℕ) {b : ℕ} {l v : Bool} → b ≡ byte_at s at → l ≡ is_letter b → (l || eqb b 95) ≡ v → is_name_start (byte_at s at) ≡ v
starts_so s at {b} f g e = ap is_name_start (sym f) ∙ ap (λ (x : Bool). x || eqb b 95) (sym g) ∙ e

pub word_ends : (s : List ℕ) (at : ℕ) {e : ℕ} → at < length s → e ≡ past_run (is_class NamePart) s at → (at ≤ e) × (e ≤ length s)
word_ends s at h to = (omega (arith, to, past_ge (is_class NamePart) s at), omega (arith, to, past_le (is_class NamePart) s at (omega arith)))

-- a line at a place
module _ (s : List ℕ) (at : ℕ) {r : Bool} where
  pub named : {e : ℕ} → is_name_start (byte_at s at) ≡ true → e ≡ past_run (is_class NamePart) s at → r ≡ one_of (name_word (slice at e s)) line_words → r ≡ is_line_word (name_at s at)
  unfolding name_at when_fit
  named h to q = let e : ℕ = past_run (is_class NamePart) s at in q ∙ ap (λ (n : ℕ). one_of (name_word (slice at n s)) line_words) to ∙ sym (ap (λ (b : Bool). is_line_word (when_fit b e (name_word (slice at e s)))) h)

  pub unnamed : is_name_start (byte_at s at) ≡ false → r ≡ false → r ≡ is_line_word (name_at s at)
  unfolding name_at when_fit
  unnamed f q = q ∙ rw f refl

  pub line_first : at ≡ 0 → r ≡ is_line_word (name_at s at) → r ≡ line_at s at
  unfolding line_at
  line_first e q = q ∙ rw e refl

  pub line_behind : {b : ℕ} → b ≡ byte_at s (at - 1) → b ≡ 10 → r ≡ is_line_word (name_at s at) → r ≡ line_at s at
  unfolding line_at
  line_behind f e q = q ∙ either (eqb at 0) (ap (λ (n : ℕ). eqb n 10) (sym f ∙ e))
    where
      either : (b : Bool) {c : Bool} → c ≡ true → is_line_word (name_at s at) ≡ (b || c) && is_line_word (name_at s at)
      either true z = refl
      either false z = rw z refl

  pub no_line_there : {b : ℕ} → at ≢ 0 → b ≡ byte_at s (at - 1) → b ≢ 10 → r ≡ false → r ≡ line_at s at
  unfolding line_at
  no_line_there n f e q = q ∙ rw (eqb_no at 0 n, eqb_no (byte_at s (at - 1)) 10 (λ z. e (f ∙ z))) refl
    where
      eqb_no : (x y : ℕ) → x ≢ y → eqb x y ≡ false
      eqb_no x y h = F→eq (eqb x y) (λ z. h (eqb→eq x y z))

-- the search, a place further on
module _ (s : List ℕ) (i : ℕ) where
  at_line : (n : ℕ) → line_at s i ≡ true → line_from (suc n) s i ≡ i
  unfolding line_from
  at_line n e = ap (λ (b : Bool). elim b [ true ↦ i | false ↦ line_from n s (i + 1) ]) e

  no_line : (n : ℕ) → line_at s i ≡ false → line_from (suc n) s i ≡ line_from n s (i + 1)
  unfolding line_from
  no_line n e = ap (λ (b : Bool). elim b [ true ↦ i | false ↦ line_from n s (i + 1) ]) e

  module _ (h : i < length s) where
    one_more : length s - i ≡ suc (length s - (i + 1))
    one_more = omega arith

    pub next_here : line_at s i ≡ true → i ≡ next_line s i
    unfolding next_line
    next_here e = sym (ap (λ (n : ℕ). line_from n s i) one_more ∙ at_line (length s - (i + 1)) e)

    pub next_on : line_at s i ≡ false → next_line s (i + 1) ≡ next_line s i
    unfolding next_line
    next_on e = sym (ap (λ (n : ℕ). line_from n s i) one_more ∙ no_line (length s - (i + 1)) e)

  pub next_end : length s ≤ i → length s ≡ next_line s i
  unfolding next_line line_from
  next_end h = let e : 0 ≡ length s - i = omega arith in ap (λ (n : ℕ). line_from n s i) e
