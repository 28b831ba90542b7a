-- The word of a token `}` or `;` is that of its byte, and of no other rule.
use Rattle.std.specs.Prelude.{Some, None, Ok}
use mathlib.Core.Path.{◌≡◌, refl, sym, ap, ◌∙◌, subst}
use mathlib.Core.List.{List, [], ◌∷◌}
use mathlib.Core.Bool.{Bool, true, false, not, ◌&&◌, ◌||◌, cond}
use mathlib.Core.Logic.{inl, inr}
use Prim.Native.Nat.{ℕ, ◌+◌}
use lib.Dec.{T, eqb, eqb→eq}
use lib.Seq.{slice}
use native.Mathlib.Omega.{arith}
use Rattle.chars.specs.declared.Class.TheVariants.{Figure, NamePart}
use Rattle.chars.specs.Chars.{byte_at, is_class, is_digit}
use Rattle.chars.specs.Runs.{past_run}
use Rattle.chars.specs.Texts as texts
use Rattle.tokens.proofs.Results.{taken_word, taken_start, taken_end}
use Rattle.tokens.specs.Results.{Fit}
use Rattle.tokens.specs.declared.Cursor.{Cursor}
use Rattle.tokens.specs.Results.{Step}
use Rattle.tokens.specs.Words.{Entry, two_signs, one_signs, keywords, word_in, two_sign, one_sign, name_word}
use Rattle.tokens.specs.Rules.{when_fit, sign_fit, then_fit, pair_at, colons_at, fraction_at, three_at, decimal_group, or_to, ipv6_at, period_at, ipv4_at, two_at, one_at, as_at, hex_at, number_at, quote_at, is_name_start, name_at, taken, refused, or_else, token_at}
use Rattle.grammar.specs.Grammar.{one_of}
use Rattle.grammar.proofs.Bools.{and_l, and_r, or_cases}
use Rattle.keeping.proofs.Fence.{Fence, brace, semicolon}
use Rattle.keeping.proofs.Ending.{closers}

-- the same text
same_eq : (t u : List ℕ) → T (texts.same t u) → t ≡ u
unfolding texts.same
same_eq [] [] h = refl
same_eq [] (y ∷ u) h = absurd h
same_eq (x ∷ t) [] h = absurd h
same_eq (x ∷ t) (y ∷ u) h = ap (λ (z : ℕ). z ∷ t) (eqb→eq x y (and_l (eqb x y) (texts.same t u) h)) ∙ ap (λ (l : List ℕ). y ∷ l) (same_eq t u (and_r (eqb x y) (texts.same t u) h))

-- of a table, whose entries with such a word have texts that pass a test: a text with such a word passes it
abbrev tabled : (List ℕ → Bool) → List Entry → Bool
tabled test [] = true
tabled test (x ∷ xs) = (not (one_of x.word closers) || test x.text) && tabled test xs

word_in_lem : (test : List ℕ → Bool) (xs : List Entry) (t : List ℕ) (d : ℕ) → T (tabled test xs) → (T (one_of d closers) → T (test t)) → T (one_of (word_in xs t d) closers) → T (test t)
unfolding word_in
word_in_lem test [] t d h f k = f k
word_in_lem test (x ∷ xs) t d h f k = by (texts.same t x.text) refl k (λ z. word_in_lem test xs t d (and_r (not (one_of x.word closers) || test x.text) (tabled test xs) h) f z)
  where
    this : Bool
    this = not (one_of x.word closers) || test x.text

    passed : (b : Bool) → T (not b || test x.text) → T b → T (test x.text)
    passed true p q = p
    passed false p q = absurd q

    by : (b : Bool) → texts.same t x.text ≡ b → T (one_of (cond b x.word (word_in xs t d)) closers) → (T (one_of (word_in xs t d) closers) → T (test t)) → T (test t)
    by true e z ih = subst (λ (u : List ℕ). T (test u)) (sym (same_eq t x.text (subst T (sym e) tt))) (passed (one_of x.word closers) (and_l this (tabled test xs) h) z)
    by false e z ih = ih z

never : List ℕ → Bool
never t = false

two_off : (a b : ℕ) → T (one_of (two_sign a b) closers) → ⊥
unfolding two_sign two_signs texts.bytes never
two_off a b h = word_in_lem never two_signs (a ∷ b ∷ []) 0 tt (λ k. k) h

name_off : (t : List ℕ) → T (one_of (name_word t) closers) → ⊥
unfolding name_word keywords texts.bytes never
name_off t = by (texts.same t (texts.bytes "_"))
  where
    by : (b : Bool) → T (one_of (cond b 14 (word_in keywords t 13)) closers) → ⊥
    by true h = h
    by false h = word_in_lem never keywords t 13 tt (λ k. k) h

abbrev fenced : List ℕ → Bool
fenced [] = false
fenced (b ∷ []) = eqb b 125 || eqb b 59
fenced (b ∷ c ∷ t) = false

one_fence : (b : ℕ) → T (one_of (one_sign b) closers) → Fence b
unfolding one_sign one_signs texts.bytes
one_fence b h = elim (or_cases (eqb b 125) (eqb b 59) (word_in_lem fenced one_signs (b ∷ []) 0 tt (λ k. absurd k) h)) [
  | inl e ↦ subst Fence (sym (eqb→eq b 125 e)) brace
  | inr e ↦ subst Fence (sym (eqb→eq b 59 e)) semicolon
]

-- a rule that gives no such word
abbrev Off : Fit → Type 0
Off (Some (e, w)) = T (one_of w closers) → ⊥
Off None = Unit {0}

when_off : (b : Bool) (e w : ℕ) → (T (one_of w closers) → ⊥) → Off (when_fit b e w)
unfolding when_fit
when_off true e w h = h
when_off false e w h = tt

then_off : (f : Fit) (g : ℕ → Fit) → ((e : ℕ) → Off (g e)) → Off (then_fit f g)
unfolding then_fit
then_off (Some (e, w)) g h = h e
then_off None g h = tt

to_off : (f : Fit) (e : ℕ) → Off (or_to f e)
unfolding or_to
to_off (Some (a, w)) e = λ z. z
to_off None e = λ z. z

module _ (s : List ℕ) (at : ℕ) where
  ipv6_off : Off (ipv6_at s at)
  unfolding ipv6_at
  ipv6_off = then_off (colons_at s at) _ (λ e. to_off (cond (decimal_group s e) (three_at s e) None) e)

  ipv4_off : Off (ipv4_at s at)
  unfolding ipv4_at
  ipv4_off = then_off (period_at s at) _ (λ a. then_off (period_at s a) _ (λ b. then_off (period_at s b) _ (λ c z. z)))

  pair_off : Off (two_at s at)
  unfolding two_at sign_fit
  pair_off = when_off (not (eqb (two_sign (byte_at s at) (byte_at s (at + 1))) 0)) (at + 2) _ (two_off (byte_at s at) (byte_at s (at + 1)))

  number_off : Off (number_at s at)
  unfolding number_at
  number_off = by (fraction_at s (past_run (is_class Figure) s at))
    where
      by : (b : Bool) → Off (when_fit (is_digit (byte_at s at)) (past_run (is_class NamePart) s (cond b (past_run (is_class Figure) s (past_run (is_class Figure) s at + 1)) (past_run (is_class Figure) s at))) (cond b 8 7))
      by true = when_off (is_digit (byte_at s at)) _ 8 (λ z. z)
      by false = when_off (is_digit (byte_at s at)) _ 7 (λ z. z)

  -- the sign, and the place behind it
  pub record Sign (w a : ℕ) (n : Cursor) : Type 0 where
    pub here : a ≡ at
    pub behind : n.at ≡ at + 1
    pub fence : Fence (byte_at s at)

  module _ {w a : ℕ} {n : Cursor} (closes : T (one_of w closers)) where
    or_off : (f : Fit) (d : Step) → Off f → (d ≡ Ok (w, a, n) → Sign w a n) → or_else at f d ≡ Ok (w, a, n) → Sign w a n
    unfolding or_else taken
    or_off (Some (e, v)) d o k z = let u : v ≡ w = ap taken_word z in absurd (o (subst (λ (x : ℕ). T (one_of x closers)) (sym u) closes))
    or_off None d o k z = k z

    or_one : (d : Step) → (d ≡ Ok (w, a, n) → Sign w a n) → or_else at (one_at s at) d ≡ Ok (w, a, n) → Sign w a n
    unfolding or_else taken one_at sign_fit when_fit
    or_one d k = by (not (eqb (one_sign (byte_at s at)) 0))
      where
        by : (b : Bool) → or_else at (when_fit b (at + 1) (one_sign (byte_at s at))) d ≡ Ok (w, a, n) → Sign w a n
        by true z =
            let u : one_sign (byte_at s at) ≡ w = ap taken_word z in
            let v : at ≡ a = ap taken_start z in
            let y : at + 1 ≡ n.at = ap taken_end z in
            record { here = sym v; behind = sym y; fence = one_fence (byte_at s at) (subst (λ (x : ℕ). T (one_of x closers)) (sym u) closes) }
        by false z = k z

    none : (i j k : ℕ) → refused i j k ≡ Ok (w, a, n) → Sign w a n
    unfolding refused
    none i j k z = let v : ◌≡◌ {A = ℕ} 0 1 = cc in absurd (omega arith)

    or_refused : (b : Bool) (i j k : ℕ) (d : Step) → (d ≡ Ok (w, a, n) → Sign w a n) → cond b (refused i j k) d ≡ Ok (w, a, n) → Sign w a n
    or_refused true i j k d f z = none i j k z
    or_refused false i j k d f z = f z

    pub sign_token : token_at s at ≡ Ok (w, a, n) → Sign w a n
    unfolding token_at as_at hex_at quote_at name_at
    sign_token =
        or_off _ _ ipv6_off
        (or_off _ _ ipv4_off
        (or_off _ _ pair_off
        (or_one _
        (or_off _ _ (when_off _ _ 5 (λ z. z))
        (or_off _ _ (when_off _ _ 6 (λ z. z))
        (or_off _ _ number_off
        (or_refused (pair_at s at 102 34) 5 at (at + 2) _
        (or_off _ _ (when_off _ _ 9 (λ z. z))
        (or_off _ _ (when_off _ _ 10 (λ z. z))
        (or_off _ _ (when_off (is_name_start (byte_at s at)) _ _ (name_off (slice at (past_run (is_class NamePart) s at) s)))
        (none 4 at (at + 1))))))))))))
