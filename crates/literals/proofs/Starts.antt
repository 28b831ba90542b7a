-- A float with a value has the token of a number: its code is 7 or 8, the rules before that of numbers don't fit, and it begins with a digit.
use Rattle.std.specs.Prelude.{Some, None, Ok, Err}
use mathlib.Core.Path.{◌≡◌, refl, sym, ap, ◌∙◌, subst}
use Prim.Native.Nat.{ℕ, ◌+◌}
use mathlib.Core.List.{List, [], ◌∷◌}
use mathlib.Core.Bool.{Bool, true, false, ◌&&◌, ◌||◌, not, true≢false, cond}
use lib.ListN.{length}
use lib.Dec.{eqb, ltb}
use borrow.Author.Tests.{eqb-true}
use Rattle.chars.specs.Chars.{byte_at, is_digit}
use Rattle.chars.specs.Texts.{same, bytes}
use Rattle.chars.proofs.Pairs.{some_pair}
use Rattle.tokens.specs.Results.{Fit, Step}
use Rattle.tokens.specs.declared.Cursor.{Cursor}
use Rattle.tokens.specs.declared.Refusal.{Refusal}
use Rattle.tokens.specs.Words.{Entry, word_in, two_signs, one_signs, two_sign, one_sign, keywords, name_word, page, words_of, code_of}
use Rattle.tokens.specs.Rules.{when_fit, sign_fit, then_fit, or_else, taken, refused, pair_at, colons_at, or_to, ipv6_at, period_at, ipv4_at, two_at, one_at, as_at, hex_at, number_at, quote_at, name_at, token_at}
use Rattle.tokens.specs.Tokens.{step_at}
use Rattle.tokens.specs.Blanks.{skip_all}
use Rattle.numbers.specs.Results.{Number, Written}
use Rattle.numbers.specs.declared.Amount.{Amount}
use Rattle.numbers.specs.Numbers.{integer_of, float_of, hex_of, as_of}
use Rattle.numbers.proofs.Choices.{and_left, and_right}
use Rattle.addresses.specs.Results.{Quad, Address}
use Rattle.addresses.specs.Addresses.{quad_of, wide_of}
use Rattle.strings.specs.Results.{Size, Point}
use Rattle.strings.specs.Strings.{size_of, char_of}
use Rattle.values.specs.Results.{Worth}
use Rattle.values.specs.Literals.{from_amount, from_number, from_quad, from_address, from_size, from_point, bool_of, literal_of}
use Rattle.literals.specs.Answers.{row_for, row_of}

-- 7 and 8 are the codes of numbers
abbrev other : ℕ → Bool
other code = not (eqb code 7 || eqb code 8)

-- ---- which codes have a row of kind 11
abbrev FloatOf : ℕ → Worth → Type 0
FloatOf code (Some x) = x.kind ≡ 11 → other code ≡ false
FloatOf code None = Unit {0}

module _ (code : ℕ) where
  choice : (b : Bool) (x y : Worth) → (b ≡ true → FloatOf code x) → FloatOf code y → FloatOf code (cond b x y)
  choice true x y h k = h refl
  choice false x y h k = k

  isn't : (k v d : ℕ) → eqb k 11 ≡ false → FloatOf code (Some (record { kind = k; value = v; detail = d }))
  isn't k v d h e = absurd (true≢false (sym (rw e refl) ∙ h))

  address_isn't : (a : Address) → FloatOf code (from_address a)
  address_isn't (Some x) = isn't 15 x.high x.low refl
  address_isn't None = tt

  quad_isn't : (q : Quad) → FloatOf code (from_quad q)
  quad_isn't (Some v) = isn't 14 v 0 refl
  quad_isn't None = tt

  number_isn't : (k : ℕ) → eqb k 11 ≡ false → (n : Number) → FloatOf code (from_number k n)
  number_isn't k h (Some (v, n)) = isn't k v 0 h
  number_isn't k h None = tt

  size_isn't : (n : Size) → FloatOf code (from_size n)
  size_isn't (Some n) = isn't 16 0 0 refl
  size_isn't None = tt

  point_isn't : (p : Point) → FloatOf code (from_point p)
  point_isn't (Some c) = isn't 17 c 0 refl
  point_isn't None = tt

  may_be : other code ≡ false → (a : Written) → FloatOf code (from_amount a)
  may_be h (Some (Amount.Integer v s)) = λ e. h
  may_be h (Some (Amount.Float s)) = λ e. h
  may_be h None = tt

  bool_isn't : (t : List ℕ) → FloatOf code (bool_of t)
  unfolding bool_of
  bool_isn't t = choice (same t (bytes "true")) _ _ (λ h. isn't 12 1 0 refl) (choice (same t (bytes "false")) _ _ (λ h. isn't 12 0 0 refl) tt)

  integer_code : eqb code 7 ≡ true → other code ≡ false
  integer_code h = rw h

  float_code : eqb code 8 ≡ true → other code ≡ false
  float_code h = ap other (eqb-true code 8 h)

  row_code : (t : List ℕ) → FloatOf code (literal_of code t)
  unfolding literal_of
  row_code t =
      choice (eqb code 1) _ _ (λ h. address_isn't (wide_of t))
      (choice (eqb code 2) _ _ (λ h. quad_isn't (quad_of t))
      (choice (eqb code 5) _ _ (λ h. number_isn't 13 refl (as_of t))
      (choice (eqb code 6) _ _ (λ h. number_isn't 10 refl (hex_of t))
      (choice (eqb code 7) _ _ (λ h. may_be (integer_code h) (integer_of t))
      (choice (eqb code 8) _ _ (λ h. may_be (float_code h) (float_of t))
      (choice (eqb code 9) _ _ (λ h. size_isn't (size_of t))
      (choice (eqb code 10) _ _ (λ h. point_isn't (char_of t))
      (choice (eqb code 12) _ _ (λ h. bool_isn't t)
      tt))))))))

-- ---- the words of a table pass a test
abbrev all : (ℕ → Bool) → List Entry → Bool
all p [] = true
all p (x ∷ xs) = p x.word && all p xs

word_in_lem : (p : ℕ → Bool) (t : List ℕ) (d : ℕ) → p d ≡ true → (xs : List Entry) → all p xs ≡ true → p (word_in xs t d) ≡ true
unfolding word_in
word_in_lem p t d h [] g = h
word_in_lem p t d h (x ∷ xs) g = go (same t x.text) (and_left (p x.word) _ g) (word_in_lem p t d h xs (and_right (p x.word) _ g))
  where
    go : (b : Bool) → p x.word ≡ true → p (word_in xs t d) ≡ true → p (cond b x.word (word_in xs t d)) ≡ true
    go true f k = f
    go false f k = k

two_other : (a b : ℕ) → other (code_of (two_sign a b)) ≡ true
unfolding two_sign
two_other a b = word_in_lem (λ w. other (code_of w)) (a ∷ b ∷ []) 0 (unfold code_of in refl) two_signs (unfold code_of two_signs in refl)

one_other : (b : ℕ) → other (code_of (one_sign b)) ≡ true
unfolding one_sign
one_other b = word_in_lem (λ w. other (code_of w)) (b ∷ []) 0 (unfold code_of in refl) one_signs (unfold code_of one_signs in refl)

name_other : (t : List ℕ) → other (code_of (name_word t)) ≡ true
unfolding name_word
name_other t = go (same t (bytes "_")) (word_in_lem (λ w. other (code_of w)) t 13 (unfold code_of in refl) keywords (unfold code_of keywords words_of page in refl))
  where
    go : (b : Bool) → other (code_of (word_in keywords t 13)) ≡ true → other (code_of (cond b 14 (word_in keywords t 13))) ≡ true
    go true h = unfold code_of in refl
    go false h = h

-- ---- the rules other than that of numbers
abbrev OtherFit : Fit → Type 0
OtherFit (Some (e, w)) = other (code_of w) ≡ true
OtherFit None = Unit {0}

none : (t : Bool) (e w : ℕ) → other (code_of w) ≡ true → OtherFit (when_fit t e w)
unfolding when_fit
none true e w h = h
none false e w h = tt

then_other : (f : Fit) (g : ℕ → Fit) → ((e : ℕ) → OtherFit (g e)) → OtherFit (then_fit f g)
unfolding then_fit
then_other (Some (e, w)) g h = h e
then_other None g h = tt

ending_other : (f : Fit) (end : ℕ) → OtherFit (or_to f end)
unfolding or_to code_of
ending_other (Some (e, w)) end = refl
ending_other None end = refl

module _ (s : List ℕ) (at : ℕ) where
  ipv6_other : OtherFit (ipv6_at s at)
  unfolding ipv6_at
  ipv6_other = then_other (colons_at s at) _ λ e. ending_other _ e

  ipv4_other : OtherFit (ipv4_at s at)
  unfolding ipv4_at code_of
  ipv4_other = then_other (period_at s at) _ λ a. then_other (period_at s a) _ λ b. then_other (period_at s b) _ λ c. refl

  twos_other : OtherFit (two_at s at)
  unfolding two_at sign_fit
  twos_other = none _ _ _ (two_other _ _)

  ones_other : OtherFit (one_at s at)
  unfolding one_at sign_fit
  ones_other = none _ _ _ (one_other _)

  as_other : OtherFit (as_at s at)
  unfolding as_at code_of
  as_other = none _ _ 5 refl

  hex_other : OtherFit (hex_at s at)
  unfolding hex_at code_of
  hex_other = none _ _ 6 refl

  quote_other : (q w : ℕ) → other (code_of w) ≡ true → OtherFit (quote_at q w s at)
  unfolding quote_at
  quote_other q w h = none _ _ w h

  names_other : OtherFit (name_at s at)
  unfolding name_at
  names_other = none _ _ _ (name_other _)

-- ---- from a number's code back to its rule
abbrev code_in : Step → ℕ
code_in (Ok (w, a, n)) = code_of w
code_in (Err r) = 0

abbrev start_in : Step → ℕ
start_in (Ok (w, a, n)) = a
start_in (Err r) = 0

abbrev fit_in : Step → Fit
fit_in (Ok (w, a, n)) = Some (n.at, w)
fit_in (Err r) = None

abbrev OtherStep : Step → Type 0
OtherStep (Ok (w, a, n)) = other (code_of w) ≡ true
OtherStep (Err r) = Unit {0}

or_other : (at : ℕ) (f : Fit) (d : Step) → OtherFit f → OtherStep d → OtherStep (or_else at f d)
unfolding or_else taken
or_other at (Some (e, w)) d h k = h
or_other at None d h k = k

pick_other : (t : Bool) (a b : Step) → OtherStep a → OtherStep b → OtherStep (cond t a b)
pick_other true a b h k = h
pick_other false a b h k = k

-- what the rules say where a number's token stands
pub record Numeric (s : List ℕ) (at e w : ℕ) : Type 0 where
  pub ipv6 : ipv6_at s at ≡ None
  pub ipv4 : ipv4_at s at ≡ None
  pub two : two_at s at ≡ None
  pub one : one_at s at ≡ None
  pub hex : hex_at s at ≡ None
  pub number : number_at s at ≡ Some (e, w)

module _ {w a : ℕ} {n : Cursor} (number : other (code_of w) ≡ false) where
  missed : (at : ℕ) (f : Fit) (d : Step) → OtherFit f → or_else at f d ≡ Ok (w, a, n) → (f ≡ None) × (d ≡ Ok (w, a, n))
  unfolding or_else taken
  missed at (Some (e, v)) d h g = absurd (true≢false (sym h ∙ ap (λ (x : Step). other (code_in x)) g ∙ number))
  missed at None d h g = (refl, g)

  was_hit : (at : ℕ) (f : Fit) (d : Step) → OtherStep d → or_else at f d ≡ Ok (w, a, n) → (f ≡ Some (n.at, w)) × (at ≡ a)
  unfolding or_else taken
  was_hit at (Some (e, v)) d h g = (ap fit_in g, ap start_in g)
  was_hit at None d h g = absurd (true≢false (sym (subst OtherStep g h) ∙ number))

  pub numeric_token : (s : List ℕ) (at : ℕ) → token_at s at ≡ Ok (w, a, n) → Numeric s a n.at w
  unfolding token_at refused code_of
  numeric_token s at e =
      let k = missed at _ _ (ipv6_other s at) e in
      let b = missed at _ _ (ipv4_other s at) k.1 in
      let c = missed at _ _ (twos_other s at) b.1 in
      let d = missed at _ _ (ones_other s at) c.1 in
      let f = missed at _ _ (as_other s at) d.1 in
      let g = missed at _ _ (hex_other s at) f.1 in
      let h = was_hit at _ _ rest g.1 in
      subst (λ (x : ℕ). Numeric s x n.at w) h.1 (record { ipv6 = k.0; ipv4 = b.0; two = c.0; one = d.0; hex = g.0; number = h.0 })
    where
      rest : OtherStep (cond (pair_at s at 102 34) (Err (record { number = 5; start = at; end = at + 2 })) (or_else at (quote_at 34 9 s at) (or_else at (quote_at 39 10 s at) (or_else at (name_at s at) (Err (record { number = 4; start = at; end = at + 1 }))))))
      rest =
          pick_other (pair_at s at 102 34) _ _ tt
          (or_other at _ _ (quote_other s at 34 9 refl)
          (or_other at _ _ (quote_other s at 39 10 refl)
          (or_other at _ _ (names_other s at) tt)))

  pub numeric_step : (s : List ℕ) (at : ℕ) → step_at s at ≡ Ok (w, a, n) → Numeric s a n.at w
  unfolding step_at refused
  numeric_step s at = go (ltb (skip_all s at) (length s))
    where
      never : {r : Refusal} → ◌≡◌ {A = Step} (Err r) (Ok (w, a, n)) → ⊥
      never h = true≢false (ap (λ (x : Step). elim x [ Ok (v, b, m) ↦ false | Err r ↦ true ]) h)

      go : (b : Bool) → cond b (token_at s (skip_all s at)) (Err (record { number = 11; start = length s; end = length s })) ≡ Ok (w, a, n) → Numeric s a n.at w
      go true e = numeric_token s (skip_all s at) e
      go false e = absurd (never e)

-- ---- the whole text
pub record Whole (t : List ℕ) (v d : ℕ) : Type 0 where
  pub word : ℕ
  pub begin : ℕ
  pub next : Cursor
  pub step : step_at t 0 ≡ Ok (word, begin, next)
  pub start : begin ≡ 0
  pub end : next.at ≡ length t
  pub row : literal_of (code_of word) t ≡ Some (record { kind = 11; value = v; detail = d })
  pub number : other (code_of word) ≡ false

pub row_number : (code : ℕ) (t : List ℕ) {v d : ℕ} → literal_of code t ≡ Some (record { kind = 11; value = v; detail = d }) → other code ≡ false
row_number code t e = subst (FloatOf code) e (row_code code t) refl

-- "one float literal": the text is one token of code 7 or 8, alone, whose row is of kind 11
pub float_token : (t : List ℕ) {v d : ℕ} → row_of t ≡ Some (record { kind = 11; value = v; detail = d }) → Whole t v d
unfolding row_of row_for
float_token t {v} {d} = go (step_at t 0) refl
  where
    never : ◌≡◌ {A = Worth} None (Some (record { kind = 11; value = v; detail = d })) → ⊥
    never h = let z : ◌≡◌ {A = ℕ} 0 1 = cc in true≢false (ap (eqb 0) z)

    go : (r : Step) → step_at t 0 ≡ r → row_for t r ≡ Some (record { kind = 11; value = v; detail = d }) → Whole t v d
    go (Err r) s e = absurd (never e)
    go (Ok (w, a, n)) s e = inside (eqb a 0) (eqb n.at (length t)) refl refl e
      where
        inside : (x y : Bool) → eqb a 0 ≡ x → eqb n.at (length t) ≡ y → cond (x && y) (literal_of (code_of w) t) None ≡ Some (record { kind = 11; value = v; detail = d }) → Whole t v d
        inside true true g h e = record { word = w; begin = a; next = n; step = s; start = eqb-true a 0 g; end = eqb-true n.at (length t) h; row = e; number = row_number (code_of w) t e }
        inside true false g h e = absurd (never e)
        inside false b g h e = absurd (never e)

-- how a rule that asks for something fits, or doesn't
pub when_fits : (t : Bool) (e w : ℕ) {a b : ℕ} → when_fit t e w ≡ Some (a, b) → (t ≡ true) × ((e ≡ a) × (w ≡ b))
unfolding when_fit
when_fits true e w h = (refl, some_pair h)
when_fits false e w h = absurd (never h)
  where
    never : {a b : ℕ} → ◌≡◌ {A = Fit} None (Some (a, b)) → ⊥
    never h = true≢false (ap (λ (x : Fit). elim x [ Some (a, b) ↦ false | None ↦ true ]) h)

pub number_starts : (s : List ℕ) (at : ℕ) {e w : ℕ} → number_at s at ≡ Some (e, w) → is_digit (byte_at s at) ≡ true
unfolding number_at
number_starts s at h = (when_fits (is_digit (byte_at s at)) _ _ h).0

pub float_starts : (t : List ℕ) {v d : ℕ} → row_of t ≡ Some (record { kind = 11; value = v; detail = d }) → is_digit (byte_at t 0) ≡ true
float_starts t e =
    let x = float_token t e in
    ap (λ (i : ℕ). is_digit (byte_at t i)) (sym x.start) ∙ number_starts t x.begin (numeric_step x.number t 0 x.step).number
