-- Which alternative a kind has at which words, for readers' proofs: computed once for a kind, and used at every place.
use mathlib.Core.Path.{◌≡◌, refl, sym, ◌∙◌, ap, ap₂, subst}
use mathlib.Core.List.{List, [], ◌∷◌}
use mathlib.Core.Bool.{Bool, true, false, ◌&&◌, ◌||◌, cond}
use mathlib.Core.Option.{Option, none, some}
use mathlib.Core.Logic.{◌⊎◌, inl, inr, ◌≢◌}
use Prim.Native.Nat.{ℕ, suc, zero, ◌<◌}
use lib.Dec.{T, eqb, eqb→eq, eqb_refl}
use native.Mathlib.Omega.{arith}
use Rattle.grammar.specs.Grammar.{Ask, plain, has_value, opens_bracket, closes_bracket, is_prefix, is_head, is_else_if, Scope, same, body, Token, Look, found, Stream, Symbol, token, phrase, unless, note, left_side, text, View, one, pair, Language, one_of}
use Rattle.grammar.specs.Choice.{flag, base, chosen}
use Rattle.grammar.specs.Readings.{peek}
use Rattle.grammar.specs.Runs.{viewed, view}
use Rattle.grammar.proofs.Core.{base_view}
use Rattle.grammar.proofs.Bools.{T→eq, F→eq, and_l, and_r, or_cases}

abbrev ask_code : Ask → ℕ
ask_code plain = 0
ask_code has_value = 1
ask_code opens_bracket = 2
ask_code closes_bracket = 3
ask_code is_prefix = 4
ask_code is_head = 5
ask_code is_else_if = 6

abbrev ask_of : ℕ → Ask
ask_of zero = plain
ask_of (suc zero) = has_value
ask_of (suc (suc zero)) = opens_bracket
ask_of (suc (suc (suc zero))) = closes_bracket
ask_of (suc (suc (suc (suc zero)))) = is_prefix
ask_of (suc (suc (suc (suc (suc zero))))) = is_head
ask_of (suc (suc (suc (suc (suc (suc n)))))) = is_else_if

ask_back : (g : Ask) → ask_of (ask_code g) ≡ g
ask_back plain = refl
ask_back has_value = refl
ask_back opens_bracket = refl
ask_back closes_bracket = refl
ask_back is_prefix = refl
ask_back is_head = refl
ask_back is_else_if = refl

abbrev eq_list : List ℕ → List ℕ → Bool
eq_list [] [] = true
eq_list [] (y ∷ ys) = false
eq_list (x ∷ xs) [] = false
eq_list (x ∷ xs) (y ∷ ys) = eqb x y && eq_list xs ys

eq_list→ : (xs ys : List ℕ) → T (eq_list xs ys) → xs ≡ ys
eq_list→ [] [] t = refl
eq_list→ [] (y ∷ ys) t = absurd t
eq_list→ (x ∷ xs) [] t = absurd t
eq_list→ (x ∷ xs) (y ∷ ys) t = ap₂ (λ (a : ℕ) (b : List ℕ). a ∷ b) (eqb→eq x y (and_l (eqb x y) (eq_list xs ys) t)) (eq_list→ xs ys (and_r (eqb x y) (eq_list xs ys) t))

-- a symbol as a list of numbers, and back
abbrev op_code : Scope → ℕ
op_code same = 0
op_code body = 1

abbrev code : Symbol → List ℕ
code (token g w) = 0 ∷ ask_code g ∷ w
code (phrase o n) = 1 ∷ op_code o ∷ n ∷ []
code (unless w) = 2 ∷ w
code (note k) = 3 ∷ k ∷ []
code (left_side n n₁) = 4 ∷ n ∷ n₁ ∷ []
code (text n) = 5 ∷ n ∷ []

abbrev op_of : ℕ → Scope
op_of zero = same
op_of (suc n) = body

abbrev decode : List ℕ → Symbol
decode [] = note 0
decode (zero ∷ []) = note 0
decode (zero ∷ g ∷ w) = token (ask_of g) w
decode ((suc zero) ∷ []) = note 0
decode ((suc zero) ∷ o ∷ []) = note 0
decode ((suc zero) ∷ o ∷ n ∷ w) = phrase (op_of o) n
decode ((suc (suc zero)) ∷ w) = unless w
decode ((suc (suc (suc zero))) ∷ []) = note 0
decode ((suc (suc (suc zero))) ∷ k ∷ w) = note k
decode ((suc (suc (suc (suc zero)))) ∷ []) = note 0
decode ((suc (suc (suc (suc zero)))) ∷ n ∷ []) = note 0
decode ((suc (suc (suc (suc zero)))) ∷ n ∷ n₁ ∷ w) = left_side n n₁
decode (suc (suc (suc (suc (suc m)))) ∷ []) = note 0
decode (suc (suc (suc (suc (suc m)))) ∷ n ∷ w) = text n

decode_code : (s : Symbol) → decode (code s) ≡ s
decode_code (token g w) = ap (λ (x : Ask). token x w) (ask_back g)
decode_code (phrase same n) = refl
decode_code (phrase body n) = refl
decode_code (unless w) = refl
decode_code (note k) = refl
decode_code (left_side n n₁) = refl
decode_code (text n) = refl

abbrev eq_alt : List Symbol → List Symbol → Bool
eq_alt [] [] = true
eq_alt [] (y ∷ ys) = false
eq_alt (x ∷ xs) [] = false
eq_alt (x ∷ xs) (y ∷ ys) = eq_list (code x) (code y) && eq_alt xs ys

eq_alt→ : (xs ys : List Symbol) → T (eq_alt xs ys) → xs ≡ ys
eq_alt→ [] [] t = refl
eq_alt→ [] (y ∷ ys) t = absurd t
eq_alt→ (x ∷ xs) [] t = absurd t
eq_alt→ (x ∷ xs) (y ∷ ys) t =
    let e : x ≡ y = sym (decode_code x) ∙ ap decode (eq_list→ (code x) (code y) (and_l (eq_list (code x) (code y)) (eq_alt xs ys) t)) ∙ decode_code y in
    ap₂ (λ (a : Symbol) (b : List Symbol). a ∷ b) e (eq_alt→ xs ys (and_r (eq_list (code x) (code y)) (eq_alt xs ys) t))

abbrev is : Option (List Symbol) → Option (List Symbol) → Bool
is none none = true
is none (some b) = false
is (some a) none = false
is (some a) (some b) = eq_alt a b

is→ : (o p : Option (List Symbol)) → T (is o p) → o ≡ p
is→ none none t = refl
is→ none (some b) t = absurd t
is→ (some a) none t = absurd t
is→ (some a) (some b) t = ap some (eq_alt→ a b t)

module _ (l : Language) (n : ℕ) (o : Option (List Symbol)) where
  abbrev both : ℕ → Bool
  both c = is (chosen l n (one c)) o && is (chosen l n (pair c)) o

  -- at each of these classes, the kind has this alternative (or none)
  unfoldable pub picks_on : List ℕ → Bool
  picks_on [] = true
  picks_on (c ∷ w) = both c && picks_on w

  -- at each class below the bound that is none of these
  unfoldable pub picks_off : ℕ → List ℕ → Bool
  picks_off zero w = true
  picks_off (suc c) w = (one_of c w || both c) && picks_off c w

  both_view : (v : View) → T (both (base v)) → chosen l n v ≡ o
  both_view (one c) t = is→ (chosen l n (one c)) o (and_l (is (chosen l n (one c)) o) (is (chosen l n (pair c)) o) t)
  both_view (pair c) t = is→ (chosen l n (pair c)) o (and_r (is (chosen l n (one c)) o) (is (chosen l n (pair c)) o) t)

  on_at : (w : List ℕ) (c : ℕ) → T (picks_on w) → T (one_of c w) → T (both c)
  unfolding picks_on
  on_at [] c t m = absurd m
  on_at (k ∷ w) c t m = elim (or_cases (eqb c k) (one_of c w) m) [
    | inl e ↦ subst (λ (x : ℕ). T (both x)) (sym (eqb→eq c k e)) (and_l (both k) (picks_on w) t)
    | inr h ↦ on_at w c (and_r (both k) (picks_on w) t) h
  ]

  off_at : (b c : ℕ) (w : List ℕ) → T (picks_off b w) → c < b → (T (one_of c w) → ⊥) → T (both c)
  unfolding picks_off
  off_at zero c w t h m = absurd (omega arith)
  off_at (suc b) c w t h m = elim (split c b h) [
    | inl e ↦ subst (λ (x : ℕ). T (both x)) (sym e) (elim (or_cases (one_of b w) (both b) (and_l (one_of b w || both b) (picks_off b w) t)) [ inl k ↦ absurd (m (subst (λ (x : ℕ). T (one_of x w)) (sym e) k)) | inr k ↦ k ])
    | inr k ↦ off_at b c w (and_r (one_of b w || both b) (picks_off b w) t) k m
  ]
    where
      split : (c b : ℕ) → c < suc b → (c ≡ b) ⊎ (c < b)
      split c b h = go (eqb c b) (eqb→eq c b) (λ e. subst (λ (x : ℕ). T (eqb c x)) e (eqb_refl c))
        where
          go : (x : Bool) → (T x → c ≡ b) → (c ≡ b → T x) → (c ≡ b) ⊎ (c < b)
          go true f g = inl (f tt)
          go false f g = inr (let n : c ≢ b = λ e. g e in omega arith)

  module _ (S : Stream) where
    pub on_place : (w : List ℕ) (i : S.Place) → T (picks_on w) → T (one_of (peek S l i) w) → chosen l n (view S l i) ≡ o
    on_place w i t m = both_view (view S l i) (rw base_view (on_at w (peek S l i) t m))

    pub off_place : (b : ℕ) (w : List ℕ) (i : S.Place) → T (picks_off b w) → peek S l i < b → (T (one_of (peek S l i) w) → ⊥) → chosen l n (view S l i) ≡ o
    off_place b w i t h m = both_view (view S l i) (rw base_view (off_at b (peek S l i) w t h m))

-- where the next token decides too: the two views of a class apart
module _ (l : Language) (n : ℕ) (o : Option (List Symbol)) where
  -- by what is seen: a word alone, or a word and its partner behind it
  unfoldable pub picks_by : (ℕ → View) → List ℕ → Bool
  picks_by v [] = true
  picks_by v (c ∷ w) = is (chosen l n (v c)) o && picks_by v w

  by_at : (v : ℕ → View) (w : List ℕ) (c : ℕ) → T (picks_by v w) → T (one_of c w) → chosen l n (v c) ≡ o
  unfolding picks_by
  by_at v [] c t m = absurd m
  by_at v (k ∷ w) c t m = elim (or_cases (eqb c k) (one_of c w) m) [
    | inl e ↦ subst (λ (x : ℕ). chosen l n (v x) ≡ o) (sym (eqb→eq c k e)) (is→ (chosen l n (v k)) o (and_l (is (chosen l n (v k)) o) (picks_by v w) t))
    | inr h ↦ by_at v w c (and_r (is (chosen l n (v k)) o) (picks_by v w) t) h
  ]

  module _ (S : Stream) where
    -- a token in front of what it is looked at together with, and in front of anything else
    pub pair_place : {x : Token} {j : S.Place} (w : List ℕ) (i : S.Place) → S.look i ≡ found x j → T (flag l.pairs x.word (peek S l j)) → T (picks_by pair w) → T (one_of x.word w) → chosen l n (view S l i) ≡ o
    pair_place {x} {j} w i e f t m = ap (λ (k : Look S.Place). chosen l n (viewed S l k)) e ∙ ap (λ (b : Bool). chosen l n (cond b (pair x.word) (one x.word))) (T→eq (flag l.pairs x.word (peek S l j)) f) ∙ by_at pair w x.word t m

    pub one_place : {x : Token} {j : S.Place} (w : List ℕ) (i : S.Place) → S.look i ≡ found x j → (T (flag l.pairs x.word (peek S l j)) → ⊥) → T (picks_by one w) → T (one_of x.word w) → chosen l n (view S l i) ≡ o
    one_place {x} {j} w i e f t m = ap (λ (k : Look S.Place). chosen l n (viewed S l k)) e ∙ ap (λ (b : Bool). chosen l n (cond b (pair x.word) (one x.word))) (F→eq (flag l.pairs x.word (peek S l j)) f) ∙ by_at one w x.word t m
