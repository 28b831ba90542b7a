-- What integers, floats, hex numbers and AS numbers say, from the tests on the way.
use Rattle.std.specs.Prelude.{Option, Some, None, nat_eq, position, unwrap_or}
use Rattle.std.specs.List.{position_or_len}
use Rattle.std.proofs.lemmas.List.Recursion.{is_position_or_len}
use denote.Ref.{Bor}
use Rattle.chars.specs.Texts.{same}
use lib.Pointwise.{pointwise}
use mathlib.Core.Path.{◌≡◌, refl, sym, ap, ◌∙◌}
use Prim.Native.Nat.{ℕ, suc, ◌+◌, ◌-◌, ◌^◌, ◌<◌, ◌≤◌, zero-le, suc-le-suc}
use mathlib.Core.List.{List, [], ◌∷◌, map}
use mathlib.Core.Bool.{Bool, true, false, ◌&&◌, ◌||◌, cond}
use native.Mathlib.Omega.{arith}
use lib.ListN.{length, take, drop}
use lib.Dec.{eqb}
use borrow.Author.Tests.{lt-ltb, le-ltb, eq-eqb, ne_eqb}
use Rattle.chars.specs.declared.Class.{Class}
use Rattle.chars.specs.Chars.{byte_at, is_digit, is_class}
use Rattle.chars.specs.Runs.{past_run}
use Rattle.chars.proofs.Runs.{byte_in, past_le, within}
use Rattle.numbers.specs.declared.Base.{Base}
use Rattle.numbers.specs.Results.{Number}
use Rattle.numbers.specs.Results.{Written}
use Rattle.numbers.specs.declared.Amount.{Amount}
use Rattle.numbers.specs.Digits.{number_of, plain}
use Rattle.numbers.specs.Numbers.{suffixes, place_in, suffix_of, greatest, ceiling_of, as_integer, integer_with, integer_of, float_with, point_at, float_of}
use Rattle.numbers.proofs.Choices.{first, second, and, and_left, not_left, not_right}
use Rattle.numbers.proofs.Digits.{plain_whole}
use Rattle.numbers.proofs.Texts.{or_end}

-- the greatest values are those of the widths that the suffixes name: one bit of an i8 to i64 is the sign's
pub widths : greatest ≡ map (λ n. 2 ^ n - 1) (7 ∷ 15 ∷ 31 ∷ 63 ∷ 8 ∷ 16 ∷ 32 ∷ 64 ∷ [])
widths = refl

-- the place of a text among the suffixes, and none before them
module _ (t : List ℕ) where
  further : (k : ℕ) (us : List (List ℕ)) → place_in (k + 1) t us ≡ 1 + place_in k t us
  unfolding place_in
  further k [] = omega arith
  further k (u ∷ us) = go (same t u) (further (k + 1) us)
    where
      go : (b : Bool) → place_in (k + 1 + 1) t us ≡ 1 + place_in (k + 1) t us → cond b (k + 1) (place_in (k + 1 + 1) t us) ≡ 1 + cond b k (place_in (k + 1) t us)
      go true h = omega arith
      go false h = h

  among : (l : List (Bor (List ℕ))) → place_in 0 t (map (λ u. u.now) l) ≡ position_or_len (λ u. same t u.now) l
  unfolding place_in
  among l = is_position_or_len (λ (l : List (Bor (List ℕ))). place_in 0 t (map (λ u. u.now) l)) (λ u. same t u.now) refl (λ u us. ap (λ n. cond (same t u.now) 0 n) (further 0 (map (λ u. u.now) us))) l

  empty : same t [] ≡ eqb (length t) 0
  unfolding same
  empty = go t
    where
      go : (t : List ℕ) → same t [] ≡ eqb (length t) 0
      go [] = refl
      go (b ∷ l) = sym (ne_eqb (suc (length l)) 0 (λ e. omega arith))

  pub suffix_is : (l : List (Bor (List ℕ))) {r : Option ℕ} {n m : ℕ} → map (λ u. u.now) l ≡ [] ∷ suffixes → r ≡ position (λ u. same t u.now) l → m ≡ length l → n ≡ unwrap_or r m → n ≡ suffix_of t
  unfolding suffix_of
  suffix_is l {r} e f k g =
      g ∙ ap (unwrap_or r) k ∙ ap (λ r. unwrap_or r (length l)) f ∙ or_end (λ u. same t u.now) l ∙ sym (among l) ∙ ap (place_in 0 t) e
      ∙ unfold place_in in ap (λ b. cond b 0 (place_in 1 t suffixes)) empty

-- the figures of a text end inside it
pub figures_le : (t : List ℕ) {e : ℕ} → e ≡ past_run (is_class Class.Figure) t 0 → e ≤ length t
figures_le t h = rw h (past_le (is_class Class.Figure) t 0 zero-le)

module _ (figures : List ℕ) (s : ℕ) where
  pub integer_whole : {limit : ℕ} {n : Number} (m : Number) → s < 9 → limit ≡ ceiling_of s → n ≡ number_of Base.Ten limit (plain true figures) → n ≡ m → as_integer s m ≡ integer_with figures s
  unfolding integer_with
  integer_whole m h l e f = rw (← l) (first _ (lt-ltb _ _ h) (ap (as_integer s) (sym (sym e ∙ f))))

  pub integer_float : 9 ≤ s → s < 11 → Some (Amount.Float s) ≡ integer_with figures s
  unfolding integer_with
  integer_float h k = second _ (le-ltb _ _ h) (first _ (lt-ltb _ _ k) refl)

  pub integer_other : 9 ≤ s → 11 ≤ s → None ≡ integer_with figures s
  unfolding integer_with
  integer_other h k = second _ (le-ltb _ _ h) (second _ (le-ltb _ _ k) refl)

module _ (t : List ℕ) {b : ℕ} {u : Bool} (hb : b ≡ byte_at t 0) (hu : u ≡ is_digit b) where
  said : {v : Bool} → u ≡ v → is_digit (byte_at t 0) ≡ v
  said f = ap is_digit (sym hb) ∙ sym hu ∙ f

  pub integer_starts : {e s : ℕ} {l m : List ℕ} {r : Written} → u ≡ true → e ≡ past_run (is_class Class.Figure) t 0 → l ≡ take e t → m ≡ drop e t → s ≡ suffix_of m → r ≡ integer_with l s → r ≡ integer_of t
  unfolding integer_of
  integer_starts {e} {s} f he hl hm hs g = rw (← he) (first _ (said f) (g ∙ ap (λ l. integer_with l s) hl ∙ ap (integer_with (take e t)) (hs ∙ ap suffix_of hm)))

  pub integer_fails : u ≡ false → None ≡ integer_of t
  unfolding integer_of
  integer_fails f = second _ (said f) refl

  pub float_begins_else : u ≡ false → None ≡ float_of t
  unfolding float_of
  float_begins_else f = second _ (not_left _ (said f)) refl

  -- behind the first digits
  module _ {dot : ℕ} {p : Bool} (hd : dot ≡ past_run (is_class Class.Figure) t 0) (hp : p ≡ point_at t dot) where
    pub point_in : p ≡ true → dot < length t
    unfolding point_at
    point_in f = within (λ n. eqb n 46) refl t dot (and_left (eqb (byte_at t dot) 46) (is_digit (byte_at t (dot + 1))) (sym hp ∙ f))

    pub fraction_le : {e : ℕ} → p ≡ true → e ≡ past_run (is_class Class.Figure) t (dot + 1) → e ≤ length t
    fraction_le f he = rw he (past_le (is_class Class.Figure) t (dot + 1) (omega (arith, point_in f)))

    pub float_dot : {e s : ℕ} {m : List ℕ} {r : Written} → u ≡ true → p ≡ true → e ≡ past_run (is_class Class.Figure) t (dot + 1) → m ≡ drop e t → s ≡ suffix_of m → r ≡ float_with s → r ≡ float_of t
    unfolding float_of
    float_dot {e} f q he hm hs g = rw (← hd, ← he) (first _ (and (said f) (sym hp ∙ q)) (g ∙ ap float_with (hs ∙ ap suffix_of hm)))

    pub float_no_point : p ≡ false → None ≡ float_of t
    unfolding float_of
    float_no_point q = rw (← hd) (second _ (not_right (is_digit (byte_at t 0)) (sym hp ∙ q)) refl)

-- `.` and a digit
module _ (t : List ℕ) (at : ℕ) {x : ℕ} (is : x ≡ byte_at t at) where
  pub point_on : {b : Bool} → x ≡ 46 → b ≡ is_digit (byte_at t (at + 1)) → b ≡ point_at t at
  unfolding point_at
  point_on h g = rw (eq-eqb (byte_at t at) 46 (sym is ∙ h)) g

  pub point_off : (x ≡ 46 → ⊥) → false ≡ point_at t at
  unfolding point_at
  point_off h = rw (ne_eqb (byte_at t at) 46 (λ g. h (is ∙ g)))

pub float_is : (s : ℕ) → ((eqb s 0 || eqb s 9) || eqb s 10) ≡ true → Some (Amount.Float s) ≡ float_with s
unfolding float_with
float_is s h = first _ h refl

pub float_other : (s : ℕ) → ((eqb s 0 || eqb s 9) || eqb s 10) ≡ false → None ≡ float_with s
unfolding float_with
float_other s h = second _ h refl

-- a number behind two bytes
module _ (t : List ℕ) (x y : ℕ) (small : (x < 256) × (y < 256)) where
  both : (u v : Bool) → (u && v) ≡ (u && (v && true))
  both true true = refl
  both true false = refl
  both false v = refl

  two : (a b : ℕ) (l : List ℕ) → (eqb (byte_at (a ∷ b ∷ l) 0) x && eqb (byte_at (a ∷ b ∷ l) 1) y) ≡ (eqb a x && (eqb b y && true))
  two a b l = rw (byte_in (a ∷ b ∷ l) 0 (suc-le-suc zero-le), byte_in (a ∷ b ∷ l) 1 (suc-le-suc (suc-le-suc zero-le))) (both (eqb a x) (eqb b y))

  begins : (t : List ℕ) → (eqb (byte_at t 0) x && eqb (byte_at t 1) y) ≡ pointwise nat_eq (take 2 t) (x ∷ y ∷ [])
  unfolding byte_at
  begins [] = not_left _ (ne_eqb 256 x (λ e. omega arith))
  begins (a ∷ []) = not_right _ (ne_eqb 256 y (λ e. omega arith)) ∙ sym (not_right (eqb a x) refl)
  begins (a ∷ b ∷ l) = two a b l

  pub behind : (f : List ℕ → Number) {l : List ℕ} → pointwise nat_eq (take 2 t) (x ∷ y ∷ []) ≡ true → l ≡ drop 2 t → f (plain false l) ≡ cond (eqb (byte_at t 0) x && eqb (byte_at t 1) y) (f (drop 2 t)) None
  behind f {l} h e = first _ (begins t ∙ h) (ap f (plain_whole l ∙ e))

  pub not_begun : (n : Number) → pointwise nat_eq (take 2 t) (x ∷ y ∷ []) ≡ false → None ≡ cond (eqb (byte_at t 0) x && eqb (byte_at t 1) y) n None
  not_begun n h = second n (begins t ∙ h) refl
