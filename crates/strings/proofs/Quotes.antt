-- Texts between quotes: strings, chars, and entry point (e).
use Rattle.std.specs.Prelude.{Option as Found, Some, None, nat_eq}
use Rattle.std.specs.Option.{MatchOption}
use denote.Ref.{Bor}
use native.Mathlib.Decide.{dec_lt}
use lib.Pointwise.{pointwise}
use mathlib.Core.Path.{◌≡◌, refl, sym, ap, ap₂, ◌∙◌, subst}
use Prim.Native.Nat.{ℕ, zero, suc, ◌+◌, ◌-◌, ◌<◌, ◌≤◌, zero-le, suc-le-suc}
use mathlib.Core.List.{List, [], ◌∷◌, ◌++◌}
use mathlib.Core.Option.{Option, none, some}
use mathlib.Core.Bool.{Bool, true, false, true≢false, ◌&&◌, cond}
use native.Mathlib.Nat.{le_of_eq, zero-add, sub-zero, zero-sub, suc-sub-suc}
use native.Mathlib.Omega.{arith}
use lib.ListN.{length, get_or, take, drop, length-drop, replicate, length-replicate}
use lib.Seq.{take_all, sets, sets-eq, take-suc, take-length, length-take-le, length-slice, drop-append-le}
use lib.Dec.{eqb, ltb, leb}
use borrow.Author.Tests.{le-leb, lt-leb, leb-true, eq-eqb, ne_eqb, eqb-true, lt-ltb, le-ltb}
use Rattle.chars.specs.Chars.{byte_at}
use Rattle.chars.proofs.Runs.{byte_in}
use Rattle.numbers.proofs.Choices.{so, first, second, and, and_left, and_right, not_left, not_right}
use Rattle.chars.proofs.Texts.{part_slice}
use Rattle.numbers.proofs.Texts.{byte_behind}
use Rattle.strings.specs.Results.{Piece}
use Rattle.strings.specs.Results.{Size}
use Rattle.strings.specs.Results.{Point}
use Rattle.chars.specs.declared.Answer.{Answer}
use Rattle.strings.specs.Escapes.{piece_of}
use Rattle.strings.specs.Strings.{codes_of, encoded, bytes_of, sized, measure_of, Holds, is_quoted, inside, size_of, wholly, char_of, open_for, is_token, token_size, answer_for, answer_of, content_for, content_of}
use Rattle.strings.proofs.Closed.{open_inside}

-- what stands between the quotes, as code takes it
abbrev between : List ℕ → List ℕ
between t = take (length t - 1 - 1) (drop 1 t)

between_is : (t : List ℕ) → between t ≡ inside t
between_is t = part_slice 1 (length t - 1) t

quoted_long : (quote : ℕ) (t : List ℕ) → is_quoted quote t ≡ true → 2 ≤ length t
unfolding is_quoted
quoted_long quote t e = leb-true 2 (length t) (and_left (leb 2 (length t)) (eqb (byte_at t 0) quote && eqb (byte_at t (length t - 1)) quote) e)

-- a quote off the front, and then off the end
module _ (quote : ℕ) (t : List ℕ) where
  and_true : (u : Bool) → (u && true) ≡ u
  and_true true = refl
  and_true false = refl

  first_is : (l : List ℕ) → 0 < length l → pointwise nat_eq (take 1 l) (quote ∷ []) ≡ eqb (byte_at l 0) quote
  first_is [] h = absurd (omega (arith, h))
  first_is (b ∷ l) h = and_true (eqb b quote) ∙ ap (λ n. eqb n quote) (sym (byte_in (b ∷ l) 0 h))

  no_front : pointwise nat_eq (take 1 t) (quote ∷ []) ≡ false → is_quoted quote t ≡ false
  unfolding is_quoted
  no_front e = elim (dec_lt 0 (length t)) [
    | yes h ↦ not_right (leb 2 (length t)) (not_left (eqb (byte_at t (length t - 1)) quote) (sym (first_is t h) ∙ e))
    | no f ↦ not_left (eqb (byte_at t 0) quote && eqb (byte_at t (length t - 1)) quote) (lt-leb 2 (length t) (omega (arith, f)))
  ]

  some_end : (l : List ℕ) → pointwise nat_eq (drop (length l - 1) l) (quote ∷ []) ≡ true → 0 < length l
  some_end [] e = absurd (true≢false (sym e))
  some_end (b ∷ l) e = suc-le-suc zero-le

  module _ {l : List ℕ} (rest : l ≡ drop 1 t) where
    fewer : length l ≡ length t - 1
    fewer = ap length rest ∙ length-drop 1 t

    last_is : 0 < length l → pointwise nat_eq (drop (length l - 1) l) (quote ∷ []) ≡ eqb (byte_at t (length t - 1)) quote
    last_is h =
        let n : ℕ = length l - 1 in
        let one : length (drop n l) ≡ 1 = length-drop n l ∙ omega (arith, h) in
        let end : 1 + (n + 0) ≡ length t - 1 = omega (arith, h, fewer) in
        ap (λ (m : List ℕ). pointwise nat_eq m (quote ∷ [])) (sym (take_all 1 (drop n l) (le_of_eq one)))
        ∙ first_is (drop n l) (omega (arith, one))
        ∙ ap (λ b. eqb b quote) (byte_behind l n 0 ∙ ap (λ m. byte_at m (n + 0)) rest ∙ byte_behind t 1 (n + 0) ∙ ap (byte_at t) end)

    no_end : pointwise nat_eq (drop (length l - 1) l) (quote ∷ []) ≡ false → is_quoted quote t ≡ false
    unfolding is_quoted
    no_end e = elim (dec_lt 0 (length l)) [
      | yes h ↦ not_right (leb 2 (length t)) (not_right (eqb (byte_at t 0) quote) (sym (last_is h) ∙ e))
      | no f ↦ not_left (eqb (byte_at t 0) quote && eqb (byte_at t (length t - 1)) quote) (lt-leb 2 (length t) (omega (arith, f, fewer)))
    ]

    both_ends : pointwise nat_eq (take 1 t) (quote ∷ []) ≡ true → pointwise nat_eq (drop (length l - 1) l) (quote ∷ []) ≡ true → is_quoted quote t ≡ true
    unfolding is_quoted
    both_ends front e =
        let h : 0 < length l = some_end l e in
        let k : 0 < length t = omega (arith, h, fewer) in
        and (le-leb 2 (length t) (omega (arith, h, fewer))) (and (sym (first_is t k) ∙ front) (sym (last_is h) ∙ e))

    inside_is : {m : List ℕ} → m ≡ take (length l - 1) l → m ≡ inside t
    inside_is e = e ∙ ap (λ l. take (length l - 1) l) rest ∙ ap (λ n. take (n - 1) (drop 1 t)) (length-drop 1 t) ∙ between_is t

  abbrev pub Between : Found (Bor (List ℕ)) → Type 0
  Between r = MatchOption r (is_quoted quote t ≡ false) (λ x. (is_quoted quote t ≡ true) × (x.now ≡ inside t))

  pub unopened : {r : Found (Bor (List ℕ))} → r ≡ None → pointwise nat_eq (take 1 t) (quote ∷ []) ≡ false → Between r
  unopened e h = subst Between (sym e) (no_front h)

  pub opened : {l : List ℕ} → pointwise nat_eq (take 1 t) (quote ∷ []) ≡ true → l ≡ drop 1 t → (r : Found (Bor (List ℕ)))
      → MatchOption r (pointwise nat_eq (drop (length l - 1) l) (quote ∷ []) ≡ false) (λ x. (pointwise nat_eq (drop (length l - 1) l) (quote ∷ []) ≡ true) × (x.now ≡ take (length l - 1) l) × (length x.now + 1 ≡ length l)) → Between r
  opened front rest None h = no_end rest h
  opened front rest (Some x) h = (both_ends rest front h.0, inside_is rest h.1)

module _ (t : List ℕ) where
  pub unquoted : is_quoted 34 t ≡ false → None ≡ size_of t
  unfolding size_of
  unquoted e = second _ e refl

  pub string_is : {r : Size} {l : List ℕ} → is_quoted 34 t ≡ true → l ≡ inside t → r ≡ measure_of l → r ≡ size_of t
  unfolding size_of
  string_is e h g = first _ e (g ∙ ap measure_of h)

  pub char_not : is_quoted 39 t ≡ false → None ≡ char_of t
  unfolding char_of
  char_not e = second _ e refl

  module _ {l : List ℕ} {p : Piece} (e : is_quoted 39 t ≡ true) (h : l ≡ inside t) (hp : p ≡ piece_of 39 l) where
    quoted : {r : Point} → r ≡ wholly (length l) p → r ≡ char_of t
    unfolding char_of
    quoted g =
        let long : 2 ≤ length t = quoted_long 39 t e in
        let n : length (inside t) ≡ length t - 1 - 1 = length-slice 1 (length t - 1) t (omega arith) in
        let k : length l ≡ length t - 2 = omega (arith, ap length h, n) in
        first _ e (g ∙ ap₂ wholly k (hp ∙ ap (piece_of 39) h))

    pub char_none : p ≡ None → None ≡ char_of t
    unfolding wholly
    char_none f = quoted (sym (ap (wholly (length l)) f))

    pub char_is : {c n : ℕ} → p ≡ Some (c, n) → n ≡ length l → Some c ≡ char_of t
    unfolding wholly
    char_is f k = quoted (first _ (eq-eqb _ _ k) refl ∙ sym (ap (wholly (length l)) f))

    pub char_more : {c n : ℕ} → p ≡ Some (c, n) → (n ≡ length l → ⊥) → None ≡ char_of t
    unfolding wholly
    char_more {c} f k = quoted (second (Some c) (ne_eqb _ _ k) refl ∙ sym (ap (wholly (length l)) f))

-- entry point (e)
abbrev zeros : ℕ → List ℕ
zeros n = replicate n 0

drop_replicate : (k n : ℕ) → drop k (zeros n) ≡ zeros (n - k)
drop_replicate zero n = sym (ap zeros (sub-zero n))
drop_replicate (suc k) zero = sym (ap zeros (zero-sub (suc k)))
drop_replicate (suc k) (suc n) = drop_replicate k n ∙ sym (ap zeros (suc-sub-suc n k))

module _ (t : List ℕ) {k : ℕ} (e : size_of t ≡ Some k) where
  pub size_long : 2 ≤ length t
  unfolding size_of
  size_long = go (is_quoted 34 t) refl e
    where
      go : (u : Bool) → is_quoted 34 t ≡ u → cond u (measure_of (inside t)) None ≡ Some k → 2 ≤ length t
      go true f g = quoted_long 34 t f
      go false f g = let z : ◌≡◌ {A = ℕ} 0 1 = cc in absurd (omega arith)

  pub size_inside : measure_of (inside t) ≡ Some k
  unfolding size_of
  size_inside = go (is_quoted 34 t) e
    where
      go : (u : Bool) → cond u (measure_of (inside t)) None ≡ Some k → measure_of (inside t) ≡ Some k
      go true g = g
      go false g = let z : ◌≡◌ {A = ℕ} 0 1 = cc in absurd (omega arith)

size_count : (l : List ℕ) {k : ℕ} → measure_of l ≡ Some k → length (bytes_of l) ≡ k
unfolding measure_of bytes_of
size_count l = go (codes_of l)
  where
    go : {k : ℕ} (o : Option (List ℕ)) → sized o ≡ Some k → length (encoded o) ≡ k
    go (some cs) e = cc
    go none e = let z : ◌≡◌ {A = ℕ} 0 1 = cc in absurd (omega arith)

-- a text between quotes whose inside holds is closed by its last byte
abbrev closes : List ℕ → Bool
closes t = eqb (1 + open_for false (drop 1 t)) (length t - 1)

quoted_split : (t : List ℕ) → is_quoted 34 t ≡ true → drop 1 t ≡ inside t ++ 34 ∷ []
unfolding is_quoted
quoted_split t e =
    let n : ℕ = length t - 1 in
    let h : 2 ≤ length t = quoted_long 34 t e in
    let k : n < length t = omega arith in
    let ends : (eqb (byte_at t 0) 34 && eqb (byte_at t n) 34) ≡ true = and_right (leb 2 (length t)) (eqb (byte_at t 0) 34 && eqb (byte_at t n) 34) e in
    let b : get_or t n 0 ≡ 34 = sym (byte_in t n k) ∙ eqb-true (byte_at t n) 34 (and_right (eqb (byte_at t 0) 34) (eqb (byte_at t n) 34) ends) in
    let m : length (take n t) ≡ n = length-take-le n t (omega arith) in
    let s : suc n ≡ length t = omega arith in
    let w : t ≡ take n t ++ 34 ∷ [] = sym (take-length t) ∙ ap (λ i. take i t) (sym s) ∙ take-suc t n 0 k ∙ ap (λ x. take n t ++ (x ∷ [])) b in
    ap (drop 1) w ∙ drop-append-le 1 (take n t) (34 ∷ []) (omega arith)

closed_by_last : (t : List ℕ) {k : ℕ} → is_quoted 34 t ≡ true → measure_of (inside t) ≡ Some k → closes t ≡ true
unfolding measure_of
closed_by_last t {k} e f = go (codes_of (inside t)) refl f
  where
    go : (o : Option (List ℕ)) → codes_of (inside t) ≡ o → sized o ≡ Some k → closes t ≡ true
    go (some cs) g h =
        let n : length (inside t) ≡ length t - 1 - 1 = length-slice 1 (length t - 1) t (omega arith) in
        let m : 2 ≤ length t = quoted_long 34 t e in
        let o : open_for false (drop 1 t) ≡ length (inside t) = ap (open_for false) (quoted_split t e) ∙ open_inside (inside t) g in
        eq-eqb (1 + open_for false (drop 1 t)) (length t - 1) (omega (arith, o, n, m))
    go none g h = let z : ◌≡◌ {A = ℕ} 0 1 = cc in absurd (omega arith)

token_size_lem : (t : List ℕ) → length t ≤ 65535 → token_size t ≡ size_of t
unfolding token_size is_token size_of
token_size_lem t h = go (is_quoted 34 t) refl (measure_of (inside t)) refl
  where
    go : (q : Bool) → is_quoted 34 t ≡ q → (r : Size) → measure_of (inside t) ≡ r → cond (leb (length t) 65535 && (q && closes t)) (measure_of (inside t)) None ≡ cond q (measure_of (inside t)) None
    go false e r f = sym (second (measure_of (inside t)) (not_right (leb (length t) 65535) refl) refl)
    go true e (Some k) f = sym (first None (and (le-leb _ _ h) (closed_by_last t e f)) refl)
    go true e None f = either (leb (length t) 65535 && closes t) f
      where
        either : (u : Bool) → measure_of (inside t) ≡ None → cond u (measure_of (inside t)) None ≡ measure_of (inside t)
        either true g = refl
        either false g = sym g

module _ (t T : List ℕ) {T' : List ℕ} (ht : T' ≡ replicate (length T) 0) where
  pub room_same : length T' ≡ length T
  room_same = ap length ht ∙ length-replicate (length T) 0

  -- both clauses of the contract
  abbrev pub Answers : Answer → List ℕ → Type 0
  Answers r out = (r ≡ answer_of t (length T)) × (out ≡ content_of t (length T))

  by_size : {r : Answer} {out : List ℕ} {s : Size} → token_size t ≡ s → r ≡ answer_for (length t) (length T) s → out ≡ content_for (bytes_of (inside t)) (length T) s → Answers r out
  unfolding answer_of content_of
  by_size e g h = (g ∙ sym (ap (answer_for (length t) (length T)) e), h ∙ sym (ap (content_for (bytes_of (inside t)) (length T)) e))

  refused : token_size t ≡ None → Answers (record { number = 7; start = 0; end = length t; count = 0 }) T'
  refused e = by_size e refl ht

  pub too_long : 65535 < length t → Answers (record { number = 7; start = 0; end = length t; count = 0 }) T'
  unfolding token_size is_token
  too_long h = refused (sym (second (measure_of (inside t)) (not_left (is_quoted 34 t && closes t) (lt-leb _ _ h)) refl))

  module _ (h : length t ≤ 65535) {s : Size} (hs : s ≡ size_of t) where
    token : {r : Size} → s ≡ r → token_size t ≡ r
    token e = token_size_lem t h ∙ so hs e

    pub no_string : s ≡ None → Answers (record { number = 7; start = 0; end = length t; count = 0 }) T'
    no_string e = refused (token e)

    module _ {k : ℕ} (e : s ≡ Some k) where
      pub long_enough : 2 ≤ length t
      long_enough = size_long t (so hs e)

      pub no_room : length T' < k → Answers (record { number = 10; start = 0; end = 0; count = k }) T'
      no_room g =
          let q : ltb (length T) k ≡ true = lt-ltb _ _ (subst (λ n. n < k) room_same g) in
          by_size (token e) (first _ q refl) (first _ q ht)

      pub room_holds : k ≤ length T' → Holds (measure_of (between t)) (length T')
      room_holds g = subst (λ r. Holds r (length T')) (sym (ap measure_of (between_is t) ∙ size_inside t (so hs e))) g

      pub decoded : {out : List ℕ} → k ≤ length T' → out ≡ sets T' 0 (bytes_of (between t)) → Answers (record { number = 0; start = 0; end = length t; count = k }) out
      decoded g f =
          let q : ltb (length T) k ≡ false = le-ltb _ _ (subst (λ n. k ≤ n) room_same g) in
          let bs : List ℕ = bytes_of (inside t) in
          let c : length bs ≡ k = size_count (inside t) (size_inside t (so hs e)) in
          let m : 0 + length bs ≡ k = zero-add (length bs) ∙ c in
          let fits : 0 + length bs ≤ length T' = subst (λ n. n ≤ length T') (sym m) g in
          by_size (token e) (second _ q refl)
          (second _ q
          (f
          ∙ ap (λ l. sets T' 0 (bytes_of l)) (between_is t)
          ∙ sets-eq bs T' 0 fits
          ∙ ap (λ l. bs ++ l) (ap₂ drop m ht ∙ drop_replicate k (length T))))
