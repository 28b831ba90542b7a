-- One character, from the tests on the way; and what is known of it.
use Rattle.std.specs.Prelude.{Some, None}
use mathlib.Core.Path.{◌≡◌, refl, sym, ap, ◌∙◌, subst}
use Prim.Native.Nat.{ℕ, ◌+◌, ◌-◌, ◌*◌, ◌<◌, ◌≤◌}
use mathlib.Core.List.{List}
use mathlib.Core.Bool.{Bool, true, false, ◌&&◌, ◌||◌, not, cond}
use native.Mathlib.Omega.{arith}
use lib.ListN.{length, take, drop}
use lib.Seq.{slice}
use lib.Dec.{eqb, ltb, leb, lit≤}
use borrow.Author.Tests.{eq-eqb, ne_eqb, eqb-true, eqb-false, ltb-true, lt-ltb}
use Rattle.chars.specs.Chars.{byte_at}
use Rattle.chars.proofs.Runs.{within}
use Rattle.numbers.specs.declared.Base.{Base}
use Rattle.numbers.specs.Results.{Number}
use Rattle.numbers.specs.Digits.{digit_of, number_of, plain}
use Rattle.numbers.specs.Texts.{until_byte}
use Rattle.numbers.proofs.Choices.{so, first, second, and_left, and_right}
use Rattle.numbers.proofs.Digits.{number_says}
use Rattle.chars.proofs.Texts.{part_slice}
use Rattle.numbers.proofs.Texts.{until_ge}
use Rattle.strings.specs.Results.{Piece}
use Rattle.strings.specs.Escapes.{is_bare, simple_of, is_scalar, ascii_of, scalar_of, unicode_of, plain_escape, escape_of, piece_of}

-- two hex digits
module _ (t : List ℕ) {a b h l : ℕ} (ha : a ≡ byte_at t 2) (hh : h ≡ digit_of a) (hb : b ≡ byte_at t 3) (hl : l ≡ digit_of b) where
  high : h ≡ digit_of (byte_at t 2)
  high = hh ∙ ap digit_of ha

  low : l ≡ digit_of (byte_at t 3)
  low = hl ∙ ap digit_of hb

  pub ascii_is : (ltb h 8 && ltb l 16) ≡ true → Some (h * 16 + l, 4) ≡ ascii_of t
  unfolding ascii_of
  ascii_is e = rw (← high, ← low) (first _ e refl)

  pub ascii_not : (ltb h 8 && ltb l 16) ≡ false → None ≡ ascii_of t
  unfolding ascii_of
  ascii_not e = rw (← high, ← low) (second _ e refl)

pub below_two : {h l m n : ℕ} → (ltb h m && ltb l n) ≡ true → (h < m) × (l < n)
below_two {h} {l} {m} {n} e = (ltb-true h m (and_left (ltb h m) (ltb l n) e), ltb-true l n (and_right (ltb h m) (ltb l n) e))

-- digits in braces
abbrev pub unclosed : ℕ → ℕ → Bool
unclosed x y = not (eqb x 125) || eqb y 95

pub closed : (x y : ℕ) → unclosed x y ≡ false → x ≡ 125
closed x y = go (eqb x 125) (eqb y 95) (eqb-true x 125)
  where
    go : (u v : Bool) → (u ≡ true → x ≡ 125) → (not u || v) ≡ false → x ≡ 125
    go true v h e = h refl
    go false v h e = let z : ◌≡◌ {A = ℕ} 0 1 = ap (λ w. elim w [ true ↦ 1 | false ↦ 0 ]) (sym e) in absurd (omega arith)

module _ (t : List ℕ) {b : ℕ} (hb : b ≡ byte_at t 2) where
  pub unicode_open : (b ≡ 123 → ⊥) → None ≡ unicode_of t
  unfolding unicode_of
  unicode_open e = second _ (ne_eqb _ _ (λ q. e (hb ∙ q))) refl

  module _ (f : b ≡ 123) {e x y : ℕ} (he : e ≡ until_byte 125 t 3) (hx : x ≡ byte_at t e) (hy : y ≡ byte_at t 3) where
    inside : {r : Piece} → r ≡ cond (unclosed x y) None (scalar_of (number_of Base.Sixteen 1114111 (plain true (slice 3 e t))) (e + 1)) → r ≡ unicode_of t
    unfolding unicode_of
    inside g = first _ (eq-eqb _ _ (sym hb ∙ f)) (g ∙ rw (← he, ← hx, ← hy) refl)

    pub unicode_unclosed : unclosed x y ≡ true → None ≡ unicode_of t
    unicode_unclosed g = inside (first _ g refl)

    pub unicode_from : 3 ≤ e
    unicode_from = rw he (until_ge 125 t 3)

    module _ (g : unclosed x y ≡ false) where
      pub unicode_to : e < length t
      unicode_to = within (λ n. eqb n 125) refl t e (eq-eqb _ _ (sym hx ∙ closed x y g))

      module _ {n : Number} (hn : n ≡ number_of Base.Sixteen 1114111 (plain true (take (e - 3) (drop 3 t)))) where
        number : n ≡ number_of Base.Sixteen 1114111 (plain true (slice 3 e t))
        number = hn ∙ ap (λ l. number_of Base.Sixteen 1114111 (plain true l)) (part_slice 3 e t)

        pub unicode_none : n ≡ None → None ≡ unicode_of t
        unfolding scalar_of
        unicode_none k = inside (second None g (sym (ap (λ m. scalar_of m (e + 1)) (so number k))))

        module _ {v d : ℕ} (k : n ≡ Some (v, d)) {u : Bool} (hu : u ≡ is_scalar v) where
          told : {w : Bool} → (leb d 6 && u) ≡ w → (leb d 6 && is_scalar v) ≡ w
          told q = ap (λ z. leb d 6 && z) (sym hu) ∙ q

          pub unicode_is : (leb d 6 && u) ≡ true → Some (v, e + 1) ≡ unicode_of t
          unfolding scalar_of
          unicode_is q = inside (second None g (first None (told q) refl ∙ sym (ap (λ m. scalar_of m (e + 1)) (so number k))))

          pub unicode_not : (leb d 6 && u) ≡ false → None ≡ unicode_of t
          unfolding scalar_of
          unicode_not q = inside (second None g (second (Some (v, e + 1)) (told q) refl ∙ sym (ap (λ m. scalar_of m (e + 1)) (so number k))))

-- behind a backslash
module _ (t : List ℕ) {b : ℕ} (hb : b ≡ byte_at t 1) where
  pub escape_ascii : {r : Piece} → b ≡ 120 → r ≡ ascii_of t → r ≡ escape_of t
  unfolding escape_of
  escape_ascii e h = first _ (eq-eqb _ _ (sym hb ∙ e)) h

  module _ (f : b ≡ 120 → ⊥) where
    pub escape_unicode : {r : Piece} → b ≡ 117 → r ≡ unicode_of t → r ≡ escape_of t
    unfolding escape_of
    escape_unicode e h = second _ (ne_eqb _ _ (λ q. f (hb ∙ q))) (first _ (eq-eqb _ _ (sym hb ∙ e)) h)

    pub escape_plain : {r : Piece} → (b ≡ 117 → ⊥) → r ≡ plain_escape (simple_of b) → r ≡ escape_of t
    unfolding escape_of
    escape_plain g h = second _ (ne_eqb _ _ (λ q. f (hb ∙ q))) (second _ (ne_eqb _ _ (λ q. g (hb ∙ q))) (h ∙ ap (λ n. plain_escape (simple_of n)) hb))

-- at the front of a text
module _ (quote : ℕ) (t : List ℕ) {b : ℕ} (hb : b ≡ byte_at t 0) where
  pub piece_escape : {r : Piece} → b ≡ 92 → r ≡ escape_of t → r ≡ piece_of quote t
  unfolding piece_of
  piece_escape e h = first _ (eq-eqb _ _ (sym hb ∙ e)) h

  module _ (f : b ≡ 92 → ⊥) {u : Bool} (hu : u ≡ is_bare quote b) where
    barely : {w : Bool} → u ≡ w → is_bare quote (byte_at t 0) ≡ w
    barely e = ap (is_bare quote) (sym hb) ∙ sym hu ∙ e

    pub piece_bare : u ≡ true → Some (b, 1) ≡ piece_of quote t
    unfolding piece_of
    piece_bare e = second _ (ne_eqb _ _ (λ q. f (hb ∙ q))) (first _ (barely e) (ap (λ n. Some (n, 1)) hb))

    pub piece_none : u ≡ false → None ≡ piece_of quote t
    unfolding piece_of
    piece_none e = second _ (ne_eqb _ _ (λ q. f (hb ∙ q))) (second _ (barely e) refl)

-- what is known of a character: it stands inside the text, and is a code point
pub record Sound (t : List ℕ) (c n : ℕ) : Type 0 where
  pub some : 1 ≤ n
  pub inside : n ≤ length t
  pub point : c ≤ 1114111
  pub wide : (128 ≤ c → 2 ≤ n) × (2048 ≤ c → 4 ≤ n)

abbrev Sounds : List ℕ → Piece → Type 0
Sounds t (Some (c, n)) = Sound t c n
Sounds t None = Unit {0}

-- the number past the end is no hex digit, and no escape
pub past_digit : ltb (digit_of 256) 16 ≡ false
unfolding digit_of
past_digit = refl

pub past_escape_lem : not (eqb (simple_of 256) 256) ≡ false
unfolding simple_of
past_escape_lem = refl

at_most : (u : Bool) {a b : ℕ} (m : ℕ) → a ≤ m → b ≤ m → cond u a b ≤ m
at_most true m h k = h
at_most false m h k = k

simple_most : (b : ℕ) → simple_of b ≤ 256
unfolding simple_of
simple_most b =
    at_most (eqb b 110) 256 (lit≤ tt)
    (at_most (eqb b 114) 256 (lit≤ tt)
    (at_most (eqb b 116) 256 (lit≤ tt)
    (at_most (eqb b 92) 256 (lit≤ tt)
    (at_most (eqb b 48) 256 (lit≤ tt)
    (at_most (eqb b 39) 256 (lit≤ tt)
    (at_most (eqb b 34) 256 (lit≤ tt) (lit≤ tt)))))))

bare_small : (quote b : ℕ) → is_bare quote b ≡ true → b < 128
bare_small quote b e =
    ltb-true b 128
    (and_left (ltb b 128) (not (eqb b 13))
    (and_left (ltb b 128 && not (eqb b 13)) (not (eqb b 92))
    (and_left ((ltb b 128 && not (eqb b 13)) && not (eqb b 92)) (not (eqb b quote))
    (and_left (((ltb b 128 && not (eqb b 13)) && not (eqb b 92)) && not (eqb b quote)) (not (eqb quote 39) || (not (eqb b 9) && not (eqb b 10))) e))))

module _ (t : List ℕ) where
  ascii_sound : Sounds t (ascii_of t)
  unfolding ascii_of
  ascii_sound = go (ltb (digit_of (byte_at t 2)) 8 && ltb (digit_of (byte_at t 3)) 16) refl
    where
      go : (u : Bool) → (ltb (digit_of (byte_at t 2)) 8 && ltb (digit_of (byte_at t 3)) 16) ≡ u → Sounds t (cond u (Some (digit_of (byte_at t 2) * 16 + digit_of (byte_at t 3), 4)) None)
      go true e =
          let b : (digit_of (byte_at t 2) < 8) × (digit_of (byte_at t 3) < 16) = below_two {h = digit_of (byte_at t 2)} {l = digit_of (byte_at t 3)} {m = 8} {n = 16} e in
          let i : 3 < length t = within (λ n. ltb (digit_of n) 16) past_digit t 3 (and_right (ltb (digit_of (byte_at t 2)) 8) (ltb (digit_of (byte_at t 3)) 16) e) in
          record { some = omega arith; inside = i; point = omega arith; wide = (λ h. omega arith, λ h. omega arith) }
      go false e = tt

  plain_sound : Sounds t (plain_escape (simple_of (byte_at t 1)))
  unfolding plain_escape
  plain_sound = go (eqb (simple_of (byte_at t 1)) 256) refl
    where
      go : (u : Bool) → eqb (simple_of (byte_at t 1)) 256 ≡ u → Sounds t (cond u None (Some (simple_of (byte_at t 1), 2)))
      go true e = tt
      go false e =
          let i : 1 < length t = within (λ n. not (eqb (simple_of n) 256)) past_escape_lem t 1 (ap not e) in
          let m : simple_of (byte_at t 1) ≤ 256 = simple_most (byte_at t 1) in
          let d : simple_of (byte_at t 1) < 256 = omega (arith, m, eqb-false (simple_of (byte_at t 1)) 256 e) in
          record { some = omega arith; inside = i; point = omega arith; wide = (λ h. omega arith, λ h. omega arith) }

  scalar_sound : (e : ℕ) (text : List ℕ) → 3 ≤ e → e < length t → Sounds t (scalar_of (number_of Base.Sixteen 1114111 text) (e + 1))
  unfolding scalar_of
  scalar_sound e text h k = go (number_of Base.Sixteen 1114111 text) refl
    where
      pick : (v d : ℕ) → v ≤ 1114111 → (u : Bool) → Sounds t (cond u (Some (v, e + 1)) None)
      pick v d m true = record { some = omega arith; inside = omega arith; point = m; wide = (λ z. omega arith, λ z. omega arith) }
      pick v d m false = tt

      go : (n : Number) → number_of Base.Sixteen 1114111 text ≡ n → Sounds t (scalar_of n (e + 1))
      go (Some (v, d)) q = pick v d (number_says Base.Sixteen 1114111 text q).most (leb d 6 && is_scalar v)
      go None q = tt

  unicode_sound : Sounds t (unicode_of t)
  unfolding unicode_of
  unicode_sound = go (eqb (byte_at t 2) 123) (unclosed (byte_at t (until_byte 125 t 3)) (byte_at t 3)) refl
    where
      go : (u v : Bool) → unclosed (byte_at t (until_byte 125 t 3)) (byte_at t 3) ≡ v
          → Sounds t (cond u (cond v None (scalar_of (number_of Base.Sixteen 1114111 (plain true (slice 3 (until_byte 125 t 3) t))) (until_byte 125 t 3 + 1))) None)
      go true true e = tt
      go true false e =
          scalar_sound (until_byte 125 t 3) (plain true (slice 3 (until_byte 125 t 3) t)) (until_ge 125 t 3)
          (within (λ n. eqb n 125) refl t (until_byte 125 t 3) (eq-eqb _ _ (closed (byte_at t (until_byte 125 t 3)) (byte_at t 3) e)))
      go false v e = tt

  escape_sound : Sounds t (escape_of t)
  unfolding escape_of
  escape_sound = go (eqb (byte_at t 1) 120) (eqb (byte_at t 1) 117)
    where
      go : (u v : Bool) → Sounds t (cond u (ascii_of t) (cond v (unicode_of t) (plain_escape (simple_of (byte_at t 1)))))
      go true v = ascii_sound
      go false true = unicode_sound
      go false false = plain_sound

  bare_sound : (quote : ℕ) → is_bare quote (byte_at t 0) ≡ true → Sounds t (Some (byte_at t 0, 1))
  bare_sound quote e =
      let b : byte_at t 0 < 128 = bare_small quote (byte_at t 0) e in
      let i : 0 < length t = within (λ n. ltb n 128) refl t 0 (lt-ltb _ _ b) in
      record { some = omega arith; inside = i; point = omega arith; wide = (λ h. omega arith, λ h. omega arith) }

  piece_sound : (quote : ℕ) → Sounds t (piece_of quote t)
  unfolding piece_of
  piece_sound quote = go (eqb (byte_at t 0) 92) (is_bare quote (byte_at t 0)) refl
    where
      go : (u v : Bool) → is_bare quote (byte_at t 0) ≡ v → Sounds t (cond u (escape_of t) (cond v (Some (byte_at t 0, 1)) None))
      go true v e = escape_sound
      go false true e = bare_sound quote e
      go false false e = tt

  pub piece_is : (quote : ℕ) {p : Piece} {c n : ℕ} → p ≡ piece_of quote t → p ≡ Some (c, n) → Sound t c n
  piece_is quote h e = subst (Sounds t) (so h e) (piece_sound quote)
