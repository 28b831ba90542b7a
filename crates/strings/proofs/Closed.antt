-- Where the inside of a string holds, the first quote that no backslash escapes is the one behind it.
use Rattle.std.specs.Prelude.{Some, None}
use mathlib.Core.Path.{◌≡◌, refl, sym, ap, ap₂, ◌∙◌, subst}
use Prim.Native.Nat.{ℕ, zero, suc, ◌+◌, ◌-◌, ◌*◌, ◌<◌, ◌≤◌}
use mathlib.Core.List.{List, [], ◌∷◌, ◌++◌, map, append_assoc}
use mathlib.Core.Option.{Option, none, some}
use mathlib.Core.Bool.{Bool, true, false, ◌&&◌, ◌||◌, not, cond}
use native.Mathlib.Nat.{zero-add, le_refl}
use native.Mathlib.Omega.{arith}
use lib.ListN.{length, take, drop, length-drop, take-append-drop}
use lib.Seq.{slice, slice-cons, take-suc, drop-append-le, length-take-le}
use lib.Dec.{eqb, ltb, leb}
use borrow.Author.Tests.{eq-eqb, ne_eqb, eqb-true, eqb-false, ltb-true, not-true}
use Rattle.chars.specs.Chars.{byte_at}
use Rattle.chars.proofs.Runs.{byte_in, within}
use Rattle.numbers.specs.declared.Base.{Base}
use Rattle.numbers.specs.Results.{Number}
use Rattle.numbers.specs.Digits.{digit_of, all_below, plain, number_of}
use Rattle.numbers.specs.Texts.{until_byte}
use Rattle.numbers.proofs.Choices.{second, and_left, and_right}
use Rattle.numbers.proofs.Digits.{number_says}
use Rattle.chars.proofs.Texts.{part_slice}
use Rattle.numbers.proofs.Texts.{until_ge}
use Rattle.strings.specs.Results.{Piece}
use Rattle.strings.specs.Escapes.{is_bare, simple_of, is_scalar, ascii_of, scalar_of, unicode_of, plain_escape, escape_of, piece_of}
use Rattle.strings.specs.Strings.{after, codes_of, open_for}
use Rattle.strings.proofs.Escapes.{Sound, piece_is, below_two, unclosed, closed, past_digit, past_escape_lem}
use Rattle.strings.proofs.Strings.{codes_more, codes_none}

-- bytes that are neither a quote nor a backslash
abbrev Clean : List ℕ → Type 0
Clean [] = Unit {0}
Clean (b ∷ l) = (b ≡ 34 → ⊥) × (b ≡ 92 → ⊥) × Clean l

clean_append : (l r : List ℕ) → Clean l → Clean r → Clean (l ++ r)
clean_append [] r h k = k
clean_append (b ∷ l) r h k = (h.0, h.1, clean_append l r h.2 k)

passed : (b : ℕ) (l : List ℕ) → (b ≡ 34 → ⊥) → (b ≡ 92 → ⊥) → open_for false (b ∷ l) ≡ suc (open_for false l)
unfolding open_for
passed b l h k = sym (second 0 (ne_eqb b 34 h) (ap (λ u. suc (open_for u l)) (sym (ne_eqb b 92 k))))

escaped : (b : ℕ) (l : List ℕ) → open_for false (92 ∷ b ∷ l) ≡ suc (suc (open_for false l))
unfolding open_for
escaped b l = refl

clean_run : (l r : List ℕ) → Clean l → open_for false (l ++ r) ≡ length l + open_for false r
clean_run [] r h = sym (zero-add (open_for false r))
clean_run (b ∷ l) r h = passed b (l ++ r) h.0 h.1 ∙ ap suc (clean_run l r h.2) ∙ omega arith

-- hex digits and underscores are clean
digit_34 : digit_of 34 ≡ 16
unfolding digit_of
digit_34 = refl

digit_92 : digit_of 92 ≡ 16
unfolding digit_of
digit_92 = refl

clean_digit : (b : ℕ) → digit_of b < 16 → (b ≡ 34 → ⊥) × (b ≡ 92 → ⊥)
clean_digit b h = (λ e. omega (arith, h, ap digit_of e ∙ digit_34), λ e. omega (arith, h, ap digit_of e ∙ digit_92))

clean_digits : (l : List ℕ) → all_below 16 (map digit_of (plain true l)) ≡ true → Clean l
unfolding plain all_below
clean_digits [] h = tt
clean_digits (b ∷ l) h = go (eqb b 95) refl h (clean_digits l)
  where
    go : (u : Bool) → eqb b 95 ≡ u → all_below 16 (map digit_of (cond u (plain true l) (b ∷ plain true l))) ≡ true → (all_below 16 (map digit_of (plain true l)) ≡ true → Clean l) → Clean (b ∷ l)
    go true e k ih = (λ q. omega (arith, q, eqb-true b 95 e), λ q. omega (arith, q, eqb-true b 95 e), ih k)
    go false e k ih =
        let d : (b ≡ 34 → ⊥) × (b ≡ 92 → ⊥) = clean_digit b (ltb-true (digit_of b) 16 (and_left (ltb (digit_of b) 16) (all_below 16 (map digit_of (plain true l))) k)) in
        (d.0, d.1, ih (and_right (ltb (digit_of b) 16) (all_below 16 (map digit_of (plain true l))) k))

-- a character is passed over whole
abbrev Passes : List ℕ → ℕ → Type 0
Passes l n = (r : List ℕ) → open_for false (l ++ r) ≡ n + open_for false (drop n l ++ r)

abbrev Passing : List ℕ → Piece → Type 0
Passing l (Some (c, n)) = Passes l n
Passing l None = Unit {0}

-- a backslash, the byte behind it, and clean bytes
behind : (l : List ℕ) (m : ℕ) → byte_at l 0 ≡ 92 → 2 + m ≤ length l → Clean (take m (drop 2 l)) → Passes l (2 + m)
behind [] m e h k r = absurd (omega (arith, h))
behind (a ∷ []) m e h k r = absurd (omega (arith, h))
behind (a ∷ b ∷ l) m e h k r =
    let q : a ≡ 92 = sym (byte_in (a ∷ b ∷ l) 0 (omega arith)) ∙ e in
    let n : length (take m l) ≡ m = length-take-le m l (omega (arith, h)) in
    let s : suc (suc m) ≡ 2 + m = omega arith in
    ap (λ x. open_for false (x ∷ b ∷ l ++ r)) q
    ∙ escaped b (l ++ r)
    ∙ ap (λ x. suc (suc (open_for false x))) (ap (λ x. x ++ r) (sym (take-append-drop m l)) ∙ append_assoc (take m l) (drop m l) r)
    ∙ ap (λ x. suc (suc x)) (clean_run (take m l) (drop m l ++ r) k)
    ∙ omega (arith, n)
    ∙ ap (λ x. 2 + m + open_for false (drop x (a ∷ b ∷ l) ++ r)) s

two_digits : (l : List ℕ) → 3 < length l → digit_of (byte_at l 2) < 16 → digit_of (byte_at l 3) < 16 → Clean (take 2 (drop 2 l))
two_digits [] h x y = absurd (omega (arith, h))
two_digits (a ∷ []) h x y = absurd (omega (arith, h))
two_digits (a ∷ b ∷ []) h x y = absurd (omega (arith, h))
two_digits (a ∷ b ∷ c ∷ []) h x y = absurd (omega (arith, h))
two_digits (a ∷ b ∷ c ∷ d ∷ m) h x y =
    let i : (c ≡ 34 → ⊥) × (c ≡ 92 → ⊥) = clean_digit c (subst (λ n. digit_of n < 16) (byte_in (a ∷ b ∷ c ∷ d ∷ m) 2 (omega (arith, h))) x) in
    let j : (d ≡ 34 → ⊥) × (d ≡ 92 → ⊥) = clean_digit d (subst (λ n. digit_of n < 16) (byte_in (a ∷ b ∷ c ∷ d ∷ m) 3 h) y) in
    (i.0, i.1, (j.0, j.1, tt))

module _ (l : List ℕ) (back : byte_at l 0 ≡ 92) where
  ascii_passes : Passing l (ascii_of l)
  unfolding ascii_of
  ascii_passes = go (ltb (digit_of (byte_at l 2)) 8 && ltb (digit_of (byte_at l 3)) 16) refl
    where
      go : (u : Bool) → (ltb (digit_of (byte_at l 2)) 8 && ltb (digit_of (byte_at l 3)) 16) ≡ u → Passing l (cond u (Some (digit_of (byte_at l 2) * 16 + digit_of (byte_at l 3), 4)) None)
      go true e =
          let b : (digit_of (byte_at l 2) < 8) × (digit_of (byte_at l 3) < 16) = below_two {h = digit_of (byte_at l 2)} {l = digit_of (byte_at l 3)} {m = 8} {n = 16} e in
          let i : 3 < length l = within (λ n. ltb (digit_of n) 16) past_digit l 3 (and_right (ltb (digit_of (byte_at l 2)) 8) (ltb (digit_of (byte_at l 3)) 16) e) in
          behind l 2 back i (two_digits l i (omega (arith, b.0)) b.1)
      go false e = tt

  -- braces round clean digits
  braced : (e : ℕ) → 3 ≤ e → e < length l → byte_at l 2 ≡ 123 → byte_at l e ≡ 125 → Clean (slice 3 e l) → Passes l (e + 1)
  braced e h k x y c =
      let q : 2 + (e - 1) ≡ e + 1 = omega arith in
      let n : length (take e l) ≡ e = length-take-le e l (omega (arith, k)) in
      let s : e - 1 ≡ suc e - 2 = omega arith in
      let w : take (e - 1) (drop 2 l) ≡ 123 ∷ (slice 3 e l ++ (125 ∷ [])) =
      ap (λ m. take m (drop 2 l)) s
      ∙ part_slice 2 (suc e) l
      ∙ slice-cons 2 (suc e) l 0 (omega arith) k
      ∙ ap₂ ◌∷◌ (sym (byte_in l 2 (omega (arith, k, h))) ∙ x)
      (ap (drop 3) (take-suc l e 0 k ∙ ap (λ b. take e l ++ (b ∷ [])) (sym (byte_in l e k) ∙ y)) ∙ drop-append-le 3 (take e l) (125 ∷ []) (omega (arith, h, n))) in
      subst (Passes l) q
      (behind l (e - 1) back (omega (arith, k))
      (subst Clean (sym w) (λ z. omega (arith, z), λ z. omega (arith, z), clean_append (slice 3 e l) (125 ∷ []) c (λ z. omega (arith, z), λ z. omega (arith, z), tt))))

  unicode_passes : Passing l (unicode_of l)
  unfolding unicode_of scalar_of
  unicode_passes = go (eqb (byte_at l 2) 123) (unclosed (byte_at l (until_byte 125 l 3)) (byte_at l 3)) refl refl
    where
      scalar : (n : Number) → number_of Base.Sixteen 1114111 (plain true (slice 3 (until_byte 125 l 3) l)) ≡ n → eqb (byte_at l 2) 123 ≡ true → unclosed (byte_at l (until_byte 125 l 3)) (byte_at l 3) ≡ false → Passing l (scalar_of n (until_byte 125 l 3 + 1))
      scalar (Some (v, d)) q f g = pick (leb d 6 && is_scalar v)
        where
          y : byte_at l (until_byte 125 l 3) ≡ 125
          y = closed (byte_at l (until_byte 125 l 3)) (byte_at l 3) g

          pick : (u : Bool) → Passing l (cond u (Some (v, until_byte 125 l 3 + 1)) None)
          pick true =
              braced (until_byte 125 l 3) (until_ge 125 l 3) (within (λ n. eqb n 125) refl l (until_byte 125 l 3) (eq-eqb _ _ y)) (eqb-true (byte_at l 2) 123 f) y
              (clean_digits (slice 3 (until_byte 125 l 3) l) (number_says Base.Sixteen 1114111 (plain true (slice 3 (until_byte 125 l 3) l)) q).digits)
          pick false = tt
      scalar None q f g = tt

      go : (u v : Bool) → eqb (byte_at l 2) 123 ≡ u → unclosed (byte_at l (until_byte 125 l 3)) (byte_at l 3) ≡ v
          → Passing l (cond u (cond v None (scalar_of (number_of Base.Sixteen 1114111 (plain true (slice 3 (until_byte 125 l 3) l))) (until_byte 125 l 3 + 1))) None)
      go true true f g = tt
      go true false f g = scalar (number_of Base.Sixteen 1114111 (plain true (slice 3 (until_byte 125 l 3) l))) refl f g
      go false v f g = tt

  plain_passes : Passing l (plain_escape (simple_of (byte_at l 1)))
  unfolding plain_escape
  plain_passes = go (eqb (simple_of (byte_at l 1)) 256) refl
    where
      go : (u : Bool) → eqb (simple_of (byte_at l 1)) 256 ≡ u → Passing l (cond u None (Some (simple_of (byte_at l 1), 2)))
      go true e = tt
      go false e = behind l 0 back (within (λ n. not (eqb (simple_of n) 256)) past_escape_lem l 1 (ap not e)) tt

  escape_passes : Passing l (escape_of l)
  unfolding escape_of
  escape_passes = go (eqb (byte_at l 1) 120) (eqb (byte_at l 1) 117)
    where
      go : (u v : Bool) → Passing l (cond u (ascii_of l) (cond v (unicode_of l) (plain_escape (simple_of (byte_at l 1)))))
      go true v = ascii_passes
      go false true = unicode_passes
      go false false = plain_passes

-- a bare byte is neither a quote nor a backslash
bare_clean : (b : ℕ) → is_bare 34 b ≡ true → (b ≡ 34 → ⊥) × (b ≡ 92 → ⊥)
bare_clean b e =
    let x : (((ltb b 128 && not (eqb b 13)) && not (eqb b 92)) && not (eqb b 34)) ≡ true = and_left (((ltb b 128 && not (eqb b 13)) && not (eqb b 92)) && not (eqb b 34)) (not (eqb 34 39) || (not (eqb b 9) && not (eqb b 10))) e in
    let y : ((ltb b 128 && not (eqb b 13)) && not (eqb b 92)) ≡ true = and_left ((ltb b 128 && not (eqb b 13)) && not (eqb b 92)) (not (eqb b 34)) x in (
      eqb-false b 34 (not-true (eqb b 34) (and_right ((ltb b 128 && not (eqb b 13)) && not (eqb b 92)) (not (eqb b 34)) x)),
      eqb-false b 92 (not-true (eqb b 92) (and_right (ltb b 128 && not (eqb b 13)) (not (eqb b 92)) y)),
    )

bare_passes : (l : List ℕ) → 0 < length l → is_bare 34 (byte_at l 0) ≡ true → Passes l 1
bare_passes [] h e r = absurd (omega (arith, h))
bare_passes (b ∷ l) h e r =
    let d : (b ≡ 34 → ⊥) × (b ≡ 92 → ⊥) = bare_clean b (ap (is_bare 34) (sym (byte_in (b ∷ l) 0 (omega arith))) ∙ e) in
    passed b (l ++ r) d.0 d.1 ∙ omega arith

piece_passes : (l : List ℕ) → 0 < length l → Passing l (piece_of 34 l)
unfolding piece_of
piece_passes l h = go (eqb (byte_at l 0) 92) (is_bare 34 (byte_at l 0)) refl refl
  where
    go : (u v : Bool) → eqb (byte_at l 0) 92 ≡ u → is_bare 34 (byte_at l 0) ≡ v → Passing l (cond u (escape_of l) (cond v (Some (byte_at l 0, 1)) None))
    go true v e f = escape_passes l (eqb-true _ _ e)
    go false true e f = bare_passes l h f
    go false false e f = tt

-- the whole inside
after_some : (c : ℕ) (o : Option (List ℕ)) {cs : List ℕ} → after c o ≡ some cs → (ds : List ℕ) × (o ≡ some ds)
after_some c (some ds) e = (ds, refl)
after_some c none e = let z : ◌≡◌ {A = ℕ} 0 1 = cc in absurd (omega arith)

-- every text of fewer bytes
abbrev Shorter : ℕ → Type 0
Shorter m = (l cs : List ℕ) → length l ≤ m → codes_of l ≡ some cs → open_for false (l ++ 34 ∷ []) ≡ length l

longer : (m : ℕ) → Shorter m → Shorter (suc m)
unfolding open_for
longer m ih [] cs h e = refl
longer m ih (b ∷ l) cs h e = go (piece_of 34 (b ∷ l)) refl (piece_passes (b ∷ l) (omega arith))
  where
    go : (p : Piece) → piece_of 34 (b ∷ l) ≡ p → Passing (b ∷ l) p → open_for false ((b ∷ l) ++ 34 ∷ []) ≡ length (b ∷ l)
    go (Some (c, n)) f pass =
        let s : Sound (b ∷ l) c n = piece_is (b ∷ l) 34 refl f in
        let r : (ds : List ℕ) × (codes_of (drop n (b ∷ l)) ≡ some ds) = after_some c (codes_of (drop n (b ∷ l))) (sym (codes_more (b ∷ l) (omega arith) s.some f) ∙ e) in
        let k : length (drop n (b ∷ l)) ≡ length (b ∷ l) - n = length-drop n (b ∷ l) in
        let i : open_for false (drop n (b ∷ l) ++ 34 ∷ []) ≡ length (drop n (b ∷ l)) = ih (drop n (b ∷ l)) r.0 (omega (arith, h, k, s.some)) r.1 in
        pass (34 ∷ []) ∙ omega (arith, i, k, s.inside)
    go None f pass = let z : ◌≡◌ {A = ℕ} 0 1 = cc (codes_none (b ∷ l) (omega arith) f) in absurd (omega arith)

nothing_left : Shorter 0
unfolding open_for
nothing_left [] cs h e = refl
nothing_left (b ∷ l) cs h e = absurd (omega (arith, h))

inside_passes : (m : ℕ) → Shorter m
inside_passes zero = nothing_left
inside_passes (suc m) = longer m (inside_passes m)

pub open_inside : (l : List ℕ) {cs : List ℕ} → codes_of l ≡ some cs → open_for false (l ++ 34 ∷ []) ≡ length l
open_inside l {cs} e = inside_passes (length l) l cs (le_refl (length l)) e
