-- The choice by the first byte: a rule that can't begin with the byte at a place doesn't fit there, so that the first of those that can is the first of all.
use Rattle.std.specs.Prelude.{None}
use mathlib.Core.Path.{◌≡◌, refl, sym, ap, ◌∙◌}
use Prim.Native.Nat.{ℕ, ◌+◌, ◌<◌}
use mathlib.Core.List.{List, [], ◌∷◌}
use mathlib.Core.Bool.{Bool, true, false, ◌||◌, not, true≢false, cond}
use native.Mathlib.Omega.{arith}
use lib.Dec.{eqb, leb}
use borrow.Author.Tests.{lt-leb, leb-true, ne_eqb, eqb-true, eqb-false}
use Rattle.chars.specs.declared.Class.TheVariants.{HexDigit, HexColon}
use Rattle.chars.specs.Chars.{byte_at, is_class, is_digit, is_hex_digit}
use Rattle.chars.proofs.Runs.{past_done, outside}
use Rattle.tokens.specs.Results.{Fit}
use Rattle.tokens.specs.Results.{Step}
use Rattle.tokens.specs.Rules.{or_else, refused, pair_at, ipv6_at, ipv4_at, two_at, one_at, as_at, hex_at, number_at, quote_at, is_name_start, name_at, token_at}
use Rattle.tokens.proofs.Pairs.{snd, nor_first, nor_second}
use Rattle.tokens.proofs.Fits.{so, not_first, fails, no_sign, ends, miss, also, second}
use Rattle.tokens.proofs.Rules.{colons_first, ipv6_none, period_none, number_none, quote_none}
use Rattle.tokens.proofs.Tables.{has, rest_of, one_rest, no_one, two_firsts, no_two}

-- what a test said of a byte that was read
pub told : (p : ℕ → Bool) {x y : ℕ} {t u : Bool} → x ≡ y → t ≡ p x → t ≡ u → p y ≡ u
told p e h g = ap p (sym e) ∙ so h g

-- two numbers of which a test says different things
unlike : (p : ℕ → Bool) (t : Bool) (b k : ℕ) → p b ≡ t → p k ≡ not t → eqb b k ≡ false
unlike p t b k h g = ne_eqb b k (λ e. clash t (sym h ∙ ap p e ∙ g))
  where
    clash : (t : Bool) → t ≡ not t → ⊥
    clash true e = true≢false e
    clash false e = true≢false (sym e)

abbrev any : (ℕ → Bool) → List ℕ → Bool
any p [] = false
any p (x ∷ xs) = p x || any p xs

-- a number of a class is none of those of which none is in it
none_of : (p : ℕ → Bool) (rs : List ℕ) (b : ℕ) → p b ≡ true → any p rs ≡ false → has rs b ≡ false
none_of p [] b h g = refl
none_of p (x ∷ xs) b h g = rw (unlike p true b x h (nor_first (p x) _ g)) (none_of p xs b h (nor_second (p x) _ g))

no_name : (b : ℕ) → is_digit b ≡ true → is_name_start b ≡ false
no_name b h =
    let k : b < 58 = omega (arith, leb-true b 57 (snd (leb 48 b) _ h)) in
    rw (lt-leb 65 b (omega (arith, k)), lt-leb 97 b (omega (arith, k)), ne_eqb b 95 (λ e. omega (arith, k, e))) refl

no_digit : (b : ℕ) → is_name_start b ≡ true → is_digit b ≡ false
no_digit b h = go (is_digit b) refl
  where
    go : (t : Bool) → is_digit b ≡ t → is_digit b ≡ false
    go true e = absurd (true≢false (sym h ∙ no_name b e))
    go false e = e

pub quote_low : (b : ℕ) → (eqb b 34 || eqb b 39) ≡ true → b < 256
quote_low b h = go (eqb b 34) refl h
  where
    go : (t : Bool) → eqb b 34 ≡ t → (t || eqb b 39) ≡ true → b < 256
    go true e h = omega (arith, eqb-true b 34 e)
    go false e h = omega (arith, eqb-true b 39 h)

module _ (s : List ℕ) (at : ℕ) where
  abbrev b : ℕ
  b = byte_at s at

  pub quote_read : {x : ℕ} {r : Fit} → x ≡ b → r ≡ quote_at x (cond (eqb x 34) 9 10) s at → r ≡ quote_at b (cond (eqb b 34) 9 10) s at
  quote_read e h = h ∙ ap (λ q. quote_at q (cond (eqb q 34) 9 10) s at) e

  -- rule by rule: the first bytes
  pub ipv6_not : is_class HexColon b ≡ false → ipv6_at s at ≡ None
  unfolding is_class
  ipv6_not h = sym (ipv6_none s at (sym (colons_first s at (sym (past_done (is_class HexDigit) (outside HexDigit) s at (nor_first (is_hex_digit b) _ h))) refl (eqb-false b 58 (nor_second (is_hex_digit b) _ h)))))

  ipv4_not : is_digit b ≡ false → ipv4_at s at ≡ None
  unfolding ipv4_at
  ipv4_not h = sym (ends _ (sym (period_none s at h)))

  two_not : has two_firsts b ≡ false → two_at s at ≡ None
  unfolding two_at
  two_not h = sym (no_sign (at + 2) refl (sym (no_two b (byte_at s (at + 1)) (rest_of two_firsts b h))))

  one_not : has one_rest b ≡ false → one_at s at ≡ None
  unfolding one_at
  one_not h = sym (no_sign (at + 1) refl (sym (no_one b (rest_of one_rest b h))))

  as_not : eqb b 65 ≡ false → as_at s at ≡ None
  unfolding as_at pair_at
  as_not h = sym (fails _ _ (not_first _ (not_first _ h)))

  hex_not : eqb b 48 ≡ false → hex_at s at ≡ None
  unfolding hex_at pair_at
  hex_not h = sym (fails _ _ (not_first _ h))

  number_not : is_digit b ≡ false → number_at s at ≡ None
  number_not h = sym (number_none s at h)

  f_not : eqb b 102 ≡ false → pair_at s at 102 34 ≡ false
  unfolding pair_at
  f_not h = not_first _ h

  quote_not : (q w : ℕ) → eqb b q ≡ false → quote_at q w s at ≡ None
  quote_not q w h = sym (quote_none s at q w refl (eqb-false b q h))

  name_not : is_name_start b ≡ false → name_at s at ≡ None
  unfolding name_at
  name_not h = sym (fails _ _ h)

  -- what is refused where no rule fits
  abbrev five : Step
  five = refused 5 at (at + 2)

  abbrev four : Step
  four = refused 4 at (at + 1)

  abbrev no_token : Step
  no_token = cond (pair_at s at 102 34) five four

  -- strings and names
  abbrev later : Step
  later = or_else at (quote_at 34 9 s at) (or_else at (quote_at 39 10 s at) (or_else at (name_at s at) four))

  -- behind as numbers: `f"`, or a name
  abbrev named : Step
  named = or_else at (as_at s at) (cond (pair_at s at 102 34) five (or_else at (name_at s at) four))

  pub named_f : as_at s at ≡ None → pair_at s at 102 34 ≡ true → or_else at None no_token ≡ named
  unfolding or_else
  named_f a p = miss at a (rw p)

  pub named_name : {r : Fit} → as_at s at ≡ None → pair_at s at 102 34 ≡ false → r ≡ name_at s at → or_else at r no_token ≡ named
  named_name a p h = miss at a (rw p (also at h four))

  -- no rule behind the numbers fits
  none_later : is_name_start b ≡ false → eqb b 34 ≡ false → eqb b 39 ≡ false → no_token ≡ cond (pair_at s at 102 34) five later
  none_later n h g = ap (cond (pair_at s at 102 34) five) (miss at (quote_not 34 9 h) (miss at (quote_not 39 10 g) (miss at (name_not n) refl)))

  module _ (v6 : ipv6_at s at ≡ None) where
    pub by_letter : {x : Step} → is_name_start b ≡ true → x ≡ named → x ≡ token_at s at
    unfolding token_at
    by_letter n h =
        let d : is_digit b ≡ false = no_digit b n in
        let numbers = miss at (hex_not (unlike is_name_start true b 48 n refl)) (miss at (number_not d) (ap (cond (pair_at s at 102 34) five) (miss at (quote_not 34 9 (unlike is_name_start true b 34 n refl)) (miss at (quote_not 39 10 (unlike is_name_start true b 39 n refl)) refl)))) in
        miss at v6 (miss at (ipv4_not d) (miss at (two_not (none_of is_name_start two_firsts b n refl)) (miss at (one_not (none_of is_name_start one_rest b n refl)) (h ∙ ap (or_else at (as_at s at)) numbers))))

    module _ (n : is_name_start b ≡ false) where
      no_as : as_at s at ≡ None
      no_as = as_not (unlike is_name_start false b 65 n refl)

      pub by_digit : (r : Fit) → is_digit b ≡ true → ((d : Step) → or_else at r d ≡ or_else at (ipv4_at s at) (or_else at (hex_at s at) (or_else at (number_at s at) d))) → or_else at r no_token ≡ token_at s at
      unfolding token_at
      by_digit r d h =
          let rest = none_later n (unlike is_digit true b 34 d refl) (unlike is_digit true b 39 d refl) in
          let signs = miss at (two_not (none_of is_digit two_firsts b d refl)) (miss at (one_not (none_of is_digit one_rest b d refl)) (miss at no_as (ap (λ x. or_else at (hex_at s at) (or_else at (number_at s at) x)) rest))) in
          miss at v6 (h no_token ∙ ap (or_else at (ipv4_at s at)) signs)

      module _ (d : is_digit b ≡ false) where
        no_hex : hex_at s at ≡ None
        no_hex = hex_not (unlike is_digit false b 48 d refl)

        pub by_sign : (r : Fit) → (eqb b 34 || eqb b 39) ≡ false → ((d : Step) → or_else at r d ≡ or_else at (two_at s at) (or_else at (one_at s at) d)) → or_else at r no_token ≡ token_at s at
        unfolding token_at
        by_sign r q h =
            let rest = miss at no_as (miss at no_hex (miss at (number_not d) (none_later n (nor_first (eqb b 34) _ q) (nor_second (eqb b 34) _ q)))) in
            miss at v6 (miss at (ipv4_not d) (h no_token ∙ ap (λ x. or_else at (two_at s at) (or_else at (one_at s at) x)) rest))

        no_sooner : (q : ℕ) → b ≡ q → has two_firsts q ≡ false → has one_rest q ≡ false → {x : Step} → x ≡ later → x ≡ token_at s at
        unfolding token_at
        no_sooner q e two one h =
            miss at v6 (miss at (ipv4_not d) (miss at (two_not (ap (has two_firsts) e ∙ two)) (miss at (one_not (ap (has one_rest) e ∙ one)) (miss at no_as (miss at no_hex (miss at (number_not d) (second five (f_not (unlike is_name_start false b 102 n refl)) h)))))))

        only_four : (r : Fit) → or_else at r no_token ≡ or_else at r four
        only_four r = ap (or_else at r) (sym (second five (f_not (unlike is_name_start false b 102 n refl)) refl))

        pub by_quote : {r : Fit} → (eqb b 34 || eqb b 39) ≡ true → r ≡ quote_at b (cond (eqb b 34) 9 10) s at → or_else at r no_token ≡ token_at s at
        by_quote {r} q h = go (eqb b 34) refl q h
          where
            go : (t : Bool) → eqb b 34 ≡ t → (t || eqb b 39) ≡ true → r ≡ quote_at b (cond t 9 10) s at → or_else at r no_token ≡ token_at s at
            go true i k h =
                let e : b ≡ 34 = eqb-true b 34 i in
                no_sooner 34 e refl refl (only_four r ∙ also at (h ∙ ap (λ q. quote_at q 9 s at) e) four ∙ ap (or_else at (quote_at 34 9 s at)) (miss at (quote_not 39 10 (ap (λ m. eqb m 39) e)) (miss at (name_not n) refl)))
            go false i k h =
                let e : b ≡ 39 = eqb-true b 39 k in
                no_sooner 39 e refl refl (only_four r ∙ miss at (quote_not 34 9 i) (also at (h ∙ ap (λ q. quote_at q 10 s at) e) four ∙ ap (or_else at (quote_at 39 10 s at)) (miss at (name_not n) refl)))
