-- RFC 4291, section 2.2: the text forms of an IPv6 address, as a relation between texts and eight groups of 16 bits.
use Rattle.std.specs.Prelude.{ℕ, ◌+◌, ◌-◌, ◌≤◌, ◌≡◌, List, [], ◌∷◌, ◌++◌, map, true, length, replicate}
use Rattle.numbers.specs.Digits.{digit_of, value_of, all_below}
use Rattle.addresses.specs.Quads.{Joined, IPv4, paired}

-- "one to four hexadecimal digits"
pub record Group (text : List ℕ) (v : ℕ) : Type 0 where
  pub digits : all_below 16 (map digit_of text) ≡ true
  pub some : 1 ≤ length text
  pub few : length text ≤ 4
  pub value : v ≡ value_of 16 (map digit_of text)

-- groups with a colon between each two
abbrev pub Groups : List ℕ → List ℕ → Type 0
Groups t vs = Joined Group 58 t vs

-- what stands on one side of a `::`
pub data Side : List ℕ → List ℕ → Type 0 where
  empty : Side [] []
  groups : {t : List ℕ} {vs : List ℕ} → Groups t vs → Side t vs

-- what stands between a `::` and a dotted quad
pub data Between : List ℕ → List ℕ → Type 0 where
  nothing : Between [] []
  led : {t : List ℕ} {vs : List ℕ} → Groups t vs → Between (t ++ 58 ∷ []) vs

pub data IPv6 : List ℕ → List ℕ → Type 0 where
  -- form 1, "x:x:x:x:x:x:x:x"
  full : {t : List ℕ} {vs : List ℕ} → Groups t vs → length vs ≡ 8 → IPv6 t vs
  -- form 2, "`::` indicates one or more groups of 16 bits of zeros"
  short : {t u : List ℕ} {vs ws : List ℕ} → Side t vs → Side u ws → length vs + length ws ≤ 7
      → IPv6 (t ++ 58 ∷ 58 ∷ u) (vs ++ replicate (8 - (length vs + length ws)) 0 ++ ws)
  -- form 3, "x:x:x:x:x:x:d.d.d.d": "the six high-order 16-bit pieces", then "the four low-order 8-bit pieces"
  mixed : {t q : List ℕ} {vs os : List ℕ} → Groups t vs → length vs ≡ 6 → IPv4 q os → IPv6 (t ++ 58 ∷ q) (vs ++ paired os)
  -- the same "in compressed form": `::` among the six
  mixed_short : {t u q : List ℕ} {vs ws os : List ℕ} → Side t vs → Between u ws → length vs + length ws ≤ 5 → IPv4 q os
      → IPv6 (t ++ 58 ∷ 58 ∷ (u ++ q)) (vs ++ replicate (6 - (length vs + length ws)) 0 ++ ws ++ paired os)
