-- The dotted-quad rule, as a relation between texts and four octets.
use Rattle.std.specs.Prelude.{ℕ, ◌+◌, ◌*◌, ◌≤◌, ◌<◌, ◌≡◌, List, [], ◌∷◌, ◌++◌, map, true, length}
use Rattle.chars.specs.Chars.{byte_at}
use Rattle.numbers.specs.Digits.{digit_of, value_of, all_below}

-- parts of a text, each with a value, and a separator between each two
pub data Joined (Part : List ℕ → ℕ → Type 0) (separator : ℕ) : List ℕ → List ℕ → Type 0 where
  one : {t : List ℕ} {v : ℕ} → Part t v → Joined Part separator t (v ∷ [])
  more : {t u : List ℕ} {v : ℕ} {vs : List ℕ} → Part t v → Joined Part separator u vs → Joined Part separator (t ++ separator ∷ u) (v ∷ vs)

-- "octets of 1 to 3 digits, at most 255, no leading zero but `0`"
pub record Octet (text : List ℕ) (v : ℕ) : Type 0 where
  pub digits : all_below 10 (map digit_of text) ≡ true
  pub some : 1 ≤ length text
  pub few : length text ≤ 3
  pub most : v ≤ 255
  pub plain : 1 < length text → byte_at text 0 ≡ 48 → ⊥
  pub value : v ≡ value_of 10 (map digit_of text)

-- four octets with a period between each two
pub record IPv4 (text : List ℕ) (vs : List ℕ) : Type 0 where
  pub octets : Joined Octet 46 text vs
  pub four : length vs ≡ 4

-- each two octets are a group of 16 bits
abbrev pub paired : List ℕ → List ℕ
paired [] = []
paired (a ∷ []) = []
paired (a ∷ b ∷ vs) = (a * 256 + b) ∷ paired vs
