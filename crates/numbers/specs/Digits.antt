-- The numbers that digits write, over any base.
use Rattle.std.specs.Prelude.{Some, None, ℕ, ◌+◌, ◌-◌, ◌*◌, List, [], ◌∷◌, map, Bool, true, ◌&&◌, cond, length, ltb, leb, eqb}
use Rattle.chars.specs.Chars.{is_digit}
use Rattle.numbers.specs.declared.Base.{Base}
use Rattle.numbers.specs.Results.{Number}
use Rattle.numbers.specs.Results.{Sum}

abbrev pub radix_of : Base → ℕ
radix_of Base.Ten = 10
radix_of Base.Sixteen = 16

-- what a hex digit says, and 16 for any other byte
unfoldable pub digit_of : ℕ → ℕ
digit_of b = cond (is_digit b) (b - 48) (cond (leb 65 b && leb b 70) (b - 55) (cond (leb 97 b && leb b 102) (b - 87) 16))

-- the number that digits over the base r write behind the number v
unfoldable pub value_from : ℕ → ℕ → List ℕ → ℕ
value_from r v [] = v
value_from r v (d ∷ ds) = value_from r (v * r + d) ds

abbrev pub value_of : ℕ → List ℕ → ℕ
value_of r ds = value_from r 0 ds

unfoldable pub all_below : ℕ → List ℕ → Bool
all_below r [] = true
all_below r (d ∷ ds) = ltb d r && all_below r ds

-- "underscores dropped", where they may stand
unfoldable pub plain : Bool → List ℕ → List ℕ
plain gaps [] = []
plain gaps (b ∷ l) = let rest : List ℕ = plain gaps l in cond (gaps && eqb b 95) rest (b ∷ rest)

-- n digits that write v, and then the digits ds: all below the base, one or more, at most the limit
unfoldable pub number_from : ℕ → ℕ → ℕ → ℕ → List ℕ → Number
number_from r limit v n ds =
    cond (all_below r ds && (leb (value_from r v ds) limit && ltb 0 (n + length ds))) (Some (value_from r v ds, n + length ds)) None

-- the number that a text of digits writes
unfoldable pub number_of : Base → ℕ → List ℕ → Number
number_of base limit text = number_from (radix_of base) limit 0 0 (map digit_of text)

-- one digit more
unfoldable pub add_of : Base → ℕ → ℕ → ℕ → Sum
add_of base limit v d = cond (ltb d (radix_of base) && leb (v * radix_of base + d) limit) (Some (v * radix_of base + d)) None
