-- The octets and groups that addresses are written with.
use Rattle.std.specs.Prelude.{Some, None, ℕ, ◌+◌, ◌*◌, ◌/◌, ◌%◌, List, [], ◌∷◌, ◌&&◌, cond, length, eqb, ltb, leb}
use Rattle.std.proofs.Math.Option.{Option, none, some}
use Rattle.chars.specs.Chars.{byte_at}
use Rattle.numbers.specs.declared.Base.{Base}
use Rattle.numbers.specs.Results.{Number}
use Rattle.numbers.specs.Digits.{number_of}
use Rattle.addresses.specs.declared.Form.{Form}
use Rattle.addresses.specs.declared.Wide.{Wide}
use Rattle.addresses.specs.Results.{Groups}

abbrev pub separator_of : Form → ℕ
separator_of Form.Dotted = 46
separator_of Form.Hexed = 58

unfoldable pub short_of : Number → ℕ → Number
short_of (Some (v, n)) most = cond (leb n most) (Some (v, n)) None
short_of None most = None

-- "octets of 1 to 3 digits, at most 255, no leading zero but `0`"; "groups of 1 to 4 digits"
unfoldable pub group_of : Form → List ℕ → Number
group_of Form.Dotted text = cond (ltb 1 (length text) && eqb (byte_at text 0) 48) None (short_of (number_of Base.Ten 255 text) 3)
group_of Form.Hexed text = short_of (number_of Base.Sixteen 65535 text) 4

-- a byte before the first part
abbrev pub onto : ℕ → List (List ℕ) → List (List ℕ)
onto b [] = (b ∷ []) ∷ []
onto b (p ∷ ps) = (b ∷ p) ∷ ps

-- the parts of a text between separators
unfoldable pub parts : ℕ → List ℕ → List (List ℕ)
parts sep [] = [] ∷ []
parts sep (b ∷ l) = let rest : List (List ℕ) = parts sep l in cond (eqb b sep) ([] ∷ rest) (onto b rest)

abbrev pub before : Number → Option (List ℕ) → Option (List ℕ)
before (Some (v, n)) (some vs) = some (v ∷ vs)
before (Some (v, n)) none = none
before None rest = none

-- what the parts say, where each of them is an octet or a group
unfoldable pub values_of : Form → List (List ℕ) → Option (List ℕ)
values_of form [] = some []
values_of form (p ∷ ps) = before (group_of form p) (values_of form ps)

-- what stands in the register moves up, by 8 bits or by 16
unfoldable pub push_of : Form → Wide → ℕ → Wide
push_of Form.Dotted w g = record { high = 0; low = w.low % 281474976710656 * 256 + g }
push_of Form.Hexed w g = record { high = w.high % 281474976710656 * 65536 + w.low / 281474976710656; low = w.low % 281474976710656 * 65536 + g }

unfoldable pub push_all : Form → Wide → List ℕ → Wide
push_all form w [] = w
push_all form w (v ∷ vs) = push_all form (push_of form w v) vs

-- values behind n others that write w: at most eight in all
unfoldable pub heard : Form → ℕ → Wide → Option (List ℕ) → Groups
heard form n w (some vs) = cond (leb (n + length vs) 8) (Some (n + length vs, push_all form w vs)) None
heard form n w none = None

-- the groups where there are n of them
unfoldable pub only_of : ℕ → Groups → Groups
only_of n (Some (c, w)) = cond (eqb c n) (Some (c, w)) None
only_of n None = None

-- no group read yet
abbrev pub all_zero : Wide
all_zero = record { high = 0; low = 0 }
