-- "Literal values" of document 01: IPv4 and IPv6 addresses.
use Rattle.std.specs.Prelude.{Some, None, ℕ, suc, ◌+◌, ◌-◌, ◌/◌, ◌%◌, List, [], ◌∷◌, ◌++◌, ◌&&◌, cond, length, take, drop, replicate, eqb, ltb}
use Rattle.std.proofs.Math.Option.{Option, none, some}
use Rattle.chars.specs.Chars.{byte_at}
use Rattle.chars.specs.Runs.{behind_last}
use Rattle.numbers.specs.Digits.{value_of}
use Rattle.addresses.specs.declared.Form.{Form}
use Rattle.addresses.specs.declared.Wide.{Wide}
use Rattle.addresses.specs.Results.{Quad}
use Rattle.addresses.specs.Results.{Address}
use Rattle.addresses.specs.Groups.{parts, values_of, push_of}
use Rattle.addresses.specs.Quads.{paired}

-- as many values as are wanted, or none
unfoldable pub exactly : ℕ → Option (List ℕ) → Option (List ℕ)
exactly n (some vs) = cond (eqb (length vs) n) (some vs) none
exactly n none = none

-- the four octets of a dotted quad
unfoldable pub octets_of : List ℕ → Option (List ℕ)
octets_of text = exactly 4 (values_of Form.Dotted (parts 46 text))

-- "first octet highest"
abbrev pub as_quad : Option (List ℕ) → Quad
as_quad (some vs) = Some (value_of 256 vs)
as_quad none = None

unfoldable pub quad_of : List ℕ → Quad
quad_of text = as_quad (octets_of text)

-- the place of the first `::`, or the end
unfoldable pub gap : List ℕ → ℕ
gap [] = 0
gap (b ∷ l) = let rest : ℕ = suc (gap l) in cond (eqb b 58 && eqb (byte_at l 0) 58) 0 rest

-- the groups on one side of the `::`; there may be none
unfoldable pub side_of : List ℕ → Option (List ℕ)
side_of text = cond (eqb (length text) 0) (some []) (values_of Form.Hexed (parts 58 text))

-- "one `::` for one or more zero groups": fewer than n groups beside it, where n are wanted
unfoldable pub filled : ℕ → Option (List ℕ) → Option (List ℕ) → Option (List ℕ)
filled n (some vs) (some ws) = cond (ltb (length vs + length ws) n) (some (vs ++ replicate (n - (length vs + length ws)) 0 ++ ws)) none
filled n (some vs) none = none
filled n none right = none

-- n groups of a text: "eight groups of 1 to 4 digits, or one `::`"
unfoldable pub groups_in : ℕ → List ℕ → Option (List ℕ)
groups_in n text =
    let at : ℕ = gap text in
    cond (ltb at (length text)) (filled n (side_of (take at text)) (side_of (drop (at + 2) text))) (exactly n (values_of Form.Hexed (parts 58 text)))

-- how far the groups reach before a quad that starts at a place: to the colon between them, but a `::` there is theirs
unfoldable pub front_of : List ℕ → ℕ → ℕ
front_of text at = cond (eqb (byte_at text (at - 2)) 58) at (at - 1)

abbrev pub join_quad : Option (List ℕ) → List ℕ → Option (List ℕ)
join_quad (some vs) os = some (vs ++ paired os)
join_quad none os = none

-- document 02, C-16: "six groups, or fewer with one `::`, and then the quad", where one starts at a place; else eight groups
unfoldable pub groups_with : Option (List ℕ) → List ℕ → ℕ → Option (List ℕ)
groups_with (some os) text at = join_quad (groups_in 6 (take (front_of text at) text)) os
groups_with none text at = groups_in 8 text

-- the eight groups of an address: behind its last colon may stand a quad "by the IPv4 rule"
unfoldable pub groups_of : List ℕ → Option (List ℕ)
groups_of text = let at : ℕ = behind_last 58 text (length text) in groups_with (octets_of (drop at text)) text at

-- "value high half, detail low half"
abbrev pub as_address : Option (List ℕ) → Address
as_address (some vs) = Some (record { high = (value_of 65536 (take 4 vs)); low = (value_of 65536 (drop 4 vs)) })
as_address none = None

unfoldable pub wide_of : List ℕ → Address
wide_of text = as_address (groups_of text)

-- What the functions inside promise to each other of a text with a quad or without: how many groups it has, how far they reach, the
-- quad's first half, and the address from both.
abbrev pub whole_of : Quad → ℕ
whole_of (Some q) = 6
whole_of None = 8

abbrev pub end_of : List ℕ → ℕ → Quad → ℕ
end_of text at (Some q) = front_of text at
end_of text at None = length text

abbrev pub half_of : Quad → ℕ
half_of (Some q) = q / 65536
half_of None = 0

abbrev pub both_of : Wide → Quad → Wide
both_of w (Some q) = push_of Form.Hexed (push_of Form.Hexed w (q / 65536)) (q % 65536)
both_of w None = w
