-- What the laws of copied bytes are stated with. Only proofs cite this, and nobody needs to believe it.
use Rattle.std.specs.Prelude.{ℕ, ◌+◌, ◌<◌, ◌≤◌, ◌≡◌, List, [], ◌∷◌, Bool, ◌||◌, not, length}
use Rattle.chars.specs.declared.Class.TheVariants.{HexColon, NamePart}
use Rattle.chars.specs.Chars.{byte_at, is_class}
use Rattle.grammar.specs.Grammar.{one_of}

-- A source t has up to q' the bytes that s has from lo up to q: i and i' are one place of it where they are as far from q and from q'.
pub record Copied (s t : List ℕ) (lo q q' : ℕ) : Type 0 where
  pub bytes : (i i' : ℕ) → lo ≤ i → i < q → i + q' ≡ i' + q → byte_at t i' ≡ byte_at s i
  pub in_s : q ≤ length s
  pub in_t : q' ≤ length t

-- what a rule asks for behind another byte, in no class: `.`, `/`, and the second signs `= > & |`
abbrev pub seconds : List ℕ
seconds = 46 ∷ 47 ∷ 61 ∷ 62 ∷ 38 ∷ 124 ∷ []

-- A byte that ends whatever token stands before it: none of these, and in no class that a run is taken of.
unfoldable pub is_stop : ℕ → Bool
is_stop b = not (is_class HexColon b || (is_class NamePart b || one_of b seconds))
