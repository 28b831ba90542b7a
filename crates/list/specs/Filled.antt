-- What stands in the lent list when (c) has answered.
use Rattle.std.specs.Prelude.{cond, ℕ, ◌-◌, List, ◌++◌, eqb, length, replicate}
use Rattle.tokens.specs.declared.Token.{Token}
use Rattle.tokens.specs.Tokens.{list_of, answer_of}

abbrev pub zero_token : Token
zero_token = record { code = 0; start = 0; end = 0 }

-- "Accepted: the answer stands first in the lent table and zeros fill the rest. Refused: zeros throughout."
unfoldable pub filled : List ℕ → ℕ → List Token
filled s n = cond (eqb (answer_of s n).number 0) ((list_of s).tokens ++ replicate (n - length (list_of s).tokens) zero_token) (replicate n zero_token)
