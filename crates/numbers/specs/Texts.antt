-- Places in a text.
use Rattle.std.specs.Prelude.{cond, ℕ, suc, ◌+◌, List, [], ◌∷◌, drop, eqb}

-- how many bytes stand before the first of one kind
unfoldable pub ahead : ℕ → List ℕ → ℕ
ahead stop [] = 0
ahead stop (b ∷ l) = let rest : ℕ = suc (ahead stop l) in cond (eqb b stop) 0 rest

-- the first place from `at` on that holds a byte, or the end
unfoldable pub until_byte : ℕ → List ℕ → ℕ → ℕ
until_byte stop text at = at + ahead stop (drop at text)
