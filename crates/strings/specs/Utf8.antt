-- UTF-8 of scalar values.
use Rattle.std.specs.Prelude.{cond, ℕ, ◌+◌, ◌/◌, ◌%◌, List, [], ◌∷◌, ◌++◌, ltb}

unfoldable pub utf8 : ℕ → List ℕ
utf8 c =
    cond (ltb c 128) (c ∷ [])
    (cond (ltb c 2048) ((192 + c / 64) ∷ (128 + c % 64) ∷ [])
    (cond (ltb c 65536) ((224 + c / 4096) ∷ (128 + c / 64 % 64) ∷ (128 + c % 64) ∷ [])
    ((240 + c / 262144) ∷ (128 + c / 4096 % 64) ∷ (128 + c / 64 % 64) ∷ (128 + c % 64) ∷ [])))

-- how many bytes that is
unfoldable pub width_of : ℕ → ℕ
width_of c = cond (ltb c 128) 1 (cond (ltb c 2048) 2 (cond (ltb c 65536) 3 4))

unfoldable pub encode : List ℕ → List ℕ
encode [] = []
encode (c ∷ cs) = utf8 c ++ encode cs
