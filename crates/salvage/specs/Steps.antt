-- What the steps of the code leave. Not to be believed: only the proofs of the code stand on it.
use Rattle.std.specs.Prelude.{◌≡◌, List, [], ◌∷◌, ◌++◌, false, cond, ◌≢◌, ℕ, ◌*◌, ◌≤◌, ◌<◌, ltb, length}
use Rattle.std.proofs.lemmas.List.Edits.{sets}
use Rattle.chars.specs.declared.Answer.{Answer}
use Rattle.rows.specs.Rows.{zeroed}
use Rattle.tokens.specs.declared.Refusal as lexer
use Rattle.salvage.specs.declared.Salvaged.{Salvaged}
use Rattle.salvage.specs.Salvage.{Range, Salvage}
use Rattle.salvage.specs.Answers.{range_width, room_for, flat_ranges}

-- a range stored at its place, if there is room for it
abbrev pub range_numbers : ℕ → ℕ → lexer.Refusal → List ℕ
range_numbers start end r = start ∷ end ∷ r.number ∷ r.start ∷ r.end ∷ []

abbrev pub noted : List ℕ → ℕ → ℕ → ℕ → lexer.Refusal → List ℕ
noted t n start end r = cond (ltb n (room_for (length t))) (sets t (n * range_width) (range_numbers start end r)) t

-- The ranges rs were dropped from s₀, n of them, which left s; it is read up to `at`. Those that there is room for stand in the table.
pub record Drops (s₀ t₀ s : List ℕ) (at : ℕ) (t : List ℕ) (n : ℕ) : Type 0 where
  pub ranges : List Range
  pub goes : (rs : List Range) (u : List ℕ) → Salvage false s at rs u → Salvage false s₀ 0 (ranges ++ rs) u
  pub count : length ranges ≡ n
  pub stored : n ≤ room_for (length t₀) → t ≡ sets t₀ 0 (flat_ranges ranges)
  pub text : length s ≡ length s₀
  pub table : length t ≡ length t₀
  pub inside : at ≤ length s
  pub few : n ≤ at

-- and nothing is broken behind
pub record Left (s₀ t₀ s t : List ℕ) (n : ℕ) : Type 0 where
  pub ranges : List Range
  pub salvage : Salvage false s₀ 0 ranges s
  pub count : length ranges ≡ n
  pub stored : n ≤ room_for (length t₀) → t ≡ sets t₀ 0 (flat_ranges ranges)
  pub table : length t ≡ length t₀
  pub text : length s ≡ length s₀

abbrev pub answer_of : Salvaged → Answer
answer_of r = record { number = r.number; start = r.start; end = r.end; count = r.count }

-- what is handed on of rows and ranges
abbrev pub Keeps : List ℕ → List ℕ → Answer → ℕ → Answer → ℕ → List ℕ → List ℕ → Type 0
Keeps t v x n y m t' v' =
    (x.number ≡ 0 → n ≤ room_for (length v) → (y ≡ x) × (m ≡ n) × (t' ≡ t) × (v' ≡ zeroed v (n * range_width)))
    × (x.number ≡ 0 → room_for (length v) < n → (y ≡ record { number = 10; start = 0; end = 0; count = n }) × (m ≡ 0) × (t' ≡ zeroed t 0) × (v' ≡ zeroed v 0))
    × (x.number ≢ 0 → (y ≡ x) × (m ≡ 0) × (t' ≡ zeroed t 0) × (v' ≡ zeroed v 0))
