-- The cases of C-23, computed; and complete answers, number by number.
use mathlib.Core.Path.{◌≡◌, refl}
use mathlib.Core.List.{[], ◌∷◌}
use mathlib.Core.Bool.{true, false}
use Prim.Native.Nat.{ℕ}
use native.Mathlib.Omega.{arith}
use lib.ListN.{replicate}
use Rattle.chars.specs.declared.Answer.{Answer}
use Rattle.chars.specs.Texts.{bytes}
use Rattle.answers.proofs.Opened.{lexer, values, reader}
use Rattle.answers.proofs.Computed.{outcome_means}
use Rattle.salvage.specs.Salvage.{line_at, line_from, next_line, blanked}
use Rattle.salvage.specs.Answers.{Salvages, early, many_rows, many_ranges_lem, accepts}
use Rattle.salvage.specs.Compute.{read, salvaged}
use Rattle.salvage.specs.Cases.{gone, Each, cases}
use Rattle.salvage.proofs.Computed.{salvaged_means, computed, stated, each_means}

cases_computed : computed 3000 cases ≡ stated cases
unfolding lexer values reader computed stated cases read salvaged line_at line_from next_line blanked
cases_computed = refl

pub salvage_cases : Each cases
salvage_cases = each_means 3000 cases cases_computed

abbrev answer : ℕ → ℕ → ℕ → ℕ → Answer
answer n a e c = record { number = n; start = a; end = e; count = c }

-- `x`: no declaration is kept; the tree's row, and the range with its refusal
pub none_kept : Salvages false (bytes "x") 9 7 (answer 0 0 1 1) 1 (bytes " ") (43 ∷ 0 ∷ 1 ∷ 0 ∷ 0 ∷ 0 ∷ 1 ∷ 0 ∷ 0 ∷ []) (0 ∷ 1 ∷ 6 ∷ 0 ∷ 1 ∷ 0 ∷ 0 ∷ [])
unfolding lexer values reader read salvaged line_at line_from next_line blanked
none_kept = accepts refl (salvaged_means false 3000 100 (bytes "x") 0 {x = record { ranges = gone 0 1 6 0 1 ∷ []; text = bytes " " }} refl) (outcome_means (bytes " ") 9 3000 false true {o = record { answer = answer 0 0 1 1; table = 43 ∷ 0 ∷ 1 ∷ 0 ∷ 0 ∷ 0 ∷ 1 ∷ 0 ∷ 0 ∷ [] }} refl) refl (omega arith)

-- two ranges, and room for one; room for no row comes first
pub two_ranges : Salvages false (bytes "x\nfn(") 7 5 (answer 10 0 0 2) 0 (bytes "     ") (replicate 7 0) (replicate 5 0)
unfolding lexer values reader read salvaged line_at line_from next_line blanked
two_ranges = many_ranges_lem refl (salvaged_means false 3000 100 (bytes "x\nfn(") 0 {x = record { ranges = gone 0 2 6 0 1 ∷ gone 2 5 6 4 5 ∷ []; text = bytes "     " }} refl) (outcome_means (bytes "     ") 7 3000 false true {o = record { answer = answer 0 0 5 1; table = 43 ∷ 0 ∷ 5 ∷ 0 ∷ 0 ∷ 0 ∷ 1 ∷ [] }} refl) refl (omega arith)

pub no_row : Salvages false (bytes "x\nfn(") 6 5 (answer 10 0 0 1) 0 (bytes "     ") (replicate 6 0) (replicate 5 0)
unfolding lexer values reader read salvaged line_at line_from next_line blanked
no_row = many_rows refl (salvaged_means false 3000 100 (bytes "x\nfn(") 0 {x = record { ranges = gone 0 2 6 0 1 ∷ gone 2 5 6 4 5 ∷ []; text = bytes "     " }} refl) (outcome_means (bytes "     ") 6 3000 false true {o = record { answer = answer 10 0 0 1; table = replicate 6 0 }} refl) refl

-- "1, 2, 3 stop the tool"
pub shebang : Salvages false (bytes "#!\nfn f() {}") 14 10 (answer 3 0 2 0) 0 (bytes "#!\nfn f() {}") (replicate 14 0) (replicate 10 0)
unfolding lexer
shebang = early refl
