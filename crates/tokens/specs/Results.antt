-- What the lexer answers: std's Option and Result of what is found or refused.
use Rattle.std.specs.Prelude.{ℕ, Option, Result}
use Rattle.tokens.specs.declared.Cursor.{Cursor}
use Rattle.tokens.specs.declared.Refusal.{Refusal}

-- How far a rule reaches, and the word it has found there; or it doesn't fit.
abbrev pub Fit : Type 0
Fit = Option (ℕ × ℕ)

-- A token's word, where it starts and the next cursor, where it ends; or a refusal.
abbrev pub Step : Type 0
Step = Result (ℕ × ℕ × Cursor) Refusal

-- What is said of a source before it is read.
abbrev pub Whole : Type 0
Whole = Result Unit Refusal
