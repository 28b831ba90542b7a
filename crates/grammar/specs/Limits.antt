-- Limits: open brackets `( [ {` at most 32 (9 at the 33rd); at most 32 in a row of prefix `!`, `-`, `return`,
-- `accept`, `reject` (9 at the 33rd); at most 32 `else if` in one chain (9 at that `if`); at most 32 heads open
-- at once, a head being `if`, `while`, `for` or `match` (no guard) up to the `{` of its body, brackets between or
-- not (9 at the 33rd word).
use Rattle.std.specs.Prelude.{Bool, true, ◌&&◌, ℕ, suc, pred, ltb}
use Rattle.grammar.specs.Grammar.{Ask, plain, has_value, opens_bracket, closes_bracket, is_prefix, is_head, is_else_if, Scope, same, body, Token}

abbrev pub limit : ℕ
limit = 32

-- How many stand open, or in a row, at a place.
pub record Counts : Type 0 where
  pub brackets : ℕ
  pub prefixes : ℕ
  pub else_ifs : ℕ
  pub heads : ℕ

abbrev pub zeros : Counts
zeros = record { brackets = 0; prefixes = 0; else_ifs = 0; heads = 0 }

-- The counts behind a token: any token but a prefix ends a row of prefixes; a head that is no `else if` begins a chain.
unfoldable pub after : Ask → Counts → Counts
after plain d = record { brackets = d.brackets; prefixes = 0; else_ifs = d.else_ifs; heads = d.heads }
after has_value d = record { brackets = d.brackets; prefixes = 0; else_ifs = d.else_ifs; heads = d.heads }
after opens_bracket d = record { brackets = suc d.brackets; prefixes = 0; else_ifs = d.else_ifs; heads = d.heads }
after closes_bracket d = record { brackets = pred d.brackets; prefixes = 0; else_ifs = d.else_ifs; heads = d.heads }
after is_prefix d = record { brackets = d.brackets; prefixes = suc d.prefixes; else_ifs = d.else_ifs; heads = d.heads }
after is_head d = record { brackets = d.brackets; prefixes = 0; else_ifs = 0; heads = suc d.heads }
after is_else_if d = record { brackets = d.brackets; prefixes = 0; else_ifs = suc d.else_ifs; heads = suc d.heads }

-- The counts inside a phrase: behind its head, a body has one head less open.
unfoldable pub inside : Scope → Counts → Counts
inside same d = d
inside body d = record { brackets = d.brackets; prefixes = d.prefixes; else_ifs = d.else_ifs; heads = pred d.heads }

-- Whether a token's literal has a value and no limit is passed.
unfoldable pub kept : Ask → Counts → Token → Bool
kept plain d x = true
kept has_value d x = x.holds
kept opens_bracket d x = ltb d.brackets limit
kept closes_bracket d x = true
kept is_prefix d x = ltb d.prefixes limit
kept is_head d x = ltb d.heads limit
kept is_else_if d x = ltb d.heads limit && ltb d.else_ifs limit
