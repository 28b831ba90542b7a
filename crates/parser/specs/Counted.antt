-- The limits behind a token: document 01's counts, from what is left of each.
use Rattle.std.specs.Prelude.{cond, ◌≡◌, ℕ, ◌-◌, ltb}
use Rattle.grammar.specs.Limits.{limit, Counts}
use Rattle.parser.specs.declared.Limits.{Limits}

-- so many stand open where n are left
abbrev pub used : ℕ → ℕ
used n = limit - n

-- one less is left
unfoldable pub lessened : ℕ → ℕ
lessened n = cond (ltb limit n) (limit - 1) (n - 1)

unfoldable pub counts : Limits → Counts
counts l = record { brackets = used l.brackets; prefixes = used l.signs; else_ifs = used l.chain; heads = used l.heads }

abbrev pub opened : Limits → Limits
opened l = record { brackets = lessened l.brackets; signs = limit; chain = l.chain; heads = l.heads }

abbrev pub signed : Limits → Limits
signed l = record { brackets = l.brackets; signs = lessened l.signs; chain = l.chain; heads = l.heads }

abbrev pub plain : Limits → Limits
plain l = record { brackets = l.brackets; signs = limit; chain = l.chain; heads = l.heads }

abbrev pub headed : Limits → Limits
headed l = record { brackets = l.brackets; signs = limit; chain = l.chain; heads = lessened l.heads }

abbrev pub chained : Limits → Limits
chained l = record { brackets = l.brackets; signs = limit; chain = lessened l.chain; heads = l.heads }

abbrev pub unchained : Limits → Limits
unchained l = record { brackets = l.brackets; signs = limit; chain = limit; heads = l.heads }

-- The same counts but for the row of prefixes, which the next token ends.
pub record Alike (d : Counts) (l : Limits) : Type 0 where
  pub brackets : d.brackets ≡ used l.brackets
  pub chain : d.else_ifs ≡ used l.chain
  pub heads : d.heads ≡ used l.heads
