-- C-20: what is printed of an accepted source is read again, and says the same.
use Rattle.std.specs.Prelude.{Ok, ◌≡◌, List, Bool, true, ℕ, ◌≤◌, length}
use Rattle.tokens.specs.Tokens.{whole_of}
use Rattle.grammar.specs.Grammar.{Ask, plain, has_value, opens_bracket, closes_bracket, is_prefix, is_head, is_else_if, Token, over, Parts}
use Rattle.grammar.specs.Limits.{Counts, zeros}
use Rattle.grammar.specs.Readings.{ReadingBy}
use Rattle.grammar.specs.Language.{roto, start}
use Rattle.answers.specs.Source.{source}
use Rattle.answers.specs.Demands.{Reading, ByRules, rows_of}
use Rattle.canon.specs.Trees.{tree_of}
use Rattle.canon.specs.Text.{printed}
use Rattle.printing.specs.Bare.{bare_rows}

-- The print of a source s with the reading p (tests are declarations in it).
abbrev pub print_of : List ℕ → Parts → List ℕ
print_of s p = printed s (rows_of true s p)

-- Limits set aside: a literal has a value.
abbrev pub valued : Ask → Counts → Token → Bool
valued plain d x = true
valued has_value d x = x.holds
valued opens_bracket d x = true
valued closes_bracket d x = true
valued is_prefix d x = true
valued is_head d x = true
valued is_else_if d x = true

-- A source has the reading p, its literals hold, whatever limit it passes.
pub record Valued (s : List ℕ) (p : Parts) : Type 0 where
  pub stop : ℕ
  pub reads : ReadingBy (source s) (roto true) valued zeros (start true) 0 stop p
  pub whole : (source s).look stop ≡ over

-- The print has a reading by the rules and its literals hold, limits set aside; its rows are those of the source but for their
-- bytes. It is "the same tree, with spans set aside but the text of each name, float and string compared": in `tree_of` stand
-- the texts of all rows that are copied. "Printing that print again changes nothing." Where the print is accepted, no limit
-- being passed, that is its reading. If it isn't too long, it passes 1, 2 and 3.
pub record ReadsBack (s : List ℕ) (p : Parts) : Type 0 where
  pub parts : Parts
  pub by_rules : ByRules true true (print_of s p) parts
  pub literals_hold : Valued (print_of s p) parts
  pub same_rows : bare_rows (rows_of true (print_of s p) parts) ≡ bare_rows (rows_of true s p)
  pub same_trees : tree_of (print_of s p) (rows_of true (print_of s p) parts) ≡ tree_of s (rows_of true s p)
  pub again : print_of (print_of s p) parts ≡ print_of s p
  pub accepted : {q : Parts} → Reading true true (print_of s p) q → q ≡ parts
  pub fine : whole_of s ≡ (Ok tt) → length (print_of s p) ≤ 65535 → whole_of (print_of s p) ≡ (Ok tt)
