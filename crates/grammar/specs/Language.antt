-- Document 01's language: `roto true` has tests, `roto false` none (C-22). One entry reads a tree, the other one expression.
use Rattle.std.specs.Prelude.{List, [], ◌∷◌, Bool, true, false, ℕ}
use Rattle.grammar.specs.Words.{name, underscore, ':', assign_signs, text_then_hole}
use Rattle.grammar.specs.Grammar.{same, Symbol, phrase, Language}
use Rattle.grammar.specs.Kinds.{TREE, EXPR, records}
use Rattle.grammar.specs.Table.{rules}
use Rattle.grammar.specs.Hints.{hints}
use Rattle.grammar.specs.Rows.{is_path}

unfoldable pub roto : Bool → Language
unfolding rules hints
roto tests = record {
  rules = rules tests;
  is_path = is_path;
  assigns = assign_signs;
  hole = text_then_hole;
  hints = hints;
  pairs = record { this = name; next = ':' } ∷ record { this = underscore; next = ':' } ∷ [];
}

abbrev pub goal : Bool → ℕ
goal true = TREE
goal false = EXPR records

abbrev pub start : Bool → List Symbol
start tree = phrase same (goal tree) ∷ []
