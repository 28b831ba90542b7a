-- C-20: "a pair of parentheses exactly where without that pair the text has no reading or another tree, round the smallest row that serves". A reading is
-- one by the rules, limits set aside.
use Rattle.std.specs.Prelude.{◌≡◌, List, [], true, ℕ}
use Rattle.rows.specs.Kinds as kinds
use Rattle.grammar.specs.Grammar.{Parts}
use Rattle.answers.specs.Demands.{ByRules, rows_of}
use Rattle.canon.specs.Trees.{tree_of}
use Rattle.canon.specs.Text.{spaced}
use Rattle.forests.specs.Planted.{Marked, forest, marked, unmarked}
use Rattle.forests.specs.Met.{Least, Met}
use Rattle.roundtrip.specs.ReadsBack.{print_of}
use Rattle.exact.specs.Written.{Less, OnExprs, print_pairs, written}

-- the text with these pairs; the pairs of a print of s
abbrev pub text_with : Marked → List ℕ
text_with m = spaced (written [] [] m)

abbrev pub pairs_of : List ℕ → Parts → Marked
pairs_of s p = print_pairs [] (forest s true p)

-- The text w is read with the trees of s, whose reading is p.
pub record ReadAs (s : List ℕ) (p : Parts) (w : List ℕ) : Type 0 where
  pub parts : Parts
  pub by_rules : ByRules true true w parts
  pub same_trees : tree_of w (rows_of true w parts) ≡ tree_of s (rows_of true s p)

-- A choice of pairs on the trees of s, round exprs of the table, reads back as these trees if no row stands bare where it needs a pair; and in no reading
-- of any text does one. The print's choice is such; if one of its pairs goes it is no more, whatever pairs then stand below; no other choice is like that,
-- and each has a pair where the print has one, down to rows that are in a pair there and bare in the print.
pub record Exact (s : List ℕ) (p : Parts) : Type 0 where
  pub read_if_met : (m : Marked) → unmarked m ≡ forest s true p → OnExprs kinds.NONE true m → Met [] m → ReadAs s p (text_with m)
  pub met_if_read : (m : Marked) (w : List ℕ) {q : Parts} → ByRules true true w q → marked w true q ≡ m → Met [] m
  pub print_text : text_with (pairs_of s p) ≡ print_of s p
  pub print_placed : OnExprs kinds.NONE true (pairs_of s p)
  pub print_met : Met [] (pairs_of s p)
  pub none_idle : (m : Marked) → Less (pairs_of s p) m → Met [] m → ⊥
  pub only_print : (m : Marked) → unmarked m ≡ forest s true p → Met [] m → ((m' : Marked) → Less m m' → Met [] m' → ⊥) → m ≡ pairs_of s p
  pub least : (m : Marked) → Met [] m → Least [] m
