-- C-20, of what the printer promises (`Prints`): "Reading the print gives the same tree, with spans set aside but the text of each name, float and string
-- compared, for every accepted source whose print passes no limit of document 01. Printing that print again changes nothing."
use Rattle.std.specs.Prelude.{◌≡◌, List, true, ◌≢◌, ℕ, ◌≤◌, length, take, replicate}
use Rattle.chars.specs.declared.Answer.{Answer}
use Rattle.grammar.specs.Grammar.{Parts}
use Rattle.answers.specs.Demands.{Reading, rows_of}
use Rattle.canon.specs.Trees.{tree_of}
use Rattle.printing.specs.Bare.{bare_rows}
use Rattle.roundtrip.specs.Prints.{Prints}

-- Two sources with the same tree: the same rows but for their bytes, the same texts of all that is copied.
pub record SameTree (s w : List ℕ) : Type 0 where
  pub parts : Parts
  pub parts' : Parts
  pub reads : Reading true true s parts
  pub reads' : Reading true true w parts'
  pub same_rows : bare_rows (rows_of true w parts') ≡ bare_rows (rows_of true s parts)
  pub same_trees : tree_of w (rows_of true w parts') ≡ tree_of s (rows_of true s parts)

-- The text that stands in the lent buffer: its first bytes, as many as the count.
abbrev pub text_in : Answer → List ℕ → List ℕ
text_in x v = take x.count v

pub record OneWay (s : List ℕ) (size size' size'' : ℕ) : Type 0 where
  pub some_answer : (x : Answer) × (n : ℕ) × (t u v : List ℕ) × Prints s size size' size'' x n t u v
  pub no_other : {x y : Answer} {n m : ℕ} {t u v t' u' v' : List ℕ} → Prints s size size' size'' x n t u v → Prints s size size' size'' y m t' u' v' → (x ≡ y) × (n ≡ m) × (t ≡ t') × (u ≡ u') × (v ≡ v')
  pub refused_zeros : {x : Answer} {n : ℕ} {t u v : List ℕ} → Prints s size size' size'' x n t u v → x.number ≢ 0 → (n ≡ 0) × (t ≡ replicate size 0) × (u ≡ replicate size' 0) × (v ≡ replicate size'' 0)
  pub reads_back : {x : Answer} {n : ℕ} {t u v : List ℕ} → Prints s size size' size'' x n t u v → x.number ≡ 0 → SameTree s (text_in x v)
  pub again : {x y : Answer} {n m : ℕ} {t u v t' u' v' : List ℕ} → Prints s size size' size'' x n t u v → x.number ≡ 0 → Prints (text_in x v) size size' size'' y m t' u' v' → (y.number ≡ 0) × (y.count ≡ x.count) × (m ≡ n) × (v' ≡ v)
