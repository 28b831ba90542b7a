-- C-14: the rows of every accepted source have their subtrees' sizes.
use mathlib.Core.Path.{◌≡◌, refl, sym, ap, ◌∙◌}
use mathlib.Core.List.{List, [], ◌∷◌, ◌++◌}
use mathlib.Core.Bool.{Bool, true, false}
use Prim.Native.Nat.{ℕ}
use lib.ListN.{length}
use native.Mathlib.Omega.{arith}
use Rattle.chars.specs.declared.Answer.{Answer}
use Rattle.rows.specs.Kinds as kinds
use Rattle.grammar.specs.Grammar.{Parts}
use Rattle.grammar.specs.Rows.{Row, blank, write, tree_row, rows}
use Rattle.grammar.proofs.Subtrees.{each_row, rows_trees, tree_last, tree_count}
use Rattle.answers.specs.Sizes.{RowSizes}
use Rattle.answers.proofs.Determined.{accepted_reads}

-- the tree's row
whole : (tree : Bool) (len : ℕ) (p : Parts) → tree ≡ true → (front : List Row) × (r : Row) × (rows tree len p ≡ front ++ (r ∷ [])) × (r.kind ≡ kinds.TREE) × (r.size ≡ length (rows tree len p))
whole true len p e = let a = write p blank in (a.rows, tree_row len a, tree_last len p, refl, tree_count len p)
whole false len p e = let z : ◌≡◌ {A = ℕ} 0 1 = cc in absurd (omega arith)

-- every accepted source: both entry points, with tests and without
pub row_sizes : (tests tree : Bool) (s : List ℕ) (size : ℕ) → RowSizes tests tree s size
row_sizes tests tree s size = record {
  accepted_sized = λ {a} {t} x e.
      let k = accepted_reads tests tree s size x e in
      let n : a.count ≡ length (rows tree (length s) k.parts) = ap (λ (q : Answer). q.count) k.answer in
      record {
        rows = rows tree (length s) k.parts;
        table = k.table;
        count = n;
        subtrees = each_row (rows_trees tree (length s) k.parts).1;
        whole = λ w. let h = whole tree (length s) k.parts w in (h.0, h.1, h.2, h.3, h.4 ∙ sym n);
      };
}
