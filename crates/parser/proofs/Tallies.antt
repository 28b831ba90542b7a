-- What a phrase has so far, kept up with each word and each row.
use mathlib.Core.Path.{◌≡◌, refl, ap, ◌∙◌}
use mathlib.Core.List.{List, [], ◌∷◌, ◌++◌}
use mathlib.Core.Bool.{false}
use mathlib.Core.Option.{none, some}
use Prim.Native.Nat.{ℕ, ◌+◌, suc}
use lib.Dec.{eqb}
use native.Mathlib.Omega.{arith}
use Rattle.rows.specs.declared.Row.{Row}
use Rattle.grammar.specs.Grammar.{Token}
use Rattle.grammar.specs.Table.{literal_row}
use Rattle.grammar.specs.Rows.{Item, own, child, count, children_of, first_row, row_of, sizes}
use Rattle.grammar.specs.Rows as grammar
use Rattle.grammar.proofs.Summary.{Sum, sum, sum_of, sum_own, sum_child, sum_snoc_own, sum_snoc_child, sum_row, row_sum}
use Rattle.parser.specs.Places.{word_of, end_of}
use Rattle.parser.specs.declared.Here.{Here}
use Rattle.parser.specs.declared.Node.{Node}
use Rattle.parser.specs.Going.{token_of, Tally, bare, lone, many, Holds, with_token, with_node, row_over}

-- the row that a phrase leaves, among what it has
abbrev pub Leaves : Node → List Item → Type 0
Leaves m xs = Holds (lone m.kind m.start m.end) (children_of xs)

pub holds_token : (s : List ℕ) (h : Here) (y : Tally) (xs : List Item) → Holds y xs → Holds (with_token y h) (xs ++ (own (token_of s h) ∷ []))
holds_token s h bare xs e = ap (λ (z : List Item). sum_of (z ++ (own (token_of s h) ∷ []))) e
holds_token s h (lone k a e) xs (r, q, pk, ps, pe) = ap (λ (z : List Item). sum_of (z ++ (own (token_of s h) ∷ []))) q ∙ ap (λ (n : ℕ). sum n (end_of h) 1 (some (word_of h))) ps
holds_token s h (many a e c w) xs q = sum_snoc_own xs (own_of s h) ∙ ap (λ (z : Sum). sum_own z (own_of s h)) q
  where
    own_of : List ℕ → Here → Token
    own_of s h = token_of s h

pub holds_node : (m : Node) (y : Tally) (xs zs : List Item) → Holds y xs → Leaves m zs → Holds (with_node y m) (xs ++ children_of zs)
holds_node m bare xs zs e (r, q, pk, ps, pe) = (r, ap (λ (z : List Item). z ++ children_of zs) e ∙ q, pk, ps, pe)
holds_node m (lone k a e) xs zs (r', q', pk', ps', pe') (r, q, pk, ps, pe) =
    ap (λ (z : List Item). sum_of (z ++ children_of zs)) q' ∙ ap (λ (z : List Item). sum_of (child r' ∷ z)) q ∙ ap (λ (n : ℕ). sum n r.end 2 none) ps' ∙ ap (λ (n : ℕ). sum a n 2 none) pe
holds_node m (many a e c w) xs zs h (r, q, pk, ps, pe) =
    ap (λ (z : List Item). sum_of (xs ++ z)) q ∙ sum_snoc_child xs r ∙ ap (λ (z : Sum). sum_child z r) h ∙ ap (λ (n : ℕ). sum a n (c + 1) w) pe

-- the row over it
abbrev row_for : ℕ → Tally → ℕ → ℕ → grammar.Row
row_for k y v z = let r : Row = row_over k y v in record { kind = r.kind; start = r.start; end = r.end; children = r.children; value = r.value; detail = r.detail; size = z }

pub holds_row : (k : ℕ) (y : Tally) (v : ℕ) (xs : List Item) → eqb k literal_row ≡ false → Holds y xs → row_of k xs v ≡ row_for k y v (suc (sizes xs))
holds_row k bare v xs n e = row_sum k xs v n ∙ ap (λ (q : Sum). sum_row k q v (suc (sizes xs))) (ap sum_of e)
holds_row k (lone j a e) v xs n (r, q, pk, ps, pe) = row_sum k xs v n ∙ ap (λ (y : Sum). sum_row k y v (suc (sizes xs))) (ap sum_of q) ∙ ap (λ (x : ℕ). sum_row k (sum x r.end 1 none) v (suc (sizes xs))) ps ∙ ap (λ (x : ℕ). sum_row k (sum a x 1 none) v (suc (sizes xs))) pe
holds_row k (many a e c w) v xs n q = row_sum k xs v n ∙ ap (λ (y : Sum). sum_row k y v (suc (sizes xs))) q

-- where there is no row, and behind a word that stands round a row
pub no_children : (xs : List Item) → count xs ≡ 0 → children_of xs ≡ []
no_children [] e = refl
no_children (own x ∷ xs) e = no_children xs e
no_children (child r ∷ xs) e = absurd (omega (arith, e))

pub children_append : (xs ys : List Item) → children_of (xs ++ ys) ≡ children_of xs ++ children_of ys
children_append [] ys = refl
children_append (own x ∷ xs) ys = children_append xs ys
children_append (child r ∷ xs) ys = ap (λ (z : List Item). child r ∷ z) (children_append xs ys)

pub children_twice : (xs : List Item) → children_of (children_of xs) ≡ children_of xs
children_twice [] = refl
children_twice (own x ∷ xs) = children_twice xs
children_twice (child r ∷ xs) = ap (λ (z : List Item). child r ∷ z) (children_twice xs)

-- a phrase's row is the one that it leaves
pub leaves_first : (xs : List Item) (r : grammar.Row) → children_of xs ≡ child r ∷ [] → first_row xs ≡ r
leaves_first [] r e = let z : ◌≡◌ {A = ℕ} 0 1 = cc in absurd (omega arith)
leaves_first (own x ∷ xs) r e = leaves_first xs r e
leaves_first (child q ∷ xs) r e = cc
