-- The rows of trees (grammar/specs/Subtrees.antt) as a forest, and a forest's rows in a table.
use mathlib.Core.Path.{◌≡◌, refl, sym, ap, ◌∙◌}
use mathlib.Core.List.{List, [], ◌∷◌, ◌++◌, append_assoc, head-eq_of_cons-eq, tail-eq_of_cons-eq}
use Prim.Native.Nat.{ℕ, zero, suc, ◌+◌}
use native.Mathlib.Omega.{arith}
use lib.ListN.{length, length-append}
use Rattle.grammar.specs.Rows.{Row}
use Rattle.grammar.specs.Subtrees as subtrees
use Rattle.grammar.specs.Subtrees.{total, Trees, more}
use Rattle.constants.specs.Trees.{Forest, none, tree, rows_of, trees, count, Grown, grown_none, grown_tree, row_at, rows_from}
use Rattle.constants.specs.Steps.{backward, backs_from}
use Rattle.constants.proofs.Compiled.{backs, backward_append}

unfoldable pub roots : Forest → List Row
roots none = []
roots (tree r kids ts) = r ∷ roots ts

-- one tree more, behind
unfoldable also : Forest → Row → Forest → Forest
also none r kids = tree r kids none
also (tree x xs ts) r kids = tree x xs (also ts r kids)

also_rows : (f : Forest) (r : Row) (kids : Forest) → rows_of (also f r kids) ≡ rows_of f ++ (rows_of kids ++ (r ∷ []))
unfolding also rows_of
also_rows none r kids = refl
also_rows (tree x xs ts) r kids =
    ap (λ (z : List Row). rows_of xs ++ (x ∷ z)) (also_rows ts r kids) ∙ sym (append_assoc (rows_of xs) (x ∷ rows_of ts) (rows_of kids ++ (r ∷ [])))

also_roots : (f : Forest) (r : Row) (kids : Forest) → roots (also f r kids) ≡ roots f ++ (r ∷ [])
unfolding also roots
also_roots none r kids = refl
also_roots (tree x xs ts) r kids = ap (λ (z : List Row). x ∷ z) (also_roots ts r kids)

also_grown : {f : Forest} (r : Row) (kids : Forest) → Grown f → r.children ≡ trees kids → r.size ≡ suc (count kids) → Grown kids → Grown (also f r kids)
unfolding also
also_grown r kids grown_none c z k = grown_tree c z k grown_none
also_grown r kids (grown_tree a b g h) c z k = grown_tree a b g (also_grown r kids h c z k)

pub trees_roots : (f : Forest) → trees f ≡ length (roots f)
unfolding trees roots
trees_roots none = refl
trees_roots (tree r kids ts) = ap suc (trees_roots ts)

pub count_roots : {f : Forest} → Grown f → count f ≡ total (roots f)
unfolding count roots
count_roots grown_none = refl
count_roots (grown_tree {r = r} c z g h) = let k = count_roots h in omega (arith, k, z)

pub count_rows : (f : Forest) → length (rows_of f) ≡ count f
unfolding count rows_of
count_rows none = refl
count_rows (tree r kids ts) =
    let a = count_rows kids in
    let b = count_rows ts in
    length-append (rows_of kids) (r ∷ rows_of ts) ∙ omega (arith, a, b)

pub record Planted (rs tops : List Row) : Type 0 where
  pub forest : Forest
  pub rows : rows_of forest ≡ rs
  pub top_rows : roots forest ≡ tops
  pub grown : Grown forest

pub plant : {rs tops : List Row} → Trees rs tops → Planted rs tops
unfolding rows_of roots
plant subtrees.none = record { forest = none; rows = refl; top_rows = refl; grown = grown_none }
plant (more {rs = rs} {roots = ts} {below = below} {kids = kids} r t u c z a b) =
    let f = plant t in
    let g = plant u in
    record {
      forest = also f.forest r g.forest;
      rows = also_rows f.forest r g.forest ∙ (λ q. f.rows q ++ (g.rows q ++ (r ∷ []))) ∙ sym a;
      top_rows = also_roots f.forest r g.forest ∙ ap (λ (z : List Row). z ++ (r ∷ [])) f.top_rows ∙ sym b;
      grown = also_grown r g.forest f.grown (c ∙ ap length (sym g.top_rows) ∙ sym (trees_roots g.forest)) (z ∙ ap suc (ap total (sym g.top_rows) ∙ sym (count_roots g.grown))) g.grown;
    }

-- ---- rows in a table

pub backs_rows : (f : Forest) → backs f ≡ backward (rows_of f)
unfolding backs backward rows_of
backs_rows none = refl
backs_rows (tree r kids ts) =
    (λ q. backs_rows ts q ++ (r ∷ backs_rows kids q))
    ∙ sym (append_assoc (backward (rows_of ts)) (r ∷ []) (backward (rows_of kids)))
    ∙ sym (backward_append (rows_of kids) (r ∷ rows_of ts))

rows_last : (t : List ℕ) (i n : ℕ) → rows_from t i (suc n) ≡ rows_from t i n ++ (row_at t (i + n) ∷ [])
unfolding rows_from
rows_last t i zero = ap (λ (j : ℕ). row_at t j ∷ []) {x = i} {y = i + 0} (omega arith)
rows_last t i (suc n) =
    ap (λ (z : List Row). row_at t i ∷ z) (rows_last t (suc i) n) ∙ ap (λ (j : ℕ). row_at t i ∷ (rows_from t (suc i) n ++ (row_at t j ∷ []))) {x = suc i + n} {y = i + suc n} (omega arith)

pub backs_from_lem : (t : List ℕ) (i n : ℕ) → backs_from t i n ≡ backward (rows_from t i n)
unfolding backs_from backward rows_from
backs_from_lem t i zero = refl
backs_from_lem t i (suc n) =
    ap (λ (z : List Row). row_at t (i + n) ∷ z) (backs_from_lem t i n) ∙ sym (backward_append (rows_from t i n) (row_at t (i + n) ∷ [])) ∙ ap (λ (z : List Row). backward z) (sym (rows_last t i n))

no_rows : (r : Row) (xs : List Row) → [] ≡ r ∷ xs → ⊥
no_rows r xs e = let k : 0 ≡ suc (length xs) = ap length e in omega (arith, k)

-- some rows among those of a table
rows_begin : (t : List ℕ) (i n : ℕ) (zs ys : List Row) → rows_from t i n ≡ zs ++ ys → rows_from t i (length zs) ≡ zs
unfolding rows_from
rows_begin t i n [] ys e = refl
rows_begin t i zero (z ∷ zs) ys e = absurd (no_rows z (zs ++ ys) e)
rows_begin t i (suc n) (z ∷ zs) ys e = λ q. head-eq_of_cons-eq e q ∷ rows_begin t (suc i) n zs ys (tail-eq_of_cons-eq e) q

pub rows_at : (t : List ℕ) (i n : ℕ) (xs zs ys : List Row) → rows_from t i n ≡ xs ++ (zs ++ ys) → rows_from t (i + length xs) (length zs) ≡ zs
unfolding rows_from
rows_at t i n [] zs ys e = ap (λ (j : ℕ). rows_from t j (length zs)) {x = i + 0} {y = i} (omega arith) ∙ rows_begin t i n zs ys e
rows_at t i zero (x ∷ xs) zs ys e = absurd (no_rows x (xs ++ (zs ++ ys)) e)
rows_at t i (suc n) (x ∷ xs) zs ys e =
    ap (λ (j : ℕ). rows_from t j (length zs)) {x = i + suc (length xs)} {y = suc i + length xs} (omega arith) ∙ rows_at t (suc i) n xs zs ys (tail-eq_of_cons-eq e)

pub row_at_lem : (t : List ℕ) (i n : ℕ) (xs : List Row) (r : Row) (ys : List Row) → rows_from t i n ≡ xs ++ (r ∷ ys) → row_at t (i + length xs) ≡ r
unfolding rows_from
row_at_lem t i n xs r ys e = head-eq_of_cons-eq (rows_at t i n xs (r ∷ []) ys e)

pub rows_count : (t : List ℕ) (i n : ℕ) → length (rows_from t i n) ≡ n
unfolding rows_from
rows_count t i zero = refl
rows_count t i (suc n) = ap suc (rows_count t (suc i) n)

pub same_front : (xs ys us vs : List Row) → xs ++ us ≡ ys ++ vs → length xs ≡ length ys → xs ≡ ys
same_front [] [] us vs e h = refl
same_front [] (y ∷ ys) us vs e h = absurd (omega (arith, h))
same_front (x ∷ xs) [] us vs e h = absurd (omega (arith, h))
same_front (x ∷ xs) (y ∷ ys) us vs e h = λ q. head-eq_of_cons-eq e q ∷ same_front xs ys us vs (tail-eq_of_cons-eq e) (omega (arith, h)) q
