-- The row of a constant by its number, and that there is its tree.
use Rattle.std.specs.Prelude.{Option, Some, None}
use mathlib.Core.Path.{◌≡◌, refl, sym, ap, ◌∙◌, subst}
use mathlib.Core.List.{List, [], ◌∷◌, ◌++◌, append_assoc, head-eq_of_cons-eq, tail-eq_of_cons-eq}
use mathlib.Core.Bool.{Bool, true, false}
use Prim.Native.Nat.{ℕ, zero, suc, ◌+◌, ◌≤◌}
use native.Mathlib.Omega.{arith}
use lib.Dec.{eqb}
use lib.ListN.{length, length-append}
use borrow.Author.Tests.{eqb-true}
use Rattle.rows.specs.Kinds as kinds
use Rattle.grammar.specs.Rows.{Row}
use Rattle.grammar.specs.Subtrees.{total, EachRow, Subtree}
use Rattle.numbers.proofs.Choices.{first, second, and_left, and_right}
use Rattle.constants.specs.Trees.{Forest, none, tree, rows_of, trees, count, Grown, grown_none, grown_tree, row_at, rows_from}
use Rattle.constants.specs.Answers.{Constant, refusal, is_constant, constants, Numbered}
use Rattle.constants.specs.Steps.{worked_at, found_from, numbered_at, Placed, Table, WroteAt, WroteFor}
use Rattle.constants.proofs.Forests.{trees_roots, count_roots, Planted, plant, rows_count, same_front}

module _ (t : List ℕ) (j n : ℕ) where
  abbrev here : Bool
  here = is_constant (row_at t j).kind (row_at t j).children

  found_now : here ≡ true → found_from t j (suc n) zero ≡ Some j
  unfolding found_from
  found_now h = sym (first _ h refl)

  found_next : here ≡ true → (k : ℕ) → found_from t j (suc n) (suc k) ≡ found_from t (suc j) n k
  unfolding found_from
  found_next h k = sym (first _ h refl)

  found_past : here ≡ false → (k : ℕ) → found_from t j (suc n) k ≡ found_from t (suc j) n k
  unfolding found_from
  found_past h zero = sym (second _ h refl)
  found_past h (suc k) = sym (second _ h refl)

-- one row more
counts : (r : Row) (rs : List Row) → is_constant r.kind r.children ≡ true → constants (r ∷ rs) ≡ suc (constants rs)
unfolding constants
counts r rs h = sym (first _ h refl)

skips : (r : Row) (rs : List Row) → is_constant r.kind r.children ≡ false → constants (r ∷ rs) ≡ constants rs
unfolding constants
skips r rs h = sym (second _ h refl)

no_rows : (xs : List Row) (r : Row) (ys : List Row) → [] ≡ xs ++ (r ∷ ys) → ⊥
no_rows xs r ys e = let k : 0 ≡ length xs + suc (length ys) = ap length e ∙ length-append xs (r ∷ ys) in omega (arith, k)

-- the constant before which there are k others is the one that is found
pub found_at : (t : List ℕ) (j n : ℕ) (xs : List Row) (c : Row) (ys : List Row) (k : ℕ) → rows_from t j n ≡ xs ++ (c ∷ ys) → is_constant c.kind c.children ≡ true → constants xs ≡ k
    → found_from t j n k ≡ Some (j + length xs)
unfolding rows_from constants
found_at t j zero xs c ys k e h m = absurd (no_rows xs c ys e)
found_at t j (suc n) [] c ys k e h m =
    ap (found_from t j (suc n)) (sym m) ∙ found_now t j n (ap (λ (r : Row). is_constant r.kind r.children) (head-eq_of_cons-eq e) ∙ h) ∙ ap (λ (i : ℕ). Some i) {x = j} {y = j + 0} (omega arith)
found_at t j (suc n) (x ∷ xs) c ys k e h m = go (is_constant x.kind x.children) refl (λ i z. found_at t (suc j) n xs c ys i (tail-eq_of_cons-eq e) h z)
  where
    same : is_constant (row_at t j).kind (row_at t j).children ≡ is_constant x.kind x.children
    same = ap (λ (r : Row). is_constant r.kind r.children) (head-eq_of_cons-eq e)

    on : Some (suc j + length xs) ≡ Some (j + suc (length xs))
    on = ap (λ (i : ℕ). Some i) {x = suc j + length xs} {y = j + suc (length xs)} (omega arith)

    go : (b : Bool) → is_constant x.kind x.children ≡ b → ((i : ℕ) → constants xs ≡ i → found_from t (suc j) n i ≡ Some (suc j + length xs)) → found_from t j (suc n) k ≡ Some (j + suc (length xs))
    go true q f = ap (found_from t j (suc n)) (sym m ∙ counts x xs q) ∙ found_next t j n (same ∙ q) (constants xs) ∙ f (constants xs) refl ∙ on
    go false q f = found_past t j n (same ∙ q) k ∙ f k (sym (skips x xs q) ∙ m) ∙ on

-- what is found: a constant with k others before it, or that there are too few
pub data View (t : List ℕ) (j n k : ℕ) : Type 0 where
  at_row : (xs ys : List Row) → rows_from t j n ≡ xs ++ (row_at t (j + length xs) ∷ ys) → is_constant (row_at t (j + length xs)).kind (row_at t (j + length xs)).children ≡ true → constants xs ≡ k
      → found_from t j n k ≡ Some (j + length xs) → View t j n k
  no_row : constants (rows_from t j n) ≤ k → found_from t j n k ≡ None → View t j n k

module _ (t : List ℕ) (j n : ℕ) where
  moved : (xs : List Row) → row_at t (suc j + length xs) ≡ row_at t (j + suc (length xs))
  moved xs = ap (λ (i : ℕ). row_at t i) {x = suc j + length xs} {y = j + suc (length xs)} (omega arith)

  further : {k i : ℕ} → View t (suc j) n i → found_from t j (suc n) k ≡ found_from t (suc j) n i → ((rs : List Row) → constants (row_at t j ∷ rs) + i ≡ k + constants rs) → View t j (suc n) k
  unfolding rows_from
  further {k} {i} (at_row xs ys e h m f) g c =
      at_row (row_at t j ∷ xs) ys
      (ap (λ (z : List Row). row_at t j ∷ z) e ∙ ap (λ (r : Row). row_at t j ∷ (xs ++ (r ∷ ys))) (moved xs))
      (ap (λ (r : Row). is_constant r.kind r.children) (sym (moved xs)) ∙ h)
      (let z = c xs in omega (arith, z, m))
      (g ∙ f ∙ ap (λ (x : ℕ). Some x) {x = suc j + length xs} {y = j + suc (length xs)} (omega arith))
  further {k} {i} (no_row h f) g c = no_row (let z = c (rows_from t (suc j) n) in omega (arith, z, h)) (g ∙ f)

pub view : (t : List ℕ) (j n k : ℕ) → View t j n k
unfolding found_from rows_from constants
view t j zero k = no_row (omega arith) refl
view t j (suc n) k = go (is_constant (row_at t j).kind (row_at t j).children) refl k (λ i. view t (suc j) n i)
  where
    go : (b : Bool) → is_constant (row_at t j).kind (row_at t j).children ≡ b → (k : ℕ) → ((i : ℕ) → View t (suc j) n i) → View t j (suc n) k
    go true q zero f =
        at_row [] (rows_from t (suc j) n) (ap (λ (i : ℕ). row_at t i ∷ rows_from t (suc j) n) {x = j} {y = j + 0} (omega arith))
        (ap (λ (i : ℕ). is_constant (row_at t i).kind (row_at t i).children) {x = j + 0} {y = j} (omega arith) ∙ q) refl
        (found_now t j n q ∙ ap (λ (i : ℕ). Some i) {x = j} {y = j + 0} (omega arith))
    go true q (suc k) f = further t j n (f k) (found_next t j n q k) (λ rs. let z = counts (row_at t j) rs q in omega (arith, z))
    go false q k f = further t j n (f k) (found_past t j n q k) (λ rs. let z = skips (row_at t j) rs q in omega (arith, z))

-- ---- the tree of a constant

pub data Three : Forest → Type 0 where
  three : (a b c : Row) (ka kb kc : Forest) → Three (tree a ka (tree b kb (tree c kc none)))

three_of : (f : Forest) → trees f ≡ 3 → Three f
unfolding trees
three_of none e = absurd (omega (arith, e))
three_of (tree a ka none) e = absurd (omega (arith, e))
three_of (tree a ka (tree b kb none)) e = absurd (omega (arith, e))
three_of (tree a ka (tree b kb (tree c kc none))) e = three a b c ka kb kc
three_of (tree a ka (tree b kb (tree c kc (tree d kd ts)))) e = absurd (omega (arith, e))

pub record Declared (rs : List Row) (k : ℕ) : Type 0 where
  pub type : Row
  pub expr : Row
  pub kids : Forest
  pub numbered : Numbered rs k type expr kids

module _ {rs : List Row} (each : EachRow rs) (xs ys : List Row) (c : Row) (e : rs ≡ xs ++ (c ∷ ys)) (h : is_constant c.kind c.children ≡ true) where
  kind_is : c.kind ≡ kinds.CONST
  unfolding is_constant
  kind_is = eqb-true c.kind 40 (and_left (eqb c.kind 40) (eqb c.children 3) h)

  children_are : c.children ≡ 3
  unfolding is_constant
  children_are = eqb-true c.children 3 (and_right (eqb c.kind 40) (eqb c.children 3) h)

  abbrev sub : Subtree rs (length xs) c
  sub = each xs c ys e

  abbrev planted : Planted sub.below sub.kids
  planted = plant sub.trees

  its_trees : c.children ≡ trees planted.forest
  its_trees = sub.children ∙ ap length (sym planted.top_rows) ∙ sym (trees_roots planted.forest)

  its_size : c.size ≡ suc (count planted.forest)
  its_size = sub.size ∙ ap suc (ap total (sym planted.top_rows) ∙ sym (count_roots planted.grown))

  rows_are : rs ≡ sub.before ++ (rows_of planted.forest ++ (c ∷ sub.after))
  rows_are = sub.rows ∙ ap (λ (z : List Row). sub.before ++ (z ++ (c ∷ sub.after))) (sym planted.rows)

  front_is : sub.before ++ rows_of planted.forest ≡ xs
  front_is =
      same_front (sub.before ++ rows_of planted.forest) xs (c ∷ sub.after) (c ∷ ys)
      (append_assoc sub.before (rows_of planted.forest) (c ∷ sub.after) ∙ sym rows_are ∙ e)
      (length-append sub.before (rows_of planted.forest) ∙ ap (λ (z : List Row). length sub.before + length z) planted.rows ∙ sub.place)

  pub declared : {k : ℕ} → constants xs ≡ k → Declared rs k
  declared {k} m = go planted.forest (three_of planted.forest (sym its_trees ∙ children_are)) rows_are (grown_tree its_trees its_size planted.grown grown_none) (ap constants front_is ∙ m)
    where
      go : (f : Forest) → Three f → rs ≡ sub.before ++ (rows_of f ++ (c ∷ sub.after)) → Grown (tree c f none) → constants (sub.before ++ rows_of f) ≡ k → Declared rs k
      go _ (three a y x ka ky kx) p g n = record { type = y; expr = x; kids = kx; numbered = record { front = sub.before; name = a; in_name = ka; in_type = ky; const = c; behind = sub.after; rows = p; kind = kind_is; grown = g; number = n } }

-- ---- what is found, for the code

pub at_same : {i j : ℕ} → Some i ≡ Some j → i ≡ j
at_same e = cc

never_at : {i : ℕ} → None ≡ Some i → ⊥
never_at e = let z : ◌≡◌ {A = ℕ} 0 1 = cc in omega arith

pub found_placed : (t : List ℕ) (n k i : ℕ) (x : Option ℕ) → Table t n → x ≡ found_from t 0 n k → x ≡ Some i → Placed t i
found_placed t n k i x b e f = go (view t 0 n k)
  where
    go : View t 0 n k → Placed t i
    go (at_row xs ys r h m g) =
        let u : 0 + length xs ≡ i = at_same (sym g ∙ sym e ∙ f) in
        let l : length xs + suc (length ys) ≡ n = sym (length-append xs (row_at t (0 + length xs) ∷ ys)) ∙ sym (ap length r) ∙ rows_count t 0 n in
        subst (Placed t) u (b.placed (0 + length xs) (omega (arith, l)) h)
    go (no_row h g) = absurd (never_at (sym g ∙ sym e ∙ f))

module _ (s : List ℕ) (room : ℕ) (t : List ℕ) (n k : ℕ) (x : Option ℕ) (e : x ≡ found_from t 0 n k) where
  pub row_says : {i : ℕ} {c : Constant} → x ≡ Some i → c ≡ worked_at s room t i → c ≡ numbered_at s room t (found_from t 0 n k)
  unfolding numbered_at
  row_says f u = u ∙ ap (numbered_at s room t) (sym f ∙ e)

  pub none_says : {c : Constant} → x ≡ None → c ≡ refusal 15 0 0 → c ≡ numbered_at s room t (found_from t 0 n k)
  unfolding numbered_at
  none_says f u = u ∙ ap (numbered_at s room t) (sym f ∙ e)

  pub row_wrote : {i : ℕ} (l : List ℕ) (c : Constant) → x ≡ Some i → WroteAt s t i l c → WroteFor s t (found_from t 0 n k) l c
  unfolding WroteFor
  row_wrote l c f w = subst (λ (g : Option ℕ). WroteFor s t g l c) (sym f ∙ e) w

  pub none_wrote : (l : List ℕ) (c : Constant) → x ≡ None → WroteFor s t (found_from t 0 n k) l c
  unfolding WroteFor
  none_wrote l c f = subst (λ (g : Option ℕ). WroteFor s t g l c) (sym f ∙ e) tt
