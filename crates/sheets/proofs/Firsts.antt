-- The loops over a table's rows: tests are counted, and declarations gone through from the last one back.
use mathlib.Core.Path.{◌≡◌, refl, sym, ap, subst, ◌∙◌}
use mathlib.Core.List.{List, [], ◌∷◌, ◌++◌}
use mathlib.Core.Bool.{Bool, true, false, ◌&&◌, cond}
use mathlib.Core.Logic.{◌≢◌}
use Prim.Native.Nat.{ℕ, suc, ◌+◌, ◌-◌, ◌*◌, ◌≤◌, ◌<◌}
use native.Mathlib.Omega.{arith}
use lib.Dec.{eqb, ltb}
use lib.ListN.{length, get_or, take, drop, length-append, drop_of_length-le}
use lib.Seq.{drop-cons, take_at, take_all, take-suc, get_or_at, sets}
use Rattle.sheets.specs.Files.{words}
use borrow.Author.Tests.{eq-eqb, ne_eqb, lt-ltb, le-ltb, eqb-true, eqb-false, not-true, not-false}
use Rattle.rows.specs.Kinds as kinds
use Rattle.rows.specs.Rows.{width}
use Rattle.grammar.specs.Rows.{Row, flat}
use Rattle.answers.proofs.Ahead.{left_true, right_true}
use Rattle.entry.proofs.Stored.{flat_length}
use Rattle.sheets.specs.Places.{number_at, numbers_at, rows_from}
use Rattle.sheets.specs.Matches.{Differ, other, missing, too_many, later, Declares}
use Rattle.sheets.specs.Checks.{of_kind}
use Rattle.sheets.specs.Walks.{Tabled, Walk, Begins, Walking, Steps}
use Rattle.sheets.specs.Steps.{First}
use Rattle.std.specs.Prelude.{Option, Some, None}
use Rattle.std.specs.Bool.{then_some}
use Rattle.sheets.proofs.Widths.{numbers_length, numbers_add}
use Rattle.sheets.proofs.Filled.{rows_flat}
use Rattle.sheets.proofs.Named.{nil, row_at, table_number, walk_end, walk_start, walk_step, one_declared}

-- the rows that a table begins with, and how many of the first of them are tests
abbrev pub Counts : List ℕ → ℕ → ℕ → ℕ → Type 0
Counts t n row count = (rs : List Row) (zs : List ℕ) → t ≡ flat rs ++ zs → length rs ≡ n → count ≡ of_kind kinds.TEST (take row rs)

kind_there : (t : List ℕ) (rs : List Row) (zs : List ℕ) (i : ℕ) → t ≡ flat rs ++ zs → i < length rs → get_or t (i * width) 0 ≡ (row_at rs i).kind
kind_there t rs zs i e h = let z : i * width ≡ i * width + 0 = omega arith in (λ j. get_or (e j) (z j) 0) ∙ table_number rs zs i 0 h (omega arith)

pub none_counted : (t : List ℕ) (n : ℕ) → Counts t n 0 0
none_counted t n [] zs e l = refl
none_counted t n (r ∷ rs) zs e l = refl

of_kind_behind : (k : ℕ) (xs : List Row) (r : Row) → of_kind k (xs ++ (r ∷ [])) ≡ of_kind k xs + cond (eqb r.kind k) 1 0
of_kind_behind k [] r = omega arith
of_kind_behind k (x ∷ xs) r = let h = of_kind_behind k xs r in omega (arith, h)

counted_more : (t : List ℕ) (n row count : ℕ) (b : Bool) → row < n → Counts t n row count → eqb (get_or t (row * width) 0) kinds.TEST ≡ b → Counts t n (row + 1) (count + cond b 1 0)
counted_more t n row count b h f q rs zs e l =
    let s : row + 1 ≡ suc row = omega arith in
    let d = take-suc rs row nil (omega (arith, l, h)) in
    let c = kind_there t rs zs row e (omega (arith, l, h)) in
    (λ i. f rs zs e l i + cond ((sym q ∙ ap (λ (x : ℕ). eqb x kinds.TEST) c) i) 1 0) ∙ sym (ap (λ (k : ℕ). of_kind kinds.TEST (take k rs)) s ∙ ap (of_kind kinds.TEST) d ∙ of_kind_behind kinds.TEST (take row rs) (row_at rs row))

module _ (t : List ℕ) (n row count : ℕ) (h : row < n) (f : Counts t n row count) where
  pub one_test : get_or t (row * width) 0 ≡ kinds.TEST → Counts t n (row + 1) (count + 1)
  one_test e = counted_more t n row count true h f (eq-eqb (get_or t (row * width) 0) kinds.TEST e)

  pub no_test : get_or t (row * width) 0 ≢ kinds.TEST → Counts t n (row + 1) count
  no_test e = let z : count + 0 ≡ count = omega arith in subst (Counts t n (row + 1)) z (counted_more t n row count false h f (ne_eqb (get_or t (row * width) 0) kinds.TEST e))

pub all_counted : (t : List ℕ) (n row count : ℕ) → row ≤ n → n ≤ row → Counts t n row count → (rs : List Row) (zs : List ℕ) → t ≡ flat rs ++ zs → length rs ≡ n → count ≡ of_kind kinds.TEST rs
all_counted t n row count h k f rs zs e l = f rs zs e l ∙ ap (of_kind kinds.TEST) (take_all row rs (omega (arith, l, h, k)))

-- two tellings of one table's rows
pub one_tabled : {t : List ℕ} {n : ℕ} (d d' : Tabled t n) → (d.rows ≡ d'.rows) × (d.ids ≡ d'.ids)
one_tabled {t} {n} d d' =
    let c = d.count in
    let c' = d'.count in
    let l = flat_length d.rows in
    let l' = flat_length d'.rows in
    let f : flat d.rows ≡ flat d'.rows = sym (take_at (flat d.rows) d.rest (n * width) (omega (arith, c, l))) ∙ ap (take (n * width)) (sym d.table ∙ d'.table) ∙ take_at (flat d'.rows) d'.rest (n * width) (omega (arith, c', l')) in
    let r : d.rows ≡ d'.rows = sym (rows_flat d.rows) ∙ ap rows_from f ∙ rows_flat d'.rows in
    (r, one_declared (subst (λ (x : List Row). Declares x d.ids) r d.declares) d'.declares)

-- the walk through the declarations of a table
pub record Begun (t : List ℕ) (n : ℕ) (d : Tabled t n) : Type 0 where
  pub some : 1 ≤ n
  pub inside : n * width ≤ length t
  pub walk : Walk d.rows d.ids (get_or t ((n - 1) * width + 3) 0) (n - 1) []
  pub count : get_or t ((n - 1) * width + 3) 0 ≡ length d.ids

pub begun : (t : List ℕ) (n : ℕ) (d : Tabled t n) → Begun t n d
begun t n d =
    let w = walk_start d.declares in
    let p = w.3 in
    let c = d.count in
    let m : length d.rows - 1 ≡ n - 1 = omega (arith, c) in
    let l : length t ≡ length (flat d.rows) + length d.rest = ap length d.table ∙ length-append (flat d.rows) d.rest in
    let f = flat_length d.rows in
    let e : get_or t ((n - 1) * width + 3) 0 ≡ (row_at d.rows (n - 1)).children = ap (λ (x : List ℕ). get_or x ((n - 1) * width + 3) 0) d.table ∙ table_number d.rows d.rest (n - 1) 3 (omega (arith, c, p)) (omega arith) in
    let q : get_or t ((n - 1) * width + 3) 0 ≡ length d.ids = e ∙ ap (λ (i : ℕ). (row_at d.rows i).children) (sym m) ∙ ap (λ (r : Row). r.children) w.1 ∙ w.2 in
    record { some = omega (arith, c, p); inside = omega (arith, l, f, c); walk = (subst (λ (x : ℕ). Walk d.rows d.ids x (n - 1) []) (sym q) (subst (λ (x : ℕ). Walk d.rows d.ids (length d.ids) x []) m w.0)); count = q }

pub record Gone (t : List ℕ) (n : ℕ) (d : Tabled t n) (left row : ℕ) (rest : List ℕ) : Type 0 where
  pub some : 1 ≤ row
  pub inside : row * width ≤ length t
  pub size : get_or t ((row - 1) * width + 6) 0 ≤ row
  pub next : Walk d.rows d.ids (left - 1) (row - get_or t ((row - 1) * width + 6) 0) ((row - 1) ∷ rest)

pub gone : (t : List ℕ) (n : ℕ) (d : Tabled t n) (left row : ℕ) (rest : List ℕ) → Walk d.rows d.ids left row rest → 0 < left → Gone t n d left row rest
gone t n d left row rest w h =
    let s = walk_step w h in
    let a = s.some in
    let b = s.enough in
    let i = s.inside in
    let l : length t ≡ length (flat d.rows) + length d.rest = ap length d.table ∙ length-append (flat d.rows) d.rest in
    let f = flat_length d.rows in
    let e : get_or t ((row - 1) * width + 6) 0 ≡ (row_at d.rows (row - 1)).size = ap (λ (x : List ℕ). get_or x ((row - 1) * width + 6) 0) d.table ∙ table_number d.rows d.rest (row - 1) 6 (omega (arith, i, a, b)) (omega arith) in
    record { some = omega (arith, a, b); inside = omega (arith, l, f, i); size = omega (arith, e, b); next = subst (λ (z : ℕ). Walk d.rows d.ids (left - 1) (row - z) ((row - 1) ∷ rest)) (sym e) s.next }

-- a step back in a walk
pub record Behind (t : List ℕ) (row left : ℕ) : Type 0 where
  pub some : 1 ≤ row
  pub inside : row * width ≤ length t
  pub size : get_or t ((row - 1) * width + 6) 0 ≤ row
  pub next : Walking t (row - get_or t ((row - 1) * width + 6) 0) (left - 1)

pub behind : (t : List ℕ) (row left : ℕ) → Walking t row left → 0 < left → Behind t row left
behind t row left w h =
    let g = gone t w.rows w.tabled left row w.rest w.walk h in
    record { some = g.some; inside = g.inside; size = g.size; next = record { rows = w.rows; tabled = w.tabled; rest = (row - 1) ∷ w.rest; walk = g.next } }

pub walks : {t u : List ℕ} {n row left : ℕ} (d : Tabled t n) → u ≡ t → Begins d row left → Walking u row left
walks {n = n} {row} {left} d e b = subst (λ (l : List ℕ). Walking l row left) (sym e) (record { rows = n; tabled = d; rest = []; walk = b.walk })

pub begins : (t : List ℕ) (n : ℕ) (d : Tabled t n) → Begins d (n - 1) (get_or t ((n - 1) * width + 3) 0)
begins t n d = let b = begun t n d in record { walk = b.walk; count = b.count }

-- where a walk through a table's declarations is, and those that it has gone through
pub record Reached {t : List ℕ} {n : ℕ} (d : Tabled t n) (u : List ℕ) (row left : ℕ) (rest : List ℕ) : Type 0 where
  pub table : u ≡ t
  pub walk : Walk d.rows d.ids left row rest

pub begun_at : {t u : List ℕ} {n row left : ℕ} (d : Tabled t n) → u ≡ t → Begins d row left → Reached d u row left []
begun_at d e b = record { table = e; walk = b.walk }

pub one_back : {t u u' : List ℕ} {n row left row' left' : ℕ} {p : ℕ × ℕ} {rest : List ℕ} {d : Tabled t n} → Reached d u row left rest → (u' ≡ u) × Steps u row left (Some p) row' left' → Reached d u' row' left' (p.1 ∷ rest)
one_back {t} {u} {n = n} {row = row} {left} {row'} {left'} {p} {rest} {d} r s =
    let a = s.1 in
    let e = r.table in
    let z : row' ≡ row - get_or t ((row - 1) * width + 6) 0 = a.4 ∙ ap (λ (l : List ℕ). row - get_or l ((row - 1) * width + 6) 0) e in
    record { table = s.0 ∙ e; walk = (subst (λ (l : ℕ). Walk d.rows d.ids l row' (p.1 ∷ rest)) (sym a.3) (subst (λ (y : ℕ). Walk d.rows d.ids (left - 1) y (p.1 ∷ rest)) (sym z) (subst (λ (q : ℕ). Walk d.rows d.ids (left - 1) (row - get_or t ((row - 1) * width + 6) 0) (q ∷ rest)) (sym a.2) (gone t n d left row rest r.walk a.0).next))) }

-- the number of the declaration that is one back
pub number_back : (u : List ℕ) (row left row' left' : ℕ) (p : ℕ × ℕ) → Steps u row left (Some p) row' left' → (suc p.0 ≡ left) × (p.0 ≡ left')
number_back u row left row' left' p s = let a = s.0 in let b = s.1 in let c = s.3 in (omega (arith, a, b), omega (arith, b, c))

-- the first index that differs, of those from one on
pub data Firsts (xs rest : List ℕ) (left : ℕ) : Option ℕ → Type 0 where
  same_rest : drop left xs ≡ rest → Firsts xs rest left None
  differ_rest : {j : ℕ} → Differ (drop left xs) rest j → Firsts xs rest left (Some (left + j))

pub firsts_start : (xs : List ℕ) (left : ℕ) {n : ℕ} {first : Option ℕ} → length xs ≡ n → first ≡ then_some (ltb left n) left → Firsts xs [] left first
firsts_start xs left {n} {first} l e = subst (Firsts xs [] left) (sym e) (go (ltb left n) refl)
  where
    go : (b : Bool) → ltb left n ≡ b → Firsts xs [] left (then_some b left)
    go true q =
        let h = borrow.Author.Tests.ltb-true left n q in
        let z : left + 0 ≡ left = omega arith in
        subst (λ (j : ℕ). Firsts xs [] left (Some j)) z (differ_rest (subst (λ (y : List ℕ). Differ y [] 0) (sym (drop-cons xs left 0 (omega (arith, l, h)))) too_many))
    go false q = let h = borrow.Author.Tests.ltb-false left n q in same_rest (drop_of_length-le xs {i = left} (omega (arith, l, h)))

number_at_lem : (w : ℕ) (b : List ℕ) (at i k : ℕ) → i < k → get_or (numbers_at w b at k) i 0 ≡ number_at w b (at + i * w)
unfolding numbers_at
number_at_lem w b at i k h =
    let n : i + suc (k - i - 1) ≡ k = omega arith in
    ap (λ (m : ℕ). get_or (numbers_at w b at m) i 0) (sym n) ∙ ap (λ (l : List ℕ). get_or l i 0) (numbers_add w b at i (suc (k - i - 1))) ∙ first_of (numbers_at w b at i) i (numbers_length w b at i)
  where
    first_of : (xs : List ℕ) (i : ℕ) → length xs ≡ i → get_or (xs ++ numbers_at w b (at + i * w) (suc (k - i - 1))) i 0 ≡ number_at w b (at + i * w)
    first_of xs i e = get_or_at xs (number_at w b (at + i * w)) (numbers_at w b (at + i * w + w) (k - i - 1)) 0 i e

number_here : (w : ℕ) (b : List ℕ) (i k : ℕ) → i < k → get_or (numbers_at w b 0 k) i 0 ≡ number_at w b (i * w)
number_here w b i k h = let z : 0 + i * w ≡ i * w = omega arith in number_at_lem w b 0 i k h ∙ ap (number_at w b) z

module _ (b : List ℕ) (k left i row : ℕ) {first : Option ℕ} (rest : List ℕ) (back : suc i ≡ left) (f : Firsts (numbers_at 4 b 0 k) rest left first) where
  abbrev xs : List ℕ
  xs = numbers_at 4 b 0 k

  -- it names its row
  pub firsts_same : (ltb i k && eqb (number_at 4 b (i * 4)) row) ≡ true → Firsts xs (row ∷ rest) i first
  firsts_same e = go f
    where
      l : i < k
      l = borrow.Author.Tests.ltb-true i k (left_true (ltb i k) _ e)

      q : get_or xs i 0 ≡ row
      q = number_here 4 b i k l ∙ eqb-true (number_at 4 b (i * 4)) row (right_true (ltb i k) _ e)

      m : length xs ≡ k
      m = numbers_length 4 b 0 k

      d : drop i xs ≡ get_or xs i 0 ∷ drop left xs
      d = drop-cons xs i 0 (omega (arith, l, m)) ∙ ap (λ (n : ℕ). get_or xs i 0 ∷ drop n xs) back

      go : {first : Option ℕ} → Firsts xs rest left first → Firsts xs (row ∷ rest) i first
      go (same_rest r) = same_rest (d ∙ (λ j. q j ∷ r j))
      go (differ_rest {j = j} r) = let z : i + suc j ≡ left + j = omega (arith, back) in subst (λ (n : ℕ). Firsts xs (row ∷ rest) i (Some n)) z (differ_rest (subst (λ (y : List ℕ). Differ y (row ∷ rest) (suc j)) (sym d) (later q r)))

  pub firsts_differ : (ltb i k && eqb (number_at 4 b (i * 4)) row) ≡ false → Firsts xs (row ∷ rest) i (Some i)
  firsts_differ e = subst (λ (n : ℕ). Firsts xs (row ∷ rest) i (Some n)) zero_more (differ_rest (go (ltb i k) refl))
    where
      zero_more : i + 0 ≡ i
      zero_more = omega arith

      m : length xs ≡ k
      m = numbers_length 4 b 0 k

      no : (z : Bool) → ltb i k ≡ z → z ≡ true → eqb (number_at 4 b (i * 4)) row ≡ false
      no z p q = sym (ap (λ (y : Bool). y && eqb (number_at 4 b (i * 4)) row) (p ∙ q)) ∙ e

      go : (z : Bool) → ltb i k ≡ z → Differ (drop i xs) (row ∷ rest) 0
      go false p = let l = borrow.Author.Tests.ltb-false i k p in subst (λ (y : List ℕ). Differ y (row ∷ rest) 0) (sym (drop_of_length-le xs {i = i} (omega (arith, l, m)))) missing
      go true p = let l = borrow.Author.Tests.ltb-true i k p in subst (λ (y : List ℕ). Differ y (row ∷ rest) 0) (sym (drop-cons xs i 0 (omega (arith, l, m)))) (other λ q. eqb-false (number_at 4 b (i * 4)) row (no true p refl) (sym (number_here 4 b i k l) ∙ q))

pub differ_most : {xs ys : List ℕ} {n : ℕ} → Differ xs ys n → n ≤ length xs
differ_most (other h) = omega arith
differ_most missing = omega arith
differ_most too_many = omega arith
differ_most (later e d) = let z = differ_most d in omega (arith, z)

-- all are gone through
pub firsts_all : (xs rest : List ℕ) (left : ℕ) {first : Option ℕ} {t : List ℕ} {n row : ℕ} (p d : Tabled t n) → left ≤ 0 → Walk p.rows p.ids left row rest → Firsts xs rest left first → First xs d.ids first
firsts_all xs rest left {row = row} p d h w f = go f
  where
    z : left ≡ 0
    z = omega arith

    e : rest ≡ d.ids
    e = sym (walk_end (subst (λ (n : ℕ). Walk p.rows p.ids n row rest) z w)) ∙ (one_tabled p d).1

    go : {first : Option ℕ} → Firsts xs rest left first → First xs d.ids first
    go (same_rest q) = ap (λ (n : ℕ). drop n xs) (sym z) ∙ q ∙ e
    go (differ_rest {j = j} q) =
        let s : j ≡ left + j = omega arith in
        subst (Differ xs d.ids) s (subst (λ (y : List ℕ). Differ y d.ids j) (ap (λ (n : ℕ). drop n xs) z) (subst (λ (y : List ℕ). Differ (drop left xs) y j) e q))

-- all indexes are written
pub all_indexes : (f : List ℕ) (at : ℕ) (g : List ℕ) (left row : ℕ) (rest : List ℕ) {t : List ℕ} {n : ℕ} (p d : Tabled t n) → left ≤ 0 → Walk p.rows p.ids left row rest → g ≡ sets f (at + left * 4) (words 4 rest) → g ≡ sets f at (words 4 d.ids)
all_indexes f at g left row rest p d h w e =
    let z : left ≡ 0 = omega arith in
    let q : rest ≡ d.ids = sym (walk_end (subst (λ (n : ℕ). Walk p.rows p.ids n row rest) z w)) ∙ (one_tabled p d).1 in
    let y : at + left * 4 ≡ at = omega (arith, z) in
    e ∙ (λ i. sets f (y i) (words 4 (q i)))
