-- C-18's answer: that there is one and only one, and how `evaluate` gives it.
use Rattle.std.specs.Prelude.{Option, Some, None, Ok, Err, is_err}
use mathlib.Core.Path.{◌≡◌, refl, sym, ap, ◌∙◌, subst}
use mathlib.Core.List.{List, [], ◌∷◌, ◌++◌, append_assoc}
use mathlib.Core.Bool.{Bool, true, false, cond}
use Prim.Native.Nat.{ℕ, zero, suc, ◌+◌, ◌*◌, ◌-◌, ◌/◌, ◌<◌, ◌≤◌}
use native.Mathlib.Omega.{arith}
use lib.Dec.{T, eqb, leb→le}
use lib.ListN.{length, length-append, get_or, replicate, length-replicate}
use borrow.Author.Tests.{eqb-true, eqb-false, eq-eqb, ne_eqb}
use Rattle.chars.specs.declared.Answer.{Answer}
use Rattle.rows.specs.Rows.{width, zeroed}
use Rattle.entry.proofs.Stored.{zeroed_all}
use Rattle.grammar.specs.Rows.{Row, flat, rows}
use Rattle.grammar.specs.Subtrees.{EachRow}
use Rattle.grammar.proofs.Subtrees.{each_row, rows_trees}
use Rattle.answers.specs.Entries as reader
use Rattle.answers.proofs.Demands.{demand_1}
use Rattle.answers.proofs.Determined.{one_permitted, accepted_reads}
use Rattle.answers.proofs.Bytes.{a_permitted}
use Rattle.numbers.proofs.Choices.{first, second}
use Rattle.machine.specs.Machine.{wide}
use Rattle.constants.specs.Trees.{Forest, none, tree, rows_of, row_at, rows_from}
use Rattle.constants.specs.Types.{declared_of}
use Rattle.constants.specs.Lists.{flat_list}
use Rattle.constants.specs.Answers.{Constant, refusal, is_constant, constants, Numbered, constant_of, list_of, left, Permitted, unread, absent, there, type_for}
use Rattle.constants.specs.Steps.{codes_at, found_from, numbered_at, Placed, Table, WroteAt, WroteFor}
use Rattle.constants.proofs.Accepted.{accepted_is}
use Rattle.constants.proofs.Whole.{place, before_length, expr_at, worked_means, list_means, placed, const_is}
use Rattle.constants.proofs.Search.{at_same, found_at, View, at_row, no_row, view, Declared, declared}

-- ---- the rows of an accepted table

module _ (a b c d e f g : ℕ) (l : List ℕ) where
  seven : (j k : ℕ) → j ≡ suc (suc (suc (suc (suc (suc (suc k)))))) → get_or (a ∷ b ∷ c ∷ d ∷ e ∷ f ∷ g ∷ l) j 0 ≡ get_or l k 0
  seven j k h = ap (λ (x : ℕ). get_or (a ∷ b ∷ c ∷ d ∷ e ∷ f ∷ g ∷ l) x 0) h

  shifted : (i n : ℕ) → rows_from (a ∷ b ∷ c ∷ d ∷ e ∷ f ∷ g ∷ l) (suc i) n ≡ rows_from l i n
  unfolding rows_from
  shifted i zero = refl
  shifted i (suc n) =
      (λ q. record {
        kind = seven (suc i * 7) (i * 7) (omega arith) q;
        start = seven (suc i * 7 + 1) (i * 7 + 1) (omega arith) q;
        end = seven (suc i * 7 + 2) (i * 7 + 2) (omega arith) q;
        children = seven (suc i * 7 + 3) (i * 7 + 3) (omega arith) q;
        value = seven (suc i * 7 + 4) (i * 7 + 4) (omega arith) q;
        detail = seven (suc i * 7 + 5) (i * 7 + 5) (omega arith) q;
        size = seven (suc i * 7 + 6) (i * 7 + 6) (omega arith) q;
      } ∷ shifted (suc i) n q)

rows_flat : (rs : List Row) (zs : List ℕ) → rows_from (flat rs ++ zs) 0 (length rs) ≡ rs
unfolding rows_from
rows_flat [] zs = refl
rows_flat (r ∷ rs) zs = ap (λ (z : List Row). r ∷ z) (shifted r.kind r.start r.end r.children r.value r.detail r.size (flat rs ++ zs) 0 (length rs) ∙ rows_flat rs zs)

flat_length : (rs : List Row) → length (flat rs) ≡ length rs * width
flat_length [] = refl
flat_length (r ∷ rs) = let h = flat_length rs in omega arith

rows_split : (t : List ℕ) (j i n : ℕ) → i < n → rows_from t j n ≡ rows_from t j i ++ (row_at t (j + i) ∷ rows_from t (suc (j + i)) (n - suc i))
unfolding rows_from
rows_split t j i zero h = absurd (omega (arith, h))
rows_split t j zero (suc n) h = (λ q. row_at t (ap (λ (x : ℕ). x) {x = j} {y = j + 0} (omega arith) q) ∷ rows_from t (suc (ap (λ (x : ℕ). x) {x = j} {y = j + 0} (omega arith) q)) (ap (λ (x : ℕ). x) {x = n} {y = suc n - 1} (omega arith) q))
rows_split t j (suc i) (suc n) h =
    ap (λ (z : List Row). row_at t j ∷ z) (rows_split t (suc j) i n (omega (arith, h)))
    ∙ (λ q. row_at t j ∷ (rows_from t (suc j) i ++ (row_at t (ap (λ (x : ℕ). x) {x = suc j + i} {y = j + suc i} (omega arith) q) ∷ rows_from t (suc (ap (λ (x : ℕ). x) {x = suc j + i} {y = j + suc i} (omega arith) q)) (ap (λ (x : ℕ). x) {x = n - suc i} {y = suc n - suc (suc i)} (omega arith) q))))

-- the rows before row i, that row, and those behind
pub row_split : (t : List ℕ) (i n : ℕ) → i < n → rows_from t 0 n ≡ rows_from t 0 i ++ (row_at t i ∷ rows_from t (suc i) (n - suc i))
row_split t i n h = rows_split t 0 i n h ∙ ap (λ (j : ℕ). rows_from t 0 i ++ (row_at t j ∷ rows_from t (suc j) (n - suc i))) {x = 0 + i} {y = i} (omega arith)

rows_length : (t : List ℕ) (i n : ℕ) → length (rows_from t i n) ≡ n
unfolding rows_from
rows_length t i zero = refl
rows_length t i (suc n) = ap suc (rows_length t (suc i) n)

-- a constant that is there is found
pub found_place : (t : List ℕ) (m k : ℕ) {y e : Row} {kids : Forest} (h : Numbered (rows_from t 0 m) k y e kids) → found_from t 0 m k ≡ Some (place t m k h)
found_place t m k {y} {e} {kids} h =
    found_at t 0 m (h.front ++ rows_of (tree h.name h.in_name (tree y h.in_type (tree e kids none)))) h.const h.behind k
    (h.rows ∙ sym (append_assoc h.front (rows_of (tree h.name h.in_name (tree y h.in_type (tree e kids none)))) (h.const ∷ h.behind)))
    (const_is t m k h) h.number
    ∙ ap (λ (i : ℕ). Some i) (ap (λ (i : ℕ). 0 + i) (before_length t m k h) ∙ omega arith)

-- where there are too few constants, none is found
constants_more : (xs : List Row) (c : Row) (ys : List Row) → is_constant c.kind c.children ≡ true → suc (constants xs) ≤ constants (xs ++ (c ∷ ys))
unfolding constants
constants_more [] c ys h = let z : constants (c ∷ ys) ≡ suc (constants ys) = sym (first _ h refl) in omega (arith, z)
constants_more (x ∷ xs) c ys h = go (is_constant x.kind x.children) (constants_more xs c ys h)
  where
    go : (b : Bool) → suc (constants xs) ≤ constants (xs ++ (c ∷ ys)) → suc (cond b (suc (constants xs)) (constants xs)) ≤ cond b (suc (constants (xs ++ (c ∷ ys)))) (constants (xs ++ (c ∷ ys)))
    go true k = omega (arith, k)
    go false k = k

none_found : (t : List ℕ) (n k : ℕ) → constants (rows_from t 0 n) ≤ k → found_from t 0 n k ≡ None
none_found t n k h = go (view t 0 n k)
  where
    go : View t 0 n k → found_from t 0 n k ≡ None
    go (at_row xs ys e c m f) =
        let z = constants_more xs (row_at t (0 + length xs)) ys c in
        let y = ap constants e in
        absurd (omega (arith, z, y, m, h))
    go (no_row x f) = f

-- ---- what was accepted

module _ (tests : Bool) (s : List ℕ) (size : ℕ) {a : Answer} {t : List ℕ} (p : reader.Permitted tests true s size a t) (z : a.number ≡ 0) where
  abbrev reading : List Row
  reading = rows true (length s) (accepted_reads tests true s size p z).parts

  count_is : a.count ≡ length reading
  count_is = ap (λ (x : Answer). x.count) (accepted_reads tests true s size p z).answer

  fits : length reading * width ≤ size
  fits = let h : length reading ≤ size / width = leb→le (length reading) (size / width) (accepted_reads tests true s size p z).fits in omega (arith, h)

  pub whole_length : length t ≡ size
  whole_length =
      ap length (accepted_reads tests true s size p z).table ∙ length-append (flat reading) (replicate (size - width * length reading) 0)
      ∙ (let x = flat_length reading in let y = length-replicate {A = ℕ} (size - width * length reading) 0 in omega (arith, x, y, fits))

  rows_are : rows_from t 0 a.count ≡ reading
  rows_are = (λ q. rows_from ((accepted_reads tests true s size p z).table q) 0 (count_is q)) ∙ rows_flat reading (replicate (size - width * length reading) 0)

  pub each : EachRow (rows_from t 0 a.count)
  each = subst EachRow (sym rows_are) (each_row (rows_trees true (length s) (accepted_reads tests true s size p z).parts).1)

  long : a.count * width ≤ length t
  long = let h = whole_length in omega (arith, h, fits, count_is)

  its_place : (i : ℕ) → i < a.count → is_constant (row_at t i).kind (row_at t i).children ≡ true → Placed t i
  its_place i h c =
      let xs = rows_from t 0 i in
      let e = row_split t i a.count h in
      let d = declared each xs (rows_from t (suc i) (a.count - suc i)) (row_at t i) e c {k = constants xs} refl in
      let n = d.numbered in
      let u : place t a.count (constants xs) n ≡ i = at_same (sym (found_place t a.count (constants xs) n) ∙ found_at t 0 a.count xs (row_at t i) (rows_from t (suc i) (a.count - suc i)) (constants xs) e c refl) ∙ ap (λ (x : ℕ). 0 + x) (rows_length t 0 i) ∙ omega arith in
      subst (Placed t) u (placed t a.count (constants xs) n (omega (arith, u, h, long)))

  pub table_of : Table t a.count
  table_of = record { long = long; placed = its_place }

-- ---- the answer

module _ (tests : Bool) (s : List ℕ) (k size list : ℕ) where
  module _ {a : Answer} {t : List ℕ} (p : reader.Permitted tests true s size a t) (z : a.number ≡ 0) where
    abbrev n : ℕ
    n = a.count

    abbrev room : ℕ
    room = list / wide

    -- what is left in the list of a constant that was found at a row
    list_left : {y e : Row} {kids : Forest} (h : Numbered (rows_from t 0 n) k y e kids) (l : List ℕ) → length l ≡ list → (c : Constant) → c ≡ constant_of s room y e kids → WroteAt s t (place t n k h) l c → left list c l ≡ left list c (list_of s list (type_for c) e kids)
    unfolding WroteAt
    list_left {y} {e} {kids} h l q (Ok f) u r =
        let d = accepted_is f.value f.ty f.count s room y e kids (sym u) in
        r ∙ (λ j. flat_list (codes_at s t (place t n k h - sym d.count_is j) (sym d.count_is j) f.ty) ++ replicate (q j - wide * sym d.count_is j) 0) ∙ list_means t n k h s room list f.ty
    list_left h l q (Err x) u r = refl

    pub permits : (c : Constant) (l T L : List ℕ) → c ≡ numbered_at s room t (found_from t 0 n k) → WroteFor s t (found_from t 0 n k) l c → length l ≡ list → T ≡ left size c t → L ≡ left list c l → Permitted tests s k size list c T L
    unfolding numbered_at WroteFor
    permits c l T L u w q x y = go (view t 0 n k)
      where
        at : (d : Declared (rows_from t 0 n) k) → Permitted tests s k size list c T L
        at d =
            let h = d.numbered in
            let f : found_from t 0 n k ≡ Some (place t n k h) = found_place t n k h in
            let m : c ≡ constant_of s room d.type d.expr d.kids = u ∙ ap (numbered_at s room t) f ∙ worked_means t n k h s room in
            let o : L ≡ left list c (list_of s list (type_for c) d.expr d.kids) = y ∙ list_left h l q c m (subst (λ (g : Option ℕ). WroteFor s t g l c) f w) in
            subst (λ (v : List ℕ). Permitted tests s k size list c v L) (sym x) (subst (Permitted tests s k size list c (left size c t)) (sym o) (there p z h m))

        go : View t 0 n k → Permitted tests s k size list c T L
        go (at_row xs ys e h m f) = at (declared (each tests s size p z) xs ys (row_at t (0 + length xs)) e h m)
        go (no_row h f) =
            let m : c ≡ refusal 15 0 0 = u ∙ ap (numbered_at s room t) f in
            let x' : T ≡ replicate size 0 = x ∙ ap (λ (r : Constant). left size r t) m in
            let y' : L ≡ replicate list 0 = y ∙ ap (λ (r : Constant). left list r l) m in
            subst (λ (r : Constant). Permitted tests s k size list r T L) (sym m) (subst (λ (v : List ℕ). Permitted tests s k size list (refusal 15 0 0) v L) (sym x') (subst (Permitted tests s k size list (refusal 15 0 0) (replicate size 0)) (sym y') (absent p z h)))

  -- a source that (a) refuses
  pub unread_permits : {a : Answer} {t : List ℕ} → reader.Permitted tests true s size a t → (a.number ≡ 0 → ⊥) → (l L : List ℕ) → length l ≡ list → L ≡ zeroed l 0 → Permitted tests s k size list (Err a) t L
  unread_permits {a} {t} p h l L q e = subst (Permitted tests s k size list (Err a) t) (sym (e ∙ zeroed_all l ∙ ap (λ (n : ℕ). replicate n 0) q)) (unread p h)

  -- ---- there is one answer

  pub an_answer : (c : Constant) × (T : List ℕ) × (L : List ℕ) × Permitted tests s k size list c T L
  an_answer =
      let x = a_permitted tests true s size in
      read x.0 x.1 x.2 (eqb x.0.number 0) refl
    where
      found : (a : Answer) (t : List ℕ) → reader.Permitted tests true s size a t → a.number ≡ 0 → View t 0 a.count k → (c : Constant) × (T : List ℕ) × (L : List ℕ) × Permitted tests s k size list c T L
      found a t p z (at_row xs ys e h m f) =
          let d = declared (each tests s size p z) xs ys (row_at t (0 + length xs)) e h m in
          let c = constant_of s (list / wide) d.type d.expr d.kids in
          (c, left size c t, left list c (list_of s list (type_for c) d.expr d.kids), there p z d.numbered refl)
      found a t p z (no_row h f) = (refusal 15 0 0, replicate size 0, replicate list 0, absent p z h)

      read : (a : Answer) (t : List ℕ) → reader.Permitted tests true s size a t → (b : Bool) → eqb a.number 0 ≡ b → (c : Constant) × (T : List ℕ) × (L : List ℕ) × Permitted tests s k size list c T L
      read a t p true e = found a t p (eqb-true a.number 0 e) (view t 0 a.count k)
      read a t p false e = (Err a, t, replicate list 0, unread p (eqb-false a.number 0 e))

  -- ---- and only one: by the steps, which look at the table alone

  abbrev list_at : List ℕ → ℕ → ℕ → List ℕ
  list_at t w i =
      let n : ℕ = (row_at t (i - 1)).size in
      flat_list (codes_at s t (i - n) n w) ++ replicate (list - wide * n) 0

  abbrev list_for : List ℕ → ℕ → Option ℕ → List ℕ
  list_for t w (Some i) = list_at t w i
  list_for t w None = []

  abbrev list_left_for : List ℕ → Option ℕ → Constant → List ℕ
  list_left_for t i c = left list c (list_for t (type_for c) i)

  abbrev constant_for : Answer → List ℕ → Constant
  constant_for a t = cond (eqb a.number 0) (numbered_at s (list / wide) t (found_from t 0 a.count k)) (Err a)

  abbrev table_for : Answer → List ℕ → List ℕ
  table_for a t = cond (eqb a.number 0) (left size (numbered_at s (list / wide) t (found_from t 0 a.count k)) t) t

  abbrev left_for : Answer → List ℕ → List ℕ
  left_for a t = cond (eqb a.number 0) (list_left_for t (found_from t 0 a.count k) (numbered_at s (list / wide) t (found_from t 0 a.count k))) (replicate list 0)

  record Said (c : Constant) (T L : List ℕ) : Type 0 where
    answer : Answer
    table : List ℕ
    permitted : reader.Permitted tests true s size answer table
    its_constant : c ≡ constant_for answer table
    its_table : T ≡ table_for answer table
    its_list : L ≡ left_for answer table

  said : {c : Constant} {T L : List ℕ} → Permitted tests s k size list c T L → Said c T L
  unfolding numbered_at
  said (unread {a = a} {t = t} p h) =
      let e : eqb a.number 0 ≡ false = ne_eqb a.number 0 h in
      record { answer = a; table = t; permitted = p; its_constant = second _ e refl; its_table = second _ e refl; its_list = second _ e refl }
  said (absent {a = a} {t = t} p z h) =
      let e : eqb a.number 0 ≡ true = eq-eqb a.number 0 z in
      let f : found_from t 0 a.count k ≡ None = none_found t a.count k h in
      let m : refusal 15 0 0 ≡ numbered_at s (list / wide) t (found_from t 0 a.count k) = ap (numbered_at s (list / wide) t) (sym f) in
      record {
        answer = a;
        table = t;
        permitted = p;
        its_constant = first _ e m;
        its_table = first _ e (ap (λ (c : Constant). left size c t) m);
        its_list = first _ e (ap (list_left_for t (found_from t 0 a.count k)) m);
      }
  said (there {a = a} {t = t} {y = y} {e = x} {kids = kids} {c = c} p z h u) =
      let e : eqb a.number 0 ≡ true = eq-eqb a.number 0 z in
      let f : found_from t 0 a.count k ≡ Some (place t a.count k h) = found_place t a.count k h in
      let m : c ≡ numbered_at s (list / wide) t (found_from t 0 a.count k) = u ∙ sym (worked_means t a.count k h s (list / wide)) ∙ ap (numbered_at s (list / wide) t) (sym f) in
      let i : ℕ = place t a.count k h in
      let w : ℕ = type_for c in
      let o : list_of s list w x kids ≡ list_for t w (found_from t 0 a.count k) =
      sym (list_means t a.count k h s (list / wide) list w)
      ∙ sym (ap (λ (r : Row). flat_list (codes_at s t (i - r.size) r.size w) ++ replicate (list - wide * r.size) 0) (expr_at t a.count k h))
      ∙ ap (list_for t w) (sym f) in
      record {
        answer = a;
        table = t;
        permitted = p;
        its_constant = first _ e m;
        its_table = first _ e (ap (λ (r : Constant). left size r t) m);
        its_list = first _ e ((λ q. left list c (o q)) ∙ ap (list_left_for t (found_from t 0 a.count k)) m);
      }

  pub one_answer : {c d : Constant} {T U L M : List ℕ} → Permitted tests s k size list c T L → Permitted tests s k size list d U M → (c ≡ d) × (T ≡ U) × (L ≡ M)
  one_answer x y =
      let p = said x in
      let q = said y in
      let o = one_permitted tests true s size p.permitted q.permitted in (
        p.its_constant ∙ (λ i. constant_for (o.0 i) (o.1 i)) ∙ sym q.its_constant,
        p.its_table ∙ (λ i. table_for (o.0 i) (o.1 i)) ∙ sym q.its_table,
        p.its_list ∙ (λ i. left_for (o.0 i) (o.1 i)) ∙ sym q.its_list,
      )

  -- the answer to a table of (a), by the steps
  pub answer_by : {a : Answer} {t : List ℕ} → reader.Permitted tests true s size a t → a.number ≡ 0 → (c : Constant) → c ≡ numbered_at s (list / wide) t (found_from t 0 a.count k) → (T : List ℕ) × (L : List ℕ) × Permitted tests s k size list c T L
  answer_by {a} {t} p z c e =
      let x = an_answer in
      let q = said x.3 in
      let o = one_permitted tests true s size q.permitted p in
      let m : x.0 ≡ c = q.its_constant ∙ (λ i. constant_for (o.0 i) (o.1 i)) ∙ sym (first _ (eq-eqb a.number 0 z) refl) ∙ sym e in
      (x.1, x.2, subst (λ (d : Constant). Permitted tests s k size list d x.1 x.2) m x.3)

-- ---- what is left in a lent table

pub keeps : (c : Constant) → is_err c ≡ false → (m : ℕ) (t : List ℕ) → t ≡ left m c t
keeps (Ok f) e m t = refl
keeps (Err a) e m t = cc

pub zeros : (c : Constant) → is_err c ≡ true → (m : ℕ) (t : List ℕ) {T : List ℕ} → length t ≡ m → T ≡ zeroed t 0 → T ≡ left m c t
zeros (Ok f) e m t q h = cc
zeros (Err a) e m t q h = h ∙ zeroed_all t ∙ ap (λ (n : ℕ). replicate n 0) q

-- ---- "Zeros throughout" after any refusal

pub zeros_left : (tests : Bool) (s : List ℕ) (k size list : ℕ) {c : Constant} {T L : List ℕ} → Permitted tests s k size list c T L → {a : Answer} → c ≡ Err a → (T ≡ replicate size 0) × (L ≡ replicate list 0)
zeros_left tests s k size list (unread p h) e = ((demand_1 tests true s size).refused_zeros p h, refl)
zeros_left tests s k size list (absent p z h) e = (refl, refl)
zeros_left tests s k size list (there {t = t} {y = y} {e = x} {kids = kids} p z h u) e = (ap (λ (r : Constant). left size r t) e, ap (λ (r : Constant). left list r (list_of s list (type_for r) x kids)) e)

-- ---- an accepted constant's list is written with the type that its type's row declares

pub list_declared : (s : List ℕ) (room list : ℕ) (y e : Row) (kids : Forest) (c : Constant) {w : ℕ} → c ≡ constant_of s room y e kids → declared_of s y.kind y.start y.end ≡ Some w
    → left list c (list_of s list (type_for c) e kids) ≡ left list c (list_of s list w e kids)
list_declared s room list y e kids (Ok f) {w} u d =
    let h : Some f.ty ≡ Some w = sym (accepted_is f.value f.ty f.count s room y e kids (sym u)).type_is ∙ d in
    ap (λ (x : ℕ). list_of s list x e kids) (at_same h)
list_declared s room list y e kids (Err a) u d = refl
