-- The declarations from the last one back, as the check and the writer go through them.
use mathlib.Core.Path.{◌≡◌, refl, sym, ap, subst, ◌∙◌}
use mathlib.Core.List.{List, [], ◌∷◌, ◌++◌, append_assoc, append-nil}
use Prim.Native.Nat.{ℕ, zero, suc, ◌+◌, ◌-◌, ◌*◌, ◌≤◌, ◌<◌}
use native.Mathlib.Omega.{arith}
use lib.ListN.{length, get_or, length-append, get_or-append}
use lib.Seq.{get_or_at, get_or-append-add, append_snoc}
use Rattle.rows.specs.Rows.{width}
use Rattle.grammar.specs.Rows.{Row, numbers, flat}
use Rattle.grammar.specs.Subtrees.{total, Trees, none, more}
use Rattle.grammar.proofs.Subtrees.{trees_length}
use Rattle.sheets.specs.Matches.{roots_from, Declares}
use Rattle.sheets.specs.Walks.{Walk}

-- no row
abbrev pub nil : Row
nil = record { kind = 0; start = 0; end = 0; children = 0; value = 0; detail = 0; size = 0 }

abbrev pub row_at : List Row → ℕ → Row
row_at rs i = get_or rs i nil

-- a number of a row in a table
pub table_number : (rs : List Row) (zs : List ℕ) (i k : ℕ) → i < length rs → k < width → get_or (flat rs ++ zs) (i * width + k) 0 ≡ get_or (numbers (row_at rs i)) k 0
table_number [] zs i k h l = absurd (omega arith)
table_number (r ∷ rs) zs zero k h l =
    let e : 0 * width + k ≡ k = omega arith in
    ap (λ (n : ℕ). get_or ((numbers r ++ flat rs) ++ zs) n 0) e ∙ ap (λ (t : List ℕ). get_or t k 0) (append_assoc (numbers r) (flat rs) zs) ∙ get_or-append (numbers r) (flat rs ++ zs) 0 k l
table_number (r ∷ rs) zs (suc i) k h l =
    let e : suc i * width + k ≡ length (numbers r) + (i * width + k) = omega arith in
    ap (λ (n : ℕ). get_or ((numbers r ++ flat rs) ++ zs) n 0) e
    ∙ ap (λ (t : List ℕ). get_or t (length (numbers r) + (i * width + k)) 0) (append_assoc (numbers r) (flat rs) zs)
    ∙ get_or-append-add (numbers r) (flat rs ++ zs) (i * width + k) 0
    ∙ table_number rs zs i k (omega arith) l

roots_length : (n : ℕ) (rs : List Row) → length (roots_from n rs) ≡ length rs
roots_length n [] = refl
roots_length n (r ∷ rs) = ap suc (roots_length (n + r.size) rs)

roots_append : (n : ℕ) (xs ys : List Row) → roots_from n (xs ++ ys) ≡ roots_from n xs ++ roots_from (n + total xs) ys
roots_append n [] ys = let e : n ≡ n + 0 = omega arith in ap (λ (m : ℕ). roots_from m ys) e
roots_append n (x ∷ xs) ys =
    let e : n + x.size + total xs ≡ n + (x.size + total xs) = omega arith in
    ap (λ (l : List ℕ). (n + x.size - 1) ∷ l) (roots_append (n + x.size) xs ys ∙ ap (λ (m : ℕ). roots_from (n + x.size) xs ++ roots_from m ys) e)

pub record Stepped (rs : List Row) (ids : List ℕ) (left row : ℕ) (rest : List ℕ) : Type 0 where
  pub inside : row ≤ length rs
  pub some : 1 ≤ (row_at rs (row - 1)).size
  pub enough : (row_at rs (row - 1)).size ≤ row
  pub next : Walk rs ids (left - 1) (row - (row_at rs (row - 1)).size) ((row - 1) ∷ rest)

module _ {rs : List Row} {ids : List ℕ} where
  pub walk_count : {left row : ℕ} {rest : List ℕ} → Walk rs ids left row rest → length ids ≡ left + length rest
  walk_count {rest = rest} w = let a = length-append (roots_from 0 w.roots) rest in let b = roots_length 0 w.roots in let c = w.count in let e = ap length w.named in omega (arith, a, b, c, e)

  pub walk_end : {row : ℕ} {rest : List ℕ} → Walk rs ids 0 row rest → ids ≡ rest
  walk_end {rest = rest} w = go w.roots w.count w.named
    where
      go : (roots : List Row) → length roots ≡ 0 → ids ≡ roots_from 0 roots ++ rest → ids ≡ rest
      go [] e q = q
      go (r ∷ roots) e q = absurd (omega (arith, e))

  pub walk_start : (d : Declares rs ids) → Walk rs ids (length ids) (length rs - 1) [] × (row_at rs (length rs - 1) ≡ d.top) × (d.top.children ≡ length ids) × (0 < length rs)
  walk_start d =
      let l : length rs ≡ length d.below + 1 = ap length d.last ∙ length-append d.below (d.top ∷ []) in
      let n = roots_length 0 d.children in
      let m = ap length d.named in
      let c = d.count in
      let p : length d.below ≡ length rs - 1 = omega (arith, l) in (
        record { front = d.below; after = d.top ∷ []; roots = d.children; trees = d.trees; rows = d.last; place = p; count = omega (arith, n, m); named = d.named ∙ sym (append-nil (roots_from 0 d.children)) },
        ap (λ (x : List Row). get_or x (length rs - 1) nil) d.last ∙ get_or_at d.below d.top [] nil (length rs - 1) p,
        omega (arith, c, n, m),
        omega (arith, l),
      )

  pub walk_step : {left row : ℕ} {rest : List ℕ} → Walk rs ids left row rest → 0 < left → Stepped rs ids left row rest
  walk_step {left} {row} {rest} w h = go w.front w.roots w.trees w.rows w.place w.count w.named
    where
      go : (front roots : List Row) → Trees front roots → rs ≡ front ++ w.after → length front ≡ row → length roots ≡ left → ids ≡ roots_from 0 roots ++ rest → Stepped rs ids left row rest
      go front roots none q p c n = absurd (omega (arith, c, h))
      go front roots (more {rs = fs} {roots = rts} {below = below} {kids = kids} r t u ch z a b) q p c n =
          let x = trees_length t in
          let y = trees_length u in
          let l : length front ≡ length fs + (length below + 1) = ap length a ∙ length-append fs (below ++ (r ∷ [])) ∙ ap (λ (k : ℕ). length fs + k) (length-append below (r ∷ [])) in
          let m : length roots ≡ length rts + 1 = ap length b ∙ length-append rts (r ∷ []) in
          let v : length (fs ++ below) ≡ row - 1 = length-append fs below ∙ omega (arith, l, p) in
          let all : rs ≡ fs ++ (below ++ (r ∷ w.after)) = q ∙ ap (λ (k : List Row). k ++ w.after) a ∙ append_assoc fs (below ++ (r ∷ [])) w.after ∙ ap (λ (k : List Row). fs ++ k) (append_assoc below (r ∷ []) w.after) in
          let at : row_at rs (row - 1) ≡ r = ap (λ (k : List Row). get_or k (row - 1) nil) (all ∙ sym (append_assoc fs below (r ∷ w.after))) ∙ get_or_at (fs ++ below) r w.after nil (row - 1) v in
          let s : (row_at rs (row - 1)).size ≡ r.size = ap (λ (k : Row). k.size) at in
          let g = length-append (fs ++ below) (r ∷ w.after) in
          let gg : length rs ≡ length ((fs ++ below) ++ (r ∷ w.after)) = ap length (all ∙ sym (append_assoc fs below (r ∷ w.after))) in
          let id : 0 + total rts + r.size - 1 ≡ row - 1 = omega (arith, x, y, z, l, p) in
          record {
            inside = omega (arith, g, gg, v, l, p);
            some = omega (arith, s, z);
            enough = omega (arith, s, z, y, l, p);
            next = record {
              front = fs;
              after = below ++ (r ∷ w.after);
              roots = rts;
              trees = t;
              rows = all;
              place = omega (arith, s, z, y, l, p);
              count = omega (arith, m, c);
              named = n ∙ ap (λ (k : List Row). roots_from 0 k ++ rest) b ∙ ap (λ (k : List ℕ). k ++ rest) (roots_append 0 rts (r ∷ []) ∙ ap (λ (i : ℕ). roots_from 0 rts ++ (i ∷ [])) id) ∙ append_snoc (roots_from 0 rts) (row - 1) rest;
            };
          }

-- the declarations are determined by the rows
pub one_walk : {rs : List Row} {ids ids' : List ℕ} (left row : ℕ) (rest : List ℕ) → Walk rs ids left row rest → Walk rs ids' left row rest → ids ≡ ids'
one_walk zero row rest w v = walk_end w ∙ sym (walk_end v)
one_walk {rs} {ids} {ids'} (suc left) row rest w v =
    let e : suc left - 1 ≡ left = omega arith in
    one_walk left (row - (row_at rs (row - 1)).size) ((row - 1) ∷ rest)
    (subst (λ (n : ℕ). Walk rs ids n (row - (row_at rs (row - 1)).size) ((row - 1) ∷ rest)) e (walk_step w (omega arith)).next)
    (subst (λ (n : ℕ). Walk rs ids' n (row - (row_at rs (row - 1)).size) ((row - 1) ∷ rest)) e (walk_step v (omega arith)).next)

pub one_declared : {rs : List Row} {ids ids' : List ℕ} → Declares rs ids → Declares rs ids' → ids ≡ ids'
one_declared {rs} {ids} {ids'} d d' =
    let w = walk_start d in
    let v = walk_start d' in
    let e : length ids ≡ length ids' = sym w.2 ∙ ap (λ (r : Row). r.children) (sym w.1 ∙ v.1) ∙ v.2 in
    one_walk (length ids') (length rs - 1) [] (subst (λ (n : ℕ). Walk rs ids n (length rs - 1) []) e w.0) v.0
