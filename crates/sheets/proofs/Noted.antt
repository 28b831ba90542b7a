-- A table to compare with: after all rows were put, its own are as before, and the number behind them is the first that differs.
use mathlib.Core.Path.{◌≡◌, refl, sym, ap, subst, ◌∙◌}
use mathlib.Core.List.{List, [], ◌∷◌, ◌++◌, append_assoc, append-nil}
use mathlib.Core.Bool.{Bool, true, false, ◌&&◌, not, cond}
use mathlib.Core.Logic.{◌≢◌}
use Prim.Native.Nat.{ℕ, suc, ◌+◌, ◌-◌, ◌*◌, ◌/◌, ◌%◌, ◌≤◌, ◌<◌}
use native.Mathlib.Decide.{dec_lt}
use native.Mathlib.Omega.{arith}
use lib.Dec.{eqb, ltb}
use lib.ListN.{length, get_or, length-append, get_or-append}
use lib.Seq.{set_at, get_or_at, append_snoc, get_or-append-add}
use borrow.Author.Tests.{lt-ltb, le-ltb, eq-eqb, eqb-true}
use Rattle.rows.specs.declared.Row as machine
use Rattle.rows.specs.Rows.{width, standing, same_at, noted, put_row}
use Rattle.grammar.specs.Rows.{Row, numbers, flat}
use Rattle.answers.proofs.Ahead.{left_true, right_true}
use Rattle.parser.specs.Going.{as_row, store}
use Rattle.entry.proofs.Stored.{flat_length}
use Rattle.sheets.specs.Matches.{Differ, other, missing, later}

module _ (a : List ℕ) (k : ℕ) (whole : length a ≡ k * width) where
  long : (x : ℕ) → length (a ++ (x ∷ [])) ≡ k * width + 1
  long x = length-append a (x ∷ []) ∙ omega (arith, whole)

  in_front : (x i : ℕ) → i < length a → get_or (a ++ (x ∷ [])) i 0 ≡ get_or a i 0
  in_front x i h = get_or-append a (x ∷ []) 0 i h

  standing_in : (x n : ℕ) (r : machine.Row) (z : ℕ) → n < k → standing (a ++ (x ∷ [])) (n * width) r z ≡ standing a (n * width) r z
  standing_in x n r z h = rw (in_front x (n * width) (omega arith), in_front x (n * width + 1) (omega arith), in_front x (n * width + 2) (omega arith), in_front x (n * width + 3) (omega arith), in_front x (n * width + 4) (omega arith), in_front x (n * width + 5) (omega arith), in_front x (n * width + 6) (omega arith)) refl

  same_rows : (x n : ℕ) (r : machine.Row) (z : ℕ) → same_at (a ++ (x ∷ [])) n r z ≡ same_at a n r z
  unfolding same_at
  same_rows x n r z =
      let l = long x in
      let u : length (a ++ (x ∷ [])) / width ≡ k = omega arith in
      let v : length a / width ≡ k = omega arith in
      elim (dec_lt n k) [
        | yes h ↦ rw (u, v, lt-ltb n k h) (standing_in x n r z h)
        | no h ↦ rw (u, v, le-ltb n k (omega arith)) refl
      ]

  -- a row put into it
  one_put : (x n : ℕ) (r : machine.Row) (z : ℕ) → put_row (a ++ (x ∷ [])) n r z ≡ a ++ (cond (ltb n x && not (same_at a n r z)) n x ∷ [])
  unfolding put_row noted
  one_put x n r z =
      let l = long x in
      let i : length a ≡ length (a ++ (x ∷ [])) - 1 = omega arith in
      let m : length (a ++ (x ∷ [])) % width ≡ 1 = omega arith in
      rw (eq-eqb (length (a ++ (x ∷ [])) % width) 1 m, get_or_at a x [] 0 (length (a ++ (x ∷ [])) - 1) i, same_rows x n r z, set_at a x [] n (length (a ++ (x ∷ [])) - 1) i) (by (ltb n x && not (same_at a n r z)))
    where
      by : (b : Bool) → cond b (a ++ (n ∷ [])) (a ++ (x ∷ [])) ≡ a ++ (cond b n x ∷ [])
      by true = refl
      by false = refl

  -- what was noted stays
  stays : (x n : ℕ) (rs : List Row) → x ≤ n → store (a ++ (x ∷ [])) n rs ≡ a ++ (x ∷ [])
  unfolding store
  stays x n [] h = refl
  stays x n (r ∷ rs) h = ap (λ (t : List ℕ). store t (n + 1) rs) (one_put x n (as_row r) r.size ∙ ap (λ (b : Bool). a ++ (cond (b && not (same_at a n (as_row r) r.size)) n x ∷ [])) (le-ltb n x h)) ∙ stays x (n + 1) rs (omega arith)

  -- a row that differs, and one that is the same
  notes : (x n : ℕ) (r : Row) (rs : List Row) → n < x → same_at a n (as_row r) r.size ≡ false → store (a ++ (x ∷ [])) n (r ∷ rs) ≡ a ++ (n ∷ [])
  unfolding store
  notes x n r rs h e = ap (λ (t : List ℕ). store t (n + 1) rs) (one_put x n (as_row r) r.size ∙ (λ i. a ++ (cond (lt-ltb n x h i && not (e i)) n x ∷ []))) ∙ stays n (n + 1) rs (omega arith)

  passes : (x n : ℕ) (r : Row) (rs : List Row) → n < x → same_at a n (as_row r) r.size ≡ true → store (a ++ (x ∷ [])) n (r ∷ rs) ≡ store (a ++ (x ∷ [])) (n + 1) rs
  unfolding store
  passes x n r rs h e = ap (λ (t : List ℕ). store t (n + 1) rs) (one_put x n (as_row r) r.size ∙ (λ i. a ++ (cond (lt-ltb n x h i && not (e i)) n x ∷ [])))

-- the seven numbers of two rows
abbrev pub same_row : Row → Row → Bool
same_row g r = eqb g.kind r.kind && (eqb g.start r.start && (eqb g.end r.end && (eqb g.children r.children && (eqb g.value r.value && (eqb g.detail r.detail && eqb g.size r.size)))))

pub same_row_lem : (g r : Row) → same_row g r ≡ true → g ≡ r
same_row_lem g r e₀ =
    let e₁ = right_true (eqb g.kind r.kind) _ e₀ in
    let e₂ = right_true (eqb g.start r.start) _ e₁ in
    let e₃ = right_true (eqb g.end r.end) _ e₂ in
    let e₄ = right_true (eqb g.children r.children) _ e₃ in
    let e₅ = right_true (eqb g.value r.value) _ e₄ in
    let e₆ = right_true (eqb g.detail r.detail) _ e₅ in
    let k = eqb-true g.kind r.kind (left_true (eqb g.kind r.kind) _ e₀) in
    let s = eqb-true g.start r.start (left_true (eqb g.start r.start) _ e₁) in
    let f = eqb-true g.end r.end (left_true (eqb g.end r.end) _ e₂) in
    let c = eqb-true g.children r.children (left_true (eqb g.children r.children) _ e₃) in
    let v = eqb-true g.value r.value (left_true (eqb g.value r.value) _ e₄) in
    let d = eqb-true g.detail r.detail (left_true (eqb g.detail r.detail) _ e₅) in
    let z = eqb-true g.size r.size e₆ in
    λ i. record { kind = k i; start = s i; end = f i; children = c i; value = v i; detail = d i; size = z i }

row_itself : (r : Row) → same_row r r ≡ true
row_itself r = rw (eq-eqb r.kind r.kind refl, eq-eqb r.start r.start refl, eq-eqb r.end r.end refl, eq-eqb r.children r.children refl, eq-eqb r.value r.value refl, eq-eqb r.detail r.detail refl, eq-eqb r.size r.size refl) refl

pub other_row : (g r : Row) → same_row g r ≡ false → g ≢ r
other_row g r e q = let x : true ≡ false = sym (row_itself r) ∙ ap (λ (y : Row). same_row y r) (sym q) ∙ e in no x
  where
    no : true ≡ false → ⊥
    no x = let z : ◌≡◌ {A = ℕ} 0 1 = ap (λ (b : Bool). cond b 0 1) x in absurd (omega (arith, z))

pub flat_append : (xs ys : List Row) → flat (xs ++ ys) ≡ flat xs ++ flat ys
flat_append [] ys = refl
flat_append (r ∷ xs) ys = ap (λ (zs : List ℕ). numbers r ++ zs) (flat_append xs ys) ∙ sym (append_assoc (numbers r) (flat xs) (flat ys))

-- a row of a table, and none behind its rows
same_there : (pre : List Row) (g : Row) (post : List Row) (r : Row) → same_at (flat (pre ++ (g ∷ post))) (length pre) (as_row r) r.size ≡ same_row g r
unfolding same_at
same_there pre g post r =
    let l = flat_length (pre ++ (g ∷ post)) in
    let m = length-append pre (g ∷ post) in
    let fits : length pre < length (flat (pre ++ (g ∷ post))) / width = omega (arith, l, m) in
    rw (lt-ltb (length pre) (length (flat (pre ++ (g ∷ post))) / width) fits, at 0 {j = length pre * width} (omega arith), at 1 refl, at 2 refl, at 3 refl, at 4 refl, at 5 refl, at 6 refl) refl
  where
    at : (i : ℕ) {j : ℕ} → length pre * width + i ≡ j → get_or (flat (pre ++ (g ∷ post))) j 0 ≡ get_or (numbers g ++ flat post) i 0
    at i e = let f = flat_length pre in ap (λ (n : ℕ). get_or (flat (pre ++ (g ∷ post))) n 0) (sym e ∙ ap (λ (n : ℕ). n + i) (sym f)) ∙ ap (λ (t : List ℕ). get_or t (length (flat pre) + i) 0) (flat_append pre (g ∷ post)) ∙ get_or-append-add (flat pre) (numbers g ++ flat post) i 0

same_none : (pre : List Row) (r : Row) → same_at (flat pre) (length pre) (as_row r) r.size ≡ false
unfolding same_at
same_none pre r = let l = flat_length pre in rw (le-ltb (length pre) (length (flat pre) / width) (omega (arith, l))) refl

-- All rows from row n on are those of the table, or one is the first that isn't; x was noted before.
pub data Outcome (n x : ℕ) (own rs : List Row) : ℕ → Type 0 where
  all_same : (zs : List Row) → own ≡ rs ++ zs → Outcome n x own rs x
  differs : {j : ℕ} → j < length rs → Differ own rs j → Outcome n x own rs (n + j)

no_rows : (t : List ℕ) (n : ℕ) → store t n [] ≡ t
unfolding store
no_rows t n = refl

pub noted_first : (pre own rs : List Row) (x : ℕ) → length pre + length rs ≤ x → (d : ℕ) × (store (flat (pre ++ own) ++ (x ∷ [])) (length pre) rs ≡ flat (pre ++ own) ++ (d ∷ [])) × Outcome (length pre) x own rs d
noted_first pre own [] x h = (x, no_rows (flat (pre ++ own) ++ (x ∷ [])) (length pre), all_same own refl)
noted_first pre [] (r ∷ rs) x h =
    let e = append-nil pre in
    let z : length pre ≡ length pre + 0 = omega arith in (
      length pre,
      notes (flat (pre ++ [])) (length (pre ++ [])) (flat_length (pre ++ [])) x (length pre) r rs (omega arith) (ap (λ (l : List Row). same_at (flat l) (length pre) (as_row r) r.size) e ∙ same_none pre r),
      subst (Outcome (length pre) x [] (r ∷ rs)) (sym z) (differs (omega arith) missing),
    )
noted_first pre (g ∷ own) (r ∷ rs) x h = go (let l = length-append pre (g ∷ []) in noted_first (pre ++ (g ∷ [])) own rs x (omega (arith, l, h))) (same_row g r) refl
  where
    there : {b : Bool} → same_row g r ≡ b → same_at (flat (pre ++ (g ∷ own))) (length pre) (as_row r) r.size ≡ b
    there e = same_there pre g own r ∙ e

    l : length (pre ++ (g ∷ [])) ≡ length pre + 1
    l = length-append pre (g ∷ [])

    z : length pre ≡ length pre + 0
    z = omega arith

    on : {d : ℕ} → g ≡ r → Outcome (length (pre ++ (g ∷ []))) x own rs d → Outcome (length pre) x (g ∷ own) (r ∷ rs) d
    on e (all_same zs q) = all_same zs (λ i. e i ∷ q i)
    on e (differs {j = j} k y) = let s : length pre + suc j ≡ length (pre ++ (g ∷ [])) + j = omega (arith, l) in subst (Outcome (length pre) x (g ∷ own) (r ∷ rs)) s (differs (omega arith) (later e y))

    go : (d : ℕ) × (store (flat ((pre ++ (g ∷ [])) ++ own) ++ (x ∷ [])) (length (pre ++ (g ∷ []))) rs ≡ flat ((pre ++ (g ∷ [])) ++ own) ++ (d ∷ [])) × Outcome (length (pre ++ (g ∷ []))) x own rs d → (b : Bool) → same_row g r ≡ b → (d : ℕ) × (store (flat (pre ++ (g ∷ own)) ++ (x ∷ [])) (length pre) (r ∷ rs) ≡ flat (pre ++ (g ∷ own)) ++ (d ∷ [])) × Outcome (length pre) x (g ∷ own) (r ∷ rs) d
    go k false e = (length pre, notes (flat (pre ++ (g ∷ own))) (length (pre ++ (g ∷ own))) (flat_length (pre ++ (g ∷ own))) x (length pre) r rs (omega arith) (there e), subst (Outcome (length pre) x (g ∷ own) (r ∷ rs)) (sym z) (differs (omega arith) (other (other_row g r e))))
    go k true e =
        let s = append_snoc pre g own in (
          k.0,
          passes (flat (pre ++ (g ∷ own))) (length (pre ++ (g ∷ own))) (flat_length (pre ++ (g ∷ own))) x (length pre) r rs (omega arith) (there e)
              ∙ ap (λ (n : ℕ). store (flat (pre ++ (g ∷ own)) ++ (x ∷ [])) n rs) (sym l)
              ∙ ap (λ (t : List Row). store (flat t ++ (x ∷ [])) (length (pre ++ (g ∷ []))) rs) (sym s)
              ∙ k.1
              ∙ ap (λ (t : List Row). flat t ++ (k.0 ∷ [])) s,
          on (same_row_lem g r e) k.2,
        )
