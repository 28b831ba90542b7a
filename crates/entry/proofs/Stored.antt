-- Rows that are stored in a lent table and zeros behind them: what document 01 says stands there.
use Rattle.std.specs.Prelude.{Ok, Err}
use mathlib.Core.Path.{◌≡◌, refl, sym, ap, subst, ◌∙◌}
use mathlib.Core.List.{List, [], ◌∷◌, ◌++◌, append_assoc}
use mathlib.Core.Bool.{Bool, true, false, cond}
use Prim.Native.Nat.{ℕ, suc, ◌+◌, ◌-◌, ◌*◌, ◌/◌, ◌%◌, ◌≤◌, ◌<◌}
use lib.Dec.{T, ltb, lt→ltb, leb, leb→le}
use lib.ListN.{length, set, take, drop, replicate, length-append, length-drop}
use lib.Seq.{length-take-le, length_front}
use native.Mathlib.Omega.{arith}
use borrow.Author.Tests.{le-leb, lt-leb, ne_eqb}
use Rattle.chars.specs.declared.Answer.{Answer}
use Rattle.tokens.specs.declared.Refusal.{Refusal}
use Rattle.tokens.specs.Tokens.{whole_of, refusal, counted}
use Rattle.rows.specs.Rows.{width, written, noted, put_row, zeroed}
use Rattle.grammar.specs.Rows.{numbers, flat}
use Rattle.grammar.specs.Rows as grammar
use Rattle.grammar.proofs.Bools.{T→eq}
use Rattle.grammar.specs.Answers.{accepted}
use Rattle.answers.specs.Entries.{room, table_for, Permitted, read}
use Rattle.answers.specs.Entries as answers
use Rattle.parser.specs.declared.Node.{Node}
use Rattle.parser.specs.declared.Here.{Here}
use Rattle.parser.specs.Results.{Read}
use Rattle.parser.specs.Going.{as_row, store}
use Rattle.parser.proofs.Tables.{store_length}
use Rattle.promises.specs.Promises.{FinishedIs, Finished}
use Rattle.entry.proofs.Fine.{fine_short}
use Rattle.entry.specs.Entries.{kept_rows, answered, left_by, stored_answer, stored_rows}
use Rattle.entry.specs.Puts.{Puts, early, refuses, puts}

-- zeros throughout; zeros behind what stands first
pub zeroed_all : (t : List ℕ) → zeroed t 0 ≡ replicate (length t) 0
unfolding zeroed
zeroed_all [] = refl
zeroed_all (x ∷ t) = ap (λ (l : List ℕ). 0 ∷ l) (zeroed_all t)

pub zeroed_behind : (a c : List ℕ) → zeroed (a ++ c) (length a) ≡ a ++ replicate (length c) 0
unfolding zeroed
zeroed_behind [] c = zeroed_all c
zeroed_behind (x ∷ a) c = ap (λ (l : List ℕ). x ∷ l) (zeroed_behind a c)

set_behind : (a b : List ℕ) (i k v : ℕ) → i ≡ length a + k → set (a ++ b) i v ≡ a ++ set b k v
set_behind [] b i k v e = ap (λ (n : ℕ). set b n v) (omega arith)
set_behind (x ∷ a) b i k v e = ap (λ (n : ℕ). set (x ∷ (a ++ b)) n v) (later i (length a) k e) ∙ ap (λ (l : List ℕ). x ∷ l) (set_behind a b (length a + k) k v refl)
  where
    later : (i n k : ℕ) → i ≡ suc n + k → i ≡ suc (n + k)
    later i n k e = omega arith

-- a row's numbers stand where the table went on
written_behind : (a : List ℕ) (x₀ x₁ x₂ x₃ x₄ x₅ x₆ : ℕ) (b : List ℕ) (i : ℕ) (r : grammar.Row) → length a ≡ i → written (a ++ (x₀ ∷ x₁ ∷ x₂ ∷ x₃ ∷ x₄ ∷ x₅ ∷ x₆ ∷ b)) i (as_row r) r.size ≡ a ++ (numbers r ++ b)
written_behind a x₀ x₁ x₂ x₃ x₄ x₅ x₆ b i r e =
    ap (λ (l : List ℕ). set (set (set (set (set (set l (i + 1) r.start) (i + 2) r.end) (i + 3) r.children) (i + 4) r.value) (i + 5) r.detail) (i + 6) r.size) (set_behind a _ i 0 r.kind (omega arith))
    ∙ ap (λ (l : List ℕ). set (set (set (set (set l (i + 2) r.end) (i + 3) r.children) (i + 4) r.value) (i + 5) r.detail) (i + 6) r.size) (set_behind a _ (i + 1) 1 r.start (omega arith))
    ∙ ap (λ (l : List ℕ). set (set (set (set l (i + 3) r.children) (i + 4) r.value) (i + 5) r.detail) (i + 6) r.size) (set_behind a _ (i + 2) 2 r.end (omega arith))
    ∙ ap (λ (l : List ℕ). set (set (set l (i + 4) r.value) (i + 5) r.detail) (i + 6) r.size) (set_behind a _ (i + 3) 3 r.children (omega arith))
    ∙ ap (λ (l : List ℕ). set (set l (i + 5) r.detail) (i + 6) r.size) (set_behind a _ (i + 4) 4 r.value (omega arith))
    ∙ ap (λ (l : List ℕ). set l (i + 6) r.size) (set_behind a _ (i + 5) 5 r.detail (omega arith))
    ∙ set_behind a _ (i + 6) 6 r.size (omega arith)

put_behind : (a : List ℕ) (x₀ x₁ x₂ x₃ x₄ x₅ x₆ : ℕ) (b : List ℕ) (n m : ℕ) (r : grammar.Row) → length a ≡ n * width → length b ≡ m * width → put_row (a ++ (x₀ ∷ x₁ ∷ x₂ ∷ x₃ ∷ x₄ ∷ x₅ ∷ x₆ ∷ b)) n (as_row r) r.size ≡ (a ++ numbers r) ++ b
unfolding put_row
put_behind a x₀ x₁ x₂ x₃ x₄ x₅ x₆ b n m r e f =
    let l : List ℕ = a ++ (x₀ ∷ x₁ ∷ x₂ ∷ x₃ ∷ x₄ ∷ x₅ ∷ x₆ ∷ b) in
    let h : length l ≡ length a + length (x₀ ∷ x₁ ∷ x₂ ∷ x₃ ∷ x₄ ∷ x₅ ∷ x₆ ∷ b) = length-append a (x₀ ∷ x₁ ∷ x₂ ∷ x₃ ∷ x₄ ∷ x₅ ∷ x₆ ∷ b) in
    let whole : length l % width ≡ 0 = omega arith in
    let fits : n < length l / width = omega arith in
    ap (λ (q : Bool). cond q (noted l n (as_row r) r.size) (cond (ltb n (length l / width)) (written l (n * width) (as_row r) r.size) l)) (ne_eqb (length l % width) 1 (λ k. absurd (omega (arith, k, whole))))
    ∙ ap (λ (q : Bool). cond q (written l (n * width) (as_row r) r.size) l) (T→eq (ltb n (length l / width)) (lt→ltb n (length l / width) fits))
    ∙ written_behind a x₀ x₁ x₂ x₃ x₄ x₅ x₆ b (n * width) r e
    ∙ sym (append_assoc a (numbers r) b)

-- rows that fit a table of m rows stand one behind the other, and the rest of the table stays
pub store_behind : (a b : List ℕ) (n m : ℕ) (rs : List grammar.Row) → length a ≡ n * width → length b ≡ m * width → length rs ≤ m → (c : List ℕ) × (store (a ++ b) n rs ≡ a ++ (flat rs ++ c)) × (length c + length rs * width ≡ length b)
unfolding store
store_behind a b n m [] e f h = (b, refl, omega arith)
store_behind a (x₀ ∷ x₁ ∷ x₂ ∷ x₃ ∷ x₄ ∷ x₅ ∷ x₆ ∷ b) n m (r ∷ rs) e f h =
    let l : length (a ++ numbers r) ≡ length a + width = length-append a (numbers r) in
    let k = store_behind (a ++ numbers r) b (n + 1) (m - 1) rs (omega arith) (omega arith) (omega arith) in
    let q = k.2 in
    (k.0, ap (λ (z : List ℕ). store z (n + 1) rs) (put_behind a x₀ x₁ x₂ x₃ x₄ x₅ x₆ b n (m - 1) r e (omega arith)) ∙ k.1 ∙ append_assoc a (numbers r) (flat rs ++ k.0) ∙ ap (λ (z : List ℕ). a ++ z) (sym (append_assoc (numbers r) (flat rs) k.0)), omega arith)
store_behind a [] n m (r ∷ rs) e f h = absurd (omega arith)
store_behind a (x₀ ∷ []) n m (r ∷ rs) e f h = absurd (omega arith)
store_behind a (x₀ ∷ x₁ ∷ []) n m (r ∷ rs) e f h = absurd (omega arith)
store_behind a (x₀ ∷ x₁ ∷ x₂ ∷ []) n m (r ∷ rs) e f h = absurd (omega arith)
store_behind a (x₀ ∷ x₁ ∷ x₂ ∷ x₃ ∷ []) n m (r ∷ rs) e f h = absurd (omega arith)
store_behind a (x₀ ∷ x₁ ∷ x₂ ∷ x₃ ∷ x₄ ∷ []) n m (r ∷ rs) e f h = absurd (omega arith)
store_behind a (x₀ ∷ x₁ ∷ x₂ ∷ x₃ ∷ x₄ ∷ x₅ ∷ []) n m (r ∷ rs) e f h = absurd (omega arith)

pub flat_length : (rs : List grammar.Row) → length (flat rs) ≡ length rs * width
flat_length [] = refl
flat_length (r ∷ rs) = let h = flat_length rs in omega arith

-- the part of a table that its rows have, and what is left over behind them
abbrev pub rows_part : List ℕ → List ℕ
rows_part t = take (length t / width * width) t

abbrev pub left_over : List ℕ → List ℕ
left_over t = drop (length t / width * width) t

part_length : (t : List ℕ) → length (rows_part t) ≡ length t / width * width
part_length t = length-take-le (length t / width * width) t (omega arith)

over_length : (t u : List ℕ) → length u ≡ length (rows_part t) → length (u ++ left_over t) ≡ length t
over_length t u e = length_front t u (length t / width * width) e

stored_rows_lem : (t : List ℕ) (rs : List grammar.Row) → length rs ≤ length t / width → zeroed (store (rows_part t) 0 rs ++ left_over t) (length rs * width) ≡ flat rs ++ replicate (length t - width * length rs) 0
stored_rows_lem t rs h =
    let p = part_length t in
    let k = store_behind [] (rows_part t) 0 (length t / width) rs refl p h in
    let c = k.0 in
    let m = k.2 in
    let o = length-drop (length t / width * width) t in
    let l = length-append c (left_over t) in
    let rest : length (c ++ left_over t) ≡ length t - width * length rs = omega arith in
    ap (λ (z : List ℕ). zeroed (z ++ left_over t) (length rs * width)) k.1
    ∙ ap (λ (z : List ℕ). zeroed z (length rs * width)) (append_assoc (flat rs) c (left_over t))
    ∙ ap (zeroed (flat rs ++ (c ++ left_over t))) (sym (flat_length rs))
    ∙ zeroed_behind (flat rs) (c ++ left_over t)
    ∙ ap (λ (n : ℕ). flat rs ++ replicate n 0) rest

-- "Accepted: the answer stands first in the lent table and zeros fill the rest. Refused: zeros throughout."
kept_is : (t : List ℕ) (rs : List grammar.Row) → kept_rows (store (rows_part t) 0 rs ++ left_over t) (length rs) ≡ table_for (length t) (accepted rs)
kept_is t rs = ap (λ (n : ℕ). zeroed all (cond (leb (length rs) (n / width)) (length rs * width) 0)) size ∙ go (leb (length rs) (length t / width)) (leb→le (length rs) (length t / width))
  where
    all : List ℕ
    all = store (rows_part t) 0 rs ++ left_over t

    size : length all ≡ length t
    size = over_length t (store (rows_part t) 0 rs) (store_length (rows_part t) 0 rs)

    go : (b : Bool) → (T b → length rs ≤ length t / width) → zeroed all (cond b (length rs * width) 0) ≡ cond b (flat rs ++ replicate (length t - width * length rs) 0) (replicate (length t) 0)
    go true h = stored_rows_lem t rs (h tt)
    go false h = zeroed_all all ∙ ap (λ (n : ℕ). replicate n 0) size

module _ (tests tree : Bool) (s t : List ℕ) where
  permitted_as : {a b : Answer} {u v : List ℕ} → a ≡ b → u ≡ v → Permitted tests tree s (length t) b v → Permitted tests tree s (length t) a u
  permitted_as {a} {b} {u} {v} e q p = subst (λ (x : Answer). Permitted tests tree s (length t) x u) (sym e) (subst (λ (x : List ℕ). Permitted tests tree s (length t) b x) (sym q) p)

  -- 1, 2, 3
  pub permits_early : {r : Refusal} {a : Answer} {u : List ℕ} → whole_of s ≡ Err r → (a ≡ refusal r) × (u ≡ zeroed t 0) → Permitted tests tree s (length t) a u
  permits_early e p = permitted_as p.0 (p.1 ∙ zeroed_all t) (answers.early e)

  -- what the grammar says: the rows' part of the table was handed on
  pub permits_read : {r : Read} {t' : List ℕ} {a : Answer} {u : List ℕ} → whole_of s ≡ (Ok tt) → Finished tests tree s (rows_part t) r t' → (a ≡ answered (length s) (length (t' ++ left_over t)) r) × (u ≡ left_by (t' ++ left_over t) r) → Permitted tests tree s (length t) a u
  permits_read {r} {t'} {a} {u} e f p = go r (f.short (fine_short s e)) p.0 p.1
    where
      go : (r : Read) → FinishedIs tests tree s (rows_part t) r t' → a ≡ answered (length s) (length (t' ++ left_over t)) r → u ≡ left_by (t' ++ left_over t) r → Permitted tests tree s (length t) a u
      go (Ok (m, h)) (rs, x, n, q) y z =
          let size : length (t' ++ left_over t) ≡ length t = over_length t t' (ap length q ∙ store_length (rows_part t) 0 rs) in
          permitted_as (y ∙ ap (λ (k : ℕ). counted (length s) k (room (length (t' ++ left_over t)))) n ∙ ap (λ (k : ℕ). counted (length s) (length rs) (room k)) size) (z ∙ ap (kept_rows (t' ++ left_over t)) n ∙ ap (λ (l : List ℕ). kept_rows (l ++ left_over t) (length rs)) q ∙ kept_is t rs) (read e x)
      go (Err w) (x, k) y z = permitted_as y (z ∙ zeroed_all (t' ++ left_over t) ∙ ap (λ (n : ℕ). replicate n 0) (over_length t t' k)) (read e x)

-- the rows put into any table
module _ (tests : Bool) (s t : List ℕ) where
  puts_as : {a b : Answer} {u v : List ℕ} → a ≡ b → u ≡ v → Puts tests s t b v → Puts tests s t a u
  puts_as {a} {b} {u} {v} e q p = subst (λ (x : Answer). Puts tests s t x u) (sym e) (subst (λ (x : List ℕ). Puts tests s t b x) (sym q) p)

  pub puts_early : {r : Refusal} {a : Answer} {u : List ℕ} → whole_of s ≡ Err r → (a ≡ refusal r) × (u ≡ zeroed t 0) → Puts tests s t a u
  puts_early e p = puts_as p.0 (p.1 ∙ zeroed_all t) (early e)

  pub puts_read : {r : Read} {t' : List ℕ} {a : Answer} {u : List ℕ} → whole_of s ≡ (Ok tt) → Finished tests true s t r t' → (a ≡ stored_answer (length s) r) × (u ≡ stored_rows t' r) → Puts tests s t a u
  puts_read {r} {t'} {a} {u} e f p = go r (f.short (fine_short s e)) p.0 p.1
    where
      go : (r : Read) → FinishedIs tests true s t r t' → a ≡ stored_answer (length s) r → u ≡ stored_rows t' r → Puts tests s t a u
      go (Ok (m, h)) (rs, x, n, q) y z = puts_as (y ∙ ap (λ (k : ℕ). record { number = 0; start = 0; end = length s; count = k }) n) (z ∙ q) (puts e x)
      go (Err w) (x, k) y z = puts_as y (z ∙ zeroed_all t' ∙ ap (λ (n : ℕ). replicate n 0) k) (refuses e x)

-- what the functions on the way say
module _ (len n : ℕ) (t : List ℕ) {u : List ℕ} where
  pub counted_fits : n ≤ length t / width → u ≡ zeroed t (n * width) → (record { number = 0; start = 0; end = len; count = n } ≡ counted len n (room (length t))) × (u ≡ kept_rows t n)
  counted_fits h e = rw (le-leb n (length t / width) h) (refl, e)

  pub counted_over : length t / width < n → u ≡ zeroed t 0 → (record { number = 10; start = 0; end = 0; count = n } ≡ counted len n (room (length t))) × (u ≡ kept_rows t n)
  counted_over h e = rw (lt-leb n (length t / width) h) (refl, e)

module _ (len : ℕ) (t : List ℕ) {r : Read} {a : Answer} {u : List ℕ} where
  pub answered_done : {m : Node} {h : Here} → r ≡ Ok (m, h) → (a ≡ counted len h.rows (room (length t))) × (u ≡ kept_rows t h.rows) → (a ≡ answered len (length t) r) × (u ≡ left_by t r)
  answered_done e p = (p.0 ∙ ap (answered len (length t)) (sym e), p.1 ∙ ap (left_by t) (sym e))

  pub answered_refused : {x : Refusal} → r ≡ Err x → (a ≡ refusal x) × (u ≡ zeroed t 0) → (a ≡ answered len (length t) r) × (u ≡ left_by t r)
  answered_refused e p = (p.0 ∙ ap (answered len (length t)) (sym e), p.1 ∙ ap (left_by t) (sym e))

  pub stored_done : {m : Node} {h : Here} → r ≡ Ok (m, h) → (a ≡ record { number = 0; start = 0; end = len; count = h.rows }) × (u ≡ t) → (a ≡ stored_answer len r) × (u ≡ stored_rows t r)
  stored_done e p = (p.0 ∙ ap (stored_answer len) (sym e), p.1 ∙ ap (stored_rows t) (sym e))

  pub stored_refused : {x : Refusal} → r ≡ Err x → (a ≡ refusal x) × (u ≡ zeroed t 0) → (a ≡ stored_answer len r) × (u ≡ stored_rows t r)
  stored_refused e p = (p.0 ∙ ap (stored_answer len) (sym e), p.1 ∙ ap (stored_rows t) (sym e))
