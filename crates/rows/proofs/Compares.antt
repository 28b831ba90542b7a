-- A table to compare with: what a put does to it.
use mathlib.Core.Path.{◌≡◌, refl, sym, ap, ◌∙◌}
use mathlib.Core.List.{List}
use mathlib.Core.Bool.{Bool, true, false, ◌&&◌, not, cond}
use Prim.Native.Nat.{ℕ, ◌-◌, ◌*◌, ◌/◌, ◌%◌, ◌≤◌, ◌<◌}
use lib.Dec.{ltb}
use lib.ListN.{length, set, get_or}
use borrow.Author.Tests.{lt-ltb, le-ltb, eq-eqb, ne_eqb}
use Rattle.rows.specs.declared.Row.{Row}
use Rattle.rows.specs.Rows.{width, written, standing, same_at, lowered, noted, put_row}

flip : (b : Bool) {c : Bool} → not b ≡ c → b ≡ not c
flip true e = ap not e
flip false e = ap not e

and_true : (x : Bool) → x && true ≡ x
and_true true = refl
and_true false = refl

and_false : (x : Bool) → x && false ≡ false
and_false true = refl
and_false false = refl

pub lowered_less : (t : List ℕ) (n : ℕ) → n < get_or t (length t - 1) 0 → set t (length t - 1) n ≡ lowered t n
unfolding lowered
lowered_less t n h = ap (λ (x : Bool). cond x (set t (length t - 1) n) t) (sym (lt-ltb n (get_or t (length t - 1) 0) h))

pub lowered_before : (t : List ℕ) (n : ℕ) → get_or t (length t - 1) 0 ≤ n → t ≡ lowered t n
unfolding lowered
lowered_before t n h = ap (λ (x : Bool). cond x (set t (length t - 1) n) t) (sym (le-ltb n (get_or t (length t - 1) 0) h))

module _ (t : List ℕ) (n : ℕ) (r : Row) (z : ℕ) where
  pub same_in : {b : Bool} → n < length t / width → b ≡ standing t (n * width) r z → b ≡ same_at t n r z
  unfolding same_at
  same_in h e = e ∙ ap (λ (x : Bool). x && standing t (n * width) r z) (sym (lt-ltb n (length t / width) h))

  pub same_out : length t / width ≤ n → false ≡ same_at t n r z
  unfolding same_at
  same_out h = ap (λ (x : Bool). x && standing t (n * width) r z) (sym (le-ltb n (length t / width) h))

  abbrev last : ℕ
  last = get_or t (length t - 1) 0

  noted_as : {b : Bool} → same_at t n r z ≡ b → cond (ltb n last && not b) (set t (length t - 1) n) t ≡ noted t n r z
  unfolding noted
  noted_as e = sym (ap (λ (b : Bool). cond (ltb n last && not b) (set t (length t - 1) n) t) e)

  pub noted_differs : {b : Bool} {u : List ℕ} → b ≡ same_at t n r z → not b ≡ true → u ≡ lowered t n → u ≡ noted t n r z
  unfolding lowered
  noted_differs {b} e f g = g ∙ ap (λ (x : Bool). cond x (set t (length t - 1) n) t) (sym (and_true (ltb n last))) ∙ noted_as (sym e ∙ flip b f)

  pub noted_same : {b : Bool} → b ≡ same_at t n r z → not b ≡ false → t ≡ noted t n r z
  noted_same {b} e f = ap (λ (x : Bool). cond x (set t (length t - 1) n) t) (sym (and_false (ltb n last))) ∙ noted_as (sym e ∙ flip b f)

  pub put_compares : {u : List ℕ} → length t % width ≡ 1 → u ≡ noted t n r z → u ≡ put_row t n r z
  unfolding put_row
  put_compares h e = e ∙ ap (λ (x : Bool). cond x (noted t n r z) (cond (ltb n (length t / width)) (written t (n * width) r z) t)) (sym (eq-eqb (length t % width) 1 h))

  put_else : (length t % width ≡ 1 → ⊥) → cond (ltb n (length t / width)) (written t (n * width) r z) t ≡ put_row t n r z
  unfolding put_row
  put_else h = ap (λ (x : Bool). cond x (noted t n r z) (cond (ltb n (length t / width)) (written t (n * width) r z) t)) (sym (ne_eqb (length t % width) 1 h))

  pub put_writes : (length t % width ≡ 1 → ⊥) → n < length t / width → written t (n * width) r z ≡ put_row t n r z
  put_writes h k = ap (λ (x : Bool). cond x (written t (n * width) r z) t) (sym (lt-ltb n (length t / width) k)) ∙ put_else h

  pub put_full : (length t % width ≡ 1 → ⊥) → length t / width ≤ n → t ≡ put_row t n r z
  put_full h k = ap (λ (x : Bool). cond x (written t (n * width) r z) t) (sym (le-ltb n (length t / width) k)) ∙ put_else h
